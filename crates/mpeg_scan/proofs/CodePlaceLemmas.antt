-- The codes of bytes are those that stand at places of them.
use Rattle.std.proofs.Common.{ℕ, suc, zero, Bool, true, false, cond, eqb, ◌&&◌, ◌+◌, ◌-◌, ◌<◌, ◌≤◌, ◌≡◌, ◌↔◌, lit<}
use Rattle.std.proofs.Common.{List, [], ◌∷◌, length, get_or, sym, ◌∙◌, ap, refl, subst, inl, inr, arith}
use Rattle.std.proofs.lemmas.Bool.{cases_Bool, cases_lt, eqb-true, eq-eqb, ne_eqb, and_parts, and_from, false≢true}
use Rattle.std.proofs.lemmas.List.{get_or_past}
use Rattle.mpeg_scan.specs.declared.codes.Code.{Code}
use Rattle.mpeg_scan.specs.declared.codes.Prefix.TheVariants.{Nothing, Zero, Zeros, Whole}
use Rattle.mpeg_scan.specs.StartCodes.{read_after, byte_back, latest_prefix, is_whole, note_latest, codes_of}
use Rattle.mpeg_scan.specs.CodePlaces.{IsCodeAt, HasCode}
use Rattle.mpeg_scan.proofs.ScanStepLemmas.{codes-none, codes-plain, codes-code}
use Rattle.mpeg_scan.proofs.FilmLemmas.{length-read}

-- byte i of bytes that are given the latest first
pub at : List ℕ → ℕ → ℕ
at [] i = 256
at (x ∷ r) i = cond (eqb i (length r)) x (at r i)

pub at-last : (x : ℕ) (r : List ℕ) (i : ℕ) → i ≡ length r → at (x ∷ r) i ≡ x
unfolding at
at-last x r i last = ap (λ b. cond b x (at r i)) (eq-eqb i (length r) last)

pub at-older : (x : ℕ) (r : List ℕ) (i : ℕ) → (i ≡ length r → ⊥) → at (x ∷ r) i ≡ at r i
unfolding at
at-older x r i other = ap (λ b. cond b x (at r i)) (ne_eqb i (length r) other)

at-past : (r : List ℕ) (i : ℕ) → length r ≤ i → at r i ≡ 256
unfolding at
at-past [] i far = refl
at-past (x ∷ r) i far = at-older x r i (λ e. absurd (omega arith)) ∙ at-past r i (omega arith)

-- the same counted from the back
at-back : (r : List ℕ) (i k : ℕ) → i + (k + 1) ≡ length r → get_or r k 256 ≡ at r i
at-back [] i k sum = absurd (omega arith)
at-back (x ∷ r) i zero sum = sym (at-last x r i (omega arith))
at-back (x ∷ r) i (suc k) sum = at-back r i k (omega arith) ∙ sym (at-older x r i (λ e. absurd (omega arith)))

at-stays : (xs r : List ℕ) (i : ℕ) → i < length r → at (read_after r xs) i ≡ at r i
at-stays [] r i below = refl
at-stays (x ∷ xs) r i below = at-stays xs (x ∷ r) i (omega arith) ∙ at-older x r i (λ e. absurd (omega arith))

-- and in order
at-read : (xs r : List ℕ) (i : ℕ) → at (read_after r xs) (length r + i) ≡ get_or xs i 256
at-read [] r i = at-past r (length r + i) (omega arith)
at-read (x ∷ xs) r zero =
    at-stays xs (x ∷ r) (length r + zero) (omega arith) ∙ at-last x r (length r + zero) (omega arith)
at-read (x ∷ xs) r (suc i) =
    let same : length r + suc i ≡ suc (length r) + i = omega arith in
    ap (at (read_after (x ∷ r) xs)) same ∙ at-read xs (x ∷ r) i

-- ---- a code of bytes that are given the latest first
record Stands (r : List ℕ) (i k : ℕ) : Type 0 where
  fits : i + 3 < length r
  first : at r i ≡ 0
  second : at r (i + 1) ≡ 0
  third : at r (i + 2) ≡ 1
  fourth : at r (i + 3) ≡ k

pub record Prefixed (r : List ℕ) (i : ℕ) : Type 0 where
  pub ends : i + 3 ≡ length r
  first : at r i ≡ 0
  second : at r (i + 1) ≡ 0
  third : at r (i + 2) ≡ 1

whole-test : (t a b : Bool) → is_whole (cond t Whole (cond a Zeros (cond b Zero Nothing))) ≡ true → t ≡ true
whole-test true a b e = refl
whole-test false true b e = absurd (false≢true e)
whole-test false false true e = absurd (false≢true e)
whole-test false false false e = absurd (false≢true e)

back-there : (r : List ℕ) (k v : ℕ) → byte_back r k ≡ v → v < 256 → k < length r
back-there r k v is small = elim (cases_lt k (length r)) [
  | inl below ↦ below
  | inr past ↦ absurd (let far = get_or_past r k 256 past in omega (arith, far, is))
]

pub whole-prefixed : (r : List ℕ) → is_whole (latest_prefix r) ≡ true → Prefixed r (length r - 3)
unfolding latest_prefix
whole-prefixed r e =
    let test = whole-test (eqb (byte_back r 0) 1 && (eqb (byte_back r 1) 0 && eqb (byte_back r 2) 0))
    (eqb (byte_back r 0) 0 && eqb (byte_back r 1) 0) (eqb (byte_back r 0) 0) e in
    let parts = and_parts (eqb (byte_back r 0) 1) (eqb (byte_back r 1) 0 && eqb (byte_back r 2) 0) test in
    let zeros = and_parts (eqb (byte_back r 1) 0) (eqb (byte_back r 2) 0) parts.1 in
    let one = eqb-true (byte_back r 0) 1 parts.0 in
    let zero1 = eqb-true (byte_back r 1) 0 zeros.0 in
    let zero2 = eqb-true (byte_back r 2) 0 zeros.1 in
    let long : 2 < length r = back-there r 2 0 zero2 (lit< tt) in record {
      ends = omega arith;
      first = sym (at-back r (length r - 3) 2 (omega arith)) ∙ zero2;
      second = sym (at-back r (length r - 3 + 1) 1 (omega arith)) ∙ zero1;
      third = sym (at-back r (length r - 3 + 2) 0 (omega arith)) ∙ one;
    }

prefixed-whole : (r : List ℕ) (i : ℕ) → Prefixed r i → is_whole (latest_prefix r) ≡ true
unfolding latest_prefix
prefixed-whole r i p =
    let one : byte_back r 0 ≡ 1 = at-back r (i + 2) 0 (omega (arith, p.ends)) ∙ p.third in
    let zero1 : byte_back r 1 ≡ 0 = at-back r (i + 1) 1 (omega (arith, p.ends)) ∙ p.second in
    let zero2 : byte_back r 2 ≡ 0 = at-back r i 2 (omega (arith, p.ends)) ∙ p.first in
    ap (λ t. is_whole (cond t Whole (cond (eqb (byte_back r 0) 0 && eqb (byte_back r 1) 0) Zeros
    (cond (eqb (byte_back r 0) 0) Zero Nothing))))
    (and_from (eqb (byte_back r 0) 1) (eqb (byte_back r 1) 0 && eqb (byte_back r 2) 0) (eq-eqb (byte_back r 0) 1 one)
    (and_from (eqb (byte_back r 1) 0) (eqb (byte_back r 2) 0) (eq-eqb (byte_back r 1) 0 zero1)
    (eq-eqb (byte_back r 2) 0 zero2)))

stands-more : (x : ℕ) (r : List ℕ) (i k : ℕ) → Stands r i k → Stands (x ∷ r) i k
stands-more x r i k s = record {
  fits = omega (arith, s.fits);
  first = at-older x r i (λ e. absurd (omega (arith, s.fits))) ∙ s.first;
  second = at-older x r (i + 1) (λ e. absurd (omega (arith, s.fits))) ∙ s.second;
  third = at-older x r (i + 2) (λ e. absurd (omega (arith, s.fits))) ∙ s.third;
  fourth = at-older x r (i + 3) (λ e. absurd (omega (arith, s.fits))) ∙ s.fourth;
}

stands-less : (x : ℕ) (r : List ℕ) (i k : ℕ) → i + 3 < length r → Stands (x ∷ r) i k → Stands r i k
stands-less x r i k fits s = record {
  fits = fits;
  first = sym (at-older x r i (λ e. absurd (omega arith))) ∙ s.first;
  second = sym (at-older x r (i + 1) (λ e. absurd (omega arith))) ∙ s.second;
  third = sym (at-older x r (i + 2) (λ e. absurd (omega arith))) ∙ s.third;
  fourth = sym (at-older x r (i + 3) (λ e. absurd (omega arith))) ∙ s.fourth;
}

stands-new : (x : ℕ) (r : List ℕ) (i : ℕ) → Prefixed r i → Stands (x ∷ r) i x
stands-new x r i p = record {
  fits = omega (arith, p.ends);
  first = at-older x r i (λ e. absurd (omega (arith, p.ends))) ∙ p.first;
  second = at-older x r (i + 1) (λ e. absurd (omega (arith, p.ends))) ∙ p.second;
  third = at-older x r (i + 2) (λ e. absurd (omega (arith, p.ends))) ∙ p.third;
  fourth = at-last x r (i + 3) p.ends;
}

stands-last : (x : ℕ) (r : List ℕ) (i k : ℕ) → i + 3 ≡ length r → Stands (x ∷ r) i k → Prefixed r i
stands-last x r i k ends s = record {
  ends = ends;
  first = sym (at-older x r i (λ e. absurd (omega arith))) ∙ s.first;
  second = sym (at-older x r (i + 1) (λ e. absurd (omega arith))) ∙ s.second;
  third = sym (at-older x r (i + 2) (λ e. absurd (omega arith))) ∙ s.third;
}

has-note : (past : List Code) (x i k : ℕ) → HasCode i k past → HasCode i k (note_latest past x)
has-note [] x i k h = h
has-note (c ∷ past) x i k h = h

note-has : (past : List Code) (x i k : ℕ) → HasCode i k (note_latest past x) → HasCode i k past
note-has [] x i k h = h
note-has (c ∷ past) x i k h = h

has-stands : (r : List ℕ) (i k : ℕ) → HasCode i k (codes_of r) → Stands r i k
has-stands [] i k h = absurd (subst (λ (l : List Code). HasCode i k l) codes-none h)
has-stands (x ∷ r) i k h = elim (cases_Bool (is_whole (latest_prefix r))) [
  | inl e ↦ (let p = whole-prefixed r e in elim (subst (λ (l : List Code). HasCode i k l) (codes-code x r e) h) [
    | inl new ↦ subst (λ m. Stands (x ∷ r) m k) new.0
        (subst (λ m. Stands (x ∷ r) (length r - 3) m) new.1 (stands-new x r (length r - 3) p))
    | inr older ↦ stands-more x r i k (has-stands r i k (note-has (codes_of r) x i k older))
  ])
  | inr e ↦ stands-more x r i k
      (has-stands r i k (note-has (codes_of r) x i k (subst (λ (l : List Code). HasCode i k l) (codes-plain x r e) h)))
]

older-has : (x : ℕ) (r : List ℕ) (i k : ℕ) → HasCode i k (codes_of r) → HasCode i k (codes_of (x ∷ r))
older-has x r i k h = elim (cases_Bool (is_whole (latest_prefix r))) [
  | inl e ↦ subst (λ (l : List Code). HasCode i k l) (sym (codes-code x r e)) (inr (has-note (codes_of r) x i k h))
  | inr e ↦ subst (λ (l : List Code). HasCode i k l) (sym (codes-plain x r e)) (has-note (codes_of r) x i k h)
]

new-has : (x : ℕ) (r : List ℕ) (i k : ℕ) → Prefixed r i → x ≡ k → HasCode i k (codes_of (x ∷ r))
new-has x r i k p value =
    let place : length r - 3 ≡ i = omega (arith, p.ends) in
    subst (λ (l : List Code). HasCode i k l) (sym (codes-code x r (prefixed-whole r i p))) (inl (place, value))

stands-has : (r : List ℕ) (i k : ℕ) → Stands r i k → HasCode i k (codes_of r)
stands-has [] i k s = absurd (omega (arith, s.fits))
stands-has (x ∷ r) i k s = elim (cases_lt (i + 3) (length r)) [
  | inl inside ↦ older-has x r i k (stands-has r i k (stands-less x r i k inside s))
  | inr last ↦ (let ends : i + 3 ≡ length r = omega (arith, s.fits) in
      new-has x r i k (stands-last x r i k ends s) (sym (at-last x r (i + 3) ends) ∙ s.fourth))
]

pub at-bytes : (bytes : List ℕ) (i : ℕ) → at (read_after [] bytes) i ≡ get_or bytes i 256
at-bytes bytes i = ap (at (read_after [] bytes)) (omega arith) ∙ at-read bytes [] i

-- the codes of a film's bytes are those that stand in them
pub codes-stand : (bytes : List ℕ) (i k : ℕ) → HasCode i k (codes_of (read_after [] bytes)) ↔ IsCodeAt bytes i k
codes-stand bytes i k = (
  λ h. let s = has-stands (read_after [] bytes) i k h in record {
    fits = omega (arith, s.fits, length-read bytes []);
    first = sym (at-bytes bytes i) ∙ s.first;
    second = sym (at-bytes bytes (i + 1)) ∙ s.second;
    third = sym (at-bytes bytes (i + 2)) ∙ s.third;
    fourth = sym (at-bytes bytes (i + 3)) ∙ s.fourth;
  },
  λ s. stands-has (read_after [] bytes) i k (record {
    fits = omega (arith, s.fits, length-read bytes []);
    first = at-bytes bytes i ∙ s.first;
    second = at-bytes bytes (i + 1) ∙ s.second;
    third = at-bytes bytes (i + 2) ∙ s.third;
    fourth = at-bytes bytes (i + 3) ∙ s.fourth;
  }),
)
