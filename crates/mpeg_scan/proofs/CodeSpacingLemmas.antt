-- The start codes of bytes stand apart: each has at least 4 bytes, or 3 where its value is 0, which
-- may begin the next prefix.
use Rattle.std.proofs.Common.{ℕ, suc, Bool, true, false, cond, eqb, leb, ◌+◌, ◌-◌, ◌<◌, ◌≤◌, ◌≡◌}
use Rattle.std.proofs.Common.{List, [], ◌∷◌, length, sym, ◌∙◌, ap, refl, subst, inl, inr, arith}
use Rattle.std.proofs.lemmas.Bool.{cases_Bool, leb-true, ne_eqb, false≢true, true≢false, and_parts}
use Rattle.mpeg_scan.specs.declared.codes.Code.{Code}
use Rattle.mpeg_scan.specs.declared.codes.Prefix.{Prefix}
use Rattle.mpeg_scan.specs.declared.codes.Prefix.TheVariants.{Nothing, Zero, Zeros, Whole}
use Rattle.mpeg_scan.specs.StartCodes.{latest_prefix, next_prefix, after_one, after_zero, is_whole}
use Rattle.mpeg_scan.specs.StartCodes.{note_latest, codes_of}
use Rattle.mpeg_scan.specs.CodeFacts.{is_head, is_slice, begins_unit, slice_count, latest_unit, latest_slice}
use Rattle.mpeg_scan.specs.CodePlaces.{HasCode}
use Rattle.mpeg_scan.proofs.CodeLemmas.{matched-more}
use Rattle.mpeg_scan.proofs.ScanStepLemmas.{codes-none, codes-plain, codes-code}
use Rattle.mpeg_scan.specs.ScanBounds.{prefix_length}

-- ---- how far codes stand apart

abbrev pub span : Code → ℕ
span d = cond (eqb d.value 0) 3 4

abbrev pub After : ℕ → List Code → Type 0
After at [] = Unit {0}
After at (d ∷ past) = d.place + span d ≤ at

abbrev pub Spaced : List Code → Type 0
Spaced [] = Unit {0}
Spaced (c ∷ past) = After c.place past × Spaced past

three : (b : Bool) → 3 ≤ cond b 3 4
three true = omega arith
three false = omega arith

-- their places rise
pub all-below : {at : ℕ} (past : List Code) → Spaced past → After at past → (place value : ℕ)
    → HasCode place value past → place < at
all-below {at} [] spaced after place value has = absurd has
all-below {at} (d ∷ past) spaced after place value (inl new) = omega (arith, three (eqb d.value 0), after, new.0)
all-below {at} (d ∷ past) spaced after place value (inr old) =
    omega (arith, three (eqb d.value 0), after, all-below {at = d.place} past spaced.1 spaced.0 place value old)

either-before : (b : Bool) (m n at : ℕ) → m + 3 ≤ at → n + 3 ≤ at → cond b m n + 3 ≤ at
either-before true m n at h i = h
either-before false m n at h i = i

pub unit-before : (d : Code) (past : List Code) (at : ℕ) → Spaced (d ∷ past) → After at (d ∷ past)
    → latest_unit (d ∷ past) + 3 ≤ at
unit-before d [] at spaced after = omega (arith, three (eqb d.value 0), after)
unit-before d (e ∷ past) at spaced after =
    either-before (begins_unit d (e ∷ past)) d.place (latest_unit (e ∷ past)) at
    (omega (arith, three (eqb d.value 0), after))
    (omega (arith, three (eqb d.value 0), after, unit-before e past d.place spaced.1 spaced.0))

span-slice : (d : Code) → is_slice d.value ≡ true → span d ≡ 4
span-slice d slice =
    let low : 1 ≤ d.value = leb-true 1 d.value (and_parts (leb 1 d.value) (leb d.value 0xaf) slice).0 in
    ap (λ b. cond b 3 4) (ne_eqb d.value 0 (λ none. absurd (omega arith)))

pub slice-case : {s : Bool} {n at : ℕ} (h : Bool) (p q : ℕ) → (s ≡ true → p + 4 ≤ at) → (0 < n → q + 4 ≤ at)
    → 0 < cond h 0 (cond s (n + 1) n) → cond s p (cond h 0 q) + 4 ≤ at
slice-case {s} true p q here before some = absurd (omega arith)
slice-case {s = true} false p q here before some = here refl
slice-case {s = false} false p q here before some = before some

pub slice-before : (past : List Code) (at : ℕ) → Spaced past → After at past → 0 < slice_count past
    → latest_slice past + 4 ≤ at
slice-before [] at spaced after some = absurd (omega arith)
slice-before (d ∷ past) at spaced after some =
    slice-case {s = is_slice d.value} {n = slice_count past} {at = at} (is_head d.value) d.place (latest_slice past)
    (λ slice. omega (arith, span-slice d slice, after))
    (λ more. omega (arith, three (eqb d.value 0), after, slice-before past d.place spaced.1 spaced.0 more)) some

-- ---- the codes of bytes stand apart

abbrev pub need : Bool → Prefix → ℕ
need b Nothing = 4
need b Zero = cond b 4 5
need b Zeros = cond b 5 6
need b Whole = cond b 6 7

abbrev pub Room : List Code → Prefix → ℕ → Type 0
Room [] p n = prefix_length p ≤ n
Room (d ∷ past) p n = d.place + need (eqb d.value 0) p ≤ n

next-need : (b1 b0 b : Bool) (p : Prefix) → is_whole p ≡ false
    → need b (cond b1 (after_one p) (cond b0 (after_zero p) Nothing)) ≤ suc (need b p)
next-need true b0 true Nothing w = omega arith
next-need false true true Nothing w = omega arith
next-need false false true Nothing w = omega arith
next-need true b0 false Nothing w = omega arith
next-need false true false Nothing w = omega arith
next-need false false false Nothing w = omega arith
next-need true b0 true Zero w = omega arith
next-need false true true Zero w = omega arith
next-need false false true Zero w = omega arith
next-need true b0 false Zero w = omega arith
next-need false true false Zero w = omega arith
next-need false false false Zero w = omega arith
next-need true b0 true Zeros w = omega arith
next-need false true true Zeros w = omega arith
next-need false false true Zeros w = omega arith
next-need true b0 false Zeros w = omega arith
next-need false true false Zeros w = omega arith
next-need false false false Zeros w = omega arith
next-need b1 b0 b Whole w = absurd (true≢false w)

next-length : (b1 b0 : Bool) (p : Prefix) (n : ℕ) → is_whole p ≡ false → prefix_length p ≤ n
    → prefix_length (cond b1 (after_one p) (cond b0 (after_zero p) Nothing)) ≤ suc n
next-length true b0 Nothing n w h = omega arith
next-length false true Nothing n w h = omega arith
next-length false false Nothing n w h = omega arith
next-length true b0 Zero n w h = omega arith
next-length false true Zero n w h = omega arith
next-length false false Zero n w h = omega arith
next-length true b0 Zeros n w h = omega arith
next-length false true Zeros n w h = omega arith
next-length false false Zeros n w h = omega arith
next-length b1 b0 Whole n w h = absurd (true≢false w)

room-byte : (past : List Code) (p : Prefix) (n x : ℕ) → is_whole p ≡ false → Room past p n
    → Room (note_latest past x) (next_prefix p x) (suc n)
room-byte [] p n x plain room = next-length (eqb x 1) (eqb x 0) p n plain room
room-byte (d ∷ past) p n x plain room =
    let before : d.place + need (eqb d.value 0) p ≤ n = room in
    let after : d.place
    + need (eqb d.value 0) (cond (eqb x 1) (after_one p) (cond (eqb x 0) (after_zero p) Nothing)) ≤ suc n =
    omega (arith, before, next-need (eqb x 1) (eqb x 0) (eqb d.value 0) p plain) in
    after

spaced-note : (past : List Code) (x : ℕ) → Spaced past → Spaced (note_latest past x)
spaced-note [] x spaced = spaced
spaced-note (d ∷ past) x spaced = spaced

pub whole-is : (p : Prefix) → is_whole p ≡ true → p ≡ Whole
whole-is Nothing e = absurd (false≢true e)
whole-is Zero e = absurd (false≢true e)
whole-is Zeros e = absurd (false≢true e)
whole-is Whole e = refl

apart-code : (b : Bool) (k n : ℕ) → k + need b Whole ≤ n → (k + cond b 3 4 ≤ n - 3) × (3 ≤ n)
apart-code true k n room = (omega arith, omega arith)
apart-code false k n room = (omega arith, omega arith)

after-code : (past : List Code) (n x : ℕ) → Room past Whole n → After (n - 3) (note_latest past x) × (3 ≤ n)
after-code [] n x room = (tt, room)
after-code (d ∷ past) n x room = apart-code (eqb d.value 0) d.place n room

first-need : (b1 b0 : Bool) → need b0 (cond b1 Nothing (cond b0 Zero Nothing)) ≤ 4
first-need true b0 = omega arith
first-need false true = omega arith
first-need false false = omega arith

pub record Placed (past : List Code) (p : Prefix) (n : ℕ) : Type 0 where
  pub spaced : Spaced past
  pub room : Room past p n

placed-plain : (past : List Code) (p : Prefix) (n x : ℕ) → is_whole p ≡ false → Placed past p n
    → Placed (note_latest past x) (next_prefix p x) (suc n)
placed-plain past p n x plain placed =
    record { spaced = spaced-note past x placed.spaced; room = room-byte past p n x plain placed.room }

placed-code : (past : List Code) (n x : ℕ) → Placed past Whole n
    → Placed (record { place = n - 3; value = x; header = [] } ∷ note_latest past x) (next_prefix Whole x) (suc n)
placed-code past n x placed =
    let after = after-code past n x placed.room in record {
      spaced = (after.0, spaced-note past x placed.spaced);
      room = omega (arith, first-need (eqb x 1) (eqb x 0), after.1);
    }

matched-none : latest_prefix [] ≡ Nothing
unfolding latest_prefix
matched-none = refl

pub placed-codes : (r : List ℕ) → Placed (codes_of r) (latest_prefix r) (length r)
placed-codes [] =
    subst (λ (past : List Code). Placed past (latest_prefix []) 0) (sym codes-none)
    (subst (λ (p : Prefix). Placed [] p 0) (sym matched-none) (record { spaced = tt; room = omega arith }))
placed-codes (x ∷ r) =
    let rest = placed-codes r in elim (cases_Bool (is_whole (latest_prefix r))) [
      | inl e ↦ (let at_whole =
          subst (λ (p : Prefix). Placed (codes_of r) p (length r)) (whole-is (latest_prefix r) e) rest in
          subst (λ (past : List Code). Placed past (latest_prefix (x ∷ r)) (suc (length r)))
          (sym (codes-code x r e))
          (subst (λ (p : Prefix). Placed
          (record { place = length r - 3; value = x; header = [] } ∷ note_latest (codes_of r) x) p
          (suc (length r)))
          (sym (matched-more x r ∙ ap (λ (p : Prefix). next_prefix p x) (whole-is (latest_prefix r) e)))
          (placed-code (codes_of r) (length r) x at_whole)))
      | inr e ↦ subst (λ (past : List Code). Placed past (latest_prefix (x ∷ r)) (suc (length r)))
          (sym (codes-plain x r e))
          (subst (λ (p : Prefix). Placed (note_latest (codes_of r) x) p (suc (length r)))
          (sym (matched-more x r)) (placed-plain (codes_of r) (latest_prefix r) (length r) x e rest))
    ]

need-span : (b : Bool) (p : Prefix) → cond b 3 4 ≤ need b p
need-span true Nothing = omega arith
need-span true Zero = omega arith
need-span true Zeros = omega arith
need-span true Whole = omega arith
need-span false Nothing = omega arith
need-span false Zero = omega arith
need-span false Zeros = omega arith
need-span false Whole = omega arith

pub room-after : (past : List Code) (p : Prefix) (n : ℕ) → Room past p n → After n past
room-after [] p n room = tt
room-after (d ∷ past) p n room = omega (arith, need-span (eqb d.value 0) p)
