-- The refusals of a header, of the bits of its bytes.
use Rattle.std.proofs.Common.{ℕ, Bool, true, false, cond, eqb, ltb, leb, not, ◌&&◌, ◌||◌, ◌+◌, ◌-◌}
use Rattle.std.proofs.Common.{◌/◌, ◌%◌, ◌<◌, ◌≤◌, ◌≡◌, ◌⊎◌, ◌↔◌, List, [], ◌∷◌, Option, Some, None}
use Rattle.std.proofs.Common.{get_or, sym, ◌∙◌, ap, refl, subst, inl, inr, arith}
use Rattle.std.proofs.lemmas.Bool.{cases_lt, eqb-false, eqb-true, eq-eqb, ne_eqb, not-true, ltb-true, ltb-false, lt-ltb}
use Rattle.std.proofs.lemmas.Bool.{le-ltb, leb-true, le-leb, and_parts, and_from, or_left, or_right, or_parts}
use Rattle.std.proofs.lemmas.Bool.{not_from_false, false≢true, true≢false}
use Rattle.mpeg_scan.specs.declared.codes.Code.{Code}
use Rattle.mpeg_scan.specs.declared.faults.FilmFault.{FilmFault}
use Rattle.mpeg_scan.specs.declared.faults.FilmFault.TheVariants.{BadRate, BadType, ShortHeader}
use Rattle.mpeg_scan.specs.CodeFacts.{first_rate, rate_code, type_of}
use Rattle.mpeg_scan.specs.FilmFaults.{differs, first_fault, header_fault, latest_fault, picture_fault, rate_fault}
use Rattle.mpeg_scan.specs.StandardRefusals.{HeaderRefusal, IsBadRate, IsBadType, IsLatest, IsOtherRate, IsSequence}
use Rattle.mpeg_scan.specs.StandardRefusals.{IsShortHeader, Otherwise, has_vectors, header_bytes, picture_rate}
use Rattle.mpeg_scan.specs.StandardUnits.{IsHeadValue, NoneIn, picture_coding_type}
use Rattle.mpeg_scan.proofs.FilmBoundLemmas.{older-judged}
use Rattle.mpeg_scan.proofs.FirstUnitLemmas.{AreJudged, first_in, first_in-has, first_in-value}
use Rattle.mpeg_scan.proofs.FirstUnitLemmas.{first_in-rate, first_in-header, first-least}
use Rattle.mpeg_scan.proofs.ScanStepLemmas.{accepted-older}
use Rattle.mpeg_scan.proofs.HeaderByteLemmas.{Same, HeadersAre, header-byte}
use Rattle.mpeg_scan.proofs.DecisionLemmas.{Decides, both-cond, by-test, decide, neither, none-of, only-first}
use Rattle.mpeg_scan.proofs.DecisionLemmas.{only-second}
use Rattle.mpeg_scan.specs.CodePlaces.{IsCodeAt}
use Rattle.mpeg_scan.proofs.CodesBeforeLemmas.{any-true, CodesBefore, Knows, known, latest-is, latest-new, older}

-- the header bytes of a code are those after it, as far as a place
abbrev pub Fits : List ℕ → ℕ → Code → Type 0
Fits bytes to c = (k : ℕ) → k < 5 → c.place + 4 + k < to →
    get_or c.header k 0 ≡ get_or bytes (c.place + 4 + k) 0

rate-fits : (bytes : List ℕ) (to : ℕ) (c : Code) → Fits bytes to c → c.place + 8 ≤ to →
    rate_code c ≡ picture_rate bytes c.place
rate-fits bytes to c fits far =
    let here : c.place + 4 + 3 ≡ c.place + 7 = omega arith in
    ap (λ b. b % 16) (fits 3 (omega arith) (omega (arith, far)) ∙ ap (λ i. get_or bytes i 0) here)

type-fits : (bytes : List ℕ) (to : ℕ) (c : Code) → Fits bytes to c → c.place + 8 ≤ to →
    type_of c ≡ picture_coding_type bytes c.place
type-fits bytes to c fits far =
    let here : c.place + 4 + 1 ≡ c.place + 5 = omega arith in
    ap (λ b. b / 8 % 8) (fits 1 (omega arith) (omega (arith, far)) ∙ ap (λ i.
    get_or bytes i 0) here)

-- ---- the film's first rate

-- the words on the codes of bytes and on these bytes
abbrev BadRateAt : List ℕ → ℕ → FilmFault → Type 0
BadRateAt bytes at = IsBadRate (IsCodeAt bytes) bytes at

abbrev BadTypeAt : List ℕ → ℕ → FilmFault → Type 0
BadTypeAt bytes at = IsBadType (IsCodeAt bytes) bytes at

abbrev ShortAt : List ℕ → ℕ → FilmFault → Type 0
ShortAt bytes at = IsShortHeader (IsCodeAt bytes) bytes at

pub record FirstRate (bytes : List ℕ) (place : ℕ) (rate : Option ℕ) : Type 0 where
  pub first : ℕ
  pub code : IsCodeAt bytes first 0xb3
  pub none : NoneIn (IsCodeAt bytes) 0 first IsSequence
  pub before : first < place
  pub is : rate ≡ Some (picture_rate bytes first)

-- what is known of it at a place: there is no sequence header before, or it is the first one's
pub data RateIs (bytes : List ℕ) (place : ℕ) (rate : Option ℕ) : Type 0 where
  no_rate : rate ≡ None → NoneIn (IsCodeAt bytes) 0 place IsSequence → RateIs bytes place rate
  its_rate : FirstRate bytes place rate → RateIs bytes place rate

first-sequence : {Has : ℕ → ℕ → Type 0} {p q : ℕ} → NoneIn Has 0 p IsSequence → Has q 0xb3 → p ≤ q
first-sequence {p} {q} none other = elim (cases_lt q p) [
  | inl less ↦ absurd (none q 0xb3 other (omega arith) less refl)
  | inr more ↦ more
]

-- ---- a rate

rate-whole : (a b d : Bool) → (a ≡ true) ⊎ ((b ≡ true) ⊎ (d ≡ true)) → (a || (b || d)) ≡ true
rate-whole a b d (inl is) = or_left a (b || d) is
rate-whole a b d (inr (inl is)) = or_right a (b || d) (or_left b d is)
rate-whole a b d (inr (inr is)) = or_right a (b || d) (or_right b d is)

other-rate : {bytes : List ℕ} {place : ℕ} {rate : Option ℕ} → RateIs bytes place rate
    → differs rate (picture_rate bytes place) ≡ true → IsOtherRate (IsCodeAt bytes) bytes place
other-rate {bytes} {place} (no_rate none never) other =
    absurd (false≢true (ap (λ (o : Option ℕ). differs o (picture_rate bytes place)) (sym none) ∙ other))
other-rate {bytes} {place} (its_rate r) other = record {
  first = r.first;
  code = r.code;
  none = r.none;
  before = r.before;
  other = let same = ap (λ (o : Option ℕ). differs o (picture_rate bytes place)) (sym r.is) ∙ other in
      eqb-false (picture_rate bytes place) (picture_rate bytes r.first)
      (not-true (eqb (picture_rate bytes place) (picture_rate bytes r.first)) same);
}

rate-other : {bytes : List ℕ} {place : ℕ} {rate : Option ℕ} → RateIs bytes place rate
    → IsOtherRate (IsCodeAt bytes) bytes place → differs rate (picture_rate bytes place) ≡ true
rate-other (no_rate none never) o = absurd (never o.first 0xb3 o.code (omega arith) o.before refl)
rate-other {bytes} {place} (its_rate r) o =
    let its = picture_rate bytes place in
    let low : r.first ≤ o.first = first-sequence {Has = IsCodeAt bytes} r.none o.code in
    let high : o.first ≤ r.first = first-sequence {Has = IsCodeAt bytes} o.none r.code in
    let same : r.first ≡ o.first = omega (arith, low, high) in
    ap (λ (v : Option ℕ). differs v its) r.is
    ∙ not_from_false (eqb its (picture_rate bytes r.first))
    (ne_eqb its (picture_rate bytes r.first) (λ e. o.other (e ∙ ap (picture_rate bytes) same)))

-- a rate that the standard doesn't allow, or another than the film's first one
abbrev IsBadAt : List ℕ → ℕ → Type 0
IsBadAt bytes place =
    (picture_rate bytes place ≡ 0)
    ⊎ ((8 < picture_rate bytes place) ⊎ IsOtherRate (IsCodeAt bytes) bytes place)

-- the test of a sequence header's rate
abbrev is_bad_rate : Option ℕ → ℕ → Bool
is_bad_rate rate its = eqb its 0 || (ltb 8 its || differs rate its)

bad-rate : {bytes : List ℕ} {place : ℕ} {rate : Option ℕ} → RateIs bytes place rate
    → (eqb (picture_rate bytes place) 0 ≡ true)
    ⊎ ((ltb 8 (picture_rate bytes place) ≡ true) ⊎ (differs rate (picture_rate bytes place) ≡ true))
    → IsBadAt bytes place
bad-rate {bytes} {place} known (inl none) = inl (eqb-true (picture_rate bytes place) 0 none)
bad-rate {bytes} {place} known (inr (inl many)) = inr (inl (ltb-true 8 (picture_rate bytes place) many))
bad-rate known (inr (inr other)) = inr (inr (other-rate known other))

rate-bad : {bytes : List ℕ} {place : ℕ} {rate : Option ℕ} → RateIs bytes place rate → IsBadAt bytes place
    → (eqb (picture_rate bytes place) 0 ≡ true)
    ⊎ ((ltb 8 (picture_rate bytes place) ≡ true) ⊎ (differs rate (picture_rate bytes place) ≡ true))
rate-bad {bytes} {place} known (inl none) = inl (eq-eqb (picture_rate bytes place) 0 none)
rate-bad {bytes} {place} known (inr (inl many)) = inr (inl (lt-ltb 8 (picture_rate bytes place) many))
rate-bad known (inr (inr o)) = inr (inr (rate-other known o))

rate-tested : {bytes : List ℕ} {place : ℕ} {rate : Option ℕ} → RateIs bytes place rate
    → (is_bad_rate rate (picture_rate bytes place) ≡ true) ↔ IsBadAt bytes place
rate-tested {bytes} {place} {rate} known =
    let its = picture_rate bytes place in (
      λ t. bad-rate known (any-true (eqb its 0) (ltb 8 its) (differs rate its) t),
      λ bad. rate-whole (eqb its 0) (ltb 8 its) (differs rate its) (rate-bad known bad),
    )

-- ---- a header

-- the header of the latest code before a place, where the next code stands, or the film ends
pub record Header (bytes : List ℕ) : Type 0 where
  pub codes : CodesBefore (IsCodeAt bytes)
  pub rate : Option ℕ
  pub fits : Fits bytes codes.at codes.latest
  pub rate_is : RateIs bytes codes.latest.place rate

latest-value : {bytes : List ℕ} (h : Header bytes) {value : ℕ} → h.codes.latest.value ≡ value
    → IsLatest (IsCodeAt bytes) h.codes.latest.place value h.codes.at
latest-value {bytes} h is =
    subst (λ k. IsLatest (IsCodeAt bytes) h.codes.latest.place k h.codes.at) is (latest-new h.codes)

no-rate : {bytes : List ℕ} (h : Header bytes) → (h.codes.latest.value ≡ 0xb3 → ⊥) → (f : FilmFault)
    → BadRateAt bytes h.codes.at f → ⊥
no-rate h other f p = other (latest-is h.codes p.latest).1

no-type : {bytes : List ℕ} (h : Header bytes) → (h.codes.latest.value ≡ 0 → ⊥) → (f : FilmFault)
    → BadTypeAt bytes h.codes.at f → ⊥
no-type h other f p = other (latest-is h.codes p.latest).1

-- the fewest bytes of a header
short-new : {bytes : List ℕ} (h : Header bytes) {value : ℕ} → h.codes.latest.value ≡ value → IsHeadValue value
    → h.codes.at < h.codes.latest.place + header_bytes bytes h.codes.latest.place value
    → ShortAt bytes h.codes.at (ShortHeader h.codes.latest.place)
short-new h {value} is head short = record {
  place = h.codes.latest.place;
  value = value;
  latest = latest-value h is;
  head = head;
  short = short;
  is = refl;
}

short-here : {bytes : List ℕ} (h : Header bytes) {value : ℕ} → h.codes.latest.value ≡ value → (f : FilmFault)
    → ShortAt bytes h.codes.at f
    → (h.codes.at < h.codes.latest.place + header_bytes bytes h.codes.latest.place value)
    × (f ≡ ShortHeader h.codes.latest.place)
short-here {bytes} h is f p =
    let same = latest-is h.codes p.latest in
    let at = h.codes.at in
    let place = h.codes.latest.place in (
      subst (λ k. at < place + header_bytes bytes place k) (sym same.1 ∙ is)
          (subst (λ v. at < v + header_bytes bytes v p.value) (sym same.0) p.short),
      p.is ∙ ap ShortHeader (sym same.0),
    )

abbrev Refused : List ℕ → ℕ → Option FilmFault → Type 0
Refused bytes at o = Decides (HeaderRefusal (IsCodeAt bytes) bytes at) o

sequence-decides : {bytes : List ℕ} (h : Header bytes) → h.codes.latest.value ≡ 0xb3
    → Refused bytes h.codes.at
    (cond (ltb (h.codes.at - h.codes.latest.place) 12) (Some (ShortHeader h.codes.latest.place))
    (rate_fault h.rate h.codes.latest))
sequence-decides {bytes} h is =
    let at = h.codes.at in
    let c = h.codes.latest in
    both-cond {P = ShortAt bytes at} {Q = Otherwise (BadRateAt bytes at) (BadTypeAt bytes at)}
    {b = ltb (at - c.place) 12} {h = ShortHeader c.place} {o = rate_fault h.rate c}
    (λ e. short-new h is (inr (inl refl)) (omega (arith, ltb-true (at - c.place) 12 e)))
    (λ g p. let short = short-here h is g p in (lt-ltb (at - c.place) 12 (omega (arith, short.0)), short.1))
    (λ e. let far : c.place + 12 ≤ at = omega (arith, ltb-false (at - c.place) 12 e) in
    let its = rate-fits bytes at c h.fits (omega (arith, far)) in
    let tested = rate-tested h.rate_is in
    only-first (BadRateAt bytes at) (BadTypeAt bytes at) (rate_fault h.rate c)
    (decide (BadRateAt bytes at) (is_bad_rate h.rate (rate_code c)) (BadRate c.place (rate_code c))
    (λ t. record {
      place = c.place;
      latest = latest-value h is;
      bad = tested.0 (subst (λ n. is_bad_rate h.rate n ≡ true) its t);
      is = ap (BadRate c.place) its;
    })
    (λ g p. let same = latest-is h.codes p.latest in (
      subst (λ n. is_bad_rate h.rate n ≡ true) (sym its)
          (tested.1 (subst (λ v. IsBadAt bytes v) (sym same.0) p.bad)),
      p.is ∙ ap (λ v. BadRate v (picture_rate bytes v)) (sym same.0) ∙ ap (BadRate c.place) (sym its),
    )))
    (no-type h (λ e. absurd (omega (arith, e, is)))))

group-decides : {bytes : List ℕ} (h : Header bytes) → h.codes.latest.value ≡ 0xb8
    → Refused bytes h.codes.at
    (cond (ltb (h.codes.at - h.codes.latest.place) 8) (Some (ShortHeader h.codes.latest.place)) None)
group-decides {bytes} h is =
    let at = h.codes.at in
    let c = h.codes.latest in
    both-cond {P = ShortAt bytes at} {Q = Otherwise (BadRateAt bytes at) (BadTypeAt bytes at)}
    {b = ltb (at - c.place) 8} {h = ShortHeader c.place} {o = None}
    (λ e. short-new h is (inr (inr refl)) (omega (arith, ltb-true (at - c.place) 8 e)))
    (λ g p. let short = short-here h is g p in (lt-ltb (at - c.place) 8 (omega (arith, short.0)), short.1))
    (λ _. none-of (Otherwise (BadRateAt bytes at) (BadTypeAt bytes at))
    (neither (BadRateAt bytes at) (BadTypeAt bytes at)
    (no-rate h (λ e. absurd (omega (arith, e, is)))) (no-type h (λ e. absurd (omega (arith, e, is))))))

type-good : (t : ℕ) → (leb 1 t && leb t 4) ≡ false → (t ≡ 0) ⊎ (4 < t)
type-good t e = elim (cases_lt 4 t) [
  | inl many ↦ inr many
  | inr few ↦ elim (cases_lt 0 t) [
    | inl some ↦ absurd
        (true≢false (sym
        (and_from (leb 1 t) (leb t 4) (le-leb 1 t (omega (arith, some)))
        (le-leb t 4 (omega (arith, few)))) ∙ e))
    | inr none ↦ inl (omega (arith, none))
  ]
]

type-bad : (b : Bool) (t : ℕ) → (leb 1 t && leb t 4) ≡ b → (t ≡ 0) ⊎ (4 < t) → b ≡ false
type-bad false t e bad = refl
type-bad true t e (inl none) = absurd (omega (arith, none, leb-true 1 t (and_parts (leb 1 t) (leb t 4) e).0))
type-bad true t e (inr many) = absurd (omega (arith, many, leb-true t 4 (and_parts (leb 1 t) (leb t 4) e).1))

no-value : (value : ℕ) → eqb value 0xb3 ≡ false → eqb value 0xb8 ≡ false → eqb value 0 ≡ false →
    IsHeadValue value → ⊥
no-value value a b z (inl e) = true≢false (sym (eq-eqb value 0 e) ∙ z)
no-value value a b z (inr (inl e)) = true≢false (sym (eq-eqb value 0xb3 e) ∙ a)
no-value value a b z (inr (inr e)) = true≢false (sym (eq-eqb value 0xb8 e) ∙ b)

flip : (b : Bool) (f : FilmFault) → cond (not b) (Some f) None ≡ cond b None (Some f)
flip true f = refl
flip false f = refl

-- the bytes of a picture header: its type is read where it has eight bytes
some-low : (b : Bool) → 8 ≤ cond b 9 8
some-low true = omega arith
some-low false = omega arith

fewer : (two its : Bool) (d : ℕ) → (8 ≤ d → two ≡ its) → (ltb d 8 || (two && ltb d 9)) ≡ true →
    d < cond its 9 8
fewer two its d same e = elim (cases_lt d 8) [
  | inl less ↦ omega (arith, less, some-low its)
  | inr more ↦
      (let parts = and_parts two (ltb d 9) (ap (λ b.
      b || (two && ltb d 9)) (sym (le-ltb d 8 more)) ∙ e) in
      subst (λ b. d < cond b 9 8) (sym parts.0 ∙ same more) (ltb-true d 9 parts.1))
]

few-by : (its two : Bool) (d : ℕ) → two ≡ its → 8 ≤ d → d < cond its 9 8 →
    (ltb d 8 || (two && ltb d 9)) ≡ true
few-by true two d same more few = or_right (ltb d 8) (two && ltb d 9) (and_from two (ltb d 9) same (lt-ltb d 9 few))
few-by false two d same more few = absurd (omega (arith, more, few))

few : (two its : Bool) (d : ℕ) → (8 ≤ d → two ≡ its) → d < cond its 9 8 →
    (ltb d 8 || (two && ltb d 9)) ≡ true
few two its d same is = elim (cases_lt d 8) [
  | inl less ↦ or_left (ltb d 8) (two && ltb d 9) (lt-ltb d 8 less)
  | inr more ↦ few-by its two d (same more) more is
]

room : (b : Bool) (place at : ℕ) → at - place < cond b 9 8 → at < place + cond b 9 8
room true place at e = omega (arith, e)
room false place at e = omega (arith, e)

less-room : (b : Bool) (place at : ℕ) → at < place + cond b 9 8 → at - place < cond b 9 8
less-room true place at e = omega (arith, e)
less-room false place at e = omega (arith, e)

picture-decides : {bytes : List ℕ} (h : Header bytes) → h.codes.latest.value ≡ 0
    → Refused bytes h.codes.at (picture_fault h.codes.latest h.codes.at)
picture-decides {bytes} h is =
    let at = h.codes.at in
    let c = h.codes.latest in
    let d = at - c.place in
    let t = type_of c in
    let its = picture_coding_type bytes c.place in
    let Kind = BadTypeAt bytes at in
    let never = no-rate h (λ e. absurd (omega (arith, e, is))) in
    let same = λ (more : 8 ≤ at - c.place). type-fits bytes at c h.fits (omega (arith, more)) in
    let twice = λ (more : 8 ≤ at - c.place). ap has_vectors (same more) in
    let good = leb 1 t && leb t 4 in
    both-cond
    (λ e. short-new h is (inl refl)
    (room (has_vectors its) c.place at (fewer (has_vectors t) (has_vectors its) d twice e)))
    (λ g p. let short = short-here h is g p in (
      few (has_vectors t) (has_vectors its) d twice (less-room (has_vectors its) c.place at short.0),
      short.1,
    ))
    (λ e. let far : 8 ≤ at - c.place = ltb-false d 8 (or_parts (ltb d 8) (has_vectors t && ltb d 9) e).0 in
    only-second (BadRateAt bytes at) Kind (cond good None (Some (BadType c.place))) never
    (subst (λ (o : Option FilmFault). Decides Kind o) (flip good (BadType c.place))
    (decide Kind (not good) (BadType c.place)
    (λ n. record {
      place = c.place;
      latest = latest-value h is;
      bad = subst (λ v. (v ≡ 0) ⊎ (4 < v)) (same far) (type-good t (not-true good n));
      is = refl;
    })
    (λ g p. let here = latest-is h.codes p.latest in (
      not_from_false good (type-bad good t refl (subst (λ v. (v ≡ 0)
          ⊎ (4 < v)) (sym (same far)) (subst (λ v. (picture_coding_type bytes v ≡ 0)
          ⊎ (4 < picture_coding_type bytes v)) (sym here.0) p.bad))),
      p.is ∙ ap BadType (sym here.0),
    )))))

-- ---- any header

other-decides : {bytes : List ℕ} (h : Header bytes) → (IsHeadValue h.codes.latest.value → ⊥) → (f : FilmFault)
    → HeaderRefusal (IsCodeAt bytes) bytes h.codes.at f → ⊥
other-decides {bytes} h other =
    let at = h.codes.at in
    neither (ShortAt bytes at) (Otherwise (BadRateAt bytes at) (BadTypeAt bytes at))
    (λ f p. other (subst IsHeadValue (sym (latest-is h.codes p.latest).1) p.head))
    (neither (BadRateAt bytes at) (BadTypeAt bytes at)
    (no-rate h (λ e. other (inr (inl e)))) (no-type h (λ e. other (inl e))))

header-decides : {bytes : List ℕ} (h : Header bytes)
    → Refused bytes h.codes.at (header_fault h.rate h.codes.latest h.codes.at)
header-decides {bytes} h =
    let value = h.codes.latest.value in
    by-test (eqb value 0xb3) (λ a. sequence-decides h (eqb-true value 0xb3 a))
    (λ a. by-test (eqb value 0xb8) (λ b. group-decides h (eqb-true value 0xb8 b))
    (λ b. by-test (eqb value 0) (λ z. picture-decides h (eqb-true value 0 z))
    (λ z. none-of (HeaderRefusal (IsCodeAt bytes) bytes h.codes.at) (other-decides h (no-value value a b z)))))

-- ---- the header before a place

-- the codes before a place, and the bytes that they stand in
pub record Film (bytes : List ℕ) (past : List Code) (at : ℕ) : Type 0 where
  pub read : List ℕ
  pub stop : ℕ
  pub same : Same bytes read
  pub knows : Knows (IsCodeAt bytes) past at
  pub headers : HeadersAre read stop past
  pub far : at ≤ stop

pub film-older : {bytes : List ℕ} {c : Code} {past : List Code} {at : ℕ} → Film bytes (c ∷ past) at
    → Film bytes past c.place
film-older {c} film = record {
  read = film.read;
  stop = c.place + 4;
  same = film.same;
  knows = older (known film.knows);
  headers = film.headers.1;
  far = omega arith;
}

header-fits : {bytes : List ℕ} {c : Code} {past : List Code} {at : ℕ} → Film bytes (c ∷ past) at → Fits bytes at c
header-fits film k small below = header-byte k film.same small (omega (arith, below, film.far)) film.headers.0

rate-known : {bytes : List ℕ} {past : List Code} {at : ℕ} → Film bytes past at → first_fault past ≡ None
    → latest_fault past at ≡ None → RateIs bytes at (first_rate past)
rate-known {past = []} film accepted judged =
    no_rate refl (λ place value has after before is. absurd (film.knows.back place value has before))
rate-known {bytes} {past = c ∷ past} {at} film accepted judged =
    let first = first_in c past in
    let has = first_in-has c past in
    let k = film.knows in
    let are : AreJudged film.read c past =
    record {
      end = at;
      stop = film.stop;
      accepted = accepted;
      judged = judged;
      far = film.far;
      headers = film.headers;
    } in
    let header = first_in-header are in
    its_rate (record {
      first = first.place;
      code = subst (λ m. IsCodeAt bytes first.place m) (first_in-value c past accepted)
          (k.there first.place first.value has);
      none = λ place value code after before is.
          omega (
            arith,
            before,
            first-least c past place value k.spaced
                (k.back place value code (omega (arith, before, k.below first.place first.value has))),
          );
      before = k.below first.place first.value has;
      is = first_in-rate c past accepted ∙ ap Some (rate-fits bytes header.stop first
          (λ k small below. header-byte k film.same small below header.is) (omega (arith, header.long)));
    })

pub latest-decides : {bytes : List ℕ} {past : List Code} {at : ℕ} → Film bytes past at → first_fault past ≡ None
    → Refused bytes at (latest_fault past at)
latest-decides {bytes} {past = []} {at} film accepted =
    let back = film.knows.back in
    none-of (HeaderRefusal (IsCodeAt bytes) bytes at)
    (neither (ShortAt bytes at) (Otherwise (BadRateAt bytes at) (BadTypeAt bytes at))
    (λ f p. back p.place p.value p.latest.code p.latest.before)
    (neither (BadRateAt bytes at) (BadTypeAt bytes at)
    (λ f p. back p.place 0xb3 p.latest.code p.latest.before)
    (λ f p. back p.place 0 p.latest.code p.latest.before)))
latest-decides {past = c ∷ past} film accepted =
    header-decides (record {
      codes = known film.knows;
      rate = first_rate past;
      fits = header-fits film;
      rate_is = rate-known (film-older film) (accepted-older c past accepted) (older-judged c past accepted);
    })
