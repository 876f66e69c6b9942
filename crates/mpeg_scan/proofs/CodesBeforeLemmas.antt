-- The codes before a place: its latest one, the latest unit's head and the picture in it, and the
-- pictures of a group.
use Rattle.std.proofs.Common.{ℕ, Bool, true, false, cond, eqb, ltb, leb, ◌&&◌, ◌||◌, ◌+◌, ◌<◌, ◌≤◌, ◌≡◌, ◌⊎◌, List, []}
use Rattle.std.proofs.Common.{◌∷◌, Option, Some, None, sym, ◌∙◌, ap, refl, subst, inl, inr, arith}
use Rattle.std.proofs.lemmas.Bool.{cases_Bool, cases_lt, eqb-true, eq-eqb, ltb-true, lt-ltb, leb-true, le-leb}
use Rattle.std.proofs.lemmas.Bool.{and_parts, and_from, false≢true, true≢false}
use Rattle.mpeg_scan.specs.declared.codes.Code.{Code}
use Rattle.mpeg_scan.specs.declared.tallies.Header.{Header}
use Rattle.mpeg_scan.specs.CodeFacts.{begins_unit, header_of, is_head, is_slice, latest_picture, slice_count}
use Rattle.mpeg_scan.specs.CodeFacts.{latest_unit}
use Rattle.mpeg_scan.specs.CodePlaces.{HasCode}
use Rattle.mpeg_scan.specs.StandardRefusals.{BeginsUnit, IsItsPicture, IsLatest, IsOpenHead, IsPicture}
use Rattle.mpeg_scan.specs.StandardUnits.{AnyValue, IsFirstCode, IsHeadValue, IsSliceValue, NoneIn, StandsThere}
use Rattle.mpeg_scan.proofs.PartTilingLemmas.{slice-apart}
use Rattle.mpeg_scan.proofs.CodeSpacingLemmas.{Spaced, all-below}

-- these are the codes that stand before a place, the latest first
pub record Knows (Has : ℕ → ℕ → Type 0) (past : List Code) (at : ℕ) : Type 0 where
  pub there : (place value : ℕ) → HasCode place value past → Has place value
  pub below : (place value : ℕ) → HasCode place value past → place < at
  pub back : (place value : ℕ) → Has place value → place < at → HasCode place value past
  pub spaced : Spaced past

-- the same where there is one: the latest code, and those before it
pub record CodesBefore (Has : ℕ → ℕ → Type 0) : Type 0 where
  pub latest : Code
  pub past : List Code
  pub at : ℕ
  pub knows : Knows Has (latest ∷ past) at

abbrev pub known : {Has : ℕ → ℕ → Type 0} {c : Code} {past : List Code} {at : ℕ} → Knows Has (c ∷ past) at
    → CodesBefore Has
known {c} {past} {at} k = record { latest = c; past = past; at = at; knows = k }

older-back : (c : Code) (past : List Code) (place value : ℕ) → place < c.place →
    HasCode place value (c ∷ past) → HasCode place value past
older-back c past place value before (inl new) = absurd (omega (arith, new.0, before))
older-back c past place value before (inr old) = old

pub has-new : {Has : ℕ → ℕ → Type 0} (s : CodesBefore Has) → Has s.latest.place s.latest.value
has-new s = s.knows.there s.latest.place s.latest.value (inl (refl, refl))

pub new-below : {Has : ℕ → ℕ → Type 0} (s : CodesBefore Has) → s.latest.place < s.at
new-below s = s.knows.below s.latest.place s.latest.value (inl (refl, refl))

pub older : {Has : ℕ → ℕ → Type 0} (s : CodesBefore Has) → Knows Has s.past s.latest.place
older s = record {
  there = λ place value has. s.knows.there place value (inr has);
  below = all-below s.past s.knows.spaced.1 s.knows.spaced.0;
  back = λ place value has before.
      older-back s.latest s.past place value before
      (s.knows.back place value has (omega (arith, before, new-below s)));
  spaced = s.knows.spaced.1;
}

-- a code before the place is the latest, or stands before that
pub data Where (c : Code) (place value : ℕ) : Type 0 where
  here : c.place ≡ place → c.value ≡ value → Where c place value
  earlier : place < c.place → Where c place value

where-by : {c : Code} {place value : ℕ} (past : List Code) → Spaced (c ∷ past) → HasCode place value (c ∷ past)
    → Where c place value
where-by past spaced (inl new) = here new.0 new.1
where-by {place} {value} past spaced (inr old) = earlier (all-below past spaced.1 spaced.0 place value old)

pub where-is : {Has : ℕ → ℕ → Type 0} (s : CodesBefore Has) {place value : ℕ} → Has place value → place < s.at
    → Where s.latest place value
where-is s {place} {value} has before = where-by s.past s.knows.spaced (s.knows.back place value has before)

-- none before the latest code, and that one isn't such: none
pub none-with : {Has : ℕ → ℕ → Type 0} {from : ℕ} {OfValue : ℕ → Type 0} (s : CodesBefore Has)
    → (OfValue s.latest.value → ⊥) → NoneIn Has from s.latest.place OfValue → NoneIn Has from s.at OfValue
none-with {OfValue} s other none place value has after before is =
    elim (where-is s has before) [
      | here e m ↦ other (subst OfValue (sym m) is)
      | earlier below ↦ none place value has after below is
    ]

-- the same from the latest code on
none-from : {Has : ℕ → ℕ → Type 0} (OfValue : ℕ → Type 0) (s : CodesBefore Has)
    → (OfValue s.latest.value → ⊥) → NoneIn Has s.latest.place s.at OfValue
none-from OfValue s other = none-with s other (λ place value has after before is. absurd (omega (arith, after, before)))

pub none-after : {Has : ℕ → ℕ → Type 0} (OfValue : ℕ → Type 0) (s : CodesBefore Has)
    → NoneIn Has (s.latest.place + 1) s.at OfValue
none-after OfValue s place value has after before is =
    elim (where-is s has before) [
      | here e m ↦ absurd (omega (arith, e, after))
      | earlier below ↦ absurd (omega (arith, below, after))
    ]

-- ---- the latest code

pub latest-new : {Has : ℕ → ℕ → Type 0} (s : CodesBefore Has) → IsLatest Has s.latest.place s.latest.value s.at
latest-new s = record { code = has-new s; before = new-below s; last = none-after AnyValue s }

pub latest-is : {Has : ℕ → ℕ → Type 0} (s : CodesBefore Has) {place value : ℕ} → IsLatest Has place value s.at
    → (s.latest.place ≡ place) × (s.latest.value ≡ value)
latest-is s l =
    elim (where-is s l.code l.before) [
      | here e m ↦ (e, m)
      | earlier below ↦ absurd
          (l.last s.latest.place s.latest.value (has-new s) (omega (arith, below)) (new-below s) tt)
    ]

-- ---- values

pub slice-value : (value : ℕ) → is_slice value ≡ true → IsSliceValue value
slice-value value e = let parts =
    and_parts (leb 1 value) (leb value 0xaf) e in
    (leb-true 1 value parts.0, leb-true value 0xaf parts.1)

pub value-slice : (value : ℕ) → IsSliceValue value → is_slice value ≡ true
value-slice value is = and_from (leb 1 value) (leb value 0xaf) (le-leb 1 value is.0) (le-leb value 0xaf is.1)

pub any-true : (a b d : Bool) → (a || (b || d)) ≡ true → (a ≡ true) ⊎ ((b ≡ true) ⊎ (d ≡ true))
any-true true b d is = inl refl
any-true false true d is = inr (inl refl)
any-true false false d is = inr (inr is)

pub head-value : (value : ℕ) → is_head value ≡ true → IsHeadValue value
head-value value e = elim (any-true (eqb value 0) (eqb value 0xb3) (eqb value 0xb8) e) [
  | inl a ↦ inl (eqb-true value 0 a)
  | inr other ↦ elim other [
    | inl b ↦ inr (inl (eqb-true value 0xb3 b))
    | inr d ↦ inr (inr (eqb-true value 0xb8 d))
  ]
]

pub value-head : (value : ℕ) → IsHeadValue value → is_head value ≡ true
value-head value (inl e) = ap is_head e
value-head value (inr (inl e)) = ap is_head e
value-head value (inr (inr e)) = ap is_head e

pub no-slice : (value : ℕ) → is_slice value ≡ false → IsSliceValue value → ⊥
no-slice value e is = false≢true (sym e ∙ value-slice value is)

pub no-head : (value : ℕ) → is_head value ≡ false → IsHeadValue value → ⊥
no-head value e is = false≢true (sym e ∙ value-head value is)

-- ---- a slice, after which no head stands

pub record HasSlice (Has : ℕ → ℕ → Type 0) (at : ℕ) : Type 0 where
  pub place : ℕ
  pub code : StandsThere Has place IsSliceValue
  pub before : place < at
  pub none : NoneIn Has place at IsHeadValue

slices-some : (h s : Bool) (n : ℕ) → 0 < cond h 0 (cond s (n + 1) n) → (h ≡ false) × ((s ≡ true) ⊎ (0 < n))
slices-some true s n some = absurd (omega (arith, some))
slices-some false true n some = (refl, inl refl)
slices-some false false n some = (refl, inr some)

pub slice-there : {Has : ℕ → ℕ → Type 0} {past : List Code} {at : ℕ} → Knows Has past at → 0 < slice_count past
    → HasSlice Has at
slice-there {past = []} k some = absurd (omega (arith, some))
slice-there {past = c ∷ past} k some =
    let s = known k in
    let is = slices-some (is_head c.value) (is_slice c.value) (slice_count past) some in
    elim is.1 [
      | inl slice ↦ record {
        place = c.place;
        code = (c.value, (has-new s, slice-value c.value slice));
        before = new-below s;
        none = none-from IsHeadValue s (no-head c.value is.0);
      }
      | inr older_some ↦ (let it = slice-there (older s) older_some in record {
        place = it.place;
        code = it.code;
        before = omega (arith, it.before, new-below s);
        none = none-with s (no-head c.value is.0) it.none;
      })
    ]

-- ---- the latest unit's head

pub not-open : {Has : ℕ → ℕ → Type 0} {unit at : ℕ} → HasSlice Has at → IsOpenHead Has unit at → ⊥
not-open {unit} s o = elim (cases_lt s.place unit) [
  | inl far ↦ elim o.begins [
    | inl first ↦ absurd (omega (arith, far, first.1 s.place s.code.0 s.code.1.0))
    | inr it ↦ s.none unit it.0.0 it.0.1.0 (omega (arith, far)) o.before it.0.1.1
  ]
  | inr near ↦ o.no_slice s.place s.code.0 s.code.1.0 near s.before s.code.1.1
]

begins-stands : (Has : ℕ → ℕ → Type 0) (u : ℕ) → BeginsUnit Has u → StandsThere Has u AnyValue
begins-stands Has u (inl first) = first.0
begins-stands Has u (inr it) = (it.0.0, (it.0.1.0, tt))

-- no unit begins after an open head
heads-order : {Has : ℕ → ℕ → Type 0} {u v at : ℕ} → IsOpenHead Has u at → IsOpenHead Has v at → v ≤ u
heads-order {Has} {u} {v} one other = elim (cases_lt u v) [
  | inl less ↦ elim other.begins [
    | inl first ↦
        absurd (let has = begins-stands Has u one.begins in omega (arith, less, first.1 u has.0 has.1.0))
    | inr it ↦
        absurd (not-open {unit = u} {at = v}
        (record { place = it.1.0; code = it.1.1.0.0; before = it.1.1.0.1; none = it.1.1.1 })
        (record {
          begins = one.begins;
          before = less;
          no_slice = λ place value has after before is.
              one.no_slice place value has after (omega (arith, before, other.before)) is;
        }))
  ]
  | inr more ↦ more
]

pub one-head : {Has : ℕ → ℕ → Type 0} {u v at : ℕ} → IsOpenHead Has u at → IsOpenHead Has v at → u ≡ v
one-head one other = omega (arith, heads-order one other, heads-order other one)

none-left : (h s : Bool) (n : ℕ) → cond h 0 (cond s (n + 1) n) ≡ 0 → h ≡ false → (s ≡ false)
    × (n ≡ 0)
none-left true s n e is = absurd (true≢false is)
none-left false true n e is = absurd (omega (arith, e))
none-left false false n e is = (refl, e)

left-zero : (h s : Bool) (n : ℕ) → cond h 0 (cond s (n + 1) n) ≡ 0 → (h && ltb 0 n) ≡ false → n ≡ 0
left-zero true s n e b = elim (cases_lt 0 n) [
  | inl some ↦ absurd (true≢false (sym (lt-ltb 0 n some) ∙ b))
  | inr none ↦ omega (arith, none)
]
left-zero false s n e b = (none-left false s n e refl).1

not-slice : (value n : ℕ) → cond (is_head value) 0 (cond (is_slice value) (n + 1) n) ≡ 0 → IsSliceValue value → ⊥
not-slice value n e is =
    let slice = value-slice value is in
    false≢true (sym (none-left (is_head value) (is_slice value) n e (slice-apart value slice)).0 ∙ slice)

-- a code that isn't a slice leaves a head open
open-with : {Has : ℕ → ℕ → Type 0} {unit : ℕ} (s : CodesBefore Has) → (IsSliceValue s.latest.value → ⊥)
    → IsOpenHead Has unit s.latest.place → IsOpenHead Has unit s.at
open-with s other o = record {
  begins = o.begins;
  before = omega (arith, o.before, new-below s);
  no_slice = none-with s other o.no_slice;
}

-- a code that begins a unit
open-new : {Has : ℕ → ℕ → Type 0} (s : CodesBefore Has) → (IsSliceValue s.latest.value → ⊥)
    → BeginsUnit Has s.latest.place → IsOpenHead Has s.latest.place s.at
open-new s other begins = record { begins = begins; before = new-below s; no_slice = none-from IsSliceValue s other }

-- the first code
firsts : {Has : ℕ → ℕ → Type 0} {c : Code} {at : ℕ} → Knows Has (c ∷ []) at → IsFirstCode Has c.place
firsts {c} k place value has = elim (cases_lt place c.place) [
  | inl before ↦ absurd
      (older-back c [] place value before (k.back place value has (omega (arith, before, new-below (known k)))))
  | inr after ↦ after
]

pub open-head : {Has : ℕ → ℕ → Type 0} {c : Code} {past : List Code} {at : ℕ} → Knows Has (c ∷ past) at
    → slice_count (c ∷ past) ≡ 0 → IsOpenHead Has (latest_unit (c ∷ past)) at
open-head {c} {past = []} k none =
    open-new (known k) (not-slice c.value 0 none) (inl ((c.value, (has-new (known k), tt)), firsts k))
open-head {Has} {c} {past = d ∷ past} {at} k none =
    let s = known k in
    let n = slice_count (d ∷ past) in
    let Open = λ (b : Bool). IsOpenHead Has (cond b c.place (latest_unit (d ∷ past))) at in
    elim (cases_Bool (is_head c.value && ltb 0 n)) [
      | inl e ↦
          (let parts = and_parts (is_head c.value) (ltb 0 n) e in
          let slice = slice-there (older s) (ltb-true 0 n parts.1) in
          subst Open (sym e) (open-new s (not-slice c.value n none)
          (inr (
            (c.value, (has-new s, head-value c.value parts.0)),
            (slice.place, ((slice.code, slice.before), slice.none)),
          ))))
      | inr e ↦
          subst Open (sym e) (open-with s (not-slice c.value n none)
          (open-head (older s) (left-zero (is_head c.value) (is_slice c.value) n none e)))
    ]

-- ---- the picture in the latest unit's head

abbrev pub PictureThere : (ℕ → ℕ → Type 0) → ℕ → ℕ → Option Header → Type 0
PictureThere Has unit at None = NoneIn Has unit at IsPicture
PictureThere Has unit at (Some h) = IsItsPicture Has unit h.place at

picture-with : {Has : ℕ → ℕ → Type 0} (unit : ℕ) (s : CodesBefore Has) (o : Option Header)
    → (s.latest.value ≡ 0 → ⊥) → PictureThere Has unit s.latest.place o → PictureThere Has unit s.at o
picture-with unit s None other none = none-with s other none
picture-with unit s (Some h) other p = record {
  code = p.code;
  after = p.after;
  before = omega (arith, p.before, new-below s);
  last = none-with s other p.last;
}

picture-here : {Has : ℕ → ℕ → Type 0} {unit : ℕ} (s : CodesBefore Has) → eqb s.latest.value 0 ≡ true
    → unit ≤ s.latest.place → IsItsPicture Has unit s.latest.place s.at
picture-here {Has} s is low = record {
  code = subst (λ m. Has s.latest.place m) (eqb-true s.latest.value 0 is) (has-new s);
  after = low;
  before = new-below s;
  last = none-after IsPicture s;
}

-- the picture of a unit that begins with the latest code, or has begun before it
picture-by : {Has : ℕ → ℕ → Type 0} (unit : ℕ) (s : CodesBefore Has) (b : Bool) (o : Option Header)
    → (b ≡ false → PictureThere Has unit s.latest.place o × (unit ≤ s.latest.place))
    → PictureThere Has (cond b s.latest.place unit) s.at
    (cond (eqb s.latest.value 0) (Some (header_of s.latest)) (cond b None o))
picture-by {Has} unit s b o before =
    let There = λ (z : Bool). PictureThere Has (cond b s.latest.place unit) s.at
    (cond z (Some (header_of s.latest)) (cond b None o)) in
    elim (cases_Bool (eqb s.latest.value 0)) [
      | inl is ↦ subst There (sym is) (picture-here s is (low b (λ e. (before e).1)))
      | inr is ↦ subst There (sym is) (old b before (λ e. false≢true (sym is ∙ eq-eqb s.latest.value 0 e)))
    ]
  where
    low : (b : Bool) → (b ≡ false → unit ≤ s.latest.place) → cond b s.latest.place unit ≤ s.latest.place
    low true begun = omega arith
    low false begun = begun refl

    old : (b : Bool) → (b ≡ false → PictureThere Has unit s.latest.place o × (unit ≤ s.latest.place))
        → (s.latest.value ≡ 0 → ⊥) → PictureThere Has (cond b s.latest.place unit) s.at (cond b None o)
    old true begun other = none-from IsPicture s other
    old false begun other = picture-with unit s o other (begun refl).0

unit-below-by : (b : Bool) (m n at : ℕ) → m < at → n < at → cond b m n < at
unit-below-by true m n at one other = one
unit-below-by false m n at one other = other

unit-below : {Has : ℕ → ℕ → Type 0} {c : Code} {past : List Code} {at : ℕ} → Knows Has (c ∷ past) at
    → latest_unit (c ∷ past) < at
unit-below {past = []} k = new-below (known k)
unit-below {c} {past = d ∷ past} {at} k =
    let below = new-below (known k) in
    unit-below-by (begins_unit c (d ∷ past)) c.place (latest_unit (d ∷ past)) at below
    (omega (arith, below, unit-below (older (known k))))

pub picture-there : {Has : ℕ → ℕ → Type 0} {c : Code} {past : List Code} {at : ℕ} → Knows Has (c ∷ past) at
    → PictureThere Has (latest_unit (c ∷ past)) at (latest_picture (c ∷ past))
picture-there {past = []} k = picture-by 0 (known k) true None (λ e. absurd (true≢false e))
picture-there {c} {past = d ∷ past} k =
    let before = older (known k) in
    picture-by (latest_unit (d ∷ past)) (known k) (begins_unit c (d ∷ past)) (latest_picture (d ∷ past))
    (λ _. (picture-there before, omega (arith, unit-below before)))

-- a head has one latest picture
pub one-picture : {Has : ℕ → ℕ → Type 0} {unit at : ℕ} (p q : (place : ℕ) × IsItsPicture Has unit place at)
    → p.0 ≡ q.0
one-picture p q = elim (cases_lt p.0 q.0) [
  | inl less ↦ absurd (p.1.last q.0 0 q.1.code (omega (arith, less)) q.1.before refl)
  | inr more ↦ elim (cases_lt q.0 p.0) [
    | inl less ↦ absurd (q.1.last p.0 0 p.1.code (omega (arith, less)) p.1.before refl)
    | inr same ↦ omega (arith, more, same)
  ]
]
