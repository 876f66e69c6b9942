-- The units that have ended are those of the standard's words, over the codes that came.
use Rattle.std.proofs.Common.{ℕ, zero, suc, Bool, true, false, cond, eqb, ltb, ◌&&◌, ◌||◌, ◌+◌, ◌-◌, ◌<◌, ◌≤◌, ◌≡◌, ◌⊎◌}
use Rattle.std.proofs.Common.{◌↔◌, List, [], ◌∷◌, ◌++◌, Option, Some, None, sym, ◌∙◌, ap, refl, subst, inl, inr, arith}
use Rattle.std.specs.Prelude.{unwrap_or}
use Rattle.std.specs.Option.{is_some}
use Rattle.std.proofs.lemmas.Bool.{cases_lt, ltb-true, false≢true}
use Rattle.mpeg_scan.specs.declared.codes.Code.{Code}
use Rattle.mpeg_scan.specs.declared.tallies.Header.{Header}
use Rattle.mpeg_scan.specs.declared.units.Unit.{Unit as PictureUnit}
use Rattle.mpeg_scan.specs.CodeFacts.{film_slice_count, has_sequence, head_end_of, header_of, is_head}
use Rattle.mpeg_scan.specs.CodeFacts.{is_slice, kind_of, latest_picture, slice_count, starts_group, tally_of}
use Rattle.mpeg_scan.specs.CodeFacts.{temporal_of, type_of, latest_unit, vectors_of}
use Rattle.mpeg_scan.specs.FilmFaults.{end_fault, first_fault, last_fault, latest_fault}
use Rattle.mpeg_scan.specs.Calls.{Call, head_call, slice_call, calls_at, no_header, calls_of, unit_at, unit_end}
use Rattle.mpeg_scan.specs.Layout.{OfUnit}
use Rattle.mpeg_scan.specs.Films.{units_in}
use Rattle.mpeg_scan.specs.CodePlaces.{HasCode}
use Rattle.mpeg_scan.specs.StandardUnits.{Counts, HasPicture, IsFirstCode, IsHeadValue, IsSliceValue, StandsIn, UnitIs}
use Rattle.mpeg_scan.proofs.ScanStepLemmas.{accepted-older, code-accepted, otherwise-second, calls-cons}
use Rattle.mpeg_scan.proofs.PartTilingLemmas.{CodeEnds, ended-none, first-is, first_slice-accepted, raw_calls}
use Rattle.mpeg_scan.proofs.PartTilingLemmas.{slice-apart, calls-nil, ends_at}
use Rattle.mpeg_scan.proofs.CodeSpacingLemmas.{After, Spaced, all-below}
use Rattle.mpeg_scan.proofs.UnitNumberingLemmas.{first-some, second-accepted, second-none}
use Rattle.mpeg_scan.proofs.FilmLemmas.{units_in-append}
use Rattle.mpeg_scan.proofs.LatestUnitLemmas.{Below, GroupFlag, Member, NoneFrom, Open, PictureIs}
use Rattle.mpeg_scan.proofs.LatestUnitLemmas.{Pictured, first-code, member-has, step-open}
use Rattle.mpeg_scan.proofs.CodesBeforeLemmas.{Knows}
use Rattle.mpeg_scan.proofs.CodeCountLemmas.{all-slices, few-slices, own-slices, unit-same}

-- ---- the latest unit, code by code

abbrev OpenOf : List Code → Type 0
OpenOf past = Open past (record {
  from = latest_unit past;
  head_end = head_end_of past;
  slices = slice_count past;
  picture = latest_picture past;
  sequence = has_sequence past;
  group = starts_group past;
})

open-three : (c : Code) → c.value ≡ 0xb3 → OpenOf (c ∷ [])
open-three c is =
    subst (λ m. Open (c ∷ []) (record {
      from = c.place;
      head_end = cond (is_slice m && eqb 0 0) c.place (cond (is_head m) 0 0);
      slices = cond (is_head m) 0 (cond (is_slice m) (0 + 1) 0);
      picture = cond (eqb m 0) (Some (header_of c)) None;
      sequence = cond (eqb m 0xb3) true false;
      group = cond (eqb m 0xb8 || true) true false;
    })) (sym is) (first-code c is)

open-first : (c : Code) → first_fault (c ∷ []) ≡ None → OpenOf (c ∷ [])
open-first c accepted = open-three c (first-is c accepted)

open-codes : (c : Code) (past : List Code) → first_fault (c ∷ past) ≡ None → Spaced (c ∷ past) → OpenOf (c ∷ past)
open-codes c [] accepted spaced = open-first c accepted
open-codes c (d ∷ past) accepted spaced =
    let older : List Code = d ∷ past in
    let t = tally_of older in
    let fault = code-accepted c older accepted in
    step-open (record { code = c; past = older; below = all-below older spaced.1 spaced.0 })
    (λ head none. second-none t c.value (second-accepted t c.place c.value fault) head none)
    (λ slice none. first-some t c.place c.value (first_slice-accepted t c.place c.value fault) slice none)
    (open-codes d past (accepted-older c older accepted) spaced.1)

-- ---- a unit that has ended

-- the fields of a picture, from its code
pub record CodeFields (past : List Code) (place : ℕ) (unit : PictureUnit) : Type 0 where
  pub code : Code
  pub member : Member code past
  pub zero_is : code.value ≡ 0
  pub place_is : code.place ≡ place
  pub temporal : unit.temporal ≡ temporal_of code
  pub kind : unit.kind ≡ kind_of (type_of code)
  pub vectors : unit.vectors ≡ vectors_of code

abbrev pub Has : List Code → ℕ → ℕ → Type 0
Has past place value = HasCode place value past

pub record Closed (past : List Code) (unit : PictureUnit) : Type 0 where
  pub unit_is : UnitIs (Has past) (CodeFields past) unit
  pub head_some : unit.from < unit.head_end
  pub rest_some : unit.head_end < unit.to

-- a code of a head that stands where a unit begins or later stands in the unit's head
in-head : {value : ℕ} (past : List Code) (unit : PictureUnit)
    → NoneFrom past unit.head_end IsHeadValue → IsHeadValue value
    → (place : ℕ) × (HasCode place value past × (unit.from ≤ place))
    → StandsIn (Has past) unit.from unit.head_end value
in-head {value} past unit ends is it = record {
  place = it.0;
  code = it.1.0;
  after = it.1.1;
  before = elim (cases_lt it.0 unit.head_end) [
    | inl before ↦ before
    | inr after ↦ absurd (ends it.0 value it.1.0 after is)
  ];
}

some-picture : (past : List Code) (from : ℕ) (o : Option Header) → is_some o ≡ true
    → PictureIs past from o → Pictured past from (unwrap_or o no_header)
some-picture past from None e is = absurd (false≢true e)
some-picture past from (Some h) e is = is

-- the picture of the latest unit
open-picture : {past : List Code} (to : ℕ) → OpenOf past → 0 < slice_count past
    → HasPicture (Has past) (CodeFields past) (unit_at (tally_of past) to)
unfolding in-head
open-picture {past} to open_ some =
    let is = some-picture past (latest_unit past) (latest_picture past) (open_.some some) open_.picture_is in
    let has = subst (λ k. HasCode is.code.place k past) is.value (member-has is.code past is.member) in
    record {
      place = is.code.place;
      code = has;
      after = is.after;
      before = (in-head past (unit_at (tally_of past) to) (open_.sliced some) (inl refl)
          (is.code.place, (has, is.after))).before;
      only = λ other has after before. is.only other has after;
      last = λ place value has after before head. is.last place value has after head;
      fields = record {
        code = is.code;
        member = is.member;
        zero_is = is.value;
        place_is = refl;
        temporal = ap (λ (v : Header). v.temporal) is.header;
        kind = ap (λ (v : Header). v.kind) is.header;
        vectors = ap (λ (v : Header). v.vectors) is.header;
      };
    }

-- its slices, up to a place that all codes stand before
open-slices : {past : List Code} {to : ℕ} → Knows (Has past) past to → OpenOf past
    → 0 < slice_count past → Counts (Has past) IsSliceValue (head_end_of past) to (slice_count past)
open-slices {past} k open_ some =
    let from = latest_unit past in
    let begins = open_.begins in
    own-slices k (λ place value has after before is. open_.sliced some place value has after is)
    (λ low none place slice far before. elim (cases_lt place (head_end_of past)) [
      | inl less ↦ elim (cases_lt from low) [
        | inl after ↦ absurd (open_.head some place slice.0 slice.1.0 (omega (arith, after, far)) less slice.1.1)
        | inr older ↦ absurd (none from begins.0 begins.1.0 older (k.below from begins.0 begins.1.0) begins.1.1)
      ]
      | inr more ↦ more
    ])

-- a unit starts a group: no code stands before it, or a group header stands in its head
group-flagged : (past : List Code) (unit : PictureUnit) → NoneFrom past unit.head_end IsHeadValue
    → GroupFlag past unit.from unit.starts_group → (unit.starts_group ≡ true)
    ↔ (IsFirstCode (Has past) unit.from ⊎ StandsIn (Has past) unit.from unit.head_end 0xb8)
group-flagged past unit ends group = (
  λ e. elim (group.there e) [
    | inl firsts ↦ inl firsts
    | inr it ↦ inr (in-head past unit ends (inr (inr refl)) it)
  ],
  λ either. elim either [
    | inl firsts ↦ group.first firsts
    | inr it ↦ group.set it.place it.code it.after
  ],
)

close : (past : List Code) (to : ℕ) → OpenOf past → Spaced past → 0 < slice_count past
    → ((place value : ℕ) → HasCode place value past → place < to) → Closed past (unit_at (tally_of past) to)
close past to open_ spaced some below =
    let unit = unit_at (tally_of past) to in
    let k : Knows (Has past) past to =
    record { there = λ place value has. has; below = below; back = λ place value has before. has; spaced = spaced } in
    let count : film_slice_count past ≡ film_slice_count past - slice_count past + slice_count past =
    omega (arith, few-slices past) in
    let ends = open_.sliced some in
    let first = open_.head_ends some in
    let rest = below (head_end_of past) first.0 first.1.0 in
    record {
      unit_is = record {
        begins = open_.begins;
        head = open_.head some;
        head_ends = first;
        rest = rest;
        own = open-slices k open_ some;
        all = subst (λ n. Counts (Has past) IsSliceValue 0 to n) count (all-slices k);
        slices = λ place value has after before is. ends place value has after is;
        picture = open-picture to open_ some;
        sequence = (
          λ e. in-head past unit ends (inr (inl refl)) (open_.sequence_is.there e),
          λ it. open_.sequence_is.set it.place it.code it.after,
        );
        group = group-flagged past unit ends open_.group_is;
      };
      head_some = open_.order some;
      rest_some = rest;
    }

-- ---- it stays so as codes come

closed-grows : (c : Code) (past : List Code) (unit : PictureUnit) → unit.to ≤ c.place → Closed past unit
    → Closed (c ∷ past) unit
closed-grows c past unit far closed =
    record {
      unit_is = unit-same (λ place value before. (
        λ has. inr has,
        λ has. elim has [
          | inl new ↦ absurd (omega (arith, new.0, far, before))
          | inr old ↦ old
        ],
      ))
          (λ place f. record {
            code = f.code;
            member = inr f.member;
            zero_is = f.zero_is;
            place_is = f.place_is;
            temporal = f.temporal;
            kind = f.kind;
            vectors = f.vectors;
          }) closed.unit_is;
      head_some = closed.head_some;
      rest_some = closed.rest_some;
    }

-- ---- all units

abbrev pub AllClosed : List Code → ℕ → List PictureUnit → Type 0
AllClosed past at [] = Unit {0}
AllClosed past at (unit ∷ units) = (Closed past unit × (unit.to ≤ at)) × AllClosed past at units

all-grow : (c : Code) (past : List Code) (at : ℕ) (units : List PictureUnit) → at ≤ c.place
    → AllClosed past at units → AllClosed (c ∷ past) c.place units
all-grow c past at [] far all = tt
all-grow c past at (unit ∷ units) far all = (
  (closed-grows c past unit (omega (arith, far, all.0.1)) all.0.0, omega (arith, far, all.0.1)),
  all-grow c past at units far all.1,
)

all-append : (past : List Code) (at : ℕ) (xs ys : List PictureUnit) → AllClosed past at xs
    → AllClosed past at ys → AllClosed past at (xs ++ ys)
all-append past at [] ys one other = other
all-append past at (x ∷ xs) ys one other = (one.0, all-append past at xs ys one.1 other)

all-later : (past : List Code) (at to : ℕ) (units : List PictureUnit) → at ≤ to → AllClosed past at units
    → AllClosed past to units
all-later past at to [] far all = tt
all-later past at to (unit ∷ units) far all =
    ((all.0.0, omega (arith, far, all.0.1)), all-later past at to units far all.1)

pub all-at : {past : List Code} (at : ℕ) (units : List PictureUnit) (k : ℕ) → AllClosed past at units
    → OfUnit units k (λ u. Closed past u)
all-at at [] k all unit is = cc
all-at {past} at (u ∷ units) zero all unit is =
    let same : u ≡ unit = cc in subst (λ (v : PictureUnit). Closed past v) same all.0.0
all-at {past} at (u ∷ units) (suc k) all unit is = all-at {past = past} at units k all.1 unit is

-- the unit that ends at a code, by tests: s, h: it is a slice, a head code; q, e: there were slices, there were none
closed-call : {s h q : Bool} {c : Code} {past : List Code} (e : Bool) (here : CodeEnds) → (s ≡ true → h ≡ false)
    → (h ≡ true → q ≡ true → Closed (c ∷ past) here.ended × (here.ended.to ≤ c.place))
    → AllClosed (c ∷ past) c.place (units_in (raw_calls s h q e here))
closed-call {s = true} {h} {c} true here apart closed = tt
closed-call {s = true} {h} {c} false here apart closed = tt
closed-call {s = false} {h = true} {q = true} {c} e here apart closed = (closed refl refl, tt)
closed-call {s = false} {h = true} {q = false} {c} e here apart closed = tt
closed-call {s = false} {h = false} {c} e here apart closed = tt

closed-step : (c d : Code) (past : List Code) → OpenOf (d ∷ past) → Spaced (d ∷ past) → Below c (d ∷ past)
    → AllClosed (c ∷ (d ∷ past)) c.place (units_in (calls_at (tally_of (d ∷ past)) c.place c.value))
unfolding calls_at
closed-step c d past open_ spaced below =
    let older : List Code = d ∷ past in
    let t = tally_of older in
    let unit = unit_at t c.place in
    closed-call (eqb (slice_count older) 0) (ends_at t c.place) (slice-apart c.value)
    (λ head some. (
      closed-grows c older unit (omega arith)
          (close older c.place open_ spaced (ltb-true 0 (slice_count older) some) below),
      omega arith,
    ))

closed-first : (c : Code) → c.value ≡ 0xb3
    → AllClosed (c ∷ []) c.place (units_in (calls_at (tally_of []) c.place c.value))
unfolding calls_at
closed-first c is =
    subst (λ m. AllClosed (c ∷ []) c.place
    (units_in (cond (is_slice m) (cond (eqb 0 0) (head_call 0 c.place ∷ []) (slice_call 0 c.place ∷ []))
    (cond (is_head m && ltb 0 0) (unit_end (tally_of []) c.place) [])))) (sym is) tt

calls-closed : (c : Code) (past : List Code) → first_fault (c ∷ past) ≡ None → Spaced (c ∷ past)
    → AllClosed (c ∷ past) c.place (units_in (calls_of (c ∷ past)))
calls-closed c [] accepted spaced =
    subst (λ (l : List Call). AllClosed (c ∷ []) c.place (units_in l))
    (sym (calls-cons c [] ∙ ap (λ (l : List Call). l ++ calls_at (tally_of []) c.place c.value) calls-nil))
    (closed-first c (first-is c accepted))
calls-closed c (d ∷ past) accepted spaced =
    let older : List Code = d ∷ past in
    let calls = calls_at (tally_of older) c.place c.value in
    let below = all-below older spaced.1 spaced.0 in
    let before = calls-closed d past (accepted-older c older accepted) spaced.1 in
    subst (λ (l : List PictureUnit). AllClosed (c ∷ older) c.place l)
    (sym (ap units_in (calls-cons c older) ∙ units_in-append (calls_of older) calls))
    (all-append (c ∷ older) c.place (units_in (calls_of older)) (units_in calls)
    (all-grow c older d.place (units_in (calls_of older))
    (omega (arith, below d.place d.value (inl (refl, refl)))) before)
    (closed-step c d past (open-codes d past (accepted-older c older accepted) spaced.1) spaced.1 below))

pub whole-closed : (past : List Code) (n : ℕ) → first_fault past ≡ None → end_fault past n ≡ None → Spaced past
    → After n past → AllClosed past n (units_in (calls_of past ++ unit_end (tally_of past) n))
unfolding end_fault
whole-closed [] n accepted ended spaced after = absurd (omega (arith, ended-none (tally_of []) ended))
whole-closed (c ∷ past) n accepted ended spaced after =
    let all : List Code = c ∷ past in
    let some = ended-none (tally_of all) (otherwise-second (latest_fault all n) (last_fault (tally_of all)) ended) in
    let below = all-below all spaced after in
    let last : AllClosed all n (units_in (unit_end (tally_of all) n)) =
    ((close all n (open-codes c past accepted spaced) spaced some below, omega arith), tt) in
    subst (λ (l : List PictureUnit). AllClosed all n l)
    (sym (units_in-append (calls_of all) (unit_end (tally_of all) n)))
    (all-append all n (units_in (calls_of all)) (units_in (unit_end (tally_of all) n))
    (all-later all c.place n (units_in (calls_of all))
    (omega (arith, below c.place c.value (inl (refl, refl)))) (calls-closed c past accepted spaced)) last)
