-- How many codes of a value stand before a place, from the latest code of another value on.
use Rattle.std.proofs.Common.{ℕ, suc, Bool, true, false, cond, eqb, ◌+◌, ◌<◌, ◌≤◌, ◌≡◌, ◌⊎◌, ◌↔◌}
use Rattle.std.proofs.Common.{List, [], ◌∷◌, length, sym, ◌∙◌, ap, refl, subst, inl, inr, arith}
use Rattle.std.proofs.lemmas.Bool.{cases_Bool, cases_lt, eqb-true, eq-eqb, ne_eqb, false≢true, true≢false}
use Rattle.mpeg_scan.specs.declared.codes.Code.{Code}
use Rattle.mpeg_scan.specs.CodeFacts.{film_slice_count, before_group_of, is_head, is_slice, picture_count, slice_count}
use Rattle.mpeg_scan.specs.StandardRefusals.{IsPicture}
use Rattle.mpeg_scan.specs.declared.units.Unit.{Unit as PictureUnit}
use Rattle.mpeg_scan.specs.StandardUnits.{AreCodes, Counts, IsFirstCode, IsHeadValue, IsSliceValue}
use Rattle.mpeg_scan.specs.StandardUnits.{NoneIn, StandsIn, StandsThere, UnitIs}
use Rattle.mpeg_scan.proofs.PartTilingLemmas.{slice-apart}
use Rattle.mpeg_scan.proofs.CodesBeforeLemmas.{Knows, known, earlier, has-new, head-value, here, value-head}
use Rattle.mpeg_scan.proofs.CodesBeforeLemmas.{value-slice, new-below, none-after, none-with, older}
use Rattle.mpeg_scan.proofs.CodesBeforeLemmas.{slice-value, where-is}

-- ---- the codes of a value after the latest code of another

-- the test on a value, and that on a value which ends the count
pub record Tests (OfValue : ℕ → Type 0) : Type 0 where
  pub counts : ℕ → Bool
  pub ends : ℕ → Bool
  pub yes : (value : ℕ) → counts value ≡ true → OfValue value
  pub is : (value : ℕ) → OfValue value → counts value ≡ true
  pub apart : (value : ℕ) → counts value ≡ true → ends value ≡ false

abbrev pub since : {OfValue : ℕ → Type 0} → Tests OfValue → List Code → ℕ
since tests [] = 0
since tests (c ∷ past) =
    cond (tests.counts c.value) (since tests past + 1) (cond (tests.ends c.value) 0 (since tests past))

abbrev pub Ends : (ℕ → Bool) → ℕ → Type 0
Ends ends value = ends value ≡ true

-- codes that are counted, and none after the first of them that ends the count
pub record Since (Has : ℕ → ℕ → Type 0) (OfValue : ℕ → Type 0) (ends : ℕ → Bool) (at : ℕ) : Type 0 where
  pub from : ℕ
  pub places : List ℕ
  pub are : AreCodes Has OfValue from at places
  pub none : NoneIn Has from at (Ends ends)

pub record SoMany (Has : ℕ → ℕ → Type 0) (OfValue : ℕ → Type 0) (ends : ℕ → Bool) (at count : ℕ) : Type 0 where
  pub codes : Since Has OfValue ends at
  pub low : codes.from ≤ at
  pub long : length codes.places ≡ count

-- codes of one list between two places are codes of another between two others
codes-among : {A B : ℕ → ℕ → Type 0} {OfValue : ℕ → Type 0} {from low to end : ℕ} (places : List ℕ)
    → ((place : ℕ) → StandsThere A place OfValue → from ≤ place → place < to
    → StandsThere B place OfValue × ((low ≤ place) × (place < end)))
    → AreCodes A OfValue from to places → AreCodes B OfValue low end places
codes-among [] same are = tt
codes-among {A} {B} {OfValue} {from} {low} {to} (p ∷ places) same are = (
  same p are.0.0 are.0.1.0 are.0.1.1,
  codes-among {A = A} {B = B} {from = from} {low = low} {to = p} {end = p} places (λ place has far before.
      (let it = same place has far (omega (arith, before, are.0.1.1)) in (it.0, (it.1.0, before)))) are.1,
)

pub codes-since : {Has : ℕ → ℕ → Type 0} {OfValue : ℕ → Type 0} {past : List Code} {at : ℕ} (tests : Tests OfValue)
    → Knows Has past at → SoMany Has OfValue tests.ends at (since tests past)
codes-since {past = []} tests k = record {
  codes = record {
    from = 0;
    places = [];
    are = tt;
    none = λ place value has after before is. absurd (k.back place value has before);
  };
  low = omega arith;
  long = refl;
}
codes-since {Has} {OfValue} {past = c ∷ past} {at} tests k =
    let s = known k in
    let below = new-below s in
    let it = codes-since tests (older s) in
    let n = since tests past in
    let More = λ (z b : Bool). SoMany Has OfValue tests.ends at (cond z (n + 1) (cond b 0 n)) in
    elim (cases_Bool (tests.counts c.value)) [
      | inl is ↦ subst (λ z. More z (tests.ends c.value)) (sym is) (record {
        codes = record {
          from = it.codes.from;
          places = c.place ∷ it.codes.places;
          are = (((c.value, (has-new s, tests.yes c.value is)), (it.low, below)), it.codes.are);
          none = none-with s (λ e. true≢false (sym e ∙ tests.apart c.value is)) it.codes.none;
        };
        low = omega (arith, it.low, below);
        long = omega (arith, it.long);
      })
      | inr is ↦ subst (λ z. More z (tests.ends c.value)) (sym is) (elim (cases_Bool (tests.ends c.value)) [
        | inl end ↦ subst (λ b. More false b) (sym end) (record {
          codes = record { from = c.place + 1; places = []; are = tt; none = none-after (Ends tests.ends) s };
          low = omega (arith, below);
          long = refl;
        })
        | inr end ↦ subst (λ b. More false b) (sym end) (record {
          codes = record {
            from = it.codes.from;
            places = it.codes.places;
            are = codes-among it.codes.places
                (λ place has far before. (has, (far, omega (arith, before, below)))) it.codes.are;
            none = none-with s (λ e. true≢false (sym e ∙ end)) it.codes.none;
          };
          low = omega (arith, it.low, below);
          long = it.long;
        })
      ])
    ]

-- and there are no more of them
most-old : (z b : Bool) (n m : ℕ) → (b ≡ true → ⊥) → m ≤ n → m ≤ cond z (n + 1) (cond b 0 n)
most-old true b n m plain low = omega (arith, low)
most-old false true n m plain low = absurd (plain refl)
most-old false false n m plain low = low

most-new : (z b : Bool) (n m : ℕ) → z ≡ true → m ≤ n → suc m ≤ cond z (n + 1) (cond b 0 n)
most-new true b n m is low = omega (arith, low)
most-new false b n m is low = absurd (false≢true is)

pub most-since : {Has : ℕ → ℕ → Type 0} {OfValue : ℕ → Type 0} {past : List Code} {at from : ℕ}
    (tests : Tests OfValue) (places : List ℕ) → Knows Has past at → AreCodes Has OfValue from at places
    → NoneIn Has from at (Ends tests.ends) → length places ≤ since tests past
most-since tests [] k are none = omega arith
most-since {past = []} tests (p ∷ places) k are none = absurd (k.back p are.0.0.0 are.0.0.1.0 are.0.1.1)
most-since {Has} {OfValue} {past = c ∷ past} {at} {from} tests (p ∷ places) k are none =
    let s = known k in
    let below = new-below s in
    let none_older : NoneIn Has from c.place (Ends tests.ends) =
    λ place value has after before is. none place value has after (omega (arith, before, below)) is in
    elim (where-is s are.0.0.1.0 are.0.1.1) [
      | here e m ↦ most-new (tests.counts c.value) (tests.ends c.value) (since tests past) (length places)
          (tests.is c.value (subst OfValue (sym m) are.0.0.1.1))
          (most-since tests places (older s) (subst (λ v. AreCodes Has OfValue from v places) (sym e) are.1) none_older)
      | earlier far ↦ most-old (tests.counts c.value) (tests.ends c.value) (since tests past) (length (p ∷ places))
          (λ e. none c.place c.value (has-new s) (omega (arith, are.0.1.0, far)) below e)
          (most-since tests (p ∷ places) (older s) ((are.0.0, (are.0.1.0, far)), are.1) none_older)
    ]

-- ---- pictures

abbrev pub is_picture : ℕ → Bool
is_picture value = eqb value 0

abbrev pub is_group : ℕ → Bool
is_group value = eqb value 0xb8

abbrev pub is_nothing : ℕ → Bool
is_nothing value = false

pub picture-no-group : (value : ℕ) → eqb value 0 ≡ true → value ≡ 0xb8 → ⊥
picture-no-group value e other = omega (arith, other, eqb-true value 0 e)

abbrev pictures-until : (ends : ℕ → Bool) → ((value : ℕ) → is_picture value ≡ true → ends value ≡ false)
    → Tests IsPicture
pictures-until ends apart = record {
  counts = is_picture;
  ends = ends;
  yes = λ value e. eqb-true value 0 e;
  is = λ value e. eq-eqb value 0 e;
  apart = apart;
}

abbrev pub group-tests : Tests IsPicture
group-tests = pictures-until is_group (λ value e. ne_eqb value 0xb8 (λ other. picture-no-group value e other))

abbrev pub picture-tests : Tests IsPicture
picture-tests = pictures-until is_nothing (λ value e. refl)

group-by : {z b : Bool} {p : ℕ} (q n : ℕ) → (z ≡ true → b ≡ false) → p ≡ q + n →
    cond z (p + 1) p ≡ cond b p q + cond z (n + 1) (cond b 0 n)
group-by {z = true} {b = true} {p} q n apart e = absurd (true≢false (apart refl))
group-by {z = true} {b = false} {p} q n apart e = omega (arith, e)
group-by {z = false} {b = true} {p} q n apart e = omega arith
group-by {z = false} {b = false} {p} q n apart e = e

pub since-group : (past : List Code) →
    picture_count past ≡ before_group_of past + since group-tests past
since-group [] = refl
since-group (c ∷ past) =
    group-by (before_group_of past)
    (since group-tests past) (group-tests.apart c.value) (since-group past)

pub since-all : (past : List Code) → since picture-tests past ≡ picture_count past
since-all [] = refl
since-all (c ∷ past) = ap (λ n. cond (eqb c.value 0) (n + 1) n) (since-all past)

-- ---- slices

abbrev pub unit-tests : Tests IsSliceValue
unit-tests = record { counts = is_slice; ends = is_head; yes = slice-value; is = value-slice; apart = slice-apart }

abbrev pub slice-tests : Tests IsSliceValue
slice-tests =
    record { counts = is_slice; ends = is_nothing; yes = slice-value; is = value-slice; apart = λ value e. refl }

slices-by : (s h : Bool) (n : ℕ) → (s ≡ true → h ≡ false) →
    cond s (n + 1) (cond h 0 n) ≡ cond h 0 (cond s (n + 1) n)
slices-by true true n apart = absurd (true≢false (apart refl))
slices-by true false n apart = refl
slices-by false true n apart = refl
slices-by false false n apart = refl

since-slices : (past : List Code) → since unit-tests past ≡ slice_count past
since-slices [] = refl
since-slices (c ∷ past) =
    ap (λ n. cond (is_slice c.value) (n + 1) (cond (is_head c.value) 0 n)) (since-slices past)
    ∙ slices-by (is_slice c.value) (is_head c.value) (slice_count past) (slice-apart c.value)

since-every : (past : List Code) → since slice-tests past ≡ film_slice_count past
since-every [] = refl
since-every (c ∷ past) = ap (λ n. cond (is_slice c.value) (n + 1) n) (since-every past)

few-by : (h s : Bool) (n m : ℕ) → n ≤ m → cond h 0 (cond s (n + 1) n) ≤ cond s (m + 1) m
few-by true s n m low = omega arith
few-by false true n m low = omega (arith, low)
few-by false false n m low = low

pub few-slices : (past : List Code) → slice_count past ≤ film_slice_count past
few-slices [] = omega arith
few-slices (c ∷ past) =
    few-by (is_head c.value) (is_slice c.value) (slice_count past) (film_slice_count past)
    (few-slices past)

-- from a place on which none of them stands before
pub codes-from : {Has : ℕ → ℕ → Type 0} {OfValue : ℕ → Type 0} {low at : ℕ} {ends : ℕ → Bool}
    (codes : Since Has OfValue ends at)
    → ((place : ℕ) → StandsThere Has place OfValue → codes.from ≤ place → place < at → low ≤ place)
    → AreCodes Has OfValue low at codes.places
codes-from codes after =
    codes-among codes.places (λ place has far before. (has, (after place has far before, before))) codes.are

-- the slices of the latest unit, whose first one stands at a place
pub own-slices : {Has : ℕ → ℕ → Type 0} {past : List Code} {head_end at : ℕ} → Knows Has past at
    → NoneIn Has head_end at IsHeadValue
    → ((from : ℕ) → NoneIn Has from at IsHeadValue → (place : ℕ) →
    StandsThere Has place IsSliceValue → from ≤ place → place < at → head_end ≤ place)
    → Counts Has IsSliceValue head_end at (slice_count past)
own-slices {past} k none first =
    let it = codes-since unit-tests k in record {
      places = it.codes.places;
      are = codes-from it.codes
          (first it.codes.from (λ place value has after before is.
          it.codes.none place value has after before (value-head value is)));
      long = it.long ∙ since-slices past;
      most = λ others are. omega (
        arith,
        since-slices past,
        most-since unit-tests others k are
            (λ place value has after before is. none place value has after before (head-value value is)),
      );
    }

pub all-slices : {Has : ℕ → ℕ → Type 0} {past : List Code} {at : ℕ} → Knows Has past at
    → Counts Has IsSliceValue 0 at (film_slice_count past)
all-slices {past} k =
    let it = codes-since slice-tests k in record {
      places = it.codes.places;
      are = codes-from it.codes (λ place has far before. omega arith);
      long = it.long ∙ since-every past;
      most = λ others are. omega (
        arith,
        since-every past,
        most-since slice-tests others k are (λ place value has after before is. false≢true is),
      );
    }

-- ---- the same codes of two relations before a place

abbrev pub SameCodes : (ℕ → ℕ → Type 0) → (ℕ → ℕ → Type 0) → ℕ → Type 0
SameCodes A B to = (place value : ℕ) → place < to → A place value ↔ B place value

counts-same : {A B : ℕ → ℕ → Type 0} {from to count : ℕ} → SameCodes A B to → Counts A IsSliceValue from to count
    → Counts B IsSliceValue from to count
counts-same {from} {to} same c = record {
  places = c.places;
  are = codes-among {from = from} {low = from} {to = to} {end = to} c.places
      (λ place has far before. ((has.0, ((same place has.0 before).0 has.1.0, has.1.1)), (far, before))) c.are;
  long = c.long;
  most = λ others are. c.most others (codes-among {from = from} {low = from} {to = to} {end = to} others
      (λ place has far before. ((has.0, ((same place has.0 before).1 has.1.0, has.1.1)), (far, before))) are);
}

-- the same in a unit's head: a code of a value, and what starts a group
code-same : {A B : ℕ → ℕ → Type 0} (unit : PictureUnit) (value : ℕ) → SameCodes A B unit.head_end
    → StandsIn A unit.from unit.head_end value → StandsIn B unit.from unit.head_end value
code-same unit value same it = record {
  place = it.place;
  code = (same it.place value it.before).0 it.code;
  after = it.after;
  before = it.before;
}

starts-same : {A B : ℕ → ℕ → Type 0} (unit : PictureUnit) → SameCodes A B unit.head_end
    → unit.from < unit.head_end → IsFirstCode A unit.from ⊎ StandsIn A unit.from unit.head_end 0xb8
    → IsFirstCode B unit.from ⊎ StandsIn B unit.from unit.head_end 0xb8
starts-same unit same some (inl it) = inl (λ place value has. elim (cases_lt place unit.head_end) [
  | inl before ↦ it place value ((same place value before).1 has)
  | inr after ↦ omega (arith, some, after)
])
starts-same unit same some (inr it) = inr (code-same unit 0xb8 same it)

-- where these have the codes before a unit's end, it is a unit of both
pub unit-same : {A B : ℕ → ℕ → Type 0} {F G : ℕ → PictureUnit → Type 0} {unit : PictureUnit}
    → SameCodes A B unit.to → ((place : ℕ) → F place unit → G place unit) → UnitIs A F unit → UnitIs B G unit
unit-same {A} {B} {unit} same fields u =
    let p = u.picture in
    let some : unit.from < unit.head_end = omega (arith, p.after, p.before) in
    let there : SameCodes A B unit.head_end =
    λ place value before. same place value (omega (arith, before, u.rest)) in
    let back : SameCodes B A unit.head_end =
    λ place value before. ((there place value before).1, (there place value before).0) in
    record {
      begins = (u.begins.0, ((there unit.from u.begins.0 some).0 u.begins.1.0, u.begins.1.1));
      head = λ place value has after before is.
          u.head place value ((back place value before).0 has) after before is;
      head_ends = (u.head_ends.0, ((same unit.head_end u.head_ends.0 u.rest).0 u.head_ends.1.0, u.head_ends.1.1));
      rest = u.rest;
      own = counts-same same u.own;
      all = counts-same same u.all;
      slices = λ place value has after before is.
          u.slices place value ((same place value before).1 has) after before is;
      picture = record {
        place = p.place;
        code = (there p.place 0 p.before).0 p.code;
        after = p.after;
        before = p.before;
        only = λ other has after before. p.only other ((back other 0 before).0 has) after before;
        last = λ place value has after before is.
            p.last place value ((back place value before).0 has) after before is;
        fields = fields p.place p.fields;
      };
      sequence = (λ e. code-same unit 0xb3 there (u.sequence.0 e), λ it. u.sequence.1 (code-same unit 0xb3 back it));
      group = (λ e. starts-same unit there some (u.group.0 e), λ either. u.group.1 (starts-same unit back some either));
    }
