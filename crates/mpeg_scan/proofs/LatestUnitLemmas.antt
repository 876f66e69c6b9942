-- What the start codes of an accepted film say of its latest unit, code by code.
use Rattle.std.proofs.Common.{ℕ, Bool, true, false, cond, eqb, ltb, ◌∙◌, ◌&&◌, ◌||◌, ◌+◌, ◌<◌, ◌≤◌, ◌≡◌, ◌⊎◌, List, []}
use Rattle.std.proofs.Common.{◌∷◌, Option, Some, None, sym, ap, refl, subst, inl, inr, arith}
use Rattle.std.specs.Option.{is_some}
use Rattle.std.proofs.lemmas.Bool.{cases_Bool, eqb-true, eq-eqb, ltb-false, or_parts, true≢false, false≢true}
use Rattle.mpeg_scan.proofs.ScanStepLemmas.{positive}
use Rattle.mpeg_scan.specs.declared.codes.Code.{Code}
use Rattle.mpeg_scan.specs.declared.tallies.Header.{Header}
use Rattle.mpeg_scan.specs.CodeFacts.{header_of, is_head, is_slice}
use Rattle.mpeg_scan.specs.CodePlaces.{HasCode}
use Rattle.mpeg_scan.specs.StandardUnits.{IsHeadValue, IsSliceValue}
use Rattle.mpeg_scan.proofs.PartTilingLemmas.{slice-apart}
use Rattle.mpeg_scan.proofs.CodesBeforeLemmas.{head-value, no-head, no-slice, slice-value}

-- one of these codes
abbrev pub Member : Code → List Code → Type 0
Member c [] = ⊥
Member c (d ∷ past) = (d ≡ c) ⊎ Member c past

pub member-has : (c : Code) (past : List Code) → Member c past → HasCode c.place c.value past
member-has c [] m = m
member-has c (d ∷ past) (inl same) = inl (ap (λ (e : Code). e.place) same, ap (λ (e : Code). e.value) same)
member-has c (d ∷ past) (inr m) = inr (member-has c past m)

-- none of these codes from a place on is of such a value
abbrev pub NoneFrom : List Code → ℕ → (ℕ → Type 0) → Type 0
NoneFrom past from OfValue = (place value : ℕ) → HasCode place value past → from ≤ place → OfValue value → ⊥

abbrev pub Zero : ℕ → Type 0
Zero value = value ≡ 0

-- all codes from a place on
abbrev pub Firsts : List Code → ℕ → Type 0
Firsts past from = (place value : ℕ) → HasCode place value past → from ≤ place

-- the picture of the latest unit
pub record Pictured (past : List Code) (from : ℕ) (h : Header) : Type 0 where
  pub code : Code
  pub member : Member code past
  pub value : code.value ≡ 0
  pub header : h ≡ header_of code
  pub after : from ≤ code.place
  pub only : (other : ℕ) → HasCode other 0 past → from ≤ other → other ≡ code.place
  pub last : NoneFrom past (code.place + 1) IsHeadValue

abbrev pub PictureIs : List Code → ℕ → Option Header → Type 0
PictureIs past from None = NoneFrom past from Zero
PictureIs past from (Some h) = Pictured past from h

-- whether a code of a value stands from a place on
pub record Flag (past : List Code) (from k : ℕ) (flag : Bool) : Type 0 where
  pub there : flag ≡ true → (place : ℕ) × (HasCode place k past × (from ≤ place))
  pub set : (place : ℕ) → HasCode place k past → from ≤ place → flag ≡ true

-- whether a group header does, or no code stands before
pub record GroupFlag (past : List Code) (from : ℕ) (flag : Bool) : Type 0 where
  pub there : flag ≡ true → Firsts past from ⊎ ((place : ℕ) × (HasCode place 0xb8 past × (from ≤ place)))
  pub set : (place : ℕ) → HasCode place 0xb8 past → from ≤ place → flag ≡ true
  pub first : Firsts past from → flag ≡ true

-- facts about the latest unit: where it begins, where its head ends if it has slices, how many it has, its
-- picture, whether it has a sequence header, and whether it starts a group
pub record Latest : Type 0 where
  pub from : ℕ
  pub head_end : ℕ
  pub slices : ℕ
  pub picture : Option Header
  pub sequence : Bool
  pub group : Bool

-- the codes bear it out
pub record Open (past : List Code) (u : Latest) : Type 0 where
  pub begins : (value : ℕ) × (HasCode u.from value past × IsHeadValue value)
  pub bare : u.slices ≡ 0 → NoneFrom past u.from IsSliceValue
  pub head : 0 < u.slices → (place value : ℕ) → HasCode place value past → u.from ≤ place → place < u.head_end
      → IsSliceValue value → ⊥
  pub head_ends : 0 < u.slices → (value : ℕ) × (HasCode u.head_end value past × IsSliceValue value)
  pub order : 0 < u.slices → u.from < u.head_end
  pub some : 0 < u.slices → is_some u.picture ≡ true
  pub sliced : 0 < u.slices → NoneFrom past u.head_end IsHeadValue
  pub picture_is : PictureIs past u.from u.picture
  pub sequence_is : Flag past u.from 0xb3 u.sequence
  pub group_is : GroupFlag past u.from u.group

-- a slice is no head, by numbers
apart : (value : ℕ) → IsSliceValue value → IsHeadValue value → ⊥
apart value slice (inl e) = omega (arith, slice.0, e)
apart value slice (inr (inl e)) = omega (arith, slice.1, e)
apart value slice (inr (inr e)) = omega (arith, slice.1, e)

abbrev pub Below : Code → List Code → Type 0
Below c past = (place value : ℕ) → HasCode place value past → place < c.place

-- a code that comes after these
pub record NewCode : Type 0 where
  pub code : Code
  pub past : List Code
  pub below : Below code past

abbrev pub with_new : NewCode → List Code
with_new n = n.code ∷ n.past

-- a code more of a value that isn't such
none-more : (n : NewCode) (from : ℕ) (OfValue : ℕ → Type 0) → (OfValue n.code.value → ⊥)
    → NoneFrom n.past from OfValue → NoneFrom (with_new n) from OfValue
none-more n from OfValue other none place value (inl new) after is = other (subst (λ k. OfValue k) (sym new.1) is)
none-more n from OfValue other none place value (inr old) after is = none place value old after is

-- none of the older codes stands from the new one on
none-new : (n : NewCode) (OfValue : ℕ → Type 0) → (OfValue n.code.value → ⊥)
    → NoneFrom (with_new n) n.code.place OfValue
none-new n OfValue other place value (inl new) after is = other (subst (λ k. OfValue k) (sym new.1) is)
none-new n OfValue other place value (inr old) after is = omega (arith, n.below place value old, after)

firsts-more : {from : ℕ} (n : NewCode) → from ≤ n.code.place → Firsts n.past from → Firsts (with_new n) from
firsts-more n after firsts place value (inl new) = omega (arith, new.0, after)
firsts-more n after firsts place value (inr old) = firsts place value old

-- ---- what is set by a code of a value

flag-other : {from k : ℕ} {flag : Bool} (n : NewCode) → (n.code.value ≡ k → ⊥) → Flag n.past from k flag
    → Flag (with_new n) from k flag
flag-other n other f = record {
  there = λ e. let it = f.there e in (it.0, (inr it.1.0, it.1.1));
  set = λ place has far. elim has [
    | inl new ↦ absurd (other new.1)
    | inr old ↦ f.set place old far
  ];
}

flag-more : {from k : ℕ} {flag : Bool} (n : NewCode) → from ≤ n.code.place → Flag n.past from k flag
    → Flag (with_new n) from k (cond (eqb n.code.value k) true flag)
flag-more {from} {k} {flag} n after f =
    let More = λ (t : Bool). Flag (with_new n) from k (cond t true flag) in
    elim (cases_Bool (eqb n.code.value k)) [
      | inl is ↦ subst More (sym is) (record {
        there = λ e. (n.code.place, (inl (refl, eqb-true n.code.value k is), after));
        set = λ place has far. refl;
      })
      | inr is ↦ subst More (sym is) (flag-other n (λ e. false≢true (sym is ∙ eq-eqb n.code.value k e)) f)
    ]

flag-none : (n : NewCode) (k : ℕ) → Flag n.past n.code.place k false
flag-none n k = record {
  there = λ e. absurd (false≢true e);
  set = λ place has far. absurd (omega (arith, n.below place k has, far));
}

group-other : {from : ℕ} {flag : Bool} (n : NewCode) → from ≤ n.code.place → (n.code.value ≡ 0xb8 → ⊥)
    → GroupFlag n.past from flag → GroupFlag (with_new n) from flag
group-other n after other f = record {
  there = λ e. elim (f.there e) [
    | inl firsts ↦ inl (firsts-more n after firsts)
    | inr it ↦ inr (it.0, (inr it.1.0, it.1.1))
  ];
  set = λ place has far. elim has [
    | inl new ↦ absurd (other new.1)
    | inr old ↦ f.set place old far
  ];
  first = λ firsts. f.first (λ place value has. firsts place value (inr has));
}

group-more : {from : ℕ} {flag : Bool} (n : NewCode) → from ≤ n.code.place → GroupFlag n.past from flag
    → GroupFlag (with_new n) from (cond (eqb n.code.value 0xb8) true flag)
group-more {from} {flag} n after f =
    let More = λ (t : Bool). GroupFlag (with_new n) from (cond t true flag) in
    elim (cases_Bool (eqb n.code.value 0xb8)) [
      | inl is ↦ subst More (sym is) (record {
        there = λ e. inr (n.code.place, (inl (refl, eqb-true n.code.value 0xb8 is), after));
        set = λ place has far. refl;
        first = λ firsts. refl;
      })
      | inr is ↦ subst More (sym is) (group-other n after (λ e. false≢true (sym is ∙ eq-eqb n.code.value 0xb8 e)) f)
    ]

-- ---- the picture as codes come

-- a code that is no head's leaves it the picture
picture-more : (n : NewCode) (from : ℕ) (o : Option Header) → (IsHeadValue n.code.value → ⊥)
    → PictureIs n.past from o → PictureIs (with_new n) from o
picture-more n from None other none = none-more n from Zero (λ e. other (inl e)) none
picture-more n from (Some h) other is = record {
  code = is.code;
  member = inr is.member;
  value = is.value;
  header = is.header;
  after = is.after;
  only = λ place has far. elim has [
    | inl new ↦ absurd (other (inl new.1))
    | inr old ↦ is.only place old far
  ];
  last = none-more n (is.code.place + 1) IsHeadValue other is.last;
}

picture-new : {from : ℕ} (n : NewCode) → n.code.value ≡ 0 → from ≤ n.code.place → NoneFrom n.past from Zero
    → Pictured (with_new n) from (header_of n.code)
picture-new n zero_value after none = record {
  code = n.code;
  member = inl refl;
  value = zero_value;
  header = refl;
  after = after;
  only = λ place has far. elim has [
    | inl new ↦ sym new.0
    | inr old ↦ absurd (none place 0 old far refl)
  ];
  last = λ place value has far is. elim has [
    | inl new ↦ omega (arith, new.0, far)
    | inr old ↦ omega (arith, n.below place value old, far)
  ];
}

-- a code of a head that has no picture yet
picture-head : {from : ℕ} (n : NewCode) → from ≤ n.code.place → NoneFrom n.past from Zero
    → PictureIs (with_new n) from (cond (eqb n.code.value 0) (Some (header_of n.code)) None)
picture-head {from} n after none =
    let More = λ (t : Bool). PictureIs (with_new n) from (cond t (Some (header_of n.code)) None) in
    elim (cases_Bool (eqb n.code.value 0)) [
      | inl is ↦ subst More (sym is) (picture-new n (eqb-true n.code.value 0 is) after none)
      | inr is ↦ subst More (sym is)
          (none-more n from Zero (λ e. false≢true (sym is ∙ eq-eqb n.code.value 0 e)) none)
    ]

no-picture : (o : Option Header) → is_some o ≡ false → o ≡ None
no-picture None e = refl
no-picture (Some h) e = absurd (true≢false e)

-- ---- one code more

-- a slice after others of its unit
later-slice : {u : Latest} (n : NewCode) → IsSliceValue n.code.value → 0 < u.slices → Open n.past u
    → Open (with_new n) (record u { slices = u.slices + 1 })
later-slice {u} n slice some open_ =
    let other = λ (h : IsHeadValue n.code.value). apart n.code.value slice h in
    let ends = open_.head_ends some in
    let after : u.from ≤ n.code.place = omega (arith, n.below u.from open_.begins.0 open_.begins.1.0) in
    let far : u.head_end ≤ n.code.place = omega (arith, n.below u.head_end ends.0 ends.1.0) in
    record {
      begins = (open_.begins.0, (inr open_.begins.1.0, open_.begins.1.1));
      bare = λ none. absurd (omega (arith, none));
      head = λ _ place value has low before is. elim has [
        | inl new ↦ omega (arith, new.0, far, before)
        | inr old ↦ open_.head some place value old low before is
      ];
      head_ends = λ _. (ends.0, (inr ends.1.0, ends.1.1));
      order = λ _. open_.order some;
      some = λ _. open_.some some;
      sliced = λ _. none-more n u.head_end IsHeadValue other (open_.sliced some);
      picture_is = picture-more n u.from u.picture other open_.picture_is;
      sequence_is = flag-other n (λ e. other (inr (inl e))) open_.sequence_is;
      group_is = group-other n after (λ e. other (inr (inr e))) open_.group_is;
    }

-- the first slice of its unit
first-slice : {u : Latest} (n : NewCode) → IsSliceValue n.code.value → u.slices ≡ 0 → is_some u.picture ≡ true
    → Open n.past u → Open (with_new n) (record u { head_end = n.code.place; slices = u.slices + 1 })
first-slice {u} n slice none with_picture open_ =
    let other = λ (h : IsHeadValue n.code.value). apart n.code.value slice h in
    let after : u.from < n.code.place = n.below u.from open_.begins.0 open_.begins.1.0 in
    record {
      begins = (open_.begins.0, (inr open_.begins.1.0, open_.begins.1.1));
      bare = λ e. absurd (omega (arith, e));
      head = λ _ place value has low before is. elim has [
        | inl new ↦ omega (arith, new.0, before)
        | inr old ↦ open_.bare none place value old low is
      ];
      head_ends = λ _. (n.code.value, (inl (refl, refl), slice));
      order = λ _. after;
      some = λ _. with_picture;
      sliced = λ _. none-new n IsHeadValue other;
      picture_is = picture-more n u.from u.picture other open_.picture_is;
      sequence_is = flag-other n (λ e. other (inr (inl e))) open_.sequence_is;
      group_is = group-other n (omega (arith, after)) (λ e. other (inr (inr e))) open_.group_is;
    }

-- a code that is neither a head's nor a slice's
other-code : {u : Latest} (n : NewCode) → (IsHeadValue n.code.value → ⊥) → (IsSliceValue n.code.value → ⊥)
    → Open n.past u → Open (with_new n) u
other-code {u} n other no_slice open_ =
    let after : u.from ≤ n.code.place = omega (arith, n.below u.from open_.begins.0 open_.begins.1.0) in
    record {
      begins = (open_.begins.0, (inr open_.begins.1.0, open_.begins.1.1));
      bare = λ none. none-more n u.from IsSliceValue no_slice (open_.bare none);
      head = λ some place value has low before is. elim has [
        | inl new ↦ no_slice (subst IsSliceValue (sym new.1) is)
        | inr old ↦ open_.head some place value old low before is
      ];
      head_ends = λ some. let ends = open_.head_ends some in (ends.0, (inr ends.1.0, ends.1.1));
      order = open_.order;
      some = open_.some;
      sliced = λ some. none-more n u.head_end IsHeadValue other (open_.sliced some);
      picture_is = picture-more n u.from u.picture other open_.picture_is;
      sequence_is = flag-other n (λ e. other (inr (inl e))) open_.sequence_is;
      group_is = group-other n after (λ e. other (inr (inr e))) open_.group_is;
    }

-- ---- a code of a head: q, it begins a unit; g, it is a group header

abbrev head_latest : Bool → Bool → Latest → Code → Latest
head_latest q g u c = record {
  from = cond q c.place u.from;
  head_end = 0;
  slices = 0;
  picture = cond (eqb c.value 0) (Some (header_of c)) (cond q None u.picture);
  sequence = cond (eqb c.value 0xb3) true (cond q false u.sequence);
  group = cond g true (cond q false u.group);
}

-- in the head of the latest unit
more-head : {u : Latest} (n : NewCode) → IsHeadValue n.code.value → u.slices ≡ 0 → is_some u.picture ≡ false
    → Open n.past u → Open (with_new n) (head_latest false (eqb n.code.value 0xb8) u n.code)
more-head {u} n head none bare open_ =
    let after : u.from ≤ n.code.place = omega (arith, n.below u.from open_.begins.0 open_.begins.1.0) in
    let no = no-picture u.picture bare in
    let picture = picture-head n after (subst (λ o. PictureIs n.past u.from o) no open_.picture_is) in
    record {
      begins = (open_.begins.0, (inr open_.begins.1.0, open_.begins.1.1));
      bare = λ _. none-more n u.from IsSliceValue (λ slice. apart n.code.value slice head) (open_.bare none);
      head = λ some. absurd (omega (arith, some));
      head_ends = λ some. absurd (omega (arith, some));
      order = λ some. absurd (omega (arith, some));
      some = λ some. absurd (omega (arith, some));
      sliced = λ some. absurd (omega (arith, some));
      picture_is = subst (λ (o : Option Header). PictureIs (with_new n) u.from
          (cond (eqb n.code.value 0) (Some (header_of n.code)) o)) (sym no) picture;
      sequence_is = flag-more n after open_.sequence_is;
      group_is = group-more n after open_.group_is;
    }

-- a new unit
new-unit : {u : Latest} (n : NewCode) → IsHeadValue n.code.value → Open n.past u
    → Open (with_new n) (head_latest true (eqb n.code.value 0xb8) u n.code)
new-unit {u} n head open_ =
    let older = open_.begins in
    let group : Flag (with_new n) n.code.place 0xb8 (cond (eqb n.code.value 0xb8) true false) =
    flag-more n (omega arith) (flag-none n 0xb8) in
    record {
      begins = (n.code.value, (inl (refl, refl), head));
      bare = λ _. none-new n IsSliceValue (λ slice. apart n.code.value slice head);
      head = λ some. absurd (omega (arith, some));
      head_ends = λ some. absurd (omega (arith, some));
      order = λ some. absurd (omega (arith, some));
      some = λ some. absurd (omega (arith, some));
      sliced = λ some. absurd (omega (arith, some));
      picture_is = picture-head n (omega arith)
          (λ place value has after _. omega (arith, n.below place value has, after));
      sequence_is = flag-more n (omega arith) (flag-none n 0xb3);
      group_is = record {
        there = λ e. inr (group.there e);
        set = group.set;
        first = λ firsts. absurd
            (omega (arith, n.below u.from older.0 older.1.0, firsts u.from older.0 (inr older.1.0)));
      };
    }

or-false : (b : Bool) → (b || false) ≡ b
or-false true = refl
or-false false = refl

head-code : {u : Latest} (n : NewCode) → IsHeadValue n.code.value → (u.slices ≡ 0 → is_some u.picture ≡ false)
    → Open n.past u → Open (with_new n) (head_latest (ltb 0 u.slices) (eqb n.code.value 0xb8 || false) u n.code)
head-code {u} n head bare open_ =
    let More = λ (q g : Bool). Open (with_new n) (head_latest q g u n.code) in
    subst (More (ltb 0 u.slices)) (sym (or-false (eqb n.code.value 0xb8))) (elim (cases_Bool (ltb 0 u.slices)) [
      | inl some ↦ subst (λ q. More q (eqb n.code.value 0xb8)) (sym some) (new-unit n head open_)
      | inr few ↦
          (let none : u.slices ≡ 0 = omega (arith, ltb-false 0 u.slices few) in
          subst (λ q. More q (eqb n.code.value 0xb8)) (sym few) (more-head n head none (bare none) open_))
    ])

-- ---- any code, by the tests on its value: of a head, of a slice, 00, B3 and B8

abbrev next_by : Bool → Bool → Bool → Bool → Bool → Latest → Code → Latest
next_by h s z t g u c = record {
  from = cond (h && ltb 0 u.slices) c.place u.from;
  head_end = cond (s && eqb u.slices 0) c.place (cond h 0 u.head_end);
  slices = cond h 0 (cond s (u.slices + 1) u.slices);
  picture = cond z (Some (header_of c)) (cond (h && ltb 0 u.slices) None u.picture);
  sequence = cond t true (cond (h && ltb 0 u.slices) false u.sequence);
  group = cond (g || false) true (cond (h && ltb 0 u.slices) false u.group);
}

abbrev pub next_latest : Latest → Code → Latest
next_latest u c = next_by (is_head c.value) (is_slice c.value) (eqb c.value 0) (eqb c.value 0xb3) (eqb c.value 0xb8) u c

head-no-slice : (value : ℕ) → is_head value ≡ true → is_slice value ≡ false
head-no-slice value head = elim (cases_Bool (is_slice value)) [
  | inl slice ↦ absurd (true≢false (sym head ∙ slice-apart value slice))
  | inr other ↦ other
]

pub step-open : {u : Latest} (n : NewCode)
    → (is_head n.code.value ≡ true → u.slices ≡ 0 → is_some u.picture ≡ false)
    → (is_slice n.code.value ≡ true → u.slices ≡ 0 → is_some u.picture ≡ true)
    → Open n.past u → Open (with_new n) (next_latest u n.code)
step-open {u} n alone with_ open_ =
    let v = n.code.value in
    let P = λ (h s z t g : Bool). Open (with_new n) (next_by h s z t g u n.code) in
    elim (cases_Bool (is_head v)) [
      | inl head ↦
          subst (λ h. P h (is_slice v) (eqb v 0) (eqb v 0xb3) (eqb v 0xb8)) (sym head)
          (subst (λ s. P true s (eqb v 0) (eqb v 0xb3) (eqb v 0xb8)) (sym (head-no-slice v head))
          (head-code n (head-value v head) (alone head) open_))
      | inr head ↦
          (let three = or_parts (eqb v 0) (eqb v 0xb3 || eqb v 0xb8) head in
          let two = or_parts (eqb v 0xb3) (eqb v 0xb8) three.1 in
          subst (λ h. P h (is_slice v) (eqb v 0) (eqb v 0xb3) (eqb v 0xb8)) (sym head)
          (subst (λ z. P false (is_slice v) z (eqb v 0xb3) (eqb v 0xb8)) (sym three.0)
          (subst (λ t. P false (is_slice v) false t (eqb v 0xb8)) (sym two.0)
          (subst (λ g. P false (is_slice v) false false g) (sym two.1) (elim (cases_Bool (is_slice v)) [
            | inr other ↦ subst (λ s. P false s false false false) (sym other)
                (other-code n (no-head v head) (no-slice v other) open_)
            | inl slice ↦ subst (λ s. P false s false false false) (sym slice) (elim (cases_Bool (eqb u.slices 0)) [
              | inl e ↦
                  (let none = eqb-true u.slices 0 e in
                  subst (λ e. Open (with_new n) (record u {
                    head_end = cond e n.code.place u.head_end;
                    slices = u.slices + 1;
                  })) (sym e) (first-slice n (slice-value v slice) none (with_ slice none) open_))
              | inr e ↦
                  subst (λ e. Open (with_new n) (record u {
                    head_end = cond e n.code.place u.head_end;
                    slices = u.slices + 1;
                  })) (sym e) (later-slice n (slice-value v slice) (positive u.slices e) open_)
            ])
          ])))))
    ]

pub first-code : (c : Code) → c.value ≡ 0xb3
    → Open (c ∷ [])
    (record { from = c.place; head_end = 0; slices = 0; picture = None; sequence = true; group = true })
first-code c is = record {
  begins = (c.value, (inl (refl, refl), inr (inl is)));
  bare = λ _ place value has after slice. elim has [
    | inl new ↦ omega (arith, new.1, is, slice.1)
    | inr old ↦ old
  ];
  head = λ some. absurd (omega (arith, some));
  head_ends = λ some. absurd (omega (arith, some));
  order = λ some. absurd (omega (arith, some));
  some = λ some. absurd (omega (arith, some));
  sliced = λ some. absurd (omega (arith, some));
  picture_is = λ place value has after zero_value. elim has [
    | inl new ↦ omega (arith, new.1, is, zero_value)
    | inr old ↦ old
  ];
  sequence_is = record { there = λ _. (c.place, (inl (refl, is), omega arith)); set = λ place has after. refl };
  group_is = record {
    there = λ _. inl (λ place value has. elim has [
      | inl new ↦ omega (arith, new.0)
      | inr old ↦ absurd old
    ]);
    set = λ place has after. refl;
    first = λ _. refl;
  };
}
