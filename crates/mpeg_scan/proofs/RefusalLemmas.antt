-- Each refusal comes exactly where the standard's words say.
use Rattle.std.proofs.Common.{ℕ, Bool, true, false, cond, eqb, ltb, leb, not, ◌&&◌, ◌-◌, ◌≤◌, ◌≡◌, List, [], ◌∷◌}
use Rattle.std.proofs.Common.{Option, Some, None, sym, ◌∙◌, ap, refl, subst, inl, inr, arith}
use Rattle.std.specs.Prelude.{option_map}
use Rattle.std.proofs.lemmas.Bool.{cases_lt, eqb-true, eqb-false, eq-eqb, ne_eqb, not-true, leb-true, le-leb, ltb-true}
use Rattle.std.proofs.lemmas.Bool.{lt-ltb, and_parts, and_from, and_cases, not_from_false, false≢true}
use Rattle.mpeg_scan.specs.declared.units.TheConstants.{MAX_UNIT_HEAD_BYTES}
use Rattle.mpeg_scan.specs.declared.codes.Code.{Code}
use Rattle.mpeg_scan.specs.declared.faults.FilmFault.{FilmFault}
use Rattle.mpeg_scan.specs.declared.faults.FilmFault.TheVariants.{NoSequence, PictureWithoutSlices, HeadTooLong}
use Rattle.mpeg_scan.specs.declared.faults.FilmFault.TheVariants.{GroupTooLong, TooLong, HeadWithoutPicture}
use Rattle.mpeg_scan.specs.declared.tallies.Header.{Header}
use Rattle.mpeg_scan.specs.CodeFacts.{before_group_of, is_head, is_none_yet, is_slice, latest_picture}
use Rattle.mpeg_scan.specs.CodeFacts.{picture_count, slice_count, tally_of, latest_unit}
use Rattle.mpeg_scan.specs.FilmFaults.{code_fault, count_fault, fault_at, first_fault, first_slice_fault, head_fault}
use Rattle.mpeg_scan.specs.FilmFaults.{value_fault, latest_fault, left_without_slices, first_refusal, second_fault}
use Rattle.mpeg_scan.specs.CodePlaces.{HasCode, IsCodeAt}
use Rattle.mpeg_scan.specs.StandardRefusals.{CodeRefusal, CountRefusal, HasPictures, HeaderRefusal, IsExtension}
use Rattle.mpeg_scan.specs.StandardRefusals.{IsItsPicture, IsLongFilm, IsLongGroup, IsLongHead, IsOpenHead}
use Rattle.mpeg_scan.specs.StandardRefusals.{IsSystemCode, ValueRefusal, LacksPicture, LacksSequence, LacksSlices}
use Rattle.mpeg_scan.specs.StandardRefusals.{Otherwise, SecondRefusal, SliceRefusal}
use Rattle.mpeg_scan.specs.StandardUnits.{IsFirstCode, IsHeadValue, IsSliceValue, StandsThere}
use Rattle.mpeg_scan.proofs.ScanStepLemmas.{positive}
use Rattle.std.proofs.lemmas.Option.{same_Some}
use Rattle.mpeg_scan.proofs.DecisionLemmas.{Decides, both, both-cond, decide, decide-if, decide-with}
use Rattle.mpeg_scan.proofs.DecisionLemmas.{neither, no-more, none-of, only-second}
use Rattle.mpeg_scan.proofs.CodesBeforeLemmas.{Knows, PictureThere, head-value, no-head, no-slice}
use Rattle.mpeg_scan.proofs.CodesBeforeLemmas.{not-open, one-head, one-picture, open-head, picture-there}
use Rattle.mpeg_scan.proofs.CodesBeforeLemmas.{slice-value, slice-there, has-new, known, new-below, older}
use Rattle.mpeg_scan.proofs.CodeCountLemmas.{codes-from, codes-since, group-tests, most-since}
use Rattle.mpeg_scan.proofs.CodeCountLemmas.{picture-tests, since-all, since-group}
use Rattle.mpeg_scan.proofs.HeaderLemmas.{Film, film-older, latest-decides}

-- a code of a value stands at a place, and the codes before it are these
pub record AtCode (Has : ℕ → ℕ → Type 0) (past : List Code) (at value : ℕ) : Type 0 where
  pub knows : Knows Has past at
  pub code : Has at value
  pub one : (other : ℕ) → Has at other → other ≡ value

-- ---- its value

no-codes : (past : List Code) (a : Bool) → (not (not (is_none_yet past)) && a) ≡ true → past ≡ []
no-codes [] a e = refl
no-codes (d ∷ past) a e = absurd (false≢true e)

first-of-none : {Has : ℕ → ℕ → Type 0} {past : List Code} {at : ℕ} → Knows Has past at → past ≡ []
    → IsFirstCode Has at
first-of-none {at} k none place value has = elim (cases_lt place at) [
  | inl before ↦ absurd
      (subst (λ (l : List Code). HasCode place value l) none (k.back place value has before))
  | inr after ↦ after
]

none-of-first : {Has : ℕ → ℕ → Type 0} {past : List Code} {at : ℕ} → Knows Has past at → IsFirstCode Has at
    → is_none_yet past ≡ true
none-of-first {past = []} k first = refl
none-of-first {past = d ∷ past} k first =
    absurd (omega (arith, first d.place d.value (has-new (known k)), new-below (known k)))

twice : (b : Bool) → b ≡ true → not (not b) ≡ true
twice true e = refl
twice false e = absurd (false≢true e)

value-decides : (Has : ℕ → ℕ → Type 0) (past : List Code) (at value : ℕ) → AtCode Has past at value →
    Decides (ValueRefusal Has at) (value_fault (tally_of past) at value)
value-decides Has past at value c =
    let System = IsSystemCode Has at in
    let Extension = IsExtension Has at in
    let Lacks = LacksSequence Has at in
    let first = not (not (is_none_yet past)) in
    let three = eqb value 0xb3 in
    let rest = cond (first && not three) (Some NoSequence) None in
    both-cond
    (λ e. ((value, (c.code, leb-true 0xb9 value e)), refl))
    (λ g p. (le-leb 0xb9 value (subst (λ k. 0xb9 ≤ k) (c.one p.0.0 p.0.1.0) p.0.1.1), p.1))
    (λ _. both-cond
    (λ e. (subst (λ k. Has at k) (eqb-true value 0xb5 e) c.code, refl))
    (λ g p. (eq-eqb value 0xb5 (sym (c.one 0xb5 p.0)), p.1))
    (λ _. decide Lacks (first && not three) NoSequence
    (λ e. (
      (
        first-of-none c.knows (no-codes past (not three) e),
        λ has.
            eqb-false value 0xb3 (not-true three (and_parts first (not three) e).1)
            (sym (c.one 0xb3 has)),
      ),
      refl,
    ))
    (λ g p. (
      and_from first (not three)
          (twice (is_none_yet past) (none-of-first c.knows p.0.0))
          (not_from_false three (ne_eqb value 0xb3 (λ is.
          p.0.1 (subst (λ k. Has at k) is c.code)))),
      p.1,
    ))))

-- ---- a head's picture

-- the picture of an open head decides
pub picture-slices : {Has : ℕ → ℕ → Type 0} {at unit : ℕ} (o : Option Header) → IsOpenHead Has unit at
    → PictureThere Has unit at o → Decides (LacksSlices Has at) (option_map left_without_slices o)
picture-slices {Has} {at} None head none = none-of (LacksSlices Has at)
    (λ f p. none p.place 0 p.picture.code (subst (λ u. u ≤ p.place) (one-head p.open_head head) p.picture.after)
    p.picture.before refl)
picture-slices {Has} {at} (Some h) head picture = λ f. (
  λ e. record {
    unit = _;
    place = h.place;
    open_head = head;
    picture = picture;
    is = sym (same_Some (PictureWithoutSlices h.place) f e);
  },
  λ p. let same = one-head p.open_head head in
      let its = one-picture (p.place, subst (λ u. IsItsPicture Has u p.place at) same p.picture) (h.place, picture) in
      ap (λ (v : ℕ). Some (PictureWithoutSlices v)) (sym its) ∙ ap Some (sym p.is),
)

pub begins-after : {Has : ℕ → ℕ → Type 0} {at unit : ℕ} → Knows Has [] at → IsOpenHead Has unit at → ⊥
begins-after {unit} k o = elim o.begins [
  | inl first ↦ k.back unit first.0.0 first.0.1.0 o.before
  | inr it ↦ k.back unit it.0.0 it.0.1.0 o.before
]

slices-decide : {Has : ℕ → ℕ → Type 0} {past : List Code} {at : ℕ} → Knows Has past at → slice_count past ≡ 0
    → Decides (LacksSlices Has at) (option_map left_without_slices (latest_picture past))
slices-decide {Has} {past = []} {at} k none = none-of (LacksSlices Has at) (λ f p. begins-after k p.open_head)
slices-decide {past = d ∷ past} k none = picture-slices (latest_picture (d ∷ past)) (open-head k none) (picture-there k)

second-decides : (Has : ℕ → ℕ → Type 0) (past : List Code) (at value : ℕ) → AtCode Has past at value →
    Decides (SecondRefusal Has at) (second_fault (tally_of past) value)
second-decides Has past at value c =
    decide-if (SecondRefusal Has at) (is_head value
    && eqb (slice_count past) 0) (option_map left_without_slices (latest_picture past))
    (λ e. let parts = and_parts (is_head value) (eqb (slice_count past) 0) e in
    decide-with (StandsThere Has at IsHeadValue) (LacksSlices Has at)
    (option_map left_without_slices (latest_picture past)) (value, (c.code, head-value value parts.0))
    (slices-decide c.knows (eqb-true (slice_count past) 0 parts.1)))
    (λ e f p. elim (and_cases (is_head value) (eqb (slice_count past) 0) e) [
      | inl other ↦ no-head value other (subst IsHeadValue (c.one p.0.0 p.0.1.0) p.0.1.1)
      | inr some ↦ not-open (slice-there c.knows (positive (slice_count past) some)) p.1.open_head
    ])

-- ---- a unit's first slice

-- its head has no picture
bare-decides : {Has : ℕ → ℕ → Type 0} {unit at : ℕ} → IsOpenHead Has unit at → PictureThere Has unit at None →
    Decides (Otherwise (LacksPicture Has at) (IsLongHead Has at)) (Some (HeadWithoutPicture unit))
bare-decides {Has} {unit} {at} head none = λ f. (
  λ e. inl (record { unit = unit; open_head = head; none = none; is = sym (same_Some (HeadWithoutPicture unit) f e) }),
  λ either. elim either [
    | inl p ↦ ap (λ u. Some (HeadWithoutPicture u)) (one-head head p.open_head)
        ∙ ap Some (sym p.is)
    | inr q ↦ absurd (q.0 (HeadWithoutPicture unit) (record { unit = unit; open_head = head; none = none; is = refl }))
  ],
)

-- its head has a picture, and is too long or not
long-decides : {Has : ℕ → ℕ → Type 0} {unit at : ℕ} (h : Header) → IsOpenHead Has unit at →
    PictureThere Has unit at (Some h) →
    Decides (Otherwise (LacksPicture Has at) (IsLongHead Has at))
    (cond (ltb MAX_UNIT_HEAD_BYTES (at - unit)) (Some (HeadTooLong unit)) None)
long-decides {Has} {unit} {at} h head picture =
    only-second (LacksPicture Has at) (IsLongHead Has at)
    (cond (ltb MAX_UNIT_HEAD_BYTES (at - unit)) (Some (HeadTooLong unit)) None)
    (λ f p. p.none h.place 0 picture.code
    (subst (λ u. u ≤ h.place) (one-head head p.open_head) picture.after) picture.before refl)
    (decide (IsLongHead Has at) (ltb MAX_UNIT_HEAD_BYTES (at - unit)) (HeadTooLong unit)
    (λ e. record {
      unit = unit;
      open_head = head;
      long = omega (arith, ltb-true MAX_UNIT_HEAD_BYTES (at - unit) e);
      is = refl;
    })
    (λ g p. let same = one-head p.open_head head in
    (lt-ltb MAX_UNIT_HEAD_BYTES (at - unit) (omega (arith, same, p.long)), p.is ∙ ap HeadTooLong same)))

head-decides : {Has : ℕ → ℕ → Type 0} {at : ℕ} (past : List Code) (o : Option Header)
    → IsOpenHead Has (latest_unit past) at → PictureThere Has (latest_unit past) at o
    → Decides (Otherwise (LacksPicture Has at) (IsLongHead Has at)) (head_fault (tally_of past) at o)
head-decides past None head none = bare-decides head none
head-decides past (Some h) head picture = long-decides h head picture

lacks-none : (Has : ℕ → ℕ → Type 0) (at : ℕ) → ((unit : ℕ) → IsOpenHead Has unit at → ⊥) →
    (f : FilmFault) → Otherwise (LacksPicture Has at) (IsLongHead Has at) f → ⊥
lacks-none Has at never =
    neither (LacksPicture Has at) (IsLongHead Has at) (λ f p. never p.unit p.open_head) (λ f p.
    never p.unit p.open_head)

not-first : {Has : ℕ → ℕ → Type 0} {at value : ℕ} → AtCode Has [] at value
    → value_fault (tally_of []) at value ≡ None → is_slice value ≡ true → ⊥
not-first {Has} {at} {value} c none slice =
    let is = slice-value value slice in
    no-more (ValueRefusal Has at) (value_fault (tally_of []) at value) (value-decides Has [] at value c) none NoSequence
    (inr (
      (λ g p. let other = c.one p.0.0 p.0.1.0 in omega (arith, is.1, other, p.0.1.1)),
      inr (
        (λ g p. let other = c.one 0xb5 p.0 in omega (arith, is.1, other)),
        ((first-of-none c.knows refl, λ has. (let other = c.one 0xb3 has in omega (arith, is.1, other))), refl),
      ),
    ))

slice-decides : (Has : ℕ → ℕ → Type 0) (past : List Code) (at value : ℕ) → AtCode Has past at value →
    value_fault (tally_of past) at value ≡ None →
    Decides (SliceRefusal Has at) (first_slice_fault (tally_of past) at value)
slice-decides Has [] at value c none =
    decide-if (SliceRefusal Has at) (is_slice value && eqb 0 0) (head_fault (tally_of []) at None)
    (λ e. absurd (not-first c none (and_parts (is_slice value) (eqb 0 0) e).0))
    (λ e f p. lacks-none Has at (λ unit o. begins-after c.knows o) f p.1)
slice-decides Has (d ∷ past) at value c none =
    let all : List Code = d ∷ past in
    let o = latest_picture all in
    decide-if (SliceRefusal Has at) (is_slice value
    && eqb (slice_count all) 0) (head_fault (tally_of all) at o)
    (λ e. let parts = and_parts (is_slice value) (eqb (slice_count all) 0) e in
    decide-with (StandsThere Has at IsSliceValue)
    (Otherwise (LacksPicture Has at) (IsLongHead Has at)) (head_fault (tally_of all) at o)
    (value, (c.code, slice-value value parts.0))
    (head-decides all o (open-head c.knows (eqb-true (slice_count all) 0 parts.1)) (picture-there c.knows)))
    (λ e f p. elim (and_cases (is_slice value) (eqb (slice_count all) 0) e) [
      | inl other ↦ no-slice value other (subst IsSliceValue (c.one p.0.0 p.0.1.0) p.0.1.1)
      | inr some ↦ lacks-none Has at (λ unit o.
          not-open (slice-there c.knows (positive (slice_count all) some)) o) f p.1
    ])

-- ---- the number of pictures

group-test : {Has : ℕ → ℕ → Type 0} {past : List Code} {at : ℕ} → Knows Has past at
    → leb 1024 (picture_count past - before_group_of past) ≡ true → IsLongGroup Has at (GroupTooLong at)
group-test {past} k e =
    let it = codes-since group-tests k in
    let many = leb-true 1024 (picture_count past - before_group_of past) e in
    record {
      from = it.codes.from;
      pictures = (it.codes.places, (it.codes.are, omega (arith, it.long, since-group past, many)));
      none = λ place value has after before is. it.codes.none place value has after before (eq-eqb value 0xb8 is);
      is = refl;
    }

test-group : {Has : ℕ → ℕ → Type 0} {past : List Code} {at : ℕ} {f : FilmFault} → Knows Has past at
    → IsLongGroup Has at f → leb 1024 (picture_count past - before_group_of past) ≡ true
test-group {past} k p =
    let most = most-since group-tests p.pictures.0 k p.pictures.1.0
    (λ place value has after before is. p.none place value has after before (eqb-true value 0xb8 is)) in
    le-leb 1024 (picture_count past - before_group_of past)
    (omega (arith, most, since-group past, p.pictures.1.1))

film-test : {Has : ℕ → ℕ → Type 0} {past : List Code} {at : ℕ} → Knows Has past at
    → leb 4194304 (picture_count past) ≡ true → HasPictures Has 0 at 4194304
film-test {past} k e =
    let it = codes-since picture-tests k in
    let many = leb-true 4194304 (picture_count past) e in (
      it.codes.places,
      (codes-from it.codes (λ place has far before. omega arith), omega (arith, it.long, since-all past, many)),
    )

test-film : {Has : ℕ → ℕ → Type 0} {past : List Code} {at : ℕ} → Knows Has past at → HasPictures Has 0 at 4194304
    → leb 4194304 (picture_count past) ≡ true
test-film {past} k p =
    let most = most-since picture-tests p.0 k p.1.0 (λ place value has after before is. false≢true is) in
    le-leb 4194304 (picture_count past) (omega (arith, most, since-all past, p.1.1))

count-decides : (Has : ℕ → ℕ → Type 0) (past : List Code) (at value : ℕ) → AtCode Has past at value →
    Decides (CountRefusal Has at) (count_fault (tally_of past) at value)
count-decides Has past at value c =
    let many = leb 4194304 (picture_count past) in
    let full = leb 1024 (picture_count past - before_group_of past) in
    let o = cond full (Some (GroupTooLong at)) (cond many (Some TooLong) None) in
    decide-if (CountRefusal Has at) (eqb value 0) o
    (λ e. decide-with (Has at 0) (Otherwise (IsLongGroup Has at) (IsLongFilm Has at)) o (subst (λ k.
    Has at k) (eqb-true value 0 e) c.code)
    (both-cond
    (λ t. group-test c.knows t)
    (λ g p. (test-group c.knows p, p.is))
    (λ _. decide (IsLongFilm Has at) many TooLong (λ t.
    (film-test c.knows t, refl)) (λ g p.
    (test-film c.knows p.0, p.1)))))
    (λ e f p. eqb-false value 0 e (sym (c.one 0 p.0)))

-- ---- a code

-- bytes have one value at a place
one-value : (bytes : List ℕ) (place value other : ℕ) → IsCodeAt bytes place value → IsCodeAt bytes place other
    → other ≡ value
one-value bytes place value other one two = sym two.fourth ∙ one.fourth

pub code-decides : {bytes : List ℕ} {c : Code} {past : List Code} {end : ℕ} → Film bytes (c ∷ past) end
    → first_fault past ≡ None → Decides (CodeRefusal (IsCodeAt bytes) bytes c.place) (fault_at past c.place c.value)
unfolding fault_at
code-decides {bytes} {c} {past} film accepted =
    let Has = IsCodeAt bytes in
    let at = c.place in
    let value = c.value in
    let t = tally_of past in
    let code = has-new (known film.knows) in
    let at_code : AtCode Has past at value = record {
      knows = older (known film.knows);
      code = code;
      one = λ other has. one-value bytes at value other code has;
    } in
    both (HeaderRefusal Has bytes at)
    (Otherwise (ValueRefusal Has at)
    (Otherwise (SecondRefusal Has at) (Otherwise (SliceRefusal Has at) (CountRefusal Has at))))
    (latest_fault past at) (code_fault t at value) (latest-decides (film-older film) accepted)
    (λ _. both (ValueRefusal Has at)
    (Otherwise (SecondRefusal Has at) (Otherwise (SliceRefusal Has at) (CountRefusal Has at)))
    (value_fault t at value)
    (first_refusal (second_fault t value)
    (first_refusal (first_slice_fault t at value) (count_fault t at value)))
    (value-decides Has past at value at_code)
    (λ none. both (SecondRefusal Has at) (Otherwise (SliceRefusal Has at) (CountRefusal Has at))
    (second_fault t value) (first_refusal (first_slice_fault t at value) (count_fault t at value))
    (second-decides Has past at value at_code)
    (λ _. both (SliceRefusal Has at) (CountRefusal Has at) (first_slice_fault t at value)
    (count_fault t at value) (slice-decides Has past at value at_code none)
    (λ _. count-decides Has past at value at_code))))
