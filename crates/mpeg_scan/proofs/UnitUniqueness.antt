-- The units of a film are the only ones that are as the standard says.
use Rattle.std.proofs.Common.{ℕ, suc, Bool, true, false, cond, ◌+◌, ◌<◌, ◌≤◌, ◌≡◌, ◌⊎◌, List, [], ◌∷◌, Some, length}
use Rattle.std.proofs.Common.{slice_get, sym, ◌∙◌, ap, refl, subst, inl, inr, arith}
use Rattle.std.proofs.lemmas.Bool.{cases_lt}
use Rattle.mpeg_scan.specs.declared.units.Kind.{Kind}
use Rattle.mpeg_scan.specs.declared.units.Kind.TheVariants.{I, P, B, D}
use Rattle.mpeg_scan.specs.declared.units.Unit.{Unit as PictureUnit}
use Rattle.mpeg_scan.specs.CodeFacts.{kind_of}
use Rattle.mpeg_scan.specs.StartCodes.{codes_of, read_after}
use Rattle.mpeg_scan.specs.Films.{IsFilm}
use Rattle.mpeg_scan.specs.Layout.{AreChained}
use Rattle.mpeg_scan.specs.CodePlaces.{IsCodeAt}
use Rattle.mpeg_scan.specs.StandardUnits.{ArePresented, AreUnitsOf, Counts, HasFields, IsFirstCode, IsHeadValue}
use Rattle.mpeg_scan.specs.StandardUnits.{IsSliceValue, IsUnitOf, StandsIn, StandsThere, type_number, vector_fields}
use Rattle.mpeg_scan.specs.PartTiling.{first_of}
use Rattle.mpeg_scan.proofs.FirstUnitLemmas.{film-first}
use Rattle.mpeg_scan.proofs.UnitLayoutLemmas.{film-chained}
use Rattle.mpeg_scan.proofs.CodeOrderLemmas.{film-presented}
use Rattle.mpeg_scan.proofs.StandardLemmas.{film-standard}

-- ---- one unit

-- two units, field by field
record AreSameFields (u v : PictureUnit) : Type 0 where
  from : u.from ≡ v.from
  head_end : u.head_end ≡ v.head_end
  to : u.to ≡ v.to
  first_slice : u.first_slice ≡ v.first_slice
  slices : u.slices ≡ v.slices
  temporal : u.temporal ≡ v.temporal
  presentation : u.presentation ≡ v.presentation
  kind : u.kind ≡ v.kind
  vectors : u.vectors ≡ v.vectors
  has_sequence : u.has_sequence ≡ v.has_sequence
  starts_group : u.starts_group ≡ v.starts_group

same-unit : {u v : PictureUnit} → AreSameFields u v → u ≡ v
same-unit {u} {v} same =
    let a = record u { from = v.from } in
    let b = record a { head_end = v.head_end } in
    let c = record b { to = v.to } in
    let d = record c { first_slice = v.first_slice } in
    let e = record d { slices = v.slices } in
    let f = record e { temporal = v.temporal } in
    let g = record f { presentation = v.presentation } in
    let h = record g { kind = v.kind } in
    let i = record h { vectors = v.vectors } in
    let j = record i { has_sequence = v.has_sequence } in
    ap (λ (x : ℕ). record u { from = x }) same.from
    ∙ ap (λ (x : ℕ). record a { head_end = x }) same.head_end
    ∙ ap (λ (x : ℕ). record b { to = x }) same.to
    ∙ ap (λ (x : ℕ). record c { first_slice = x }) same.first_slice
    ∙ ap (λ (x : ℕ). record d { slices = x }) same.slices
    ∙ ap (λ (x : ℕ). record e { temporal = x }) same.temporal
    ∙ ap (λ (x : ℕ). record f { presentation = x }) same.presentation
    ∙ ap (λ (x : Kind). record g { kind = x }) same.kind
    ∙ ap (λ (x : ℕ). record h { vectors = x }) same.vectors
    ∙ ap (λ (x : Bool). record i { has_sequence = x }) same.has_sequence
    ∙ ap (λ (x : Bool). record j { starts_group = x }) same.starts_group

bool-same : (a b : Bool) → (a ≡ true → b ≡ true) → (b ≡ true → a ≡ true) → a ≡ b
bool-same true b one other = sym (one refl)
bool-same false true one other = other refl
bool-same false false one other = refl

kind-back : (k : Kind) → kind_of (type_number k) ≡ k
kind-back I = refl
kind-back P = refl
kind-back B = refl
kind-back D = refl

kind-same : (k l : Kind) → type_number k ≡ type_number l → k ≡ l
kind-same k l e = sym (kind-back k) ∙ ap kind_of e ∙ kind-back l

order-of : (bytes : List ℕ) (u : PictureUnit) → IsUnitOf bytes u → u.from < u.head_end
order-of bytes u is = omega (arith, is.picture.after, is.picture.before)

head-order : {bytes : List ℕ} {u v : PictureUnit} → IsUnitOf bytes u → IsUnitOf bytes v → u.from ≡ v.from
    → v.head_end ≤ u.head_end
head-order {bytes} {u} {v} one other from = elim (cases_lt u.head_end v.head_end) [
  | inl less ↦ absurd (other.head u.head_end one.head_ends.0 one.head_ends.1.0
      (omega (arith, from, order-of bytes u one)) less one.head_ends.1.1)
  | inr more ↦ more
]

-- a unit ends at a code of a head, or at the film's end
abbrev Ends : List ℕ → ℕ → Type 0
Ends bytes to = (to ≡ length bytes) ⊎ StandsThere (IsCodeAt bytes) to IsHeadValue

-- a unit of the bytes that ends where it may
record IsUnitWithin (bytes : List ℕ) (u : PictureUnit) : Type 0 where
  unit : IsUnitOf bytes u
  ends : Ends bytes u.to
  within : u.to ≤ length bytes

end-order : {bytes : List ℕ} {u v : PictureUnit} → IsUnitWithin bytes u → IsUnitWithin bytes v
    → u.head_end ≡ v.head_end → v.to ≤ u.to
end-order {u} {v} one other head = elim (cases_lt u.to v.to) [
  | inl less ↦ elim one.ends [
    | inl end ↦ omega (arith, end, other.within, less)
    | inr code ↦
        absurd (other.unit.slices u.to code.0 code.1.0 (omega (arith, head, one.unit.rest)) less code.1.1)
  ]
  | inr more ↦ more
]

-- two units at the same places
record AreSamePlaces (u v : PictureUnit) : Type 0 where
  from : u.from ≡ v.from
  head_end : u.head_end ≡ v.head_end
  to : u.to ≡ v.to

stands-same : {bytes : List ℕ} {u v : PictureUnit} {value : ℕ} → AreSamePlaces u v
    → StandsIn (IsCodeAt bytes) u.from u.head_end value → StandsIn (IsCodeAt bytes) v.from v.head_end value
stands-same same it = record {
  place = it.place;
  code = it.code;
  after = omega (arith, same.from, it.after);
  before = omega (arith, same.head_end, it.before);
}

group-same : {bytes : List ℕ} {u v : PictureUnit} → AreSamePlaces u v
    → IsFirstCode (IsCodeAt bytes) u.from ⊎ StandsIn (IsCodeAt bytes) u.from u.head_end 0xb8
    → IsFirstCode (IsCodeAt bytes) v.from ⊎ StandsIn (IsCodeAt bytes) v.from v.head_end 0xb8
group-same {bytes} same (inl first) = inl (subst (λ p. IsFirstCode (IsCodeAt bytes) p) same.from first)
group-same {u} {v} same (inr it) = inr (stands-same {u = u} {v = v} same it)

-- two units with the same picture
record AreSamePictures (u v : PictureUnit) : Type 0 where
  temporal : u.temporal ≡ v.temporal
  kind : u.kind ≡ v.kind
  vectors : u.vectors ≡ v.vectors

-- one head has one picture, whose bytes give its fields
picture-same : {bytes : List ℕ} {u v : PictureUnit} → IsUnitOf bytes u → IsUnitOf bytes v → AreSamePlaces u v →
    AreSamePictures u v
picture-same {bytes} {u} {v} one other same =
    let place : other.picture.place ≡ one.picture.place =
    one.picture.only other.picture.place other.picture.code
    (omega (arith, same.from, other.picture.after)) (omega (arith, same.head_end, other.picture.before)) in
    let its : HasFields bytes one.picture.place v =
    subst (λ p. HasFields bytes p v) place other.picture.fields in
    let kind : u.kind ≡ v.kind = kind-same u.kind v.kind (one.picture.fields.kind ∙ sym its.kind) in
    record {
      temporal = one.picture.fields.temporal ∙ sym its.temporal;
      kind = kind;
      vectors = one.picture.fields.vectors
          ∙ ap (λ (k : Kind). vector_fields bytes one.picture.place k) kind ∙ sym its.vectors;
    }

-- one head has a sequence header or none, and starts a group or none
headers-same : {bytes : List ℕ} {u v : PictureUnit} → IsUnitOf bytes u → IsUnitOf bytes v → AreSamePlaces u v →
    (u.has_sequence ≡ v.has_sequence) × (u.starts_group ≡ v.starts_group)
headers-same {u} {v} one other same =
    let back : AreSamePlaces v u =
    record { from = sym same.from; head_end = sym same.head_end; to = sym same.to } in (
      bool-same u.has_sequence v.has_sequence
          (λ e. other.sequence.1 (stands-same same (one.sequence.0 e)))
          (λ e. one.sequence.1 (stands-same back (other.sequence.0 e))),
      bool-same u.starts_group v.starts_group
          (λ e. other.group.1 (group-same same (one.group.0 e)))
          (λ e. one.group.1 (group-same back (other.group.0 e))),
    )

-- between the same places stand the same slices, and as many before them
slices-same : {bytes : List ℕ} {u v : PictureUnit} → IsUnitOf bytes u → IsUnitOf bytes v → AreSamePlaces u v →
    (u.first_slice ≡ v.first_slice) × (u.slices ≡ v.slices)
slices-same {bytes} {u} {v} one other same =
    let Slices : ℕ → ℕ → ℕ → Type 0 = λ from to n. Counts (IsCodeAt bytes) IsSliceValue from to n in
    let own : Slices v.head_end v.to u.slices =
    subst (λ p. Slices v.head_end p u.slices) same.to (subst (λ p. Slices p u.to u.slices) same.head_end one.own) in
    let all = subst (λ p. Slices 0 p (u.first_slice + u.slices)) same.to one.all in
    let low = own.most other.own.places other.own.are in
    let high = other.own.most own.places own.are in
    let low_all = all.most other.all.places other.all.are in
    let high_all = other.all.most all.places all.are in
    let slices : u.slices ≡ v.slices = omega (arith, low, own.long, high, other.own.long) in
    (omega (arith, slices, low_all, all.long, high_all, other.all.long), slices)

-- where units begin, how many come before them, and how many before the latest group
record Onward : Type 0 where
  from : ℕ
  number : ℕ
  group : ℕ

abbrev after_unit : Onward → PictureUnit → Onward
after_unit at u = record { from = u.to; number = at.number + 1; group = cond u.starts_group at.number at.group }

-- such a unit that begins there and is numbered so
record IsNumberedUnit (bytes : List ℕ) (at : Onward) (u : PictureUnit) : Type 0 where
  begins : u.from ≡ at.from
  lies : IsUnitWithin bytes u
  shown : u.presentation ≡ cond u.starts_group at.number at.group + u.temporal

units-same : {bytes : List ℕ} {at : Onward} {u v : PictureUnit} → IsNumberedUnit bytes at u
    → IsNumberedUnit bytes at v → u ≡ v
units-same {at} {u} {v} left right =
    let one = left.lies.unit in
    let other = right.lies.unit in
    let from : u.from ≡ v.from = left.begins ∙ sym right.begins in
    let head : u.head_end ≡ v.head_end =
    omega (arith, head-order one other from, head-order other one (sym from)) in
    let to : u.to ≡ v.to =
    omega (arith, end-order left.lies right.lies head, end-order right.lies left.lies (sym head)) in
    let places : AreSamePlaces u v = record { from = from; head_end = head; to = to } in
    let picture = picture-same one other places in
    let headers = headers-same one other places in
    let slices = slices-same one other places in
    let presentation : u.presentation ≡ v.presentation =
    left.shown ∙ ap (λ b. cond b at.number at.group + u.temporal) headers.1
    ∙ ap (λ n. cond v.starts_group at.number at.group + n) picture.temporal ∙ sym right.shown in
    let same : AreSameFields u v = record {
      from = from;
      head_end = head;
      to = places.to;
      first_slice = slices.0;
      slices = slices.1;
      temporal = picture.temporal;
      presentation = presentation;
      kind = picture.kind;
      vectors = picture.vectors;
      has_sequence = headers.0;
      starts_group = headers.1;
    } in
    same-unit same

-- ---- a list of units

abbrev All : List ℕ → List PictureUnit → Type 0
All bytes [] = Unit {0}
All bytes (u ∷ us) = IsUnitOf bytes u × All bytes us

all-of : (bytes : List ℕ) (us : List PictureUnit) →
    ((k : ℕ) (u : PictureUnit) → slice_get us k ≡ Some u → IsUnitOf bytes u) → All bytes us
all-of bytes [] each = tt
all-of bytes (u ∷ us) each = (each 0 u refl, all-of bytes us (λ k v is. each (suc k) v is))

chain-low : (bytes : List ℕ) (from : ℕ) (us : List PictureUnit) → All bytes us →
    AreChained from us (length bytes) → from ≤ length bytes
chain-low bytes from [] all chained = omega (arith, chained)
chain-low bytes from (u ∷ us) all chained =
    let rest = chain-low bytes u.to us all.1 chained.1 in
    omega (arith, chained.0, order-of bytes u all.0, all.0.rest, rest)

chain-ends : (bytes : List ℕ) (to : ℕ) (us : List PictureUnit) → All bytes us →
    AreChained to us (length bytes) → Ends bytes to
chain-ends bytes to [] all chained = inl chained
chain-ends bytes to (u ∷ us) all chained =
    inr (subst (λ p. StandsThere (IsCodeAt bytes) p IsHeadValue) chained.0 all.0.begins)

not-at-end : (bytes : List ℕ) (from : ℕ) (u : PictureUnit) → IsUnitOf bytes u → u.from ≡ from →
    from ≡ length bytes → ⊥
not-at-end bytes from u is same end = omega (arith, same, end, is.begins.1.0.fits)

-- units of the bytes, one after another from there to the end, and numbered so
record AreFrom (bytes : List ℕ) (at : Onward) (us : List PictureUnit) : Type 0 where
  each : All bytes us
  chained : AreChained at.from us (length bytes)
  presented : ArePresented at.number at.group us

-- the first of them, and those after it
first_unit : {bytes : List ℕ} {at : Onward} {u : PictureUnit} {us : List PictureUnit} → AreFrom bytes at (u ∷ us)
    → IsNumberedUnit bytes at u
first_unit {bytes} {u} {us} are = record {
  begins = are.chained.0;
  lies = record {
    unit = are.each.0;
    ends = chain-ends bytes u.to us are.each.1 are.chained.1;
    within = chain-low bytes u.to us are.each.1 are.chained.1;
  };
  shown = are.presented.0;
}

rest_units : {bytes : List ℕ} {at : Onward} {u : PictureUnit} {us : List PictureUnit} → AreFrom bytes at (u ∷ us)
    → AreFrom bytes (after_unit at u) us
rest_units are = record { each = are.each.1; chained = are.chained.1; presented = are.presented.1 }

lists-same : {bytes : List ℕ} {at : Onward} {us vs : List PictureUnit} → AreFrom bytes at us → AreFrom bytes at vs
    → us ≡ vs
lists-same {us = []} {vs = []} one other = refl
lists-same {bytes} {at} {us = []} {vs = v ∷ vs} one other =
    absurd (not-at-end bytes at.from v other.each.0 other.chained.0 one.chained)
lists-same {bytes} {at} {us = u ∷ us} {vs = []} one other =
    absurd (not-at-end bytes at.from u one.each.0 one.chained.0 other.chained)
lists-same {bytes} {at} {us = u ∷ us} {vs = v ∷ vs} one other =
    let e : u ≡ v = units-same (first_unit one) (first_unit other) in
    let rest : us ≡ vs = lists-same {at = after_unit at v} {us = us} {vs = vs}
    (subst (λ (w : PictureUnit). AreFrom bytes (after_unit at w) us) e (rest_units one)) (rest_units other) in
    ap (λ (w : PictureUnit). w ∷ us) e ∙ ap (λ (l : List PictureUnit). v ∷ l) rest

pub one-list : (bytes : List ℕ) (units others : List PictureUnit) → AreUnitsOf bytes units →
    AreUnitsOf bytes others → units ≡ others
one-list bytes units others one other =
    let from : other.from ≡ one.from = omega (
      arith,
      other.first one.from one.code.0 one.code.1.0,
      one.first other.from other.code.0 other.code.1.0,
    ) in
    let at : Onward = record { from = one.from; number = 0; group = 0 } in
    let left : AreFrom bytes at units =
    record { each = all-of bytes units one.each; chained = one.chained; presented = one.presented } in
    let right : AreFrom bytes at others = record {
      each = all-of bytes others other.each;
      chained = subst (λ p. AreChained p others (length bytes)) from other.chained;
      presented = other.presented;
    } in
    lists-same left right

pub film-units_of : (bytes : List ℕ) (rate : ℕ) (units : List PictureUnit) (starts : List ℕ) →
    IsFilm bytes rate units starts → AreUnitsOf bytes units
film-units_of bytes rate units starts film =
    let first = film-first bytes rate units starts film in record {
      from = first_of (codes_of (read_after [] bytes));
      code = first.0;
      first = first.1;
      chained = film-chained bytes rate units starts film;
      each = film-standard film;
      presented = film-presented bytes rate units starts film;
    }
