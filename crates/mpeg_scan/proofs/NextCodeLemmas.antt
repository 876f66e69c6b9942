-- What is known of the codes so far before a place, as more bytes and a code that isn't refused come.
use Rattle.std.proofs.Common.{ℕ, zero, suc, Bool, true, false, not, cond, eqb, ltb, leb, ◌&&◌, ◌||◌, ◌+◌, ◌-◌, ◌<◌, ◌≤◌}
use Rattle.std.proofs.Common.{◌≡◌, Option, Some, None, ap, refl, arith, inl, inr, sym, ◌∙◌}
use Rattle.std.specs.Option.{ForSome, IsSome, is_some, option_map}
use Rattle.std.proofs.lemmas.Option.{same_Some}
use Rattle.std.proofs.lemmas.Bool.{false≢true, or_parts, true≢false, cases_Bool}
use Rattle.mpeg_scan.proofs.ScanStepLemmas.{some-cond-none, count-accepted, counted, otherwise-first}
use Rattle.mpeg_scan.specs.declared.faults.FilmFault.{FilmFault}
use Rattle.mpeg_scan.specs.declared.codes.Code.{Code}
use Rattle.mpeg_scan.specs.declared.faults.FilmFault.TheVariants.{Mpeg2, NoSequence, SystemCode}
use Rattle.mpeg_scan.specs.declared.tallies.Header.{Header}
use Rattle.mpeg_scan.specs.Tallies.{Tally}
use Rattle.mpeg_scan.specs.StartCodes.{note}
use Rattle.mpeg_scan.specs.FilmFaults.{code_fault, count_fault, first_refusal, first_slice_fault}
use Rattle.mpeg_scan.specs.FilmFaults.{value_fault, second_fault}
use Rattle.mpeg_scan.specs.ScanBounds.{HasCounts, HasRoom, HasRoomWith}
use Rattle.mpeg_scan.specs.CodeSteps.{next, next_begins, next_picture, next_rate, next_slices}
use Rattle.mpeg_scan.specs.CodeFacts.{header_of, is_head, is_slice, rate_after, rate_code}
use Rattle.mpeg_scan.proofs.UnitNumberingLemmas.{first-some}
use Rattle.mpeg_scan.proofs.PartTilingLemmas.{first_slice-accepted}

-- ---- before a later place

pub counts-more : {t : Tally} {p q : ℕ} → HasCounts t p → p ≤ q → HasCounts t q
counts-more counts far = record {
  pictures = counts.pictures;
  group = counts.group;
  slices = counts.slices;
  all = omega (arith, counts.all, far);
}

pub room-more : {t : Tally} {p q : ℕ} → HasRoom t p → p ≤ q → HasRoom t q
room-more room far = record {
  from = omega (arith, room.from, far);
  unit = λ begun. omega (arith, room.unit begun, far);
  slice = λ some. omega (arith, room.slice some, far);
  picture = room.picture;
  rate = room.rate;
  counts = counts-more room.counts far;
}

pub with-more : {latest : Option Code} {tally : Tally} {p q : ℕ} → HasRoomWith latest tally p → p ≤ q
    → HasRoomWith latest tally q
with-more room far = record {
  code = λ c is. omega (arith, room.code c is, far);
  older = counts-more room.older far;
  now = room-more room.now far;
}

-- ---- a byte more of the latest code

-- that there is a rate, or a picture, is the same, whatever it is
some-cond : {A : Type 0} (b : Bool) (x y : A) (o : Option A) → IsSome (cond b (Some x) o) → IsSome (cond b (Some y) o)
some-cond true x y o some = refl
some-cond false x y o some = some

some-rate : (rate : Option ℕ) (c : Code) (x : ℕ) → IsSome (rate_after rate c) → IsSome (rate_after rate (note c x))
some-rate None c x some = some-cond (eqb c.value 0xb3) (rate_code c) (rate_code (note c x)) None some
some-rate (Some rate) c x some = refl

room-noted : {p : ℕ} (c : Code) (t : Tally) (x : ℕ) → HasRoom (next t c) p → HasRoom (next t (note c x)) p
unfolding next
room-noted c t x room = record {
  from = room.from;
  unit = room.unit;
  slice = room.slice;
  picture = λ some. some-cond (eqb c.value 0) (header_of c) (header_of (note c x))
      (cond (next_begins t c.value) None t.picture) (room.picture some);
  rate = λ begun. some-rate t.rate c x (room.rate begun);
  counts = assumption room.counts;
}

noted-place : {p : ℕ} (c : Code) (x : ℕ) → ForSome (Some c) (λ d. d.place ≤ p)
    → ForSome (Some (note c x)) (λ d. d.place ≤ p)
noted-place c x below d is = omega (arith, below c refl, ap (λ (v : Code). v.place) (same_Some (note c x) d is))

pub with-noted : {t : Tally} {p : ℕ} (latest : Option Code) (x : ℕ) → HasRoomWith latest t p
    → HasRoomWith (option_map (λ c. note c x) latest) t p
with-noted None x room = room
with-noted {t} (Some c) x room =
    record { code = noted-place c x room.code; older = room.older; now = room-noted c t x room.now }

-- ---- a code that isn't refused

-- only a sequence header comes first
pub code-begun : (t : Tally) (place value : ℕ) → code_fault t place value ≡ None → eqb value 0xb3 ≡ false
    → t.begun ≡ true
code-begun t place value e other =
    let test = not t.begun && not (eqb value 0xb3) in
    let third : Option FilmFault = cond test (Some NoSequence) None in
    let first = some-cond-none (leb 0xb9 value) (SystemCode place) (cond (eqb value 0xb5) (Some (Mpeg2 place)) third)
    (otherwise-first (value_fault t place value)
    (first_refusal (second_fault t value)
    (first_refusal (first_slice_fault t place value) (count_fault t place value))) e) in
    let second = some-cond-none (eqb value 0xb5) (Mpeg2 place) third first.1 in
    let none = (some-cond-none test NoSequence None second.1).0 in
    elim (cases_Bool t.begun) [
      | inl begun ↦ begun
      | inr other_begun ↦ absurd
          (true≢false (sym (ap (λ b. not b && not (eqb value 0xb3)) other_begun ∙ ap not other) ∙ none))
    ]

group-by : (b z : Bool) (pictures group : ℕ) → group ≤ pictures
    → cond b pictures group ≤ cond z (pictures + 1) pictures
group-by true true pictures group few = omega arith
group-by true false pictures group few = omega arith
group-by false true pictures group few = omega (arith, few)
group-by false false pictures group few = few

slices-by : (h s : Bool) (n all : ℕ) → n ≤ all → cond h 0 (cond s (n + 1) n) ≤ cond s (all + 1) all
slices-by true s n all few = omega arith
slices-by false true n all few = omega (arith, few)
slices-by false false n all few = few

all-by : {all p q : ℕ} (s : Bool) → all ≤ p → p + 1 ≤ q → cond s (all + 1) all ≤ q
all-by true few far = omega (arith, few, far)
all-by false few far = omega (arith, few, far)

pub counts-next : {q : ℕ} (t : Tally) (c : Code) → code_fault t c.place c.value ≡ None → HasCounts t c.place
    → c.place + 1 ≤ q → HasCounts (next t c) q
unfolding next
counts-next t c e counts far = record {
  pictures = counted {p = t.pictures} (eqb c.value 0) (leb 1024 (t.pictures - t.before_group)) c.place refl
      (count-accepted t c.place c.value e) counts.pictures;
  group = group-by (eqb c.value 0xb8) (eqb c.value 0) t.pictures t.before_group counts.group;
  slices = slices-by (is_head c.value) (is_slice c.value) t.slices t.all_slices counts.slices;
  all = all-by (is_slice c.value) counts.all far;
}

-- what is known of the picture of a unit of n slices at a code that isn't refused: z, h, s: it is a picture, a
-- head code, a slice; q: the film has begun
record KnowsPicture (z h s q : Bool) (n : ℕ) (o : Option Header) : Type 0 where
  head : h ≡ false → z ≡ false
  begun : h ≡ false → q ≡ true
  first : s ≡ true → n ≡ 0 → IsSome o
  later : 0 < n → IsSome o

picture-by : {z h s q : Bool} {n : ℕ} (header : Header) (o : Option Header) → KnowsPicture z h s q n o
    → 0 < cond h 0 (cond s (n + 1) n)
    → IsSome (cond z (Some header) (cond (not q || (h && ltb 0 n)) None o))
picture-by {z = true} header o known some = refl
picture-by {z = false} {h = true} header o known some = absurd (omega (arith, some))
picture-by {z = false} {h = false} {q = false} header o known some = absurd (false≢true (known.begun refl))
picture-by {z = false} {h = false} {s = true} {q = true} {n = zero} header o known some = known.first refl refl
picture-by {z = false} {h = false} {s = true} {q = true} {n = suc m} header o known some = known.later (omega arith)
picture-by {z = false} {h = false} {s = false} {q = true} header o known some = known.later some

pub picture-next : (t : Tally) (c : Code) → code_fault t c.place c.value ≡ None → (0 < t.slices → IsSome t.picture)
    → 0 < next_slices t c → IsSome (next_picture t c)
picture-next t c e before some =
    let rest = eqb c.value 0xb3 || eqb c.value 0xb8 in
    let known : KnowsPicture (eqb c.value 0) (is_head c.value) (is_slice c.value) t.begun t.slices t.picture = record {
      head = λ other. (or_parts (eqb c.value 0) rest other).0;
      begun = λ other. code-begun t c.place c.value e
          (or_parts (eqb c.value 0xb3) (eqb c.value 0xb8) (or_parts (eqb c.value 0) rest other).1).0;
      first = λ slice none. first-some t c.place c.value (first_slice-accepted t c.place c.value e) slice none;
      later = before;
    } in
    picture-by (header_of c) t.picture known some

rate-by : (rate : Option ℕ) (c : Code) → (eqb c.value 0xb3 ≡ false → IsSome rate) → IsSome (rate_after rate c)
rate-by None c before = elim (cases_Bool (eqb c.value 0xb3)) [
  | inl is ↦ ap (λ e. is_some (cond e (Some (rate_code c)) None)) is
  | inr other ↦ absurd (false≢true (before other))
]
rate-by (Some rate) c before = refl

pub rate-next : (t : Tally) (c : Code) → code_fault t c.place c.value ≡ None → (t.begun ≡ true → IsSome t.rate)
    → IsSome (next_rate t c)
rate-next t c e before = rate-by t.rate c (λ other. before (code-begun t c.place c.value e other))
