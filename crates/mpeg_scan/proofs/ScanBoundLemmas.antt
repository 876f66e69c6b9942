-- The scanner's latest unit and slice begin well before the next code.
use Rattle.std.proofs.Common.{inl, inr, Result, Ok, Err, OnOk, ℕ, Bool, true, false, not, cond, eqb, leb, ltb, ◌&&◌}
use Rattle.std.proofs.Common.{◌||◌, ◌+◌, ◌-◌, ◌<◌, ◌≤◌, ◌≡◌, List, [], ◌∷◌, Option, Some, None, sym, ◌∙◌, take, ap}
use Rattle.std.proofs.Common.{refl, subst, arith}
use Rattle.std.specs.Option.{IsSome, option_map}
use Rattle.std.proofs.lemmas.Option.{same_Some}
use Rattle.std.proofs.lemmas.Bool.{cases_Bool, or_parts, true≢false, false≢true, ne_eqb, lt-leb, cond-false}
use Rattle.mpeg_scan.specs.declared.units.TheConstants.{MAX_UNIT_HEAD_BYTES}
use Rattle.mpeg_scan.specs.declared.codes.Code.{Code}
use Rattle.mpeg_scan.specs.declared.codes.Prefix.{Prefix}
use Rattle.mpeg_scan.specs.declared.codes.Prefix.TheVariants.{Nothing, Zero, Zeros, Whole}
use Rattle.mpeg_scan.specs.declared.faults.FilmFault.{FilmFault}
use Rattle.mpeg_scan.specs.declared.faults.FilmFault.TheVariants.{GroupTooLong, Mpeg2, NoSequence, SystemCode, TooLong}
use Rattle.mpeg_scan.specs.declared.progress.Progress.{Progress}
use Rattle.mpeg_scan.specs.Tallies.{Tally}
use Rattle.mpeg_scan.specs.StartCodes.{after_one, after_zero, is_whole, next_prefix, note}
use Rattle.mpeg_scan.specs.CodeFacts.{is_head, is_slice}
use Rattle.mpeg_scan.specs.FilmFaults.{code_fault, count_fault, first_refusal, first_slice_fault, head_fault}
use Rattle.mpeg_scan.specs.FilmFaults.{header_fault, last_fault, left_without_slices, open_fault, second_fault}
use Rattle.mpeg_scan.specs.FilmFaults.{value_fault}
use Rattle.mpeg_scan.specs.ScanBounds.{AwaitsSlice, AwaitsSliceAfter, HasRoom, HasRoomWith, IsAhead, prefix_length}
use Rattle.mpeg_scan.specs.ScannerState.{HasSkipped, scan_with_code, scan_with_byte, scan_with_run}
use Rattle.mpeg_scan.specs.CodeSteps.{end_judgement, code_judgement, latest_header_fault, next}
use Rattle.mpeg_scan.specs.CodeSteps.{next_begins, tally_now, tally_with}
use Rattle.mpeg_scan.proofs.NextCodeLemmas.{code-begun, counts-more, counts-next, picture-next}
use Rattle.mpeg_scan.proofs.NextCodeLemmas.{rate-next, with-more, with-noted}
use Rattle.mpeg_scan.proofs.CodesBeforeLemmas.{slice-value}
use Rattle.mpeg_scan.proofs.CodeSpacingLemmas.{slice-case, whole-is}
use Rattle.mpeg_scan.proofs.ScanStepLemmas.{NotedCode, judged_at, otherwise-second}
use Rattle.mpeg_scan.proofs.PartTilingLemmas.{ended-none, first_slice-accepted, first_slice-head}

-- ---- a byte more of a header changes none of it
record SamePlaces (t u : Tally) : Type 0 where
  begun : t.begun ≡ u.begun
  unit : t.unit ≡ u.unit
  slices : t.slices ≡ u.slices
  slice : t.slice ≡ u.slice

same-noted : (o : Option Code) (t : Tally) (x : ℕ)
    → SamePlaces (tally_with o t) (tally_with (option_map (λ c. note c x) o) t)
unfolding next
same-noted None t x = record { begun = refl; unit = refl; slices = refl; slice = refl }
same-noted (Some c) t x = record { begun = refl; unit = refl; slices = refl; slice = refl }

length-one : (p : Prefix) → prefix_length (after_one p) ≤ prefix_length p + 1
length-one Nothing = omega arith
length-one Zero = omega arith
length-one Zeros = omega arith
length-one Whole = omega arith

length-zero : (p : Prefix) → prefix_length (after_zero p) ≤ prefix_length p + 1
length-zero Nothing = omega arith
length-zero Zero = omega arith
length-zero Zeros = omega arith
length-zero Whole = omega arith

length-by : (a b : Bool) (p : Prefix) → prefix_length
    (cond a (after_one p) (cond b (after_zero p) Nothing)) ≤ prefix_length p + 1
length-by true b p = length-one p
length-by false true p = length-zero p
length-by false false p = omega arith

length-next : (p : Prefix) (x : ℕ) → prefix_length (next_prefix p x) ≤ prefix_length p + 1
length-next p x = length-by (eqb x 1) (eqb x 0) p

-- a byte that isn't the value of a code
pub noted-ahead : (s n : Progress) (x : ℕ) → n ≡ scan_with_byte s x → IsAhead s → IsAhead n
noted-ahead s n x is room =
    let more = length-next s.prefix x in
    subst (λ (v : Progress). IsAhead v) (sym is) (record {
      read = omega (arith, more, room.read);
      room = with-more (with-noted s.latest x room.room) (omega (arith, more));
    })

awaits-same : (Ready : ℕ → Type 0) (t u : Tally) → SamePlaces t u → AwaitsSlice Ready t → AwaitsSlice Ready u
awaits-same Ready t u same awaits = λ some. subst (λ p. Ready p) same.slice (awaits (omega (arith, same.slices)))

pub noted-awaits : (Ready : ℕ → Type 0) (s n : Progress) (x : ℕ) → n ≡ scan_with_byte s x
    → AwaitsSlice Ready (tally_now s) → AwaitsSlice Ready (tally_now n)
noted-awaits Ready s n x is awaits =
    subst (λ (v : Progress). AwaitsSlice Ready (tally_now v)) (sym is)
    (awaits-same Ready (tally_now s) (tally_now (scan_with_byte s x)) (same-noted s.latest s.tally x) awaits)

whole-length : (p : Prefix) → is_whole p ≡ true → prefix_length p ≡ 3
whole-length Nothing e = absurd (false≢true e)
whole-length Zero e = absurd (false≢true e)
whole-length Zeros e = absurd (false≢true e)
whole-length Whole e = refl

-- before a code there is room
pub room-before : {s n : Progress} (x : ℕ) → is_whole s.prefix ≡ true → n ≡ scan_with_byte s x
    → IsAhead s → HasRoomWith n.latest n.tally (s.fed - 3)
room-before {s} x whole is room =
    subst (λ (v : Progress). HasRoomWith v.latest v.tally (s.fed - 3)) (sym is)
    (with-more (with-noted s.latest x room.room) (omega (arith, whole-length s.prefix whole)))

-- ---- what a code that isn't refused says

pub code_judgement-code : (latest : Option Code) (tally : Tally) (place value : ℕ)
    → code_judgement latest tally place value ≡ None → code_fault (tally_with latest tally) place value ≡ None
unfolding code_judgement
code_judgement-code latest tally place value e =
    otherwise-second (latest_header_fault latest tally.rate place) (code_fault (tally_with latest tally) place value) e

-- a slice's code that isn't refused, and the tally with the code before it
pub record SliceTaken (t : Tally) (s : Progress) (place value : ℕ) : Type 0 where
  pub judged : code_judgement s.latest s.tally place value ≡ None
  pub tally_is : t ≡ tally_now s
  pub slice : is_slice value ≡ true

pub slice-taken : {t : Tally} {s : Progress} {place value : ℕ}
    → (code_judgement s.latest s.tally place value ≡ None) × (t ≡ tally_now s) → is_slice value ≡ true
    → SliceTaken t s place value
slice-taken taken slice = record { judged = taken.0; tally_is = taken.1; slice = slice }

-- it isn't the film's first code
pub slice-begun : {t : Tally} {s : Progress} {place value : ℕ} → SliceTaken t s place value → t.begun ≡ true
slice-begun {s} {place} {value} taken =
    let other = ne_eqb value 0xb3 (λ is. absurd (omega (arith, (slice-value value taken.slice).1))) in
    ap (λ (v : Tally). v.begun) taken.tally_is
    ∙ code-begun (tally_now s) place value (code_judgement-code s.latest s.tally place value taken.judged) other

-- a unit's first slice: the head before it has 1 to 1,380 bytes
pub head-some : {t : Tally} {s : Progress} {place value : ℕ} → SliceTaken t s place value
    → HasRoom (tally_now s) place → t.unit < place
head-some {t} {s} taken room =
    let now = tally_now s in
    let unit : t.unit ≡ now.unit = ap (λ (v : Tally). v.unit) taken.tally_is in
    let begun : t.begun ≡ now.begun = ap (λ (v : Tally). v.begun) taken.tally_is in
    omega (arith, unit, room.unit (sym begun ∙ slice-begun taken))

pub head-short : {t : Tally} {s : Progress} {place value : ℕ} → SliceTaken t s place value → t.slices ≡ 0
    → place ≤ t.unit + MAX_UNIT_HEAD_BYTES
head-short {t} {s} {place} {value} taken none =
    let now = tally_now s in
    let unit : t.unit ≡ now.unit = ap (λ (v : Tally). v.unit) taken.tally_is in
    let slices : t.slices ≡ now.slices = ap (λ (v : Tally). v.slices) taken.tally_is in
    omega (
      arith,
      unit,
      first_slice-head now place value
          (first_slice-accepted now place value (code_judgement-code s.latest s.tally place value taken.judged))
          taken.slice (sym slices ∙ none),
    )

-- ---- after a code

length-of : (a b : Bool) → prefix_length (cond a Nothing (cond b Zero Nothing)) ≤ 1
length-of true b = omega arith
length-of false true = omega arith
length-of false false = omega arith

length-value : (value : ℕ) → prefix_length (next_prefix Whole value) ≤ 1
length-value value = length-of (eqb value 1) (eqb value 0)

length-no_zero : (a b : Bool) → b ≡ false → prefix_length (cond a Nothing (cond b Zero Nothing)) ≡ 0
length-no_zero true b e = refl
length-no_zero false true e = absurd (true≢false e)
length-no_zero false false e = refl

length-slice : (value : ℕ) → is_slice value ≡ true → prefix_length (next_prefix Whole value) ≡ 0
length-slice value slice =
    let other = ne_eqb value 0 (λ none. absurd (omega (arith, (slice-value value slice).0))) in
    length-no_zero (eqb value 1) (eqb value 0) other

from-by : {place end unit : ℕ} (b : Bool) → place ≤ end → unit ≤ place → cond b place unit ≤ end
from-by true far before = far
from-by false far before = omega (arith, far, before)

unit-by : {place end : ℕ} (b : Bool) (unit : ℕ) → place + 3 ≤ end → (b ≡ false → unit + 3 ≤ place)
    → cond b place unit + 3 ≤ end
unit-by true unit far before = far
unit-by false unit far before = omega (arith, far, before refl)

code-room : {t : Tally} {place fed : ℕ} (value : ℕ) → place + 3 ≤ fed → HasRoom t place
    → code_fault t place value ≡ None
    → HasRoomWith (Some (record { place = place; value = value; header = [] })) t
    (fed + 1 - prefix_length (next_prefix Whole value))
unfolding next
code-room {t} {place} {fed} value at room e =
    let c : Code = record { place = place; value = value; header = [] } in
    let end = fed + 1 - prefix_length (next_prefix Whole value) in
    let far : place + 3 ≤ end = omega (arith, length-value value, at) in
    let first = is_head value && ltb 0 t.slices in
    record {
      code = λ d is. omega (arith, far, ap (λ (v : Code). v.place) (same_Some c d is));
      older = counts-more room.counts (omega (arith, far));
      now = record {
        from = from-by (next_begins t value) (omega (arith, far)) room.from;
        unit = λ begun. unit-by (next_begins t value) t.unit far (λ old. elim (cases_Bool t.begun) [
          | inl is ↦ room.unit is
          | inr none ↦ absurd (true≢false (sym (ap not none) ∙ (or_parts (not t.begun) first old).0))
        ]);
        slice = λ some. slice-case {s = is_slice value} {n = t.slices} {at = end} (is_head value) place t.slice
            (λ slice. omega (arith, length-slice value slice, at))
            (λ more. omega (arith, room.slice more, far)) some;
        picture = λ some. picture-next t c e room.picture some;
        rate = λ begun. rate-next t c e room.rate;
        counts = counts-next t c e room.counts (omega (arith, far));
      };
    }

pub coded-ahead : {m : Progress} (c : NotedCode)
    → (judged_at c c.noted ≡ None) × (m ≡ scan_with_code c.noted (c.before.fed - 3) c.byte) → IsAhead c.before
    → IsAhead m
coded-ahead c h room =
    let s = c.before in
    let n = c.noted in
    let x = c.byte in
    let place = s.fed - 3 in
    let three = whole-length s.prefix c.whole in
    let fed : n.fed ≡ s.fed + 1 = ap (λ (v : Progress). v.fed) c.is in
    let prefix : n.prefix ≡ next_prefix Whole x =
    ap (λ (v : Progress). v.prefix) c.is ∙ ap (λ p. next_prefix p x) (whole-is s.prefix c.whole) in
    let length : prefix_length n.prefix ≡ prefix_length (next_prefix Whole x) = ap prefix_length prefix in
    let made = code-room {t = tally_now n} {place = place} {fed = s.fed} x (omega (arith, three, room.read))
    (room-before x c.whole c.is room).now (code_judgement-code n.latest n.tally place x h.0) in
    subst (λ (v : Progress). IsAhead v) (sym h.1) (record {
      read = omega (arith, fed, length, length-value x);
      room = with-more made (omega (arith, fed, length));
    })

pub coded-awaits : {m : Progress} (Ready : ℕ → Type 0) (c : NotedCode)
    → m ≡ scan_with_code c.noted (c.before.fed - 3) c.byte
    → AwaitsSliceAfter Ready (tally_now c.noted) (c.before.fed - 3) c.byte → AwaitsSlice Ready (tally_now m)
unfolding next
coded-awaits Ready c is awaits = subst (λ (v : Progress). AwaitsSlice Ready (tally_now v)) (sym is) awaits

-- ---- as a run is passed over

run-ahead : {s : Progress} (xs : List ℕ) → IsAhead s → IsAhead (scan_with_run s xs)
run-ahead [] room = room
run-ahead {s} (x ∷ xs) room = run-ahead {s = scan_with_byte s x} xs (noted-ahead s (scan_with_byte s x) x refl room)

pub skipped-ahead : {old new : Progress} {rest : List ℕ} {count : ℕ} → HasSkipped old new rest count → IsAhead old
    → IsAhead new
skipped-ahead {rest} {count} skipped room =
    subst (λ (s : Progress). IsAhead s) (sym skipped.is) (run-ahead (take count rest) room)

-- a longer header changes no count and no place of slices
run-places : (s : Progress) (xs : List ℕ)
    → ((tally_now (scan_with_run s xs)).slices ≡ (tally_now s).slices)
    × ((tally_now (scan_with_run s xs)).slice ≡ (tally_now s).slice)
run-places s [] = (refl, refl)
run-places s (x ∷ xs) =
    let rest = run-places (scan_with_byte s x) xs in
    let same = same-noted s.latest s.tally x in (rest.0 ∙ sym same.slices, rest.1 ∙ sym same.slice)

pub skipped-places : {old new : Progress} {rest : List ℕ} {count : ℕ} → HasSkipped old new rest count
    → ((tally_now new).slices ≡ (tally_now old).slices) × ((tally_now new).slice ≡ (tally_now old).slice)
skipped-places {old} {rest} {count} skipped =
    let places = run-places old (take count rest) in (
      ap (λ (s : Progress). (tally_now s).slices) skipped.is ∙ places.0,
      ap (λ (s : Progress). (tally_now s).slice) skipped.is ∙ places.1,
    )

pub same-awaits : (Ready : ℕ → Type 0) (t u : Tally) → u.slices ≡ t.slices → u.slice ≡ t.slice → AwaitsSlice Ready t
    → AwaitsSlice Ready u
same-awaits Ready t u slices slice awaits =
    λ some. subst (λ p. Ready p) (sym slice) (awaits (omega (arith, slices, some)))

-- two facts of an answer that is Ok
pub both-ok : {T E P Q R : Type 0} (r : Result T E) → (P → Q → R) → OnOk r P → OnOk r Q → OnOk r R
both-ok (Ok x) f p q = f p q
both-ok (Err e) f p q = tt

-- ---- the film's end

pub end_judgement-sliced : (latest : Option Code) (tally t : Tally) (end : ℕ)
    → end_judgement latest tally end ≡ None → t ≡ tally_with latest tally → 0 < t.slices
unfolding end_judgement
end_judgement-sliced latest tally t end e is =
    let slices : t.slices ≡ (tally_with latest tally).slices = ap (λ (v : Tally). v.slices) is in
    let some = ended-none (tally_with latest tally)
    (otherwise-second (latest_header_fault latest tally.rate end) (last_fault (tally_with latest tally)) e) in
    omega (arith, slices, some)

-- what was read has room before the end
pub ahead-room : (s : Progress) → IsAhead s → HasRoomWith s.latest s.tally s.fed
ahead-room s room = with-more room.room (omega arith)

-- an accepted film has begun
ended-begun : (q b : Bool) (f : FilmFault) → cond (not q) (Some NoSequence) (cond b None (Some f)) ≡ None → q ≡ true
ended-begun true b f e = refl
ended-begun false b f e = absurd (cc)

pub end-rated : (s : Progress) (t : Tally) → end_judgement s.latest s.tally s.fed ≡ None → t ≡ tally_now s → IsAhead s
    → IsSome t.rate
unfolding end_judgement
end-rated s t e is room =
    let now = tally_now s in
    let last = otherwise-second (latest_header_fault s.latest s.tally.rate s.fed) (last_fault now) e in
    subst (λ (v : Tally). IsSome v.rate) (sym is)
    (room.room.now.rate (ended-begun now.begun (ltb 0 now.slices) (open_fault now now.picture) last))

pub end-room : (s : Progress) (t : Tally) → t ≡ tally_now s → IsAhead s → HasRoom t s.fed
end-room s t is room = subst (λ (v : Tally). HasRoom v s.fed) (sym is) (ahead-room s room).now

pub end-ready : (Ready : ℕ → Type 0) (s : Progress) (t : Tally) → t ≡ tally_now s → 0 < t.slices
    → AwaitsSlice Ready (tally_now s) → Ready t.slice
end-ready Ready s t is some awaits =
    let slices : t.slices ≡ (tally_now s).slices = ap (λ (v : Tally). v.slices) is in
    let slice : t.slice ≡ (tally_now s).slice = ap (λ (v : Tally). v.slice) is in
    subst (λ p. Ready p) (sym slice) (awaits (omega (arith, slices, some)))

-- ---- a slice after a slice

slice-not_head : (value : ℕ) → is_slice value ≡ true → is_head value ≡ false
slice-not_head value slice =
    let range = slice-value value slice in
    let picture : eqb value 0 ≡ false = ne_eqb value 0 (λ is. absurd (omega (arith, range.0))) in
    let sequence : eqb value 0xb3 ≡ false = ne_eqb value 0xb3 (λ is. absurd (omega (arith, range.1))) in
    let group : eqb value 0xb8 ≡ false = ne_eqb value 0xb8 (λ is. absurd (omega (arith, range.1))) in
    ap (λ b. b || (eqb value 0xb3 || eqb value 0xb8)) picture ∙ (ap (λ b. b || eqb value 0xb8) sequence ∙ group)

value-accepted : (t : Tally) (place value : ℕ) → t.begun ≡ true → is_slice value ≡ true
    → value_fault t place value ≡ None
value-accepted t place value begun slice =
    let range = slice-value value slice in
    let system : leb 0xb9 value ≡ false = lt-leb 0xb9 value (omega (arith, range.1)) in
    let extension : eqb value 0xb5 ≡ false = ne_eqb value 0xb5 (λ is. absurd (omega (arith, range.1))) in
    let first = cond (not t.begun && not (eqb value 0xb3)) (Some NoSequence) None in
    cond-false (leb 0xb9 value) (Some (SystemCode place)) (cond (eqb value 0xb5) (Some (Mpeg2 place)) first) system
    ∙ (cond-false (eqb value 0xb5) (Some (Mpeg2 place)) first extension
    ∙ ap (λ b. cond (not b && not (eqb value 0xb3)) (Some NoSequence) None) begun)

second-accepted : (t : Tally) (value : ℕ) → is_slice value ≡ true → second_fault t value ≡ None
second-accepted t value slice =
    ap (λ b. cond (b && eqb t.slices 0) (option_map left_without_slices t.picture) None) (slice-not_head value slice)

and-false : (a b : Bool) → b ≡ false → (a && b) ≡ false
and-false true b e = e
and-false false b e = refl

first-accepted : (t : Tally) (place value : ℕ) → 0 < t.slices → first_slice_fault t place value ≡ None
first-accepted t place value some =
    let none : eqb t.slices 0 ≡ false = ne_eqb t.slices 0 (λ is. absurd (omega (arith, some))) in
    cond-false (is_slice value && eqb t.slices 0) (head_fault t place t.picture) None
    (and-false (is_slice value) (eqb t.slices 0) none)

count-none : (t : Tally) (place value : ℕ) → is_slice value ≡ true → count_fault t place value ≡ None
count-none t place value slice =
    let range = slice-value value slice in
    let picture : eqb value 0 ≡ false = ne_eqb value 0 (λ is. absurd (omega (arith, range.0))) in
    ap (λ b. cond b (cond (leb 1024 (t.pictures - t.before_group)) (Some (GroupTooLong place))
    (cond (leb 4194304 t.pictures) (Some TooLong) None)) None) picture

slice-accepted : (t : Tally) (place value : ℕ) → t.begun ≡ true → 0 < t.slices → is_slice value ≡ true
    → code_fault t place value ≡ None
slice-accepted t place value begun some slice =
    let first = first_slice_fault t place value in
    let count = count_fault t place value in
    ap (λ o. first_refusal o (first_refusal (second_fault t value) (first_refusal first count)))
    (value-accepted t place value begun slice)
    ∙ (ap (λ o. first_refusal o (first_refusal first count)) (second-accepted t value slice)
    ∙ (ap (λ o. first_refusal o count) (first-accepted t place value some) ∙ count-none t place value slice))

header-accepted : (rate : Option ℕ) (c : Code) (end : ℕ) → is_slice c.value ≡ true → header_fault rate c end ≡ None
header-accepted rate c end slice =
    let range = slice-value c.value slice in
    let picture : eqb c.value 0 ≡ false = ne_eqb c.value 0 (λ is. absurd (omega (arith, range.0))) in
    let sequence : eqb c.value 0xb3 ≡ false = ne_eqb c.value 0xb3 (λ is. absurd (omega (arith, range.1))) in
    let group : eqb c.value 0xb8 ≡ false = ne_eqb c.value 0xb8 (λ is. absurd (omega (arith, range.1))) in
    cond-false (eqb c.value 0xb3) _ _ sequence
    ∙ (cond-false (eqb c.value 0xb8) _ _ group ∙ cond-false (eqb c.value 0) _ _ picture)

slices-more : (h s : Bool) (n : ℕ) → h ≡ false → s ≡ true → 0 < cond h 0 (cond s (n + 1) n)
slices-more true s n head slice = absurd (true≢false head)
slices-more false true n head slice = omega arith
slices-more false false n head slice = absurd (false≢true slice)

-- it is judged without fault
pub slices-judged : (c : Code) (t : Tally) (place value : ℕ) → is_slice c.value ≡ true → is_slice value ≡ true
    → code_judgement (Some c) t place value ≡ None
unfolding code_judgement next
slices-judged c t place value latest slice =
    let some = slices-more (is_head c.value) (is_slice c.value) t.slices (slice-not_head c.value latest) latest in
    ap (λ o. first_refusal o (code_fault (next t c) place value)) (header-accepted t.rate c place latest)
    ∙ slice-accepted (next t c) place value refl some slice
