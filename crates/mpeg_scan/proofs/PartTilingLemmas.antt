-- The reported parts lie one after another.
use Rattle.std.proofs.Common.{ℕ, suc, zero, Bool, true, false, not, cond, eqb, ltb, leb, ◌&&◌, ◌||◌}
use Rattle.std.proofs.Common.{◌+◌, ◌-◌, ◌<◌, ◌≤◌, ◌≡◌, ◌⊎◌, List, [], ◌∷◌, ◌++◌, Option, Some}
use Rattle.std.proofs.Common.{None, length, sym, ◌∙◌, ap, refl, subst, inl, inr, arith}
use Rattle.std.proofs.lemmas.Bool.{ltb-true, ltb-false, leb-true, eqb-true, ne_eqb, eq-eqb, lt-ltb, le-ltb, le-leb}
use Rattle.std.proofs.lemmas.Bool.{true≢false, and_parts, and_from, cond-true, cond-false}
use Rattle.mpeg_scan.specs.declared.units.TheConstants.{MAX_UNIT_HEAD_BYTES}
use Rattle.mpeg_scan.specs.declared.codes.Code.{Code}
use Rattle.mpeg_scan.specs.declared.faults.FilmFault.TheVariants.{SystemCode, Mpeg2, NoSequence, HeadTooLong}
use Rattle.mpeg_scan.specs.declared.tallies.Header.{Header}
use Rattle.mpeg_scan.specs.Tallies.{Tally}
use Rattle.mpeg_scan.specs.declared.units.Unit.{Unit as PictureUnit}
use Rattle.mpeg_scan.specs.StartCodes.{latest_prefix, codes_of}
use Rattle.mpeg_scan.specs.CodeFacts.{is_head, is_slice, tally_of, slice_count, latest_unit, head_end_of, latest_slice}
use Rattle.mpeg_scan.specs.FilmFaults.{first_refusal, latest_fault, value_fault, second_fault}
use Rattle.mpeg_scan.specs.FilmFaults.{first_slice_fault, count_fault, code_fault, head_fault}
use Rattle.mpeg_scan.specs.FilmFaults.{open_fault, last_fault, first_fault, end_fault, refusal_of}
use Rattle.mpeg_scan.specs.Calls.{Call, after_calls, head_call, slice_call, unit_call, unit_at, unit_end}
use Rattle.mpeg_scan.specs.Calls.{calls_at, calls_of, all_calls}
use Rattle.mpeg_scan.specs.PartTiling.{PartStart, between, within, next_part, parts_after, first_of, Tiles}
use Rattle.mpeg_scan.proofs.ScanStepLemmas.{accepted-older, code-accepted, otherwise-first, otherwise-second}
use Rattle.mpeg_scan.proofs.ScanStepLemmas.{calls-cons, accepted-whole, none-cond, some-cond-none}
use Rattle.mpeg_scan.proofs.CodeSpacingLemmas.{After, Spaced, placed-codes, room-after, slice-before, unit-before}

-- ---- one code

-- where the reported parts of codes end
pub part_by : ℕ → ℕ → ℕ → ℕ → PartStart
part_by n unit head_end slice = cond (eqb n 0) (between unit) (within unit head_end slice (n - 1))

part_by-none : (n unit head_end slice : ℕ) → n ≡ 0 → part_by n unit head_end slice ≡ between unit
unfolding part_by
part_by-none n unit head_end slice none =
    cond-true (eqb n 0) (between unit) (within unit head_end slice (n - 1)) (eq-eqb n 0 none)

part_by-some : (n m unit head_end slice : ℕ) → n ≡ m + 1 → part_by n unit head_end slice ≡ within unit head_end slice m
unfolding part_by
part_by-some n m unit head_end slice some =
    cond-false (eqb n 0) (between unit) (within unit head_end slice (n - 1)) (ne_eqb n 0 (λ none. absurd (omega arith)))
    ∙ ap (within unit head_end slice) (omega arith)

takes-head : (unit place : ℕ) → unit < place → place - unit ≤ MAX_UNIT_HEAD_BYTES
    → parts_after (Some (between unit)) (head_call unit place ∷ []) ≡ Some (within unit place place 0)
takes-head unit place below short =
    ap (λ b. parts_after (cond b (Some (within unit place place 0)) None) [])
    (and_from (eqb unit unit) (ltb unit place && leb (place - unit) MAX_UNIT_HEAD_BYTES) (eq-eqb unit unit refl)
    (and_from (ltb unit place) (leb (place - unit) MAX_UNIT_HEAD_BYTES)
    (lt-ltb unit place below) (le-leb (place - unit) MAX_UNIT_HEAD_BYTES short)))

takes-slice : {place : ℕ} (unit head_end slice m : ℕ) (calls : List Call) → slice + 4 ≤ place
    → parts_after (Some (within unit head_end slice m)) (slice_call slice place ∷ calls)
    ≡ parts_after (Some (within unit head_end place (m + 1))) calls
takes-slice {place} unit head_end slice m calls apart =
    ap (λ b. parts_after (cond b (Some (within unit head_end place (m + 1))) None) calls)
    (and_from (eqb slice slice) (leb (slice + 4) place) (eq-eqb slice slice refl) (le-leb (slice + 4) place apart))

-- a unit of these places, with so many slices
record EndsAs (u : PictureUnit) (unit head_end place n : ℕ) : Type 0 where
  from : u.from ≡ unit
  head : u.head_end ≡ head_end
  to : u.to ≡ place
  slices : u.slices ≡ n

takes-unit : {u : PictureUnit} {unit head_end place n : ℕ} (m : ℕ) → EndsAs u unit head_end place n → n ≡ m + 1
    → parts_after (Some (within unit head_end place (m + 1))) (unit_call u ∷ []) ≡ Some (between place)
takes-unit {u} {unit} {head_end} {place} m ends some =
    ap (λ b. parts_after (cond b (Some (between place)) None) [])
    (and_from ((eqb u.from unit && (eqb u.head_end head_end && eqb u.to place))) (eqb u.slices (m + 1) && ltb 0 (m + 1))
    (and_from (eqb u.from unit) (eqb u.head_end head_end && eqb u.to place) (eq-eqb u.from unit from)
    (and_from (eqb u.head_end head_end) (eqb u.to place) (eq-eqb u.head_end head_end head) (eq-eqb u.to place to)))
    (and_from (eqb u.slices (m + 1)) (ltb 0 (m + 1)) (eq-eqb u.slices (m + 1) (slices ∙ some))
    (lt-ltb 0 (m + 1) (omega arith))))
  where
    open ends use {from, head, to, slices}

-- what the calls at a code report: the latest unit and its latest slice, the code's place, and the unit that
-- would end there
pub record CodeEnds : Type 0 where
  pub unit : ℕ
  pub slice : ℕ
  pub place : ℕ
  pub ended : PictureUnit

abbrev pub ends_at : Tally → ℕ → CodeEnds
ends_at t place = record { unit = t.unit; slice = t.slice; place = place; ended = unit_at t place }

-- the calls at a code, by tests: s, h: it is a slice, a head code; q, e: there were slices, there were none
abbrev pub raw_calls : Bool → Bool → Bool → Bool → CodeEnds → List Call
raw_calls s h q e here =
    cond s (cond e (head_call here.unit here.place ∷ []) (slice_call here.slice here.place ∷ []))
    (cond (h && q) (slice_call here.slice here.place ∷ unit_call here.ended ∷ []) [])

-- a code that may stand after a unit of n slices
record MayStand (s h : Bool) (n head_end : ℕ) (here : CodeEnds) : Type 0 where
  apart : s ≡ true → h ≡ false
  head : s ≡ true → n ≡ 0 → (here.unit < here.place) × (here.place - here.unit ≤ MAX_UNIT_HEAD_BYTES)
  spaced : 0 < n → here.slice + 4 ≤ here.place
  ends : EndsAs here.ended here.unit head_end here.place n

-- none, or one more than another number
abbrev NoneOrMore : ℕ → Type 0
NoneOrMore n = (n ≡ 0) ⊎ ((m : ℕ) × (n ≡ m + 1))

-- the part after a slice code: it ends the head, or the slice before it
slice-step : {n head_end : ℕ} {here : CodeEnds} → MayStand true false n head_end here → NoneOrMore n
    → parts_after (Some (part_by n here.unit head_end here.slice)) (raw_calls true false (ltb 0 n) (eqb n 0) here)
    ≡ Some (part_by (n + 1) here.unit (cond (eqb n 0) here.place head_end) here.place)
slice-step {n} {head_end} {here} may (inl none) =
    ap (λ (p : PartStart). parts_after (Some p)
    (cond (eqb n 0) (head_call unit place ∷ []) (slice_call slice place ∷ [])))
    (part_by-none n unit head_end slice none)
    ∙ ap (λ b. parts_after (Some (between unit))
    (cond b (head_call unit place ∷ []) (slice_call slice place ∷ []))) (eq-eqb n 0 none)
    ∙ takes-head unit place (may.head refl none).0 (may.head refl none).1
    ∙ sym (ap (λ b. Some (part_by (n + 1) unit (cond b place head_end) place)) (eq-eqb n 0 none)
    ∙ ap (λ (p : PartStart). Some p) (part_by-some (n + 1) 0 unit place place (omega arith)))
  where
    open here use {unit, slice, place}
slice-step {n} {head_end} {here} may (inr some) =
    ap (λ (p : PartStart). parts_after (Some p)
    (cond (eqb n 0) (head_call unit place ∷ []) (slice_call slice place ∷ [])))
    (part_by-some n some.0 unit head_end slice some.1)
    ∙ ap (λ b. parts_after (Some (within unit head_end slice some.0))
    (cond b (head_call unit place ∷ []) (slice_call slice place ∷ [])))
    (ne_eqb n 0 (λ none. absurd (omega (arith, some.1))))
    ∙ takes-slice unit head_end slice some.0 [] (may.spaced (omega (arith, some.1)))
    ∙ sym (ap (λ b. Some (part_by (n + 1) unit (cond b place head_end) place))
    (ne_eqb n 0 (λ none. absurd (omega (arith, some.1))))
    ∙ ap (λ (p : PartStart). Some p) (part_by-some (n + 1) (some.0 + 1) unit head_end place (omega (arith, some.1))))
  where
    open here use {unit, slice, place}

-- the part after a code of a head: it ends the unit before it, where that one has slices
head-step : {n head_end : ℕ} {here : CodeEnds} → MayStand false true n head_end here → NoneOrMore n
    → parts_after (Some (part_by n here.unit head_end here.slice)) (raw_calls false true (ltb 0 n) (eqb n 0) here)
    ≡ Some (part_by 0 (cond (ltb 0 n) here.place here.unit) 0 0)
head-step {n} {head_end} {here} may (inl none) =
    ap (λ (p : PartStart). parts_after (Some p) (cond (ltb 0 n) (slice_call slice place ∷ unit_call u ∷ []) []))
    (part_by-none n unit head_end slice none)
    ∙ ap (λ b. parts_after (Some (between unit)) (cond b (slice_call slice place ∷ unit_call u ∷ []) []))
    (le-ltb 0 n (omega arith))
    ∙ sym (ap (λ b. Some (part_by 0 (cond b place unit) 0 0)) (le-ltb 0 n (omega arith))
    ∙ ap (λ (p : PartStart). Some p) (part_by-none 0 unit 0 0 refl))
  where
    open here use {unit, slice, place, ended as u}
head-step {n} {head_end} {here} may (inr some) =
    ap (λ (p : PartStart). parts_after (Some p) (cond (ltb 0 n) (slice_call slice place ∷ unit_call u ∷ []) []))
    (part_by-some n some.0 unit head_end slice some.1)
    ∙ ap (λ b. parts_after (Some (within unit head_end slice some.0))
    (cond b (slice_call slice place ∷ unit_call u ∷ []) [])) (lt-ltb 0 n (omega (arith, some.1)))
    ∙ takes-slice unit head_end slice some.0 (unit_call u ∷ []) (may.spaced (omega (arith, some.1)))
    ∙ takes-unit some.0 may.ends some.1
    ∙ sym (ap (λ b. Some (part_by 0 (cond b place unit) 0 0)) (lt-ltb 0 n (omega (arith, some.1)))
    ∙ ap (λ (p : PartStart). Some p) (part_by-none 0 place 0 0 refl))
  where
    open here use {unit, slice, place, ended as u}

-- the part after those calls
raw-step : {s h : Bool} {n head_end : ℕ} {here : CodeEnds} → MayStand s h n head_end here → NoneOrMore n
    → parts_after (Some (part_by n here.unit head_end here.slice)) (raw_calls s h (ltb 0 n) (eqb n 0) here)
    ≡ Some (part_by (cond h 0 (cond s (n + 1) n)) (cond (h && ltb 0 n) here.place here.unit)
    (cond (s && eqb n 0) here.place (cond h 0 head_end)) (cond s here.place (cond h 0 here.slice)))
raw-step {s = true} {h = true} may count = absurd (true≢false (may.apart refl))
raw-step {s = true} {h = false} may count = slice-step may count
raw-step {s = false} {h = true} may count = head-step may count
raw-step {s = false} {h = false} may count = refl

-- ---- all codes

none-after : {A : Type 0} (next : A → Call → Option A) (calls : List Call) → after_calls next None calls ≡ None
none-after next [] = refl
none-after next (call ∷ calls) = refl

pub after-append : {A : Type 0} (next : A → Call → Option A) (o : Option A) (a b : List Call)
    → after_calls next o (a ++ b) ≡ after_calls next (after_calls next o a) b
after-append next None a b =
    none-after next (a ++ b) ∙ sym (none-after next b) ∙ ap (λ o. after_calls next o b) (sym (none-after next a))
after-append next (Some x) [] b = refl
after-append next (Some x) (call ∷ a) b = after-append next (next x call) a b

abbrev pub part_of : List Code → PartStart
part_of past = part_by (slice_count past) (latest_unit past) (head_end_of past) (latest_slice past)

pub slice-apart : (value : ℕ) → is_slice value ≡ true → is_head value ≡ false
slice-apart value slice =
    let parts = and_parts (leb 1 value) (leb value 0xaf) slice in
    let low : 1 ≤ value = leb-true 1 value parts.0 in
    let high : value ≤ 0xaf = leb-true value 0xaf parts.1 in
    ap (λ b. b || (eqb value 0xb3 || eqb value 0xb8)) (ne_eqb value 0 (λ e. absurd (omega arith)))
    ∙ ap (λ b. b || eqb value 0xb8) (ne_eqb value 0xb3 (λ e. absurd (omega arith)))
    ∙ ne_eqb value 0xb8 (λ e. absurd (omega arith))

count-cases : (n : ℕ) → NoneOrMore n
count-cases zero = inl refl
count-cases (suc m) = inr (m, omega arith)

head-short : (t : Tally) (place : ℕ) (o : Option Header) → head_fault t place o ≡ None
    → place - t.unit ≤ MAX_UNIT_HEAD_BYTES
head-short t place None e = absurd (cc)
head-short t place (Some p) e =
    ltb-false MAX_UNIT_HEAD_BYTES (place - t.unit)
    (some-cond-none (ltb MAX_UNIT_HEAD_BYTES (place - t.unit)) (HeadTooLong t.unit) None e).0

pub first_slice-head : (t : Tally) (place value : ℕ) → first_slice_fault t place value ≡ None
    → is_slice value ≡ true → t.slices ≡ 0 → place - t.unit ≤ MAX_UNIT_HEAD_BYTES
first_slice-head t place value e slice none =
    head-short t place t.picture
    (sym (cond-true (is_slice value && eqb t.slices 0) (head_fault t place t.picture) None
    (and_from (is_slice value) (eqb t.slices 0) slice (eq-eqb t.slices 0 none))) ∙ e)

-- what is reported at a code that isn't refused
pub first_slice-accepted : (t : Tally) (place value : ℕ) → code_fault t place value ≡ None
    → first_slice_fault t place value ≡ None
first_slice-accepted t place value e =
    let rest = otherwise-second (value_fault t place value)
    (first_refusal (second_fault t value) (first_refusal (first_slice_fault t place value)
    (count_fault t place value))) e in
    let last = otherwise-second (second_fault t value)
    (first_refusal (first_slice_fault t place value) (count_fault t place value)) rest in
    otherwise-first (first_slice_fault t place value) (count_fault t place value) last

code-step : (c d : Code) (past : List Code) → code_fault (tally_of (d ∷ past)) c.place c.value ≡ None
    → Spaced (c ∷ (d ∷ past))
    → parts_after (Some (part_of (d ∷ past))) (calls_at (tally_of (d ∷ past)) c.place c.value) ≡ Some
    (part_of (c ∷ (d ∷ past)))
unfolding calls_at
code-step c d past e spaced =
    let older : List Code = d ∷ past in
    let may : MayStand (is_slice c.value) (is_head c.value) (slice_count older) (head_end_of older)
    (ends_at (tally_of older) c.place) = record {
      apart = slice-apart c.value;
      head = λ slice none. (
        omega (arith, unit-before d past c.place spaced.1 spaced.0),
        first_slice-head (tally_of older) c.place c.value
            (first_slice-accepted (tally_of older) c.place c.value e) slice none,
      );
      spaced = slice-before older c.place spaced.1 spaced.0;
      ends = record { from = refl; head = refl; to = refl; slices = refl };
    } in
    raw-step may (count-cases (slice_count older))

first-value : (a b q : Bool) (place : ℕ)
    → cond a (Some (SystemCode place)) (cond b (Some (Mpeg2 place)) (cond (not q) (Some NoSequence) None)) ≡ None
    → q ≡ true
first-value true b q place e = absurd (cc)
first-value false true q place e = absurd (cc)
first-value false false true place e = refl
first-value false false false place e = absurd (cc)

first-step : (place value : ℕ) → value ≡ 0xb3
    → parts_after (Some (between place)) (calls_at (tally_of []) place value)
    ≡ Some (part_by (cond (is_head value) 0 (cond (is_slice value) (0 + 1) 0)) place
    (cond (is_slice value && eqb 0 0) place (cond (is_head value) 0 0))
    (cond (is_slice value) place (cond (is_head value) 0 0)))
unfolding calls_at part_by
first-step place value is =
    subst (λ k. parts_after (Some (between place)) (calls_at (tally_of []) place k)
    ≡ Some (part_by (cond (is_head k) 0 (cond (is_slice k) (0 + 1) 0)) place
    (cond (is_slice k && eqb 0 0) place (cond (is_head k) 0 0))
    (cond (is_slice k) place (cond (is_head k) 0 0)))) (sym is) refl

pub calls-nil : calls_of [] ≡ []
unfolding calls_of
calls-nil = refl

-- the first code is a sequence header's
pub first-is : (c : Code) → first_fault (c ∷ []) ≡ None → c.value ≡ 0xb3
first-is c accepted =
    let value = first-value (leb 0xb9 c.value) (eqb c.value 0xb5) (eqb c.value 0xb3) c.place
    (otherwise-first (value_fault (tally_of []) c.place c.value)
    (first_refusal (second_fault (tally_of []) c.value)
    (first_refusal (first_slice_fault (tally_of []) c.place c.value)
    (count_fault (tally_of []) c.place c.value))) (code-accepted c [] accepted)) in
    eqb-true c.value 0xb3 value

pub calls-parts : (c : Code) (past : List Code) → first_fault (c ∷ past) ≡ None → Spaced (c ∷ past)
    → parts_after (Some (between (first_of (c ∷ past)))) (calls_of (c ∷ past)) ≡ Some (part_of (c ∷ past))
calls-parts c [] accepted spaced =
    ap (parts_after (Some (between c.place)))
    (calls-cons c [] ∙ ap (λ (l : List Call). l ++ calls_at (tally_of []) c.place c.value) calls-nil)
    ∙ first-step c.place c.value (first-is c accepted)
calls-parts c (d ∷ past) accepted spaced =
    let start : Option PartStart = Some (between (first_of (d ∷ past))) in
    ap (parts_after start) (calls-cons c (d ∷ past))
    ∙ after-append next_part start (calls_of (d ∷ past)) (calls_at (tally_of (d ∷ past)) c.place c.value)
    ∙ ap (λ (o : Option PartStart). parts_after o (calls_at (tally_of (d ∷ past)) c.place c.value))
    (calls-parts d past (accepted-older c (d ∷ past) accepted) spaced.1)
    ∙ code-step c d past (code-accepted c (d ∷ past) accepted) spaced

-- ---- the film's end

pub ended-none : (t : Tally) → last_fault t ≡ None → 0 < t.slices
ended-none t e =
    let open_ = open_fault t t.picture in
    ltb-true 0 t.slices
    (none-cond (ltb 0 t.slices) open_
    (some-cond-none (not t.begun) NoSequence (cond (ltb 0 t.slices) None (Some open_)) e).1)

end-step : (past : List Code) (n : ℕ) → 0 < slice_count past → latest_slice past + 4 ≤ n
    → parts_after (Some (part_of past)) (unit_end (tally_of past) n) ≡ Some (between n)
end-step past n some apart = elim (count-cases (slice_count past)) [
  | inl none ↦ absurd (omega arith)
  | inr more ↦
      (let ends : EndsAs (unit_at (tally_of past) n) (latest_unit past) (head_end_of past) n (slice_count past) =
      record { from = refl; head = refl; to = refl; slices = refl } in
      ap (λ (p : PartStart). parts_after (Some p) (unit_end (tally_of past) n))
      (part_by-some (slice_count past) more.0 (latest_unit past) (head_end_of past) (latest_slice past) more.1)
      ∙ takes-slice (latest_unit past) (head_end_of past) (latest_slice past) more.0
      (unit_call (unit_at (tally_of past) n) ∷ []) apart
      ∙ takes-unit more.0 ends more.1)
]

whole-tiles : (past : List Code) (n : ℕ) → first_fault past ≡ None → end_fault past n ≡ None → Spaced past
    → After n past → parts_after (Some (between (first_of past))) (calls_of past ++ unit_end (tally_of past) n) ≡ Some
    (between n)
unfolding end_fault
whole-tiles [] n accepted ended spaced after = absurd (omega (arith, ended-none (tally_of []) ended))
whole-tiles (c ∷ past) n accepted ended spaced after =
    let some = ended-none (tally_of (c ∷ past))
    (otherwise-second (latest_fault (c ∷ past) n) (last_fault (tally_of (c ∷ past))) ended) in
    after-append next_part (Some (between (first_of (c ∷ past))))
    (calls_of (c ∷ past)) (unit_end (tally_of (c ∷ past)) n)
    ∙ ap (λ (o : Option PartStart). parts_after o (unit_end (tally_of (c ∷ past)) n))
    (calls-parts c past accepted spaced)
    ∙ end-step (c ∷ past) n some (slice-before (c ∷ past) n spaced after some)

-- an accepted film is its units, one after another
pub film-tiles : (r : List ℕ) → refusal_of r ≡ None → Tiles r (all_calls r)
film-tiles r e =
    let none = accepted-whole r e in
    let placed = placed-codes r in
    whole-tiles (codes_of r) (length r)
    (otherwise-first (first_fault (codes_of r)) (end_fault (codes_of r) (length r)) none)
    (otherwise-second (first_fault (codes_of r)) (end_fault (codes_of r) (length r)) none) placed.spaced
    (room-after (codes_of r) (latest_prefix r) (length r) placed.room)
