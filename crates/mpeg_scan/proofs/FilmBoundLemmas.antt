-- The bounds of an accepted film: its rate code, its bytes and its units.
use Rattle.std.proofs.Common.{ℕ, Bool, true, false, cond, eqb, ltb, ◌&&◌, ◌||◌, ◌+◌, ◌-◌, ◌^◌, ◌≤◌, ◌≡◌, List, [], ◌∷◌}
use Rattle.std.proofs.Common.{Option, Some, None, length, sym, ◌∙◌, ap, subst, arith}
use Rattle.std.specs.Prelude.{unwrap_or}
use Rattle.std.proofs.lemmas.Bool.{true≢false, or_parts, eq-eqb, ltb-false}
use Rattle.mpeg_scan.specs.declared.codes.Code.{Code}
use Rattle.mpeg_scan.specs.declared.faults.FilmFault.{FilmFault}
use Rattle.mpeg_scan.specs.declared.faults.FilmFault.TheVariants.{Empty, ShortHeader, BadRate, TooLong}
use Rattle.mpeg_scan.specs.StartCodes.{read_after, codes_of}
use Rattle.mpeg_scan.specs.CodeFacts.{first_rate, picture_count, rate_after, rate_code, rate_of, tally_of}
use Rattle.mpeg_scan.specs.FilmFaults.{first_refusal, rate_fault, picture_fault, header_fault, latest_fault, last_fault}
use Rattle.mpeg_scan.specs.FilmFaults.{code_fault, fault_at, first_fault, end_fault, refusal_of}
use Rattle.mpeg_scan.specs.Calls.{Call, head_call, slice_call, unit_call}
use Rattle.mpeg_scan.specs.UnitNumbering.{Count, group_of, counts_after, no_count}
use Rattle.mpeg_scan.specs.Films.{units_in, refusal, film_calls}
use Rattle.mpeg_scan.proofs.FilmLemmas.{length-read}
use Rattle.mpeg_scan.proofs.ScanStepLemmas.{accepted-older, otherwise-first, otherwise-second, pictures-bound, positive}
use Rattle.mpeg_scan.proofs.ScanStepLemmas.{some-cond-none, accepted-whole}
use Rattle.mpeg_scan.proofs.PartTilingLemmas.{ended-none, first-is}
use Rattle.mpeg_scan.proofs.UnitNumberingLemmas.{film-count}

-- ---- the rate

-- a rate code of the standard
abbrev pub IsRate : ℕ → Type 0
IsRate rate = (1 ≤ rate) × (rate ≤ 8)

judged-rate : (c : Code) → rate_fault None c ≡ None → IsRate (rate_code c)
judged-rate c e =
    let code = rate_code c in
    let many = ltb 8 code || false in
    let parts = or_parts (eqb code 0) many (some-cond-none (eqb code 0 || many) (BadRate c.place code) None e).0 in
    (positive code parts.0, ltb-false 8 code (or_parts (ltb 8 code) false parts.1).0)

when-first : (b : Bool) (f g : Option FilmFault) → b ≡ true → cond b f g ≡ None → f ≡ None
when-first true f g is e = e
when-first false f g is e = absurd (true≢false (sym is))

-- a sequence header that is judged has its bytes and a rate code of the standard
pub sequence-judged : (rate : Option ℕ) (c : Code) (end : ℕ) → c.value ≡ 0xb3 → header_fault rate c end ≡ None
    → (ltb (end - c.place) 12 ≡ false) × (rate_fault rate c ≡ None)
sequence-judged rate c end is e =
    some-cond-none (ltb (end - c.place) 12) (ShortHeader c.place) (rate_fault rate c)
    (when-first (eqb c.value 0xb3)
    (cond (ltb (end - c.place) 12) (Some (ShortHeader c.place)) (rate_fault rate c))
    (cond (eqb c.value 0xb8) (cond (ltb (end - c.place) 8) (Some (ShortHeader c.place)) None)
    (cond (eqb c.value 0) (picture_fault c end) None)) (eq-eqb c.value 0xb3 is) e)

-- the rate of the first sequence header, once its header is judged
judged-first : (c : Code) (end : ℕ) → c.value ≡ 0xb3 → header_fault None c end ≡ None → IsRate (rate_of (c ∷ []))
judged-first c end is e =
    subst (λ b. IsRate (unwrap_or (cond b (Some (rate_code c)) None) 0)) (sym (eq-eqb c.value 0xb3 is))
    (judged-rate c (sequence-judged None c end is e).1)

later-rate : (c : Code) (rate : Option ℕ) → IsRate (unwrap_or rate 0) → IsRate (unwrap_or (rate_after rate c) 0)
later-rate c None is = absurd (omega (arith, is.0))
later-rate c (Some rate) is = is

pub older-judged : (c : Code) (past : List Code) → first_fault (c ∷ past) ≡ None → latest_fault past c.place ≡ None
unfolding first_fault fault_at
older-judged c past e =
    otherwise-first (latest_fault past c.place) (code_fault (tally_of past) c.place c.value)
    (otherwise-second (first_fault past)
    (first_refusal (latest_fault past c.place) (code_fault (tally_of past) c.place c.value)) e)

pub codes-rate : (c : Code) (past : List Code) (end : ℕ) → first_fault (c ∷ past) ≡ None
    → latest_fault (c ∷ past) end ≡ None → IsRate (rate_of (c ∷ past))
codes-rate c [] end accepted judged = judged-first c end (first-is c accepted) judged
codes-rate c (d ∷ past) end accepted judged =
    later-rate c (first_rate (d ∷ past))
    (codes-rate d past c.place (accepted-older c (d ∷ past) accepted) (older-judged c (d ∷ past) accepted))

whole-rate : (past : List Code) (n : ℕ) → first_fault past ≡ None → end_fault past n ≡ None → IsRate (rate_of past)
unfolding end_fault
whole-rate [] n accepted ended = absurd (omega (arith, ended-none (tally_of []) ended))
whole-rate (c ∷ past) n accepted ended =
    codes-rate c past n accepted (otherwise-first (latest_fault (c ∷ past) n) (last_fault (tally_of (c ∷ past))) ended)

pub film-rate : (r : List ℕ) → refusal_of r ≡ None → IsRate (rate_of (codes_of r))
film-rate r e =
    let none = accepted-whole r e in
    whole-rate (codes_of r) (length r)
    (otherwise-first (first_fault (codes_of r)) (end_fault (codes_of r) (length r)) none)
    (otherwise-second (first_fault (codes_of r)) (end_fault (codes_of r) (length r)) none)

-- ---- the bytes

bytes-bound : (r : List ℕ) → refusal_of r ≡ None → length r ≤ 2 ^ 40
unfolding refusal_of
bytes-bound r e =
    let rest = first_refusal (first_fault (codes_of r)) (end_fault (codes_of r) (length r)) in
    let some = some-cond-none (eqb (length r) 0) Empty (cond (ltb (2 ^ 40) (length r)) (Some TooLong) rest) e in
    ltb-false (2 ^ 40) (length r) (some-cond-none (ltb (2 ^ 40) (length r)) TooLong rest some.1).0

pub film-bytes : (bytes : List ℕ) → refusal bytes ≡ None → length bytes ≤ 2 ^ 40
film-bytes bytes e = omega (arith, length-read bytes [], bytes-bound (read_after [] bytes) e)

-- ---- the units

count-goes : (b : Bool) (k : Count) (calls : List Call) (last : Count)
    → counts_after (cond b (Some k) None) calls ≡ Some last → counts_after (Some k) calls ≡ Some last
count-goes true k calls last e = e
count-goes false k [] last e = absurd (cc)
count-goes false k (call ∷ calls) last e = absurd (cc)

-- each unit is counted
units-counted : (calls : List Call) (k last : Count) → counts_after (Some k) calls ≡ Some last
    → last.units ≡ k.units + length (units_in calls)
units-counted [] k last e = let same : k ≡ last = cc in sym (ap (λ (m : Count). m.units) same) ∙ omega arith
units-counted (head_call from to ∷ calls) k last e = units-counted calls k last e
units-counted (slice_call from to ∷ calls) k last e = units-counted calls (record k { slices = k.slices + 1 }) last e
units-counted (unit_call unit ∷ calls) k last e =
    let b = eqb (unit.first_slice + unit.slices) k.slices && eqb unit.presentation (group_of k unit + unit.temporal) in
    let next : Count = record { units = k.units + 1; slices = k.slices; before_group = group_of k unit } in
    omega (arith, units-counted calls next last (count-goes b next calls last e))

pub film-units : (bytes : List ℕ) → refusal bytes ≡ None
    → length (units_in (film_calls bytes)) ≡ picture_count (codes_of (read_after [] bytes))
film-units bytes e =
    let whole = film-count (read_after [] bytes) e in
    omega (arith, units-counted (film_calls bytes) no_count whole.last whole.counted, whole.units)

pub film-pictures : (r : List ℕ) → refusal_of r ≡ None → picture_count (codes_of r) ≤ 4194304
film-pictures r e =
    pictures-bound (codes_of r)
    (otherwise-first (first_fault (codes_of r)) (end_fault (codes_of r) (length r)) (accepted-whole r e))
