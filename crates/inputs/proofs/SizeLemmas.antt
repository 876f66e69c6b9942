-- The sizes that are counted while a film's parts are handed on are those of its units.
use Rattle.std.proofs.Common.{◌≡◌, ℕ, ◌+◌, ◌-◌, ◌≤◌, false, cond, eqb, leb, ◌&&◌, List, [], ◌∷◌, ◌++◌}
use Rattle.std.proofs.Common.{append_assoc, Some, None, IsSome, length, take, drop, map, refl, sym, ap, ◌∙◌}
use Rattle.std.proofs.Common.{arith, length-append, subst}
use Rattle.std.proofs.lemmas.List.{append-nil, length-map}
use Rattle.std.proofs.lemmas.Bool.{and_parts, false≢true, eqb-true}
use Rattle.mpeg_scan.specs.declared.units.Unit.{Unit as PictureUnit}
use Rattle.mpeg_scan.specs.Calls.{Call, head_call, slice_call, unit_call}
use Rattle.mpeg_scan.specs.StartCodes.{read_after, codes_of}
use Rattle.mpeg_scan.specs.UnitNumbering.{Count, counts_after, no_count}
use Rattle.mpeg_scan.specs.Films.{IsFilm, refusal, slices_in, film_calls, units_in}
use Rattle.mpeg_scan.specs.Layout.{unit_starts}
use Rattle.mpeg_scan.specs.PartTiling.{PartStart, between, within, first_of, parts_after}
use Rattle.mpeg_scan.specs.CodeFacts.{rate_of}
use Rattle.mpeg_scan.proofs.FilmBoundLemmas.{film-bytes, film-pictures, film-rate, film-units}
use Rattle.mpeg_scan.proofs.UnitNumberingLemmas.{film-numbered}
use Rattle.mpeg_scan.proofs.UnitLayoutLemmas.{UnitFits, begun, count_with, film-chained, film-laid, head-fits}
use Rattle.mpeg_scan.proofs.UnitLayoutLemmas.{own-slices, part-fits, reported-fits, unit-counts}
use Rattle.mpeg_scan.proofs.PartTilingLemmas.{film-tiles}
use Rattle.rtp_pack.specs.Packets.{lengths_to, unit_lengths}
use Rattle.rtp_pack.specs.Sizes.{Measure, measure_from_headers, frames_of, measure_of, with_slice}
use Rattle.rtp_pack.proofs.SizeLemmas.{slices-append}
use Rattle.film_frames.specs.Pieces.{wire_size}
use Rattle.film_frames.proofs.FilmPieceLemmas.{AreUnits, units-bound}
use Rattle.inputs.specs.WireSizes.{AreSizesWithin, IsSized, SizeState, size_state_after_call, first_size_state}
use Rattle.inputs.specs.WireSizes.{size_state_after, sizes_of}

pub sized-append : (s : SizeState) (xs ys : List Call) → size_state_after s (xs ++ ys) ≡ size_state_after
    (size_state_after s xs) ys
sized-append s [] ys = refl
sized-append s (x ∷ xs) ys = sized-append (size_state_after_call s x) xs ys

lengths-more : (cur : List ℕ) (at b : ℕ) → lengths_to b (cur ++ at ∷ []) ≡ lengths_to at cur ++ (b - at) ∷ []
lengths-more [] at b = refl
lengths-more (s ∷ []) at b = refl
lengths-more (s ∷ (next ∷ cur)) at b = ap (λ (l : List ℕ). (next - s) ∷ l) (lengths-more (next ∷ cur) at b)

-- what was measured of a unit whose slices so far are the last of `past`
record IsMeasured (from head_end at n : ℕ) (past : List ℕ) (unit : Measure) : Type 0 where
  before : List ℕ
  cur : List ℕ
  past_is : past ≡ before ++ cur
  count : n ≡ length cur
  unit_is : unit ≡ measure_of (head_end - from) (lengths_to at cur)

abbrev Measures : PartStart → List ℕ → Measure → Type 0
Measures (between at) past unit = Unit {0}
Measures (within from head_end at n) past unit = IsMeasured from head_end at n past unit

-- a unit that has ended has its size
unit-size : {unit : PictureUnit} {from head_end at n : ℕ} {past : List ℕ} {m : Measure} (rest : List ℕ) →
    UnitFits unit from head_end at n → unit.first_slice + unit.slices ≡ length past →
    IsMeasured from head_end at n past m → cond unit.starts_group 52 0 + frames_of m ≡ wire_size (past ++ rest) unit
unit-size {unit} {from} {head_end} {at} {past} {m} rest fits count so_far =
    let all : length past ≡ length so_far.before + length so_far.cur =
    ap length so_far.past_is ∙ length-append so_far.before so_far.cur in
    let cur : unit.slices ≡ length so_far.cur = slices ∙ so_far.count in
    let first : unit.first_slice ≡ length so_far.before = omega (arith, all, cur, count) in
    let starts : unit_starts (past ++ rest) unit ≡ so_far.cur =
    ap (λ (l : List ℕ). take unit.slices (drop unit.first_slice (l ++ rest))) so_far.past_is
    ∙ own-slices so_far.before rest first cur in
    let lengths : lengths_to at so_far.cur ≡ unit_lengths (past ++ rest) unit =
    ap (λ t. lengths_to t so_far.cur) (sym end) ∙ ap (λ (l : List ℕ). lengths_to unit.to l) (sym starts) in
    let head_is : head_end - from ≡ unit.head_end - unit.from =
    ap (λ h. h - from) (sym head) ∙ ap (λ f. unit.head_end - f) (sym begin) in
    ap (λ (u : Measure). cond unit.starts_group 52 0 + frames_of u)
    (so_far.unit_is ∙ ap (λ h. measure_of h (lengths_to at so_far.cur)) head_is
    ∙ ap (λ (l : List ℕ). measure_of (unit.head_end - unit.from) l) lengths)
  where
    open fits use {begin, head, end, slices}

-- a slice more of the unit is measured
slice-measured : {from head_end at n b : ℕ} {past : List ℕ} {m : Measure} → IsMeasured from head_end at n past m
    → IsMeasured from head_end b (n + 1) (past ++ at ∷ []) (with_slice m (b - at))
slice-measured {from} {head_end} {at} {b = b} so_far = record {
  before = so_far.before;
  cur = so_far.cur ++ at ∷ [];
  past_is = ap (λ (l : List ℕ). l ++ at ∷ []) so_far.past_is ∙ append_assoc so_far.before so_far.cur (at ∷ []);
  count = omega (arith, so_far.count, length-append so_far.cur (at ∷ []));
  unit_is = ap (λ (m : Measure). with_slice m (b - at)) so_far.unit_is
      ∙ sym (slices-append (lengths_to at so_far.cur) (measure_from_headers (head_end - from)) (b - at))
      ∙ ap (λ (l : List ℕ). measure_of (head_end - from) l) (sym (lengths-more so_far.cur at b));
}

-- the places of all slices so far, and what was measured of the unit that the parts so far come to
record MeasuredSoFar (part : PartStart) (k : Count) (past : List ℕ) (unit : Measure) : Type 0 where
  slices : k.slices ≡ length past
  measures : Measures part past unit

sizes-told : (calls : List Call) (s : SizeState) {part : PartStart} {k : Count} {to : ℕ} {past : List ℕ} →
    parts_after (Some part) calls ≡ Some (between to) →
    IsSome (counts_after (Some k) calls) → MeasuredSoFar part k past s.unit →
    (size_state_after s calls).sizes ≡ s.sizes ++ map (λ u. wire_size (past ++ slices_in calls) u) (units_in calls)
sizes-told [] s parts counts so_far = sym (append-nil s.sizes)
sizes-told (head_call a b ∷ calls) s {part = between at} {k} {to} {past} parts counts so_far =
    let next : MeasuredSoFar (within a b b 0) k past (size_state_after_call s (head_call a b)).unit = record {
      slices = so_far.slices;
      measures = record { before = past; cur = []; past_is = sym (append-nil past); count = refl; unit_is = refl };
    } in
    sizes-told calls (size_state_after_call s (head_call a b)) (head-fits a b at calls to parts).rest counts next
sizes-told (slice_call a b ∷ calls) s {part = between at} {to} parts counts so_far =
    absurd (false≢true (part-fits false (between at) calls to parts).0)
sizes-told (unit_call unit ∷ calls) s {part = between at} {to} parts counts so_far =
    absurd (false≢true (part-fits false (between at) calls to parts).0)
sizes-told (head_call a b ∷ calls) s {part = within from head_end at n} {to} parts counts so_far =
    absurd (false≢true (part-fits false (between at) calls to parts).0)
sizes-told (slice_call a b ∷ calls) s {part = within from head_end at n} {k} {to} {past} parts counts so_far =
    let fits = part-fits (eqb a at && leb (a + 4) b) (within from head_end b (n + 1)) calls to parts in
    let same : a ≡ at = eqb-true a at (and_parts (eqb a at) (leb (a + 4) b) fits.0).0 in
    let next : MeasuredSoFar (within from head_end b (n + 1)) (record k { slices = k.slices + 1 })
    (past ++ a ∷ []) (size_state_after_call s (slice_call a b)).unit = record {
      slices = omega (arith, so_far.slices, length-append past (a ∷ []));
      measures = subst (λ place. IsMeasured from head_end b (n + 1) (past ++ place ∷ [])
          (with_slice s.unit (b - place))) (sym same) (slice-measured so_far.measures);
    } in
    sizes-told calls (size_state_after_call s (slice_call a b)) fits.1 counts next
    ∙ ap (λ (starts : List ℕ). s.sizes ++ map (λ u. wire_size starts u) (units_in calls))
    (append_assoc past (a ∷ []) (slices_in calls))
sizes-told (unit_call unit ∷ calls) s {part = within from head_end at n} {k} {to} {past} parts counts so_far =
    let fits = reported-fits (begun from head_end at n) unit calls to parts in
    let counted = unit-counts k unit calls counts in
    let size : cond unit.starts_group 52 0 + frames_of s.unit ≡ wire_size (past ++ slices_in calls) unit =
    unit-size (slices_in calls) fits.0 (counted.0 ∙ so_far.slices) so_far.measures in
    let later : MeasuredSoFar (between at) (count_with k unit) past (size_state_after_call s (unit_call unit)).unit =
    record { slices = so_far.slices; measures = tt } in
    let rest : List ℕ = map (λ u. wire_size (past ++ slices_in calls) u) (units_in calls) in
    sizes-told calls (size_state_after_call s (unit_call unit)) fits.1 counted.1 later
    ∙ append_assoc s.sizes ((cond unit.starts_group 52 0 + frames_of s.unit) ∷ []) rest
    ∙ ap (λ n. s.sizes ++ n ∷ rest) size

-- the sizes counted of an entire film
pub film-sizes : (film : List ℕ) (unit : Measure) (sizes : List ℕ) → refusal film ≡ None
    → IsSized unit sizes (film_calls film) → sizes ≡ sizes_of film
film-sizes film unit sizes accepted sized =
    let start : MeasuredSoFar (between (first_of (codes_of (read_after [] film)))) no_count [] first_size_state.unit =
    record { slices = refl; measures = tt } in
    sized.sizes_are
    ∙ sizes-told (film_calls film) first_size_state (film-tiles (read_after [] film) accepted)
    (film-numbered (read_after [] film) accepted) start

-- a part more
pub sized-more : {calls : List Call} {unit unit' : Measure} {sizes sizes' : List ℕ} (call : Call) →
    IsSized unit sizes calls →
    unit' ≡ (size_state_after_call (record { unit = unit; sizes = sizes }) call).unit →
    sizes' ≡ (size_state_after_call (record { unit = unit; sizes = sizes }) call).sizes →
    IsSized unit' sizes' (calls ++ call ∷ [])
sized-more {calls} {unit} {sizes} call so_far unit_is sizes_are =
    let before : SizeState = record { unit = unit; sizes = sizes } in
    let after : SizeState = size_state_after first_size_state calls in
    let same : before ≡ after =
    ap (λ (u : Measure). record { unit = u; sizes = sizes }) so_far.unit_is
    ∙ ap (λ (s : List ℕ). record { unit = after.unit; sizes = s }) so_far.sizes_are in
    record {
      unit_is = unit_is ∙ ap (λ (s : SizeState). (size_state_after_call s call).unit) same
          ∙ ap (λ (s : SizeState). s.unit) (sym (sized-append first_size_state calls (call ∷ [])));
      sizes_are = sizes_are ∙ ap (λ (s : SizeState). (size_state_after_call s call).sizes) same
          ∙ ap (λ (s : SizeState). s.sizes) (sym (sized-append first_size_state calls (call ∷ [])));
    }

-- ---- the limits of a film's sizes

pub film-limits : (film : List ℕ) (rate : ℕ) → refusal film ≡ None → rate ≡ rate_of (codes_of (read_after [] film))
    → AreSizesWithin rate (sizes_of film)
film-limits film rate accepted is =
    let units : List PictureUnit = units_in (film_calls film) in
    let starts : List ℕ = slices_in (film_calls film) in
    let grammar : IsFilm film rate units starts =
    record { accepted = accepted; rate = is; units = refl; slices = refl } in
    let its = film-rate (read_after [] film) accepted in
    let are : AreUnits (length film) starts units (first_of (codes_of (read_after [] film))) (length film) = record {
      laid = film-laid film rate units starts grammar;
      chained = film-chained film rate units starts grammar;
    } in
    let few : length units ≤ 4194304 =
    omega (arith, film-units film accepted, film-pictures (read_after [] film) accepted) in
    record {
      slowest = omega (arith, is, its.0);
      fastest = omega (arith, is, its.1);
      few = omega (arith, length-map units (λ u. wire_size starts u), few);
      few_bytes = omega (arith, few, film-bytes film accepted, units-bound are);
    }
