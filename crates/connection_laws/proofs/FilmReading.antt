-- What a client reads of a film: the sizes of its units, its first frame, and how its watching is finished.
use Rattle.std.proofs.lemmas.Grind.{common_steps}
use Rattle.std.proofs.Common.{◌≡◌, ℕ, ◌+◌, ◌≤◌, List, [], ◌∷◌, ◌++◌, take, drop, refl, sym, ap, ◌∙◌, append_assoc}
use Rattle.std.proofs.Common.{arith, inl, inr, ◌-◌, ◌<◌, true, min, length, map, sum, Some, slice_get, zero, suc, Bool}
use Rattle.std.proofs.Common.{false, cond, get_or}
use Rattle.std.proofs.lemmas.List.{take-append-drop, length-take-le, take_all, get_or-drop, get_or-take, append-nil}
use Rattle.std.proofs.lemmas.List.{length-append, take-append-le}
use Rattle.std.proofs.lemmas.Bool.{cases_lt, eqb-true, ltb-true, ne_eqb, and_parts, cases_eq, cond-false}
use Rattle.std.proofs.lemmas.List.Sums.{sum_by-take-le, sum_by-cons}
use Rattle.connection_laws.proofs.Terms.{count_ended, FramedRun, blocks_from, run_of, run_pieces, framed_bytes, Wish}
use Rattle.connection_laws.proofs.Terms.{Watched, events_of_elements, element_events, cut_bytes, Frame, Reply, Report}
use Rattle.connection_laws.proofs.Terms.{History, end_ms, frames, payloads, bytes_received, sizes, Film, AreLaid}
use Rattle.connection_laws.proofs.Terms.{picture_time, Identity, pieces_of, wire_size, WatchStage, begins_film}
use Rattle.connection_laws.proofs.Terms.{is_complete, time_in, units_until, IsFilmHeard, payload, first_frame, Packet}
use Rattle.connection_laws.proofs.Terms.{unit_packets, frames_among, unit_pieces, ClientEvent, is_last, frames_of}
use Rattle.connection_laws.proofs.ClientInput.{moments_parts, frames_parts, IsDrained, no_sum, HasGoneOn}
use Rattle.connection_laws.proofs.MeterInput.{Stream, all_of, begun_sum, two_moments, IsReadingOf, film_place, After}
use Rattle.connection_laws.proofs.MeterInput.{Later, Within, stands_in, third_reply}
use Rattle.connection_laws.proofs.ElementStreams.{cut_front}
use Rattle.connection_laws.proofs.HistorySums.{steps_on, IsOneBlock, AreOneBlocks, Sum, step, steps, sum_of}
use Rattle.connection_laws.proofs.HistorySums.{blocks_received, blocks_same, steps_payloads, blocks_first, plays}
use Rattle.connection_laws.proofs.Lists.{each_append, each_take}
use Rattle.mpeg_scan.specs.declared.units.Unit.{Unit as PictureUnit}
use Rattle.mpeg_scan.proofs.FirstUnitLemmas.{film-begins}
use Rattle.film_frames.proofs.PayloadLemmas.{FirstAndLast, comes-back, run-sum}
use Rattle.film_frames.proofs.FilmPieceLemmas.{laid-film}
use Rattle.rtsp_client.specs.Films.{units}
use Rattle.rtsp_client.specs.Meters.{time}
use Rattle.rtsp_client.proofs.OutputPayloads.{payloads-are}
use Rattle.connection_laws.proofs.PieceCounts.{count_whole, all_past, all_within}
use Rattle.mpeg_scan.specs.Layout.{BeginsSequence, IsLaid}
use Rattle.rtp_pack.proofs.UnitPacketLemmas.{packets-cover, packets-are}
use Rattle.connection_laws.proofs.Blocks.{frame_block, frame_blocks, frame_moment, frames_one, report_if, report_moment}
use Rattle.connection_laws.proofs.Blocks.{RunFrom, blocks_append, frames_after, last_is, octets_after, report_block}
use Rattle.connection_laws.proofs.Blocks.{unit_among, unit_blocks, unit_made, unit_one}
use Rattle.rtsp_client.proofs.RunFrames.{has-packet}
use Rattle.std.proofs.Math.Seq.{take-append-add}
use Rattle.rtp_pack.specs.Laws.{IsLastMarked}
use Rattle.rtp_pack.proofs.MarkerLemmas.{last-marked}
use Rattle.film_frames.proofs.PieceLemmas.{pieces-cons, unit-sound, unit-wire}
use Rattle.film_frames.proofs.RunBytesLemmas.{blocks_from-begin, blocks_from-count}
use Rattle.film_frames.proofs.TrackLemmas.{begin-all}

-- ---- the blocks of a unit

-- a sum that plays and stands between two units
pub record AtUnit (s : Sum) : Type 0 where
  pub on : plays s ≡ true
  pub none : s.pending ≡ 0
  pub outside : s.inside ≡ false

-- a unit is complete after its blocks, with its size, and before the last of them the sizes are as they were
record EndsUnit (s : Sum) (size : ℕ) (blocks : List (List ℕ)) : Type 0 where
  part : (k : ℕ) → k < length blocks → (steps s (events_of_elements (take k blocks))).sizes ≡ s.sizes
  sizes : (steps s (events_of_elements blocks)).sizes ≡ s.sizes ++ size ∷ []
  between : AtUnit (steps s (events_of_elements blocks))

-- with a block before them that leaves the sizes as they were
ends_more : {s : Sum} {event : ClientEvent} {size : ℕ} {blocks : List (List ℕ)} (b : List ℕ)
    → element_events b ≡ event ∷ [] → (step event s).sizes ≡ s.sizes → EndsUnit (step event s) size blocks
    → EndsUnit s size (b ∷ blocks)
ends_more {s} {blocks = blocks} b is same rest = search arith
  where
    before : (k : ℕ) → k < length (b ∷ blocks) → (steps s (events_of_elements (take k (b ∷ blocks)))).sizes ≡ s.sizes
    before zero less = refl
    before (suc k) less = rw is (rest.part k (omega (arith, less)) ∙ same)

frames_end : {s : Sum} {size : ℕ} (from : RunFrom) (unit : PictureUnit) (packets : List Packet) → IsLastMarked packets
    → 0 < length packets → plays s ≡ true
    → size ≡ s.pending + length (framed_bytes (frame_blocks from.run unit from.frames packets))
    → EndsUnit s size (frame_blocks from.run unit from.frames packets)
frames_end from unit [] marked some on is = absurd (omega (arith, some))
frames_end {s} {size} from unit (p ∷ []) marked some on is = record {
  part = λ k less. let none : k ≡ 0 = omega (arith, less) in rw none;
  sizes = grind (arith, common_steps);
  between = grind (arith, common_steps);
}
frames_end {s} from unit (p ∷ (q ∷ packets)) marked some on is =
    let b = frame_block from.run unit p from.frames in
    let blocks = frame_blocks from.run unit (from.frames + 1) (q ∷ packets) in
    let last : is_last b ≡ false = last_is from.run from.frames unit p ∙ marked.0 in
    let pending = cond-false (is_last b) 0 (s.pending + length b) last in
    ends_more b (frame_moment from.run from.frames unit p from.media)
    (cond-false (is_last b) (s.sizes ++ (s.pending + length b) ∷ []) s.sizes last)
    (frames_end {s = step (Frame b) s} (record from { frames = from.frames + 1 }) unit (q ∷ packets) marked.1
    (omega arith) on (omega (arith, is, pending, length-append b (framed_bytes blocks))))

-- a report before the frames, where the unit starts a group
unit_end : {s : Sum} {size : ℕ} (starts : Bool) (from : RunFrom) (unit : PictureUnit) (packets : List Packet)
    → IsLastMarked packets → 0 < length packets → AtUnit s
    → let blocks : List (List ℕ) = report_if starts from.run unit from.frames from.octets
    ++ frame_blocks from.run unit from.frames packets in length (framed_bytes blocks) ≡ size → EndsUnit s size blocks
unit_end false from unit packets marked some between is =
    frames_end from unit packets marked some between.on (omega (arith, is, between.none))
unit_end {s} true from unit packets marked some between is =
    let b = report_block from.run unit from.frames from.octets in
    let waits : (step (Report b) s).pending ≡ s.pending + length b = grind arith in
    let size = length-append b (framed_bytes (frame_blocks from.run unit from.frames packets)) in
    ends_more b (report_moment from.run from.frames from.octets unit from.control) refl
    (frames_end from unit packets marked some between.on (omega (arith, is, waits, between.none, size)))

-- ---- units

-- by so many bytes of units of these sizes, some units are complete, and the next isn't
pub record HasCome (sizes : List ℕ) (c : ℕ) (s t : Sum) : Type 0 where
  pub count : ℕ
  pub sizes_are : t.sizes ≡ s.sizes ++ take count sizes
  pub among : count ≤ length sizes
  pub next : count < length sizes → c < sum (take (count + 1) sizes)

-- where a run stands after a unit
abbrev pub after : List ℕ → PictureUnit → RunFrom → RunFrom
after starts unit from = record from {
  frames = frames_after from.frames (unit_pieces starts unit);
  octets = octets_after from.octets (unit_pieces starts unit);
}

module _ (starts : List ℕ) where
  abbrev pub blocks_of : RunFrom → List PictureUnit → List (List ℕ)
  blocks_of from units = blocks_from from.run from.frames from.octets (pieces_of starts units)

  abbrev one_of : RunFrom → PictureUnit → List (List ℕ)
  one_of from unit = unit_blocks from.run starts unit from.frames from.octets

  -- the blocks of one unit more
  pub more_blocks : (from : RunFrom) (unit : PictureUnit) (units : List PictureUnit)
      → blocks_of from (unit ∷ units) ≡ one_of from unit ++ blocks_of (after starts unit from) units
  more_blocks from unit units = search (unit_made from.run from.frames from.octets starts unit, blocks_append)

  pub blocks_one : (from : RunFrom) (units : List PictureUnit) → AreOneBlocks (blocks_of from units)
  blocks_one from [] = tt
  blocks_one from (unit ∷ units) =
      let next = after starts unit from in
      rw (more_blocks from unit units) (each_append IsOneBlock (one_of from unit) (blocks_of next units)
      (unit_one from starts unit) (blocks_one next units))

  unit_sized : (from : RunFrom) (unit : PictureUnit) → IsLaid starts unit → unit.to ≤ length from.run.film
      → length (framed_bytes (one_of from unit)) ≡ wire_size starts unit
  unit_sized from unit laid short =
      let pieces = unit_pieces starts unit in
      let bs = blocks_from run f o pieces in
      rw (← (unit_made run f o starts unit), ← (begin-all bs))
      (rw (blocks_from-begin run f o pieces (length bs) (unit-sound run.film starts unit laid short))
      (rw (take_all (length bs) pieces (omega (arith, blocks_from-count run f o pieces)), unit-wire starts unit laid)))
    where
      open from use {run, frames as f, octets as o}

  -- the sizes of the units that are complete
  pub units_come : {c : ℕ} {s : Sum} (from : RunFrom) (units : List PictureUnit)
      → AreLaid (length from.run.film) starts units → AtUnit s → HasCome (map (λ u. wire_size starts u) units) c s
      (steps s (events_of_elements (take (count_ended c (blocks_of from units)) (blocks_of from units))))
  units_come {c} {s} from [] laid between = search (arith, append-nil s.sizes)
  units_come {c} {s} from (unit ∷ units) laid between =
      let xs = one_of from unit in
      let ys = blocks_of (after starts unit from) units in
      let w = wire_size starts unit in
      let sizes = map (λ u. wire_size starts u) units in
      let size : length (framed_bytes xs) ≡ w = unit_sized from unit laid.0.1 laid.0.0 in
      let marked : IsLastMarked (unit_packets starts unit) = search (last-marked, packets-are, packets-cover) in
      let some = ap (λ (l : List Packet). length l) (has-packet starts unit).are in
      let end : EndsUnit s w xs =
      unit_end unit.starts_group from unit (unit_packets starts unit) marked (omega (arith, some)) between size in
      rw (more_blocks from unit units) (elim (cases_lt c w) [
        | inl less ↦
            let within = all_within xs ys c (omega (arith, less, size)) in
            rw (within.0, take-append-le (count_ended c xs) xs ys (omega (arith, within.1))) (record {
              count = 0;
              sizes_are = end.part (count_ended c xs) within.1 ∙ sym (append-nil s.sizes);
              among = omega arith;
              next = λ l. omega (arith, less, sum_by-cons (λ (y : ℕ). y) w (take 0 sizes));
            })
        | inr more ↦
            let d = c - length (framed_bytes xs) in
            let k = count_ended d ys in
            let t = steps s (events_of_elements xs) in
            let come = units_come {c = d} {s = t} (after starts unit from) units laid.1 end.between in
            let one : suc come.count + 1 ≡ suc (come.count + 1) = omega arith in
            rw ((all_past xs ys c (omega (arith, more, size))).0, take-append-add xs ys k, moments_parts xs (take k ys))
            (rw (steps_on s (events_of_elements xs) (events_of_elements (take k ys))) (record {
              count = suc come.count;
              sizes_are = rw (come.sizes_are, end.sizes, append_assoc s.sizes (w ∷ []) (take come.count sizes));
              among = omega (arith, come.among);
              next = λ l.
                  omega (
                    arith,
                    come.next (omega (arith, l)),
                    ap (λ n. sum (take n (w ∷ sizes))) one,
                    sum_by-cons (λ (y : ℕ). y) w (take (come.count + 1) sizes),
                    size,
                    more,
                  );
            }))
      ])

-- ---- the frames that are handed on

frames_told : (from : RunFrom) (f : ℕ) (unit : PictureUnit) (packets : List Packet) →
    frames_of (events_of_elements (frame_blocks from.run unit f packets)) ≡ frame_blocks from.run unit f packets
frames_told from f unit [] = refl
frames_told from f unit (p ∷ packets) =
    rw (frame_moment from.run f unit p from.media, frames_told from (f + 1) unit packets)

unit_told : (starts : Bool) (from : RunFrom) (unit : PictureUnit) (packets : List Packet) →
    frames_of (events_of_elements
    (report_if starts from.run unit from.frames from.octets ++ frame_blocks from.run unit from.frames packets))
    ≡ frame_blocks from.run unit from.frames packets
unit_told starts from unit packets = grind (arith, report_moment, frames_told)

pub units_told : (starts : List ℕ) (from : RunFrom) (units : List PictureUnit) →
    frames_of (events_of_elements (blocks_of starts from units)) ≡
    frames_among (pieces_of starts units) (blocks_of starts from units)
units_told starts from [] = refl
units_told starts from (unit ∷ units) =
    let xs = one_of starts from unit in
    let ys = blocks_of starts (after starts unit from) units in
    cc (
      more_blocks starts from unit units,
      moments_parts xs ys,
      frames_parts (events_of_elements xs) (events_of_elements ys),
      unit_told unit.starts_group from unit (unit_packets starts unit),
      units_told starts (after starts unit from) units,
      unit_among from.run from.frames from.octets starts unit
          (record { parts = pieces_of starts units; blocks = ys }),
      pieces-cons starts unit units,
    )

-- ---- all of a film's blocks

-- elements before a reply, two of them replies, are the two first ones and all the blocks
all_elements : {ps : List (List ℕ)} {m : List ℕ} (x : Stream) (p : List ℕ) (rest : List (List ℕ))
    → element_events p ≡ Reply m ∷ [] → all_of x ≡ ps ++ p ∷ rest
    → (steps no_sum (events_of_elements ps)).replies ≡ 2 → ps ≡ x.first ∷ x.second ∷ x.blocks
all_elements {ps = []} x p rest reply all two = absurd (omega (arith, two))
all_elements {ps = a ∷ []} x p rest reply all two = grind arith
all_elements {ps = a ∷ b ∷ ps} x p rest reply all two =
    let first : a ≡ x.first = cc in
    let second : b ≡ x.second = cc in
    rw (first, second) (elim (stands_in x.blocks x.later ps p rest x.blocks_are x.later_are (cc)) [
      | Within more inside front one ↦ elim one.moment [ inl frame ↦ cc | inr report ↦ cc ]
      | After past after ↦ ap (λ l. x.first ∷ x.second ∷ l) past
      | Later y more past text ↦ search (arith, third_reply)
    ])

pub done_sum : {wish : Wish} {watched : Watched} {bytes out : List ℕ} (x : Stream) (c : ℕ)
    (done : IsDrained wish watched bytes out) → bytes ≡ take c (framed_bytes (all_of x))
    → sum_of done.at.history ≡ steps (begun_sum x) (events_of_elements x.blocks)
done_sum {out} x c done is =
    let all = all_of x in
    let k = count_ended c all in
    let p = take done.length_ done.at.rest in
    let front = cut_front {ps = all} (record { count = c; alone = x.alone; front_is = is }) done.heard.elements
    done.heard.cut done.whole in
    let tail = front.0 ++ drop k all in
    let whole : all
    ≡ done.heard.elements ++ p ∷ tail = search (
      arith,
      take-append-drop k all,
      append_assoc (done.heard.elements ++ p ∷ []) front.0 (drop k all),
      append_assoc done.heard.elements (p ∷ []) tail,
    ) in
    let two : (steps no_sum (events_of_elements done.heard.elements)).replies ≡ 2 = grind arith in
    let are = all_elements x p tail done.moment whole two in
    done.heard.sum ∙ (ap (λ l. steps no_sum (events_of_elements l)) are ∙ two_moments x x.blocks)

abbrev pub film_run : Film → Identity → FramedRun
film_run film identity = run_of film 0 (length film.units.items) identity

abbrev pub film_sizes : Film → List ℕ
film_sizes film = map (λ u. wire_size film.slice_starts.items u) film.units.items

-- a stream whose blocks are those of an entire film
pub record WholeStream : Type 0 where
  pub film : Film
  pub identity : Identity
  pub x : Stream
  pub media : identity.channel ≡ 0
  pub control : identity.control ≡ 1
  pub blocks : x.blocks ≡ blocks_from (film_run film identity) 0 0 (pieces_of film.slice_starts.items film.units.items)

-- its run, from the first frame on
abbrev pub run_from : WholeStream → RunFrom
run_from s = record { run = film_run s.film s.identity; frames = 0; octets = 0; media = s.media; control = s.control }

-- all units are the run's
pub units_all : (film : Film) → take (length film.units.items - 0) (drop 0 film.units.items) ≡ film.units.items
units_all film = take_all (length film.units.items - 0) film.units.items (omega arith)

pub run_blocks : (film : Film) (identity : Identity) → run_pieces (film_run film identity)
    ≡ blocks_from (film_run film identity) 0 0 (pieces_of film.slice_starts.items film.units.items)
run_blocks film identity = rw (units_all film)

-- ---- sizes

come : (s : WholeStream) (d : ℕ) → HasCome (film_sizes s.film) d (begun_sum s.x)
    (steps (begun_sum s.x) (events_of_elements (take (count_ended d s.x.blocks) s.x.blocks)))
come s d =
    rw blocks (units_come film.slice_starts.items (run_from s) film.units.items (laid-film film)
    (record { on = refl; none = refl; outside = refl }))
  where
    open s use {film, x, blocks}

-- ---- the time of a picture, by the first frame of a run

-- its first frame begins a film
first_good : (h : History) → HasGoneOn h → 0 < frames h → begins_film (drop 20 (first_frame h)) ≡ true
first_good [] gone some = absurd (omega (arith, some))
first_good (Frame b ∷ h) gone some =
    grind (arith, and_parts, cases_eq (frames h) 0, ne_eqb, first_good h gone.1)
first_good (_ ∷ h) gone some = first_good h gone.1 some

-- after a report at most, the first frame of a sum with none
lead : {r b : List ℕ} (starts : Bool) (k : ℕ) (s : (t : Sum) × (t.frames ≡ 0))
    (rest : (bs : List (List ℕ)) × AreOneBlocks bs) → element_events r ≡ Report r ∷ []
    → element_events b ≡ Frame b ∷ []
    → let t : Sum = steps s.0 (events_of_elements (take k (cond starts (r ∷ []) [] ++ b ∷ rest.0))) in
    0 < t.frames → t.first ≡ b
lead false (suc k) s rest report frame some = grind (arith, blocks_first, each_take)
lead true (suc k) s rest report frame some =
    rw report (lead false k (step (Report _) s.0, s.1) rest report frame (rw report at some))
lead _ zero s rest report frame some = absurd (omega (arith, s.1, some))

module _ (starts : List ℕ) (unit : PictureUnit) where
  first_frame_is : (from : RunFrom) (k : ℕ) (units : List PictureUnit) (s : Sum) → s.frames ≡ 0
      → let t : Sum = steps s
      (events_of_elements (take k (blocks_of starts from (unit ∷ units)))) in
      0 < t.frames → t.first ≡ frame_block from.run unit (has-packet starts unit).packet from.frames
  first_frame_is from k units s none some =
      let there = has-packet starts unit in
      let rest = blocks_of starts (after starts unit from) units in
      let front = report_if unit.starts_group run unit f o in
      let frames_rest = frame_blocks run unit (f + 1) there.packets in
      let all : blocks_of starts from (unit ∷ units)
      ≡ front ++ (frame_block run unit there.packet f ∷ (frames_rest ++ rest)) =
      more_blocks starts from unit units ∙ (ap (λ ps. (front ++ frame_blocks run unit f ps) ++ rest) there.are
      ∙ append_assoc front (frame_block run unit there.packet f ∷ frames_rest) rest) in
      let are : AreOneBlocks (frames_rest ++ rest) =
      each_append IsOneBlock frames_rest rest (frames_one run (f + 1) unit there.packets media)
      (blocks_one starts (after starts unit from) units) in
      rw all (lead unit.starts_group k (s, none) (frames_rest ++ rest, are)
      (report_moment run f o unit control) (frame_moment run f unit there.packet media) (rw all at some))
    where
      open from use {run, frames as f, octets as o, media, control}

  -- a first frame that begins a film gives its rate
  frame_time_is : (run : FramedRun) (f : ℕ) {rate : ℕ} {first : List ℕ} → IsLaid starts unit
      → first ≡ frame_block run unit (has-packet starts unit).packet f → BeginsSequence run.film rate unit.from
      → begins_film (drop 20 first) ≡ true → time_in first ≡ picture_time rate
  frame_time_is run f {first = first} laid first_is begins good =
      let there = has-packet starts unit in
      let p = there.packet in
      let its : List ℕ = payload run.film p in
      let long : 12 ≤ length its = grind arith in
      let count : length its ≡ min (p.to - p.from) (length (drop p.from run.film)) = grind (arith, common_steps) in
      let cover = rw there.are at (packets-cover starts unit laid) in
      let byte : get_or its 7 0 ≡ get_or run.film (unit.from + 7) 0 = grind (arith, get_or-take, get_or-drop) in
      cc (first_is, byte, begins.rate_is)

time_by : (s : WholeStream) (k : ℕ) (items : List PictureUnit) → items ≡ s.film.units.items →
    let t : Sum = steps (begun_sum s.x) (events_of_elements (take k s.x.blocks)) in 0 < t.frames →
    begins_film (drop 20 t.first) ≡ true → time_in t.first ≡ picture_time s.film.rate
time_by s k [] items_are = grind (arith, common_steps)
time_by s k (unit ∷ items) items_are =
    let run = film_run film identity in
    let starts = film.slice_starts.items in
    let laid : AreLaid (length film.bytes.items) starts (unit ∷ items) =
    rw (← items_are) at (laid-film film) in
    let begins = film-begins film.grammar unit (ap (λ us. slice_get us 0) (sym items_are)) in
    let all : blocks_from run 0 0 (pieces_of starts (unit ∷ items)) ≡ x.blocks = grind arith in
    rw (← all) (λ some good. frame_time_is starts unit run 0 laid.0.1
    (first_frame_is starts unit (run_from s) k items (begun_sum x) refl some) begins good)
  where
    open s use {film, identity, x, blocks}

pub run_total : (film : Film) (identity : Identity)
    → length (framed_bytes (run_pieces (film_run film identity))) ≡ sum (film_sizes film)
run_total film identity =
    cc ((run-sum film 0 (length film.units.items) identity (omega arith) (omega arith)).1, units_all film)

pub blocks_sum : (s : WholeStream) → length (framed_bytes s.x.blocks) ≡ sum (film_sizes s.film)
blocks_sum s = cc (s.blocks, run_blocks s.film s.identity, run_total s.film s.identity)

-- what was received of an entire film
pub record IsWholeOf (film : Film) (x : Stream) (h : History) : Type 0 where
  pub sizes_are : sizes h ≡ film_sizes film
  pub count : units_until (begun_sum x).end_ms (picture_time film.rate) ≡ length (film_sizes film)

module _ (s : WholeStream) where
  open s use {film, identity, x, blocks}

  -- the time of a picture and the number of units, by what was received
  timed : (h : History) (k : ℕ) → HasGoneOn h → sum_of h ≡ steps (begun_sum x) (events_of_elements (take k x.blocks))
      → 0 < frames h → (time h ≡ picture_time film.rate)
      × (units h ≡ units_until (begun_sum x).end_ms (picture_time film.rate))
  timed h k gone sum_is some =
      grind (arith, blocks_same, each_take IsOneBlock k x.blocks x.blocks_are, time_by, first_good, ne_eqb)

  -- ---- a reading

  pub heard_of : {c : ℕ} {at : WatchStage} → HasGoneOn at.history → IsReadingOf x c at
      → units_until (begun_sum x).end_ms (picture_time film.rate) ≡ length (film_sizes film)
      → IsFilmHeard (film_sizes film) (picture_time film.rate) at.history (cut_bytes at.rest)
      × (bytes_received at.history + cut_bytes at.rest ≡ min (film_place x c) (length (framed_bytes x.blocks)))
  heard_of {c} {at} gone reading count =
      let d = film_place x c in
      let k = count_ended d x.blocks in
      let its = come s d in
      let all = film_sizes film in
      let are : sizes at.history ≡ take its.count all = ap (λ (s : Sum). s.sizes) reading.sum ∙ its.sizes_are in
      let many : length (sizes at.history) ≡ its.count = rw (are, length-take-le its.count all its.among) in
      let bytes = ap (λ (s : Sum). s.received) reading.sum
      ∙ blocks_received (take k x.blocks) (begun_sum x) (each_take IsOneBlock k x.blocks x.blocks_are) refl in
      let came : bytes_received at.history + cut_bytes at.rest ≡ min d (length (framed_bytes x.blocks)) = grind arith in
      let its_time = timed at.history k gone reading.sum in (
        record {
          sizes_are = are ∙ ap (λ n. take n all) (sym many);
          among = omega (arith, many, its.among);
          time_is = λ some. (its_time some).0;
          units_are = λ some. (its_time some).1 ∙ count;
          next = grind arith;
        },
        came,
      )

  pub whole_of : {h : History} → HasGoneOn h → sum_of h ≡ steps (begun_sum x) (events_of_elements x.blocks)
      → is_complete h ≡ true → IsWholeOf film x h
  whole_of {h} gone sum_is complete =
      let all = film_sizes film in
      let total = length (framed_bytes x.blocks) in
      let k = count_ended total x.blocks in
      let front : take k x.blocks ≡ x.blocks = grind (arith, take_all, count_whole) in
      let its = come s total in
      let sum_here : sum_of h ≡ steps (begun_sum x) (events_of_elements (take k x.blocks)) = rw (sum_is, front) in
      let most = sum_by-take-le (λ (x : ℕ). x) all (its.count + 1) in
      let every : its.count ≡ length all = grind (arith, its.next, its.among, blocks_sum s, most) in
      let are : sizes h ≡ all = cc (sum_here, its.sizes_are, take_all its.count all (omega (arith, every))) in
      let some : 0 < frames h = grind (arith, ltb-true, and_parts) in
      let same : length (sizes h) ≡ units h = grind (arith, eqb-true, and_parts) in
      record { sizes_are = are; count = cc ((timed h k gone sum_here some).1, same, are) }

  pub film_comes_back : {first last : PictureUnit} (h : History)
      → sum_of h ≡ steps (begun_sum x) (events_of_elements x.blocks) → slice_get film.units.items 0 ≡ Some first
      → slice_get film.units.items (length film.units.items - 1) ≡ Some last → payloads h ≡ take (last.to - first.from)
      (drop first.from film.bytes.items)
  film_comes_back {first} {last} h sum_is at_first at_last =
      let starts = film.slice_starts.items in
      let items = film.units.items in
      let bs = blocks_of starts (run_from s) items in
      let units : FirstAndLast film 0 (length items) first last = grind (arith, common_steps) in
      ap (λ (s : Sum). s.payloads) sum_is ∙ (steps_payloads (begun_sum x) (events_of_elements x.blocks)
      ∙ cc (
        blocks,
        payloads-are (events_of_elements bs),
        units_told starts (run_from s) items,
        units_all film,
        comes-back identity units,
      ))
