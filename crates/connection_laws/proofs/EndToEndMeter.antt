-- The promise from a server to its client's meter: what a connection sent is a stream of two replies, a film's blocks,
-- and later replies, and what came by a slot lies between the film's curves.
use Rattle.std.proofs.lemmas.Grind.{common_steps}
use Rattle.std.proofs.Common.{zero, nat_lt, cond, sum_by, get_or, ◌≡◌, ℕ, suc, ◌+◌, ◌-◌, ◌<◌, ◌≤◌, List, ◌∷◌, ◌++◌}
use Rattle.std.proofs.Common.{length, take, map, sum, refl, sym, ap, ◌∙◌, append_assoc, arith, inl, inr, [], max, min}
use Rattle.std.proofs.Common.{drop}
use Rattle.std.specs.List.{range_with_len}
use Rattle.std.proofs.lemmas.List.{take_all, append-nil, drop_all, length-append, length-take}
use Rattle.std.proofs.lemmas.List.Sums.{sum_by-take-le}
use Rattle.connection_laws.proofs.Terms.{IoEvent, picture_time, Identity, WholeBlock, Stored, run_of, framed_bytes}
use Rattle.connection_laws.proofs.Terms.{total_bytes, stored_sizes, first_slots, rounds_film, rounds_parts, Round}
use Rattle.connection_laws.proofs.Terms.{rounds_doings, SentPart, Stage, film_bytes, Course, IsCourseBetween}
use Rattle.connection_laws.proofs.Terms.{askings_of, greatest_slot, rounds_bytes, FilmPlay, due_of, film_written}
use Rattle.connection_laws.proofs.Terms.{plays_of, PlacedText, placed_text, placed_texts, text_of, insert_texts, Wish}
use Rattle.connection_laws.proofs.Terms.{IsBetween, sent_bytes, AreAfter, HasPlayedWhole, IsWholePlay, film_blocks}
use Rattle.connection_laws.proofs.Terms.{playback_of, whole_run, Sent, sends, round_bytes, Text, parts_bytes}
use Rattle.connection_laws.proofs.Terms.{latest_slot}
use Rattle.conn.proofs.ReplyContents.{parts-more}
use Rattle.film_frames.specs.Laws.{AreBlocks}
use Rattle.film_frames.specs.FramedRuns.{pieces_in}
use Rattle.film_frames.proofs.EndedPieceLemmas.{are-blocks}
use Rattle.plan_cert.proofs.SlotSums.{sum-plan_slots}
use Rattle.film_run.specs.Plans.{rest_sizes}
use Rattle.film_run.proofs.PlanLemmas.{sending-keeps}
use Rattle.conn.proofs.CurveBounds.{planned_between}
use Rattle.connection_laws.proofs.CourseSteps.{film_written_is, Stands, course_stands, first_stands, film_sent}
use Rattle.connection_laws.proofs.CourseInduction.{course_heard, parts_of, begin_of}
use Rattle.connection_laws.proofs.ReplyOrder.{bytes_woven, rounds_sent}
use Rattle.connection_laws.specs.LinkDelivery.{IsWrittenBy}
use Rattle.wire_curve.specs.declared.film.Timing.{Timing}
use Rattle.wire_curve.specs.FilmCurves.{due_slot, low_at, up_at}
use Rattle.rtsp_client.specs.Meters.{used_before}
use Rattle.connection_laws.proofs.FilmReading.{blocks_sum, film_sizes, run_blocks, WholeStream, blocks_one}
use Rattle.connection_laws.proofs.MeterInput.{AreTexts, Stream, all_of, text_is, IsText}
use Rattle.connection_laws.proofs.MeterBounds.{IsFed}
use Rattle.connection_laws.proofs.BookedPlays.{askings_parts, course_late, late_play, one_so_far}
use Rattle.connection_laws.proofs.ElementStreams.{AreAlone, IsAlone}
use Rattle.connection_laws.proofs.Lists.{each_append, each_front, each_weaker, Each, joins_parts}
use Rattle.std.specs.Prelude.{⊤}
use Rattle.std.proofs.Math.Seq.{drop-nil, take-append-add, take-nil}
use Rattle.conn.specs.InputSteps.{Film}

-- ---- texts among parts

abbrev texts_length : List PlacedText → ℕ
texts_length [] = 0
texts_length (placed ∷ texts) = length placed.text + texts_length texts

parts_length : (place : ℕ) (parts : List SentPart)
    → length (parts_bytes parts) ≡ length (film_bytes parts) + texts_length (placed_texts place parts)
parts_length place [] = refl
parts_length place (Film bytes ∷ parts) = search (arith, parts_length (place + length bytes) parts, length-append)
parts_length place (Text text ∷ parts) = omega (arith, parts_length place parts, length-append text (parts_bytes parts))

abbrev IsFromTo : ℕ → ℕ → List PlacedText → Type 0
IsFromTo from to [] = ⊤
IsFromTo from to (placed ∷ texts) = (from ≤ placed.place) × ((placed.place ≤ to) × IsFromTo from to texts)

from_to_wider : {low from to high : ℕ} (texts : List PlacedText) → low ≤ from → to ≤ high
    → IsFromTo from to texts → IsFromTo low high texts
from_to_wider {low} {from} [] less more are = tt
from_to_wider {low} {from} {to} {high} (placed ∷ texts) less more are =
    grind (arith, from_to_wider {low = low} {from = from} {to = to} {high = high} texts less more are.1.1)

texts_within : (place : ℕ) (parts : List SentPart) → IsFromTo place (place + length (film_bytes parts))
    (placed_texts place parts)
texts_within place [] = tt
texts_within place (Film bytes ∷ parts) =
    grind (arith, from_to_wider, length-append bytes (film_bytes parts), texts_within (place + length bytes) parts)
texts_within place (Text text ∷ parts) = (omega arith, (omega arith, texts_within place parts))

texts_parts : (place : ℕ) (xs ys : List SentPart)
    → placed_texts place (xs ++ ys) ≡ placed_texts place xs ++ placed_texts (place + length (film_bytes xs)) ys
texts_parts place [] ys = ap (λ n. placed_texts n ys) (let e : place ≡ place + 0 = omega arith in e)
texts_parts place (Film bytes ∷ xs) ys = search
    (arith, texts_parts (place + length bytes) xs ys, length-append bytes (film_bytes xs))
texts_parts place (Text text ∷ xs) ys = cc (texts_parts place xs ys)

-- ---- how much film there is in a prefix

counted_by : {setup played : List ℕ} {later rest : List PlacedText} {film total : ℕ} (front : List PlacedText)
    → (0 < length setup) × (0 < length played)
    → front ++ rest ≡ placed_text 0 setup ∷ placed_text 0 played ∷ later → IsFromTo 0 film front
    → ((placed : PlacedText) (texts : List PlacedText) → rest ≡ placed ∷ texts → film ≤ placed.place)
    → AreAfter total later × (film ≤ total) → length setup + length played ≤ film + texts_length front
    → min (film + texts_length front - length setup - length played) total ≡ film
counted_by [] some all within next after much = grind arith
counted_by (a ∷ []) some all within next after much = grind arith
counted_by (a ∷ b ∷ []) some all within next after much = grind arith
counted_by (a ∷ b ∷ c ∷ texts) some all within next after much = grind arith

-- ---- all of it, as a prefix of the stream

framed_append : (xs ys : List (List ℕ)) → framed_bytes (xs ++ ys) ≡ framed_bytes xs ++ framed_bytes ys
framed_append = joins_parts framed_bytes (record { one = λ x. x; none = refl; more = λ x xs. refl })

woven_texts : (from : ℕ) (film : List ℕ) (texts : List PlacedText) → film ≡ []
    → insert_texts from film texts ≡ framed_bytes (map text_of texts)
woven_texts from film [] none = none
woven_texts from film (placed ∷ texts) none =
    let n = placed.place - from in
    cc (none, take-nil n, woven_texts placed.place (drop n film) texts (ap (drop n) none ∙ drop-nil n))

pub record IsFrontOf (bytes all : List ℕ) : Type 0 where
  pub count : ℕ
  pub is : bytes ≡ take count all

front_after : {bytes all : List ℕ} (a : List ℕ) → IsFrontOf bytes all → IsFrontOf (a ++ bytes) (a ++ all)
front_after {all = all} a front = search (arith, take-append-add a all front.count)

-- and all of them, where a text comes later
record IsWoven (bytes all : List ℕ) (later : List PlacedText) : Type 0 where
  front : IsFrontOf bytes all
  whole : 0 < length later → bytes ≡ all

-- after the two first replies
film_woven : {film blocks : List ℕ} → IsFrontOf film blocks → (later : List PlacedText) → AreAfter (length blocks) later
    → IsFromTo 0 (length film) later
    → IsWoven (insert_texts 0 film later) (blocks ++ framed_bytes (map text_of later)) later
film_woven {blocks = blocks} front [] after within = search (arith, append-nil blocks)
film_woven {film} {blocks} front (placed ∷ texts) after within =
    let long : length blocks ≤ length film = omega (arith, after.0, within.1.0) in
    let size : length film ≡ min front.count (length blocks) =
    ap (λ (l : List ℕ). length l) front.is ∙ length-take front.count blocks in
    let whole : film ≡ blocks = front.is ∙ take_all front.count blocks (omega (arith, size, long)) in
    let end = blocks ++ framed_bytes (map text_of (placed ∷ texts)) in
    let all : insert_texts 0 film (placed ∷ texts) ≡ end = grind (arith, take_all, woven_texts, drop_all) in
    record {
      front = record { count = length end; is = all ∙ sym (take_all (length end) end (omega arith)) };
      whole = λ some. all;
    }

-- ---- what the link exposed of rounds

sent_append : (a b : List IoEvent) → sent_bytes (a ++ b) ≡ sent_bytes a ++ sent_bytes b
sent_append =
    joins_parts sent_bytes (record { one = λ e. sent_bytes (e ∷ []); none = refl; more = λ e es. grind arith })

latest_append : (a b : List IoEvent) → latest_slot (a ++ b) ≡ max (latest_slot a) (latest_slot b)
latest_append [] b = omega arith
latest_append (d ∷ a) b = omega (arith, latest_append a b)

sends_are : (bytes : List ℕ) → (sent_bytes (sends bytes) ≡ bytes) × (latest_slot (sends bytes) ≡ 0)
sends_are [] = (refl, refl)
sends_are (b ∷ bytes) = (ap (λ l. b ∷ l) (sends_are bytes).0, omega (arith, (sends_are bytes).1))

-- an event that isn't a byte that was sent
abbrev IsEvent : IoEvent → Type 0
IsEvent (Sent byte) = ⊥
IsEvent _ = ⊤

abbrev HasEvent : Round → Type 0
HasEvent round = IsEvent round.event

abbrev AreEvents : List Round → Type 0
AreEvents = Each HasEvent

rounds_sent_are : (rounds : List Round) → AreEvents rounds → sent_bytes (rounds_doings rounds) ≡ rounds_bytes rounds
rounds_sent_are [] are = refl
rounds_sent_are (round ∷ rounds) are = search
    (arith, sends_are (round_bytes round), rounds_sent_are rounds are.1, sent_append)

rounds_latest : (rounds : List Round) → latest_slot (rounds_doings rounds) ≡ greatest_slot rounds
rounds_latest [] = refl
rounds_latest (round ∷ rounds) = grind (arith, latest_append, (sends_are (round_bytes round)).1, rounds_latest rounds)

-- a prefix that no byte follows is that of complete rounds
record AreWhole (rounds : List Round) (front : List IoEvent) : Type 0 where
  first : List Round
  later : List Round
  parts : rounds ≡ first ++ later
  front_is : front ≡ rounds_doings first

past_sends : (bytes : List ℕ) (rest front after : List IoEvent) → sends bytes ++ rest ≡ front ++ after
    → ((byte : ℕ) (later : List IoEvent) → after ≡ Sent byte ∷ later → ⊥)
    → ((more : List IoEvent) × ((front ≡ sends bytes ++ more) × (rest ≡ more ++ after)))
past_sends [] rest front after is whole = (front, (refl, is))
past_sends (b ∷ bytes) rest [] after is whole = search arith
past_sends (b ∷ bytes) rest (d ∷ front) after is whole =
    let next = past_sends bytes rest front after (cc) whole in
    (next.0, (ap (λ l. d ∷ l) next.1.0 ∙ ap (λ x. x ∷ (sends bytes ++ next.0)) (cc), next.1.1))

whole_rounds : (rounds : List Round) (front after : List IoEvent) → rounds_doings rounds ≡ front ++ after
    → ((byte : ℕ) (later : List IoEvent) → after ≡ Sent byte ∷ later → ⊥) → AreWhole rounds front
whole_rounds rounds [] after is whole = record { first = []; later = rounds; parts = refl; front_is = refl }
whole_rounds [] (d ∷ front) after is whole = cc
whole_rounds (round ∷ rounds) (d ∷ front) after is whole =
    let first : d ≡ round.event = cc in
    let tail : sends (round_bytes round) ++ rounds_doings rounds ≡ front ++ after = cc in
    let next = past_sends (round_bytes round) (rounds_doings rounds) front after tail whole in
    let rest = whole_rounds rounds next.0 after next.1.1 whole in
    record {
      first = round ∷ rest.first;
      later = rest.later;
      parts = ap (λ l. round ∷ l) rest.parts;
      front_is = cc (first, next.1.0, rest.front_is);
    }

-- ---- the stream of an entire play

alone_from : (bs : List (List ℕ)) → AreBlocks bs → AreAlone bs
alone_from [] are = tt
alone_from (b ∷ bs) are =
    let its = are 0 (omega arith) in
    let some : 0 < length b = its.0.0 in (
      record { some = some; whole = WholeBlock its.0 (omega (arith, its.1)) (sym its.1) (omega arith) },
      alone_from bs (λ k less. are (suc k) (omega (arith, less))),
    )

texts_of : (total : ℕ) (texts : List PlacedText) → AreAfter total texts → AreTexts (map text_of texts)
texts_of total [] after = tt
texts_of total (placed ∷ texts) after = (text_is placed.text after.1.starts after.1.size, texts_of total texts after.2)

pub stream_of : {wish : Wish} {stored : Stored} {course : Course} → HasPlayedWhole wish stored course → Stream
stream_of {stored = stored} played =
    let blocks = film_blocks stored played.identity in
    let run = run_of stored.film 0 (length stored.film.units.items) played.identity in
    let setup = text_is played.setup played.setup_is.starts played.setup_is.size in
    let reply = text_is played.played played.played_is.starts played.played_is.size in
    let texts = texts_of (length (framed_bytes blocks)) played.later played.after in
    record {
      first = played.setup;
      second = played.played;
      blocks = blocks;
      later = map text_of played.later;
      first_is = setup;
      second_is = reply;
      blocks_are = blocks_one run.slice_starts
          (record { run = run; frames = 0; octets = 0; media = played.whole.media; control = played.whole.control })
          run.units;
      later_are = texts;
      alone = (
        setup.alone,
        (
          reply.alone,
          each_append IsAlone blocks (map text_of played.later)
              (alone_from blocks (are-blocks run 0 0 (pieces_in run)))
              (each_weaker IsText IsAlone (λ m is. is.alone) (map text_of played.later) texts),
        ),
      );
    }

-- its replies are those of the connection
pub stream_replies : {wish : Wish} {stored : Stored} {course : Course} (played : HasPlayedWhole wish stored course)
    (P : List ℕ → List ℕ → List (List ℕ) → Type 0) → P played.setup played.played (map text_of played.later)
    → P (stream_of played).first (stream_of played).second (stream_of played).later
unfolding stream_of
stream_replies played P is = is

-- ---- the two curves of a film, as a server's plan and a client's meter have them

-- a timing with the slots and the delay of a wish
record WishedTiming (wish : Wish) (timing : Timing) : Type 0 where
  units : timing.slot_units ≡ wish.slot_units
  delay : timing.delay ≡ wish.startup

module _ {wish : Wish} {timing : Timing} where
  used_range : (slot : ℕ) (before sizes : List ℕ) → WishedTiming wish timing
      → used_before wish timing.picture_units slot (length before) sizes
      ≡ sum_by (λ k. cond (nat_lt (due_slot timing k) slot) (get_or (before ++ sizes) k 0) 0)
      (range_with_len (length before) (length sizes))
  used_range slot before [] timed = refl
  used_range slot before (x ∷ sizes) timed = grind (
    arith,
    common_steps,
    append_assoc before (x ∷ []) sizes,
    length-append before (x ∷ []),
    used_range slot (before ++ x ∷ []) sizes timed,
  )

-- between the curves of a plan is between those of the meter
curves_same : {wish : Wish} {sizes : List ℕ} {slot came : ℕ} {timing : Timing} → WishedTiming wish timing →
    timing.buffer ≡ wish.buffer → timing.played ≡ 0 → low_at sizes timing slot ≤ came →
    came ≤ up_at sizes timing slot → IsBetween wish sizes timing.picture_units slot came
curves_same {wish} {sizes} {slot} timed buffer none above below =
    grind (arith, used_range slot [] sizes timed, used_range (slot + 1) [] sizes timed)

-- ---- the film by the step of a slot

-- of one entire play, as many bytes of the film as are due
due_written : {wish : Wish} {stored : Stored} {identity : Identity} {play : FilmPlay} (slot : ℕ)
    → IsWholePlay wish stored identity play
    → film_written slot (play ∷ []) ≡ take (due_of slot play) (framed_bytes (film_blocks stored identity))
due_written {stored = stored} {identity = identity} {play = play} slot whole = search arith

-- all units of a film are those of its run
pub rest_all : (stored : Stored) → rest_sizes (stored_sizes stored) (whole_run stored) ≡ film_sizes stored.film
rest_all stored = grind (arith, common_steps)

-- ---- what the client is fed

events_are : (old new : Stage) (rounds : List Round) → IsCourseBetween old rounds new → AreEvents rounds
events_are old new [] follows = tt
events_are old new (round ∷ rounds) follows = (
  (grind arith),
  events_are follows.0 new rounds follows.1.1,
)

pub stream_blocks : {wish : Wish} {stored : Stored} {course : Course} (played : HasPlayedWhole wish stored course)
    → (stream_of played).blocks ≡ film_blocks stored played.identity
unfolding stream_of
stream_blocks played = refl

-- of an entire film
abbrev pub played_stream : {wish : Wish} {stored : Stored} {course : Course} → HasPlayedWhole wish stored course
    → WholeStream
played_stream {stored = stored} played = record {
  film = stored.film;
  identity = played.identity;
  x = stream_of played;
  media = played.whole.media;
  control = played.whole.control;
  blocks = stream_blocks played ∙ run_blocks stored.film played.identity;
}

module _ {wish : Wish} {stored : Stored} {course : Course} (played : HasPlayedWhole wish stored course) where
  open played use {play, whole}

  -- of the film that was sent by a slot: it is what the parts say, not more than all, and between the curves
  sent_between : (first later : List Round) (j : ℕ) → course.rounds ≡ first ++ later
      → greatest_slot first ≡ play.start + j → (film_bytes (rounds_parts first) ≡ rounds_film first)
      × (length (rounds_film first) ≤ length (framed_bytes (stream_of played).blocks))
      × IsBetween wish (film_sizes stored.film) (picture_time stored.film.rate) j (length (rounds_film first))
  sent_between first later j split slot =
      let begin = begin_of course in
      let there : (f : IsCourseBetween begin (first ++ later) course.last)
      × (plays_of (askings_of begin (first ++ later) course.last f) ≡ play ∷ []) =
      rw (← split) (course.follows, played.plays) in
      let stands = first_stands course.films course.settings course.words in
      let parts = parts_of begin course.last first later there.0 in
      let a = askings_of begin first parts.0 parts.1.0 in
      let b = askings_of parts.0 later course.last parts.1.1 in
      let both : plays_of (a ++ b) ≡ play ∷ [] = search (askings_parts begin course.last first later there.0) in
      let mid : Stands parts.0.session = course_stands begin parts.0 first parts.1.0 stands in
      let now : plays_of a ≡ play ∷ [] = elim (one_so_far a b play both whole.keep) [
        | inl here ↦ here
        | inr after ↦
            let late = late_play parts.0.session.heard b play []
            (course_late parts.0 course.last later parts.1.1 mid) after.1 in
            let heard = course_heard begin parts.0 first parts.1.0 in
            absurd (omega (arith, late.late, heard, slot))
      ] in
      let x = stream_of played in
      let g = greatest_slot first in
      let n = first_slots play.plan (j + 1) in
      let front : Course = record course { rounds = first; last = parts.0; follows = parts.1.0 } in
      let film : rounds_film first ≡ take (due_of g play) (framed_bytes x.blocks) =
      cc (film_written_is front, now, due_written g whole, stream_blocks played) in
      let at : g + 1 - play.start ≡ j + 1 = omega (arith, slot) in
      let due : first_slots play.plan (g + 1 - play.start) ≡ n = ap (first_slots play.plan) at in
      let bytes : total_bytes play.plan ≡ length (framed_bytes x.blocks) =
      omega (
        arith,
        (sending-keeps (stored_sizes stored) (playback_of wish stored) (whole_run stored) play.plan
            whole.sending).bytes,
        ap sum (rest_all stored),
        blocks_sum (played_stream played),
      ) in
      let plan = (late_play begin.session.heard (askings_of begin course.rounds course.last course.follows) play []
      (course_late begin course.last course.rounds course.follows stands) played.plays).plan in
      let most : n ≤ total_bytes play.plan = grind (arith, sum_by-take-le, sum-plan_slots play.plan plan.no_empty) in
      let size : length (rounds_film first) ≡ n = grind (arith, common_steps) in
      let curves = planned_between plan whole.sending refl in
      let came : 0 + n ≡ length (rounds_film first) = omega (arith, size) in (
        film_sent begin parts.0 first parts.1.0,
        omega (arith, size, most, bytes),
        rw (← came) (rw (← (rest_all stored))
            (curves_same (record { units = refl; delay = refl }) refl refl curves.above curves.below)),
      )

  pub fed : {bytes : List ℕ} {j : ℕ} → IsWrittenBy (rounds_doings course.rounds) (played.play.start + j) bytes
      → IsFed wish stored.film (stream_of played) bytes j
  unfolding stream_of
  fed {bytes} {j} written =
      let whole = whole_rounds course.rounds written.front written.rest written.parts written.whole in
      let first = whole.first in
      let later = whole.later in
      let slot : greatest_slot first ≡ played.play.start + j =
      cc (rounds_latest first, whole.front_is, written.slot_is) in
      let events = each_front HasEvent first later
      (rw (← whole.parts) (events_are (begin_of course) course.last course.rounds course.follows)) in
      let are : rounds_bytes first ≡ bytes = grind (arith, rounds_sent_are first events) in
      let sent = sent_between first later j whole.parts slot in
      let one = rounds_parts first in
      let two = rounds_parts later in
      let film = length (rounds_film first) in
      let size : length (film_bytes one) ≡ film = ap (λ (l : List ℕ). length l) sent.0 in
      let much : length bytes ≡ film + texts_length (placed_texts 0 one) =
      rw (← are, rounds_sent first, parts_length 0 one, size) in
      let texts : placed_texts 0 one ++ placed_texts (0 + length (film_bytes one)) two
      ≡ placed_text 0 played.setup ∷ placed_text 0 played.played ∷ played.later =
      cc (texts_parts 0 one two, parts-more first later, whole.parts, played.texts) in
      let same : 0 + length (film_bytes one) ≡ film = omega (arith, size) in
      let within : IsFromTo 0 film (placed_texts 0 one) = rw (← same) (texts_within 0 one) in
      let counted = counted_by (placed_texts 0 one) (played.setup_is.starts.0, played.played_is.starts.0) texts within
      (λ placed rest is.
      let its = rw is at (texts_within (0 + length (film_bytes one)) two) in omega (arith, its.0, same))
      (played.after, sent.1) in
      let here = rw (← much) at counted in
      record { between = λ long. rw (here long) sent.2 }

-- ---- all that was sent is a prefix of the stream

sent_woven : {wish : Wish} {stored : Stored} {course : Course} (played : HasPlayedWhole wish stored course)
    → IsWoven (sent_bytes (rounds_doings course.rounds)) (framed_bytes (all_of (stream_of played))) played.later
unfolding stream_of
sent_woven {wish} {stored} {course} played =
    let begin = begin_of course in
    let play = played.play in
    let x = stream_of played in
    let g = greatest_slot course.rounds in
    let parts = rounds_parts course.rounds in
    let film = film_written g (plays_of (askings_of begin course.rounds course.last course.follows)) in
    let is : film ≡ take (due_of g play) (framed_bytes x.blocks) =
    rw played.plays (due_written g played.whole) in
    let size : length (film_bytes parts) ≡ length film =
    ap (λ (l : List ℕ). length l) (film_sent begin course.last course.rounds course.follows ∙ film_written_is course) in
    let all_within = rw played.texts at (texts_within 0 parts) in
    let whole : 0 + length (film_bytes parts) ≡ length film = omega (arith, size) in
    let within : IsFromTo 0 (length film) played.later = rw (← whole) all_within.1.1.1.1 in
    let woven = film_woven (record { count = due_of g play; is = is }) played.later played.after within in
    let events = events_are begin course.last course.rounds course.follows in
    let bytes : sent_bytes (rounds_doings course.rounds)
    ≡ insert_texts 0 film (placed_text 0 played.setup ∷ placed_text 0 played.played ∷ played.later) =
    rounds_sent_are course.rounds events ∙ (bytes_woven course ∙ ap (insert_texts 0 film) played.texts) in
    rw (bytes, framed_append x.blocks x.later) (record {
      front = front_after played.setup (front_after played.played woven.front);
      whole = λ some. ap (λ l. played.setup ++ (played.played ++ l)) (woven.whole some);
    })

pub all_sent : {wish : Wish} {stored : Stored} {course : Course} (played : HasPlayedWhole wish stored course)
    → IsFrontOf (sent_bytes (rounds_doings course.rounds)) (framed_bytes (all_of (stream_of played)))
all_sent played = (sent_woven played).front

-- a third reply was sent
pub record HasThird (later : List PlacedText) : Type 0 where
  pub last : PlacedText
  pub others : List PlacedText
  pub are : later ≡ last ∷ others

pub third_of : (later : List PlacedText) → length later + 2 ≡ 3 → HasThird later
third_of [] three = absurd (omega (arith, three))
third_of (last ∷ others) three = record { last = last; others = others; are = refl }

-- where a reply after the film was sent, all of the stream was sent
pub all_sent_whole : {wish : Wish} {stored : Stored} {course : Course} (played : HasPlayedWhole wish stored course)
    → HasThird played.later → sent_bytes (rounds_doings course.rounds) ≡ framed_bytes (all_of (stream_of played))
all_sent_whole played third =
    (sent_woven played).whole (omega (arith, ap (λ (l : List PlacedText). length l) third.are))

-- a prefix of a prefix
pub front_again : (bytes mid all : List ℕ) (n : ℕ) → bytes ≡ take n mid → IsFrontOf mid all → IsFrontOf bytes all
front_again bytes mid all n is front = grind (arith, common_steps)
