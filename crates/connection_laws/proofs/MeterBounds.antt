-- At each reading of the meter what came lies between the film's curves.
use Rattle.std.proofs.lemmas.Grind.{common_steps}
use Rattle.std.proofs.Common.{◌≡◌, ℕ, ◌+◌, ◌-◌, ◌<◌, ◌≤◌, min, List, [], ◌∷◌, ◌++◌, length, take, Ok, refl, ap, ◌∙◌}
use Rattle.std.proofs.Common.{append_assoc, arith}
use Rattle.std.proofs.lemmas.Bool.{cases_lt, leb-true, ltb-true, and_parts}
use Rattle.std.proofs.lemmas.List.{append-nil, take-take}
use Rattle.connection_laws.proofs.Terms.{IoEvent, HeardBytes, HeardSlot, IsFirst, More, Film, picture_time}
use Rattle.connection_laws.proofs.Terms.{framed_bytes, Wish, history_after, cut_bytes, events_of_elements}
use Rattle.connection_laws.proofs.Terms.{element_events, RunsAll, WatchStage, events_of_rounds, units_until, first_slot}
use Rattle.connection_laws.proofs.Terms.{History, ClientEvent, Frame, Reply, Report, Slot, replies, IsBetween}
use Rattle.connection_laws.proofs.Terms.{IsBetweenAlways, bytes_in}
use Rattle.rtsp_client.specs.WatchCourses.{Round}
use Rattle.rtsp_client.proofs.ElementSteps.{after-on}
use Rattle.rtsp_client.proofs.EventCourses.{history-later}
use Rattle.connection_laws.proofs.FilmReading.{film_sizes, heard_of, WholeStream}
use Rattle.connection_laws.proofs.ClientInput.{Heard, heard_round, replies_later, rounds_heard, slot_stays}
use Rattle.connection_laws.proofs.MeterInput.{Stream, all_of, begun_sum, film_place, reading_of}

-- ---- elements bring no slot

element_case : (P : List ClientEvent → Type 0) (p : List ℕ) → P [] → P (Frame p ∷ []) → P (Report p ∷ [])
    → P (Reply p ∷ []) → P (element_events p)
element_case P p none frame report reply = grind arith

pub always_elements : (wish : Wish) (all : List ℕ) (time : ℕ) (h : History) (ps : List (List ℕ))
    → IsBetweenAlways wish all time h → IsBetweenAlways wish all time (history_after h (events_of_elements ps))
always_elements wish all time h [] met = met
always_elements wish all time h (p ∷ ps) met =
    rw (after-on h (element_events p) (events_of_elements ps))
    (always_elements wish all time (history_after h (element_events p)) ps
    (element_case (λ events. IsBetweenAlways wish all time (history_after h events)) p met met met met))

-- ---- the film that came

pub front_of : (xs ys w : List ℕ) (c : ℕ) → xs ++ ys ≡ take c w → xs ≡ take (length xs) w
front_of xs ys w c is =
    let mine : take (length xs) (xs ++ ys) ≡ xs = grind (arith, common_steps) in
    grind (arith, common_steps, cases_lt c (length xs), mine, take-take (length xs) c w)

-- the film that had come with these bytes lies between the curves of a slot
pub record IsFed (wish : Wish) (film : Film) (x : Stream) (bytes : List ℕ) (place : ℕ) : Type 0 where
  pub between : length x.first + length x.second ≤ length bytes → IsBetween wish (film_sizes film)
      (picture_time film.rate) place (min (film_place x (length bytes)) (length (framed_bytes x.blocks)))

-- so it is at each slot of a play that begins in one of the client's
abbrev pub AreFed : Wish → Film → Stream → ℕ → List ℕ → List Round → Type 0
AreFed wish film x begin bytes rounds =
    (before later : List Round) (round : Round) (slot : ℕ) → rounds ≡ before ++ round ∷ later
    → round.event ≡ HeardSlot slot → begin ≤ slot
    → IsFed wish film x (bytes ++ rounds_heard before) (slot - begin)

-- ---- a slot

-- a stream's film for a wish, as many units by its time as it has, and the first slot of its play
pub record WatchedStream : Type 0 where
  pub wish : Wish
  pub stream : WholeStream
  pub begin : ℕ
  pub count : units_until (begun_sum stream.x).end_ms (picture_time stream.film.rate) ≡ length (film_sizes stream.film)

-- what came lies between the film's curves at each reading
abbrev pub IsMet : WatchedStream → History → Type 0
IsMet s h = IsBetweenAlways s.wish (film_sizes s.stream.film) (picture_time s.stream.film.rate) h

-- what was received by a stage at which nothing more can be processed, and what rounds bring after it, is a prefix
-- of a stream
pub record HeardThrough (x : Stream) (bytes : List ℕ) (rounds : List Round) (old : WatchStage) : Type 0 where
  pub heard : Heard bytes old
  pub idle : IsFirst old.rest (Ok More)
  pub count : ℕ
  pub front : bytes ++ rounds_heard rounds ≡ take count (framed_bytes (all_of x))

-- at most two replies came, and the first slot after them is known
pub record RepliesKnown (new : WatchStage) (begin : ℕ) : Type 0 where
  pub few : replies new.history ≤ 2
  pub begins : first_slot new.history ≡ begin

slot_met : {bytes : List ℕ} {old new : WatchStage} (rounds : List Round) (s : WatchedStream) (slot : ℕ)
    → HeardThrough s.stream.x bytes rounds old → RunsAll old rounds new → RepliesKnown new s.begin
    → (s.begin ≤ slot → IsFed s.wish s.stream.film s.stream.x bytes (slot - s.begin))
    → IsMet s old.history → IsMet s (Slot slot (cut_bytes old.rest) ∷ old.history)
slot_met {bytes} {old} {new} rounds s slot through all known fed met = (
  met,
  λ read.
      let h = old.history in
      let events = events_of_rounds rounds in
      let later = history-later old new rounds all in
      let few : replies h ≤ 2 = omega (arith, replies_later h events, ap replies later, known.few) in
      let playing : 1 < replies h = grind (arith, ltb-true, and_parts) in
      let there : first_slot h ≤ slot = grind (arith, leb-true, and_parts) in
      let first : first_slot h ≡ begin = cc (slot_stays h events playing, later, known.begins) in
      let mine : bytes ≡ take (length bytes) (framed_bytes (all_of stream.x)) = search front_of in
      let reading = reading_of (length bytes) through.heard through.idle mine playing few in
      let its = heard_of stream through.heard.gone reading count in
      (its.0, rw (its.1, first) ((fed (omega (arith, there, first))).between reading.past)),
)
  where
    open s use {stream, begin, count}

-- ---- all events

always_round : {bytes : List ℕ} {old new : WatchStage} {round : Round} {rounds : List Round} (s : WatchedStream)
    (event : IoEvent) → round.event ≡ event → HeardThrough s.stream.x bytes (round ∷ rounds) old
    → (all : RunsAll old (round ∷ rounds) new) → RepliesKnown new s.begin
    → AreFed s.wish s.stream.film s.stream.x s.begin bytes (round ∷ rounds) → IsMet s old.history
    → IsMet s all.0.history
always_round {old = old} s (HeardBytes more) is through all known fed met =
    let brings = rw is at all.1.0.brings in
    rw (all.1.0.history_is, brings.1.1) (always_elements s.wish (film_sizes s.stream.film)
    (picture_time s.stream.film.rate) old.history brings.0 met)
always_round {bytes} {round = round} {rounds = rounds} s (HeardSlot slot) is through all known fed met =
    let brings = rw is at all.1.0.brings in
    rw (all.1.0.history_is, brings.0) (slot_met (round ∷ rounds) s slot through all known
    (λ later. rw (append-nil bytes) at (fed [] rounds round slot refl is later)) met)
always_round s _ is through all known fed met = absurd (rw is at all.1.0.brings)

pub always_all : {bytes : List ℕ} {old : WatchStage} {rounds : List Round} {new : WatchStage} (s : WatchedStream)
    → HeardThrough s.stream.x bytes rounds old → RunsAll old rounds new → RepliesKnown new s.begin
    → AreFed s.wish s.stream.film s.stream.x s.begin bytes rounds → IsMet s old.history → IsMet s new.history
always_all {rounds = []} s through all known fed met = rw all met
always_all {bytes} {old} {rounds = round ∷ rounds} {new} s through all known fed met =
    let mid = all.0 in
    let fed_next : AreFed wish film x begin (bytes ++ bytes_in round.event) rounds =
    λ before after_ r slot split event after_begin.
    rw (append_assoc bytes (bytes_in round.event) (rounds_heard before))
    (fed (round ∷ before) after_ r slot (ap (λ l. round ∷ l) split) event after_begin) in
    always_all {bytes = bytes ++ bytes_in round.event} {old = mid} {rounds = rounds} s (record {
      heard = heard_round bytes old mid round heard all.1.0;
      idle = all.1.1;
      count = c;
      front = append_assoc bytes (bytes_in round.event) (rounds_heard rounds) ∙ front;
    }) all.1.2 known fed_next (always_round s round.event refl through all known fed met)
  where
    open through use {heard, count as c, front}
    open s use {wish, stream, begin}
    open stream use {film, x}
