-- What a client has received, event by event: the first elements of the bytes that came.
use Rattle.std.proofs.lemmas.Grind.{common_steps}
use Rattle.std.proofs.Common.{◌≡◌, ℕ, ◌+◌, ◌<◌, ◌≤◌, true, List, [], ◌∷◌, ◌++◌, take, refl, sym, ap, ◌∙◌, append_assoc}
use Rattle.std.proofs.Common.{arith, inl, inr}
use Rattle.std.proofs.lemmas.List.{append-nil}
use Rattle.connection_laws.proofs.Terms.{IoEvent, AreInputElements, IsElementLength, Wish, Watched, GoOn, Gives}
use Rattle.connection_laws.proofs.Terms.{history_after, events_of_elements, element_events, payloads_of, Brings, IsNext}
use Rattle.connection_laws.proofs.Terms.{RunsAll, WatchStage, is_complete, frames_heard, frames_of, first_slot}
use Rattle.connection_laws.proofs.Terms.{watched_in, History, ClientEvent, Frame, Reply, Report, Slot, replies}
use Rattle.connection_laws.proofs.Terms.{bytes_in, GoesOn}
use Rattle.interleave.proofs.StreamElements.{cuts_join}
use Rattle.rtsp_client.specs.declared.watch_request.WatchEnd.TheVariants.{Done}
use Rattle.rtsp_client.specs.WatchCourses.{Round, Runs, stage}
use Rattle.connection_laws.proofs.HistorySums.{Sum, replies_grow, steps, steps_on, sum_after, sum_of}
use Rattle.connection_laws.proofs.Lists.{joins_parts}

-- the moments of elements, and the frames among moments, in two parts
pub moments_parts : (xs ys : List (List ℕ)) → events_of_elements (xs ++ ys) ≡ events_of_elements xs ++
    events_of_elements ys
moments_parts = joins_parts events_of_elements (record { one = element_events; none = refl; more = λ x xs. refl })

pub frames_parts : (a b : List ClientEvent) → frames_of (a ++ b) ≡ frames_of a ++ frames_of b
frames_parts =
    joins_parts frames_of (record { one = λ e. frames_of (e ∷ []); none = refl; more = λ e es. grind arith })

-- the bytes that were received
abbrev pub rounds_heard : List Round → List ℕ
rounds_heard [] = []
rounds_heard (round ∷ rounds) = bytes_in round.event ++ rounds_heard rounds

-- at each of its moments a watching went on
abbrev pub HasGoneOn : History → Type 0
HasGoneOn [] = Unit {0}
HasGoneOn (m ∷ h) = GoesOn h m × HasGoneOn h

pub gone_on : (h : History) (ms : List ClientEvent) → HasGoneOn h → GoOn h ms → HasGoneOn (history_after h ms)
gone_on h [] gone good = gone
gone_on h (m ∷ ms) gone good = gone_on (m ∷ h) ms (good.0, gone) good.1

abbrev pub no_sum : Sum
no_sum = sum_of []

-- where a client stands that received these bytes
pub record Heard (bytes : List ℕ) (at : WatchStage) : Type 0 where
  pub elements : List (List ℕ)
  pub cut : AreInputElements bytes elements at.rest
  pub sum : sum_of at.history ≡ steps no_sum (events_of_elements elements)
  pub frames : frames_heard at.history ≡ frames_of (events_of_elements elements)
  pub gone : HasGoneOn at.history

pub heard_none : Heard [] (stage [] [])
heard_none = record { elements = []; cut = refl; sum = refl; frames = refl; gone = tt }

-- the frames of a history are followed by those of later moments
frames_later : (h : History) (ms : List ClientEvent)
    → frames_heard (history_after h ms) ≡ frames_heard h ++ frames_of ms
frames_later h [] = sym (append-nil (frames_heard h))
frames_later h (Frame b ∷ ms) = frames_later (Frame b ∷ h) ms ∙ append_assoc (frames_heard h) (b ∷ []) (frames_of ms)
frames_later h (other ∷ ms) = frames_later (other ∷ h) ms

-- with further elements
pub heard_more : {bytes : List ℕ} {old : WatchStage} {rest : List ℕ} (more : List ℕ) (elements : List (List ℕ))
    (heard : Heard bytes old) → AreInputElements (old.rest ++ more) elements rest
    → GoOn old.history (events_of_elements elements)
    → Heard (bytes ++ more) (stage (history_after old.history (events_of_elements elements)) rest)
heard_more {bytes} {old} {rest} more elements heard cut good = search (
  arith,
  sum_after old.history (events_of_elements elements),
  moments_parts heard.elements elements,
  steps_on no_sum (events_of_elements heard.elements) (events_of_elements elements),
  frames_later old.history (events_of_elements elements),
  frames_parts (events_of_elements heard.elements) (events_of_elements elements),
  gone_on old.history (events_of_elements elements) heard.gone good,
  cuts_join,
)

heard_event : {bytes : List ℕ} {old new : WatchStage} (event : IoEvent) (moments : List ClientEvent) → Heard bytes old
    → Brings event old.rest moments new.rest
    → GoOn old.history moments → new.history ≡ history_after old.history moments → Heard (bytes ++ bytes_in event) new
heard_event event moments given given' given'' given''' = search (arith, heard_more, append-nil)

pub heard_round : (bytes : List ℕ) (old new : WatchStage) (round : Round) → Heard bytes old → Runs old round new
    → Heard (bytes ++ bytes_in round.event) new
heard_round bytes old new round heard runs = search heard_event

pub heard_all : (bytes : List ℕ) (old new : WatchStage) (rounds : List Round) → Heard bytes old
    → RunsAll old rounds new → Heard (bytes ++ rounds_heard rounds) new
heard_all bytes old new [] heard all = grind (arith, common_steps)
heard_all bytes old new (round ∷ rounds) heard all =
    rw (← (append_assoc bytes (bytes_in round.event) (rounds_heard rounds)))
    (heard_all (bytes ++ bytes_in round.event) all.0 new rounds
    (heard_round bytes old all.0 round heard all.1.0) all.1.2)

-- ---- what later moments leave

pub replies_later : (h : History) (ms : List ClientEvent) → replies h ≤ replies (history_after h ms)
replies_later h ms = omega (arith, replies_grow (sum_of h) ms, ap (λ (s : Sum). s.replies) (sum_after h ms))

-- the play's first slot stays, once its reply was received
pub slot_stays : (h : History) (ms : List ClientEvent) → 1 < replies h → first_slot (history_after h ms) ≡ first_slot h
slot_stays h [] playing = refl
slot_stays h (m ∷ ms) playing =
    let one : (first_slot (m ∷ h) ≡ first_slot h) × (1 < replies (m ∷ h)) = grind arith in
    slot_stays (m ∷ h) ms one.1 ∙ one.0

-- ---- how a watching is done

-- the next element is the last reply
pub record IsDrained (wish : Wish) (watched : Watched) (bytes out : List ℕ) : Type 0 where
  pub at : WatchStage
  pub heard : Heard bytes at
  pub message : List ℕ
  pub length_ : ℕ
  pub whole : IsElementLength at.rest length_
  pub moment : element_events (take length_ at.rest) ≡ Reply message ∷ []
  pub replies_are : replies at.history ≡ 2
  pub complete : is_complete at.history ≡ true
  pub watched_is : watched ≡ watched_in wish at.history
  pub moments : List ClientEvent
  pub out_is : out ≡ payloads_of moments
  pub history_is : at.history ≡ history_after [] moments

-- the done stage, with its moments
pub at_done : {wish : Wish} {watched : Watched} {bytes out : List ℕ} {at : WatchStage} {moment : ClientEvent}
    (moments : List ClientEvent) → Heard bytes at → IsNext at.rest moment → Gives wish at.history moment (Done watched)
    → at.history ≡ history_after [] moments → out ≡ payloads_of moments
    → ((done : IsDrained wish watched bytes out) × (done.at ≡ at))
at_done {out} {at} {moment = Reply message} moments heard next (inl bad) history is = cc
at_done {out} {at} {moment = Reply message} moments heard next (inr (inl refused)) history is = cc
at_done {wish} {watched} {out} {at} {moment = Reply message} moments heard next (inr (inr good)) history is = (
  record {
    at = at;
    heard = heard;
    message = message;
    length_ = next.0;
    whole = next.1.0;
    moment = next.1.1;
    replies_are = good.1;
    complete = rw good.1 at good.0.0.awaited;
    watched_is = cc good.2;
    moments = moments;
    out_is = is;
    history_is = history;
  },
  refl,
)
at_done {out} {at} {moment = Frame block} moments heard next gives history is = cc
at_done {out} {at} {moment = Report block} moments heard next gives history is = absurd gives
at_done {out} {at} {moment = Slot slot cut} moments heard next gives history is = absurd gives
