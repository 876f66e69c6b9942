-- A watching from its first request to its answer, event by event.
use Rattle.std.specs.Prelude.{◌≡◌, ℕ, ◌^◌, ◌<◌, ◌≤◌, ◌⊎◌, List, [], ◌∷◌, ◌++◌, length}
use Rattle.std.specs.Prelude.{take, Option, Ok, Err}
use Rattle.vod_base.specs.Links.{IoEvent, HeardBytes, HeardEnd, HeardSlot, Sent, sends, told_more}
use Rattle.interleave.specs.Elements.{IsFirst}
use Rattle.interleave.specs.Streams.{AreInputElements, IsElementLength}
use Rattle.interleave.specs.declared.elements.Step.TheVariants.{More}
use Rattle.interleave.specs.declared.elements.DemuxFault.{DemuxFault}
use Rattle.rtsp_client.specs.declared.watch_request.Wish.{Wish}
use Rattle.rtsp_client.specs.declared.watch_request.WatchEnd.{WatchEnd}
use Rattle.rtsp_client.specs.declared.watch_request.WatchEnd.TheVariants.{Done, Fault, LinkFault}
use Rattle.rtsp_client.specs.declared.watch_request.WatchEnd.TheVariants.{SinkFault, NoMemory}
use Rattle.rtsp_client.specs.declared.watch_request.WatchFault.TheVariants.{EndedEarly, Framing}
use Rattle.rtsp_client.specs.declared.watch_request.WatchFault.TheVariants.{TurnsSpent}
use Rattle.rtsp_client.specs.ClientHistory.{History, ClientEvent, Slot, sizes}
use Rattle.rtsp_client.specs.Requests.{setup_text}
use Rattle.rtsp_client.specs.Answers.{Gives, GoOn, GoesOn, cut_bytes, history_after}
use Rattle.rtsp_client.specs.Answers.{events_of_elements, element_events, payload_of, payloads_of}
use Rattle.rtsp_client.specs.Answers.{request_after, requests_after}

-- where a watching stands: what was received, and the bytes that wait
pub record WatchStage : Type 0 where
  pub history : History
  pub rest : List ℕ

abbrev pub stage : History → List ℕ → WatchStage
stage history rest = record { history = history; rest = rest }

-- an event brings these moments: those of the elements that are complete then, or a slot's; and
-- leaves these bytes waiting
abbrev pub Brings : IoEvent → List ℕ → List ClientEvent → List ℕ → Type 0
Brings (HeardBytes bytes) old moments new =
    (elements : List (List ℕ))
    × (AreInputElements (old ++ bytes) elements new × (moments ≡ events_of_elements elements))
Brings (HeardSlot slot) old moments new = (moments ≡ Slot slot (cut_bytes old) ∷ []) × (new ≡ old)
Brings HeardEnd old moments new = ⊥
Brings (Sent byte) old moments new = ⊥

-- an event, and the moments that it brought
pub record Round : Type 0 where
  pub event : IoEvent
  pub moments : List ClientEvent

-- an event was processed, and the watching goes on
pub record Runs (old : WatchStage) (round : Round) (new : WatchStage) : Type 0 where
  pub brings : Brings round.event old.rest round.moments new.rest
  pub good : GoOn old.history round.moments
  pub history_is : new.history ≡ history_after old.history round.moments

-- events, one after another; before the next one is asked for, all that was complete was processed
abbrev pub RunsAll : WatchStage → List Round → WatchStage → Type 0
RunsAll old [] new = new ≡ old
RunsAll old (round ∷ rounds) new = (mid : WatchStage)
    × (Runs old round mid × IsFirst mid.rest (Ok More) × RunsAll mid rounds new)

-- what the link exposes of them: each event, and directly after it the requests that it allowed
abbrev pub rounds_doings : Wish → History → List Round → List IoEvent
rounds_doings wish h [] = []
rounds_doings wish h (round ∷ rounds) =
    (round.event ∷ sends (requests_after wish h round.moments))
    ++ rounds_doings wish (history_after h round.moments) rounds

-- the moments of events, in order
abbrev pub events_of_rounds : List Round → List ClientEvent
events_of_rounds [] = []
events_of_rounds (round ∷ rounds) = round.moments ++ events_of_rounds rounds

-- a prefix of these bytes
abbrev pub IsPrefixOf : List ℕ → List ℕ → Type 0
IsPrefixOf front bytes = (n : ℕ) × ((n ≤ length bytes) × (front ≡ take n bytes))

-- I/O failed as a moment was processed: its payload was handed on and a prefix of its request was
-- sent; or a prefix of its payload was handed on; or there was no memory
abbrev pub Fails : Wish → History → ClientEvent → WatchEnd → List ℕ → List ℕ → Type 0
Fails wish h moment LinkFault sent out = IsPrefixOf sent (request_after wish h moment)
    × (out ≡ payload_of moment)
Fails wish h moment SinkFault sent out = (sent ≡ []) × IsPrefixOf out (payload_of moment)
Fails wish h moment NoMemory sent out = (sent ≡ []) × IsPrefixOf out (payload_of moment)
Fails wish h moment (Done watched) sent out = ⊥
Fails wish h moment (Fault fault) sent out = ⊥

-- the first element is complete and has this moment
abbrev pub IsNext : List ℕ → ClientEvent → Type 0
IsNext rest moment = (n : ℕ) × (IsElementLength rest n × (element_events (take n rest) ≡ moment ∷
    []))

-- nothing more is processed: the bytes begin no element; or the next moment gives the answer; or
-- I/O failed as it was processed
abbrev pub Stops : Wish → WatchStage → WatchEnd → List ℕ → List ℕ → Type 0
Stops wish mid end sent out =
    ((end ≡ Fault Framing) × ((fault : DemuxFault) × IsFirst mid.rest (Err fault)) × (sent ≡ [])
    × (out ≡ []))
    ⊎ ((moment : ClientEvent) × (IsNext mid.rest moment
    × ((Gives wish mid.history moment end × (sent ≡ []) × (out ≡ []))
    ⊎ (GoesOn mid.history moment × Fails wish mid.history moment end sent out))))

-- elements of the bytes that wait were processed, and then nothing more
pub record StopsAt (wish : Wish) (old : WatchStage) (end : WatchEnd)
    (sent out : List ℕ) : Type 0 where
  pub elements : List (List ℕ)
  pub mid : List ℕ
  pub cut : AreInputElements old.rest elements mid
  pub good : GoOn old.history (events_of_elements elements)
  pub more_sent : List ℕ
  pub more_out : List ℕ
  pub stops : Stops wish (stage (history_after old.history (events_of_elements elements)) mid) end
      more_sent
      more_out
  pub sent_is : sent ≡ requests_after wish old.history (events_of_elements elements) ++ more_sent
  pub out_is : out ≡ payloads_of (events_of_elements elements) ++ more_out

-- the answer after so many events, what the link exposes last, and what was handed on last: no
-- further event was received, since the link failed or all were received; or the server ended; or
-- bytes came
abbrev pub Ends : Wish → WatchStage → ℕ → WatchEnd → List IoEvent → List ℕ → Type 0
Ends wish old count end doings out =
    ((((end ≡ LinkFault) × (count < 2 ^ 40)) ⊎ ((end ≡ Fault TurnsSpent) × (count ≡ 2 ^ 40)))
    × (doings ≡ []) × (out ≡ []))
    ⊎ (((end ≡ Fault (EndedEarly (length (sizes old.history)))) × (count < 2 ^ 40)
    × (doings ≡ HeardEnd ∷ []) × (out ≡ []))
    ⊎ ((bytes : List ℕ)
    × ((sent : List ℕ)
    × (StopsAt wish (stage old.history (old.rest ++ bytes)) end sent out
    × (doings ≡ HeardBytes bytes ∷ sends sent) × (count < 2 ^ 40)))))

-- the entire course, from SETUP on
pub record HasCourse (wish : Wish) (end : WatchEnd) (old_told new_told : Option (List IoEvent))
    (old_out new_out : Option (List ℕ)) : Type 0 where
  pub rounds : List Round
  pub mid : WatchStage
  pub runs : RunsAll (stage [] []) rounds mid
  pub last_doings : List IoEvent
  pub last_out : List ℕ
  pub ends : Ends wish mid (length rounds) end last_doings last_out
  pub told : new_told ≡
      told_more old_told (sends (setup_text wish) ++ (rounds_doings wish [] rounds ++ last_doings))
  pub out : new_out ≡ told_more old_out (payloads_of (events_of_rounds rounds) ++ last_out)

-- or it didn't begin: there was no memory, or a prefix of SETUP was sent
pub record HasNotBegun (wish : Wish) (end : WatchEnd) (old_told new_told : Option (List IoEvent))
    (old_out new_out : Option (List ℕ)) : Type 0 where
  pub front : List ℕ
  pub cause : ((end ≡ NoMemory) × (front ≡ []))
      ⊎ ((end ≡ LinkFault) × IsPrefixOf front (setup_text wish))
  pub told : new_told ≡ told_more old_told (sends front)
  pub out : new_out ≡ old_out

abbrev pub HasWatched : Wish → WatchEnd → Option (List IoEvent) → Option (List IoEvent) →
    Option (List ℕ) → Option (List ℕ) → Type 0
HasWatched wish end old_told new_told old_out new_out =
    HasCourse wish end old_told new_told old_out new_out
    ⊎ HasNotBegun wish end old_told new_told old_out new_out
