-- What a client has done as moments, elements and events were processed, by what its link and its
-- output expose.
use Rattle.std.specs.Prelude.{◌≡◌, ℕ, ◌<◌, ◌⊎◌, ◌∷◌, [], List, length, Option}
use Rattle.std.specs.Prelude.{Ok, Result, OnOk, IfErr, take}
use Rattle.vod_base.specs.Links.{IoEvent, IsSentPrefix, sends, told_more}
use Rattle.interleave.specs.Elements.{IsFirst}
use Rattle.interleave.specs.Streams.{AreInputElements}
use Rattle.interleave.specs.declared.elements.Step.TheVariants.{More}
use Rattle.rtsp_client.specs.declared.clients.Client.{Client}
use Rattle.rtsp_client.specs.declared.watch_request.Wish.{Wish}
use Rattle.rtsp_client.specs.declared.watch_request.WatchEnd.{WatchEnd}
use Rattle.rtsp_client.specs.declared.watch_request.WatchEnd.TheVariants.{LinkFault, NoMemory}
use Rattle.rtsp_client.specs.Requests.{setup_text}
use Rattle.rtsp_client.specs.ClientHistory.{Frame, History, ClientEvent, Reply}
use Rattle.rtsp_client.specs.Answers.{Gives, GoOn, GoesOn, block_events, history_after}
use Rattle.rtsp_client.specs.Answers.{events_of_elements, payloads_of, requests_after}
use Rattle.rtsp_client.specs.WatchCourses.{Ends, Fails, Round, Runs, StopsAt, events_of_rounds}
use Rattle.rtsp_client.specs.WatchCourses.{rounds_doings, stage, RunsAll}
use Rattle.rtsp_client.specs.HistoryInvariant.{HistoryInvariant}

-- what the link and the output expose
pub record Observed : Type 0 where
  pub told : Option (List IoEvent)
  pub out : Option (List ℕ)

abbrev pub observed : Option (List IoEvent) → Option (List ℕ) → Observed
observed told out = record { told = told; out = out }

-- these bytes were sent, and these handed on
abbrev pub observed_more : Observed → List ℕ → List ℕ → Observed
observed_more old sent out = record {
  told = told_more old.told (sends sent);
  out = told_more old.out out;
}

-- moments were processed, and the watching goes on
pub record HasTakenEvents (wish : Wish) (h : History) (moments : List ClientEvent) (new : Client)
    (old_sight new_sight : Observed) : Type 0 where
  pub good : GoOn h moments
  pub keeps : HistoryInvariant wish (history_after h moments) new
  pub sight_is : new_sight ≡
      observed_more old_sight (requests_after wish h moments) (payloads_of moments)

-- a moment gave the answer, or I/O failed as it was processed
pub record HasEndedAt (wish : Wish) (h : History) (moment : ClientEvent) (end : WatchEnd)
    (old_sight new_sight : Observed) : Type 0 where
  pub sent : List ℕ
  pub out : List ℕ
  pub comes : (Gives wish h moment end × (sent ≡ []) × (out ≡ []))
      ⊎ (GoesOn h moment × Fails wish h moment end sent out)
  pub sight_is : new_sight ≡ observed_more old_sight sent out

-- the first elements of the input were processed
pub record HasTaken (wish : Wish) (h : History) (rest : List ℕ) (new : Client)
    (old_sight new_sight : Observed) : Type 0 where
  pub elements : List (List ℕ)
  pub cut : AreInputElements rest elements new.input
  pub passed : HasTakenEvents wish h (events_of_elements elements) new old_sight new_sight

-- the first elements of the input were processed, and then nothing more
pub record HasStopped (wish : Wish) (h : History) (rest : List ℕ) (end : WatchEnd)
    (old_sight new_sight : Observed) : Type 0 where
  pub sent : List ℕ
  pub out : List ℕ
  pub stops : StopsAt wish (stage h rest) end sent out
  pub sight_is : new_sight ≡ observed_more old_sight sent out

-- a client, with what its link and its output expose
pub record ClientView : Type 0 where
  pub client : Client
  pub observed : Observed

abbrev pub stand : Client → Option (List IoEvent) → Option (List ℕ) → ClientView
stand client told out = record { client = client; observed = observed told out }

-- what a call answers that processes moments: whatever was received before, they were processed
-- where it went well; and where it didn't, the moment gave the answer, or I/O failed
abbrev pub PassesMoments : {A : Type 0} → Wish → List ClientEvent → Result A WatchEnd → ClientView →
    ClientView →
    Type 0
PassesMoments wish moments result old new = (h : History) → HistoryInvariant wish h old.client →
    OnOk result (HasTakenEvents wish h moments new.client old.observed new.observed)

abbrev pub EndsAtMoment : {A : Type 0} → Wish → ClientEvent → Result A WatchEnd → ClientView →
    ClientView → Type 0
EndsAtMoment wish moment result old new = (h : History) → HistoryInvariant wish h old.client →
    IfErr result (λ end. HasEndedAt wish h moment end old.observed new.observed)

-- the same of the block of this channel and length at the start of the input: a frame alone can end
-- the watching
abbrev pub PassesBlock : {A : Type 0} → Wish → ℕ → ℕ → Result A WatchEnd → ClientView → ClientView →
    Type 0
PassesBlock wish channel length result old new =
    PassesMoments wish (block_events channel (take length old.client.input)) result old new

abbrev pub EndsAtBlock : {A : Type 0} → Wish → ℕ → ℕ → Result A WatchEnd → ClientView → ClientView →
    Type 0
EndsAtBlock wish channel length result old new = (h : History) → HistoryInvariant wish h old.client
    →
    IfErr result (λ end. (channel ≡ 0)
    × HasEndedAt wish h (Frame (take length old.client.input)) end old.observed new.observed)

-- the same of the reply of this length at the start of the input; nothing is handed on, whatever
-- the output exposes
abbrev pub PassesReply : {A : Type 0} → Wish → ℕ → Result A WatchEnd →
    (Option (List ℕ) → ClientView) → (Option (List ℕ) → ClientView) → Type 0
PassesReply wish length result old new = (out : Option (List ℕ)) →
    PassesMoments wish (Reply (take length (old out).client.input) ∷ []) result (old out) (new out)

abbrev pub EndsAtReply : {A : Type 0} → Wish → ℕ → Result A WatchEnd →
    (Option (List ℕ) → ClientView) → (Option (List ℕ) → ClientView) → Type 0
EndsAtReply wish length result old new = (out : Option (List ℕ)) →
    EndsAtMoment wish (Reply (take length (old out).client.input)) result (old out) (new out)

-- the same of the first elements of the input
abbrev pub TakesElements : {A : Type 0} → Wish → Result A WatchEnd → ClientView → ClientView → Type
    0
TakesElements wish result old new = (h : History) → HistoryInvariant wish h old.client →
    OnOk result (HasTaken wish h old.client.input new.client old.observed new.observed)

abbrev pub StopsAtElements : {A : Type 0} → Wish → Result A WatchEnd → ClientView → ClientView →
    Type 0
StopsAtElements wish result old new = (h : History) → HistoryInvariant wish h old.client →
    IfErr result (λ end. HasStopped wish h old.client.input end old.observed new.observed)

-- an event was processed that the link had exposed before
pub record HasRound (wish : Wish) (h : History) (rest : List ℕ) (event : IoEvent) (new : Client)
    (old_sight new_sight : Observed) : Type 0 where
  pub moments : List ClientEvent
  pub runs : Runs (stage h rest) (record {
    event = event;
    moments = moments;
  }) (stage (history_after h moments) new.input)
  pub keeps : HistoryInvariant wish (history_after h moments) new
  pub idle : IsFirst new.input (Ok More)
  pub sight_is : new_sight ≡
      observed_more old_sight (requests_after wish h moments) (payloads_of moments)

-- or it gave the answer
pub record HasEnded (wish : Wish) (h : History) (rest : List ℕ) (event : IoEvent) (end : WatchEnd)
    (old_sight new_sight : Observed) : Type 0 where
  pub sent : List ℕ
  pub out : List ℕ
  pub ends : (count : ℕ) → count < 1099511627776 →
      Ends wish (stage h rest) count end (event ∷ sends sent) out
  pub sight_is : new_sight ≡ observed_more old_sight sent out

-- the same of an event
abbrev pub TakesEvent : {A : Type 0} → Wish → IoEvent → Result A WatchEnd → ClientView → ClientView
    → Type 0
TakesEvent wish event result old new = (h : History) → HistoryInvariant wish h old.client →
    OnOk result (HasRound wish h old.client.input event new.client old.observed new.observed)

abbrev pub EndsAtEvent : {A : Type 0} → Wish → IoEvent → Result A WatchEnd → ClientView → ClientView
    → Type 0
EndsAtEvent wish event result old new = (h : History) → HistoryInvariant wish h old.client →
    IfErr result (λ end. HasEnded wish h old.client.input event end old.observed new.observed)

-- so many events were processed from the beginning on, and the watching goes on
pub record HasRun (wish : Wish) (count : ℕ) (client : Client) (old_sight new_sight : Observed)
    : Type 0 where
  pub rounds : List Round
  pub count_is : length rounds ≡ count
  pub history : History
  pub runs : RunsAll (stage [] []) rounds (stage history client.input)
  pub keeps : HistoryInvariant wish history client
  pub sight_is : new_sight ≡
      record {
        told = told_more old_sight.told (rounds_doings wish [] rounds);
        out = told_more old_sight.out (payloads_of (events_of_rounds rounds));
      }

-- SETUP wasn't sent completely: there was no memory for it, or a prefix of it was sent
abbrev pub IsUnsent : WatchEnd → Wish → Option (List IoEvent) → Option (List IoEvent) → Type 0
IsUnsent end wish old_told new_told =
    ((end ≡ NoMemory) × (new_told ≡ old_told))
    ⊎ ((end ≡ LinkFault) × IsSentPrefix old_told new_told (setup_text wish))
