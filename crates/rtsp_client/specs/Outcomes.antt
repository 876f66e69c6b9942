-- What came of a watching whose answer the events decided.
use Rattle.std.specs.Prelude.{ℕ, ⊤, List, [], ◌∷◌, ◌++◌, Option, Some}
use Rattle.vod_base.specs.Links.{IoEvent, HeardBytes, HeardEnd, HeardSlot, Sent}
use Rattle.rtsp_client.specs.declared.watch_request.Wish.{Wish}
use Rattle.rtsp_client.specs.declared.watch_request.WatchEnd.{WatchEnd}
use Rattle.rtsp_client.specs.declared.watch_request.WatchEnd.TheVariants.{Done, Fault, LinkFault}
use Rattle.rtsp_client.specs.declared.watch_request.WatchEnd.TheVariants.{NoMemory, SinkFault}
use Rattle.rtsp_client.specs.WatchCourses.{HasWatched}

-- the events of doings, without the bytes that were sent
abbrev pub events_in : List IoEvent → List IoEvent
events_in [] = []
events_in (HeardBytes bytes ∷ doings) = HeardBytes bytes ∷ events_in doings
events_in (HeardSlot slot ∷ doings) = HeardSlot slot ∷ events_in doings
events_in (HeardEnd ∷ doings) = HeardEnd ∷ events_in doings
events_in (Sent byte ∷ doings) = events_in doings

-- an answer that the events decide: neither a fault of I/O nor that memory ran out
abbrev pub IsDecided : WatchEnd → Type 0
IsDecided (Done watched) = ⊤
IsDecided (Fault fault) = ⊤
IsDecided LinkFault = ⊥
IsDecided SinkFault = ⊥
IsDecided NoMemory = ⊥

-- the answer, what the link exposes of the watching, and what the output exposes after it
pub record WatchOutcome : Type 0 where
  pub end : WatchEnd
  pub doings : List IoEvent
  pub out : Option (List ℕ)

-- so a film was watched, after a link and an output had exposed these
pub record IsOutcome (wish : Wish) (told : List IoEvent) (out : Option (List ℕ)) (outcome :
    WatchOutcome)
    : Type 0 where
  pub decided : IsDecided outcome.end
  pub watched : HasWatched wish outcome.end
      (Some told) (Some (told ++ outcome.doings)) out outcome.out
