-- The workers of a server.
use Rattle.std.specs.Prelude.{◌≡◌, ℕ, ◌+◌, ◌<◌, ◌≤◌, ⊤, List, [], ◌∷◌, All, length, map}
use Rattle.std.specs.Prelude.{slice_index_or, Option, Some, None, IfSome}
use mathlib.Core.List.{IsPrefix}
use Rattle.vod_base.specs.IoState.{HasRisen}
use Rattle.vod_base.specs.Gates.{Content}
use Rattle.film_frames.specs.declared.stored_films.Stored.{Stored}
use Rattle.film_streams.specs.declared.settings.Settings.{Settings}
use Rattle.turnstile.specs.declared.view.Joined.{Joined}
use Rattle.station.specs.Seats.{StationState, SeatState, first_seat}
use Rattle.conn.specs.Parts.{WorkerSpec, IsUntouched, worker_input, worker_gate}
use Rattle.conn.specs.declared.reports.PartReport.{PartReport}
use Rattle.conn.specs.declared.reports.PartEnd.TheVariants.{GateFault as PartFault}
use Rattle.cli_errors.specs.declared.errors.CliError.{CliError}
use Rattle.cli_errors.specs.declared.errors.CliError.TheVariants.{NoMemory, GateFault}
use Rattle.vodserve.specs.WorkerResults.{IsPartBack}
use Rattle.vodserve.specs.declared.workers.Worker.{Worker}

-- a worker has the seat of the number after its own, and the part of the gate of its own number;
-- where it ended by a fault of the part, the part counted one
pub record IsWorker {G : Type 0} (told : G → Option Content) (faults : G → ℕ)
    (hall : StationState) (worker : Worker G) : Type 0 where
  pub id : worker.seat.id ≡ hall.id
  pub steps : worker.seat.steps ≡ hall.steps
  pub limit : worker.seat.limit ≡ hall.limit
  pub seat : worker.seat.number ≡ worker.number + 1
  pub joined : worker.seat.joined ≡ []
  pub part : IfSome (told worker.part) (λ content. content.own.number ≡ worker.number)
  pub fault : worker.report.end ≡ PartFault → 0 < faults worker.part

-- a worker that did nothing yet: its seat made no entry, and its part gave no connection and
-- counted no fault
pub record IsFresh {G : Type 0} (told : G → Option Content) (faults : G → ℕ)
    (worker : Worker G) : Type 0 where
  pub mine : worker.seat.mine ≡ []
  pub part : IfSome (told worker.part) IsUntouched
  pub count : faults worker.part ≡ 0

-- a worker that served its part, after it had done nothing yet
pub record HasFinished {G : Type 0} (told : G → Option Content) (faults : G → ℕ)
    (films : List Stored) (settings : Settings) (seed : List ℕ) (worker : Worker G) : Type 0 where
  pub seat : SeatState
  pub part : Option Content
  pub served : WorkerSpec (worker_input films settings seed worker.number) seat worker.seat
      (worker_gate 0 part) (worker_gate (faults worker.part) (told worker.part)) worker.report
  pub number : seat.number ≡ worker.number + 1
  pub mine : seat.mine ≡ []
  pub untouched : IfSome part IsUntouched

-- workers whose numbers go on from one
abbrev pub AreWorkers : {G : Type 0} → (G → Option Content) → (G → ℕ) → StationState → ℕ →
    List (Worker G) → Type 0
AreWorkers told faults hall from [] = ⊤
AreWorkers told faults hall from (worker ∷ workers) =
    (worker.number ≡ from) × IsWorker told faults hall worker
    × AreWorkers told faults hall (from + 1) workers

-- a gate wasn't opened since, and no connection was taken from it but by its parts
pub record IsNotOpened (before : Option Content) (gate : Content) : Type 0 where
  pub told : Content
  pub told_is : before ≡ Some told
  pub openings : gate.openings ≡ told.openings
  pub own : gate.own ≡ told.own

-- of the gate's parts those from one on are out
pub record ArePartsOut (from count : ℕ) (content : Content) : Type 0 where
  pub counted : length content.parts ≡ count
  pub out : (k : ℕ) → from ≤ k → k < count → slice_index_or content.parts k None ≡ None

-- the parts of workers, whose numbers go on from one, are back in the gate
abbrev pub ArePartsBack : {G : Type 0} → (G → Option Content) → Option Content → ℕ → List (Worker G)
    → Type 0
ArePartsBack told gate from [] = ⊤
ArePartsBack told gate from (worker ∷ workers) = IfSome gate (IsPartBack from (told worker.part))
    × ArePartsBack told gate (from + 1) workers

-- the first seat, after it was split so often
abbrev pub split_seat : StationState → ℕ → SeatState
split_seat hall count = record (first_seat hall) { splits = count }

-- what a seat knows of a worker that was joined to it, and how the worker ended
abbrev pub joined_of : {G : Type 0} → Worker G → Joined
joined_of worker = record { number = worker.seat.number; mine = worker.seat.mine }

abbrev pub report_of : {G : Type 0} → Worker G → PartReport
report_of worker = worker.report

-- the first ones of `count` workers are back: their seats are joined to the first seat, which has
-- seen what they have seen, and their parts are in the gate
pub record AreJoined {G : Type 0} (told : G → Option Content) (hall : StationState) (count : ℕ)
    (workers : List (Worker G)) (seat : SeatState) (gate : Option Content) : Type 0 where
  pub id : seat.id ≡ hall.id
  pub steps : seat.steps ≡ hall.steps
  pub limit : seat.limit ≡ hall.limit
  pub number : seat.number ≡ 0
  pub mine : seat.mine ≡ []
  pub splits : seat.splits ≡ count
  pub joined : seat.joined ≡ map joined_of workers
  pub seen : All (λ worker. IsPrefix worker.seat.seen seat.seen) workers
  pub out : IfSome gate (ArePartsOut (length workers) count)
  pub back : ArePartsBack told gate 0 workers

-- no seat or no part could be made
abbrev pub IsMakeWorkersError : ℕ → ℕ → CliError → Type 0
IsMakeWorkersError faults faults' NoMemory = ⊤
IsMakeWorkersError faults faults' GateFault = HasRisen faults faults'
IsMakeWorkersError faults faults' _ = ⊥
