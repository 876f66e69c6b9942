-- What a server serves with, and what its workers did.
use Rattle.std.specs.Prelude.{◌≡◌, ◌≢◌, ◌⊎◌, ℕ, ◌+◌, ◌<◌, ⊤, List, [], ◌∷◌, ◌++◌, All, length}
use Rattle.std.specs.Prelude.{slice_index_or, string_bytes, Option, Some, None, IfSome}
use mathlib.Core.List.{IsPrefix}
use Rattle.vod_base.specs.IoState.{File, HasRisen, one_more}
use Rattle.vod_base.specs.Gates.{Content, Part}
use Rattle.vod_base.specs.declared.gates.Opening.{Opening}
use Rattle.film_frames.specs.declared.stored_films.Stored.{Stored}
use Rattle.admission.specs.declared.entries.Entry.{Entry}
use Rattle.admission.specs.Makers.{entries_by}
use Rattle.film_streams.specs.SettingRanges.{names_of}
use Rattle.film_streams.specs.declared.settings.Settings.{Settings}
use Rattle.station.specs.Seats.{SeatState}
use Rattle.conn.specs.Journals.{Terms, terms_of}
use Rattle.conn.specs.Parts.{WorkerInput, WorkerSpec, IsUntouched, WorkerGate, worker_input}
use Rattle.conn.specs.Parts.{worker_gate}
use Rattle.conn.specs.declared.reports.ConnReport.{ConnReport}
use Rattle.conn.specs.declared.reports.PartReport.{PartReport}
use Rattle.conn.specs.declared.reports.PartEnd.{PartEnd}
use Rattle.conn.specs.declared.reports.PartEnd.TheVariants.{AllTaken, GateFault, NoMemory}
use Rattle.cli_args.specs.Invocations.{ServeArgs}
use Rattle.inputs.specs.LoadErrors.{IsServedFilmRefused, IsNotRefused}
use Rattle.inputs.specs.ChunkScans.{HoldsVideo}

-- how the arguments open the gate
abbrev pub opening_of : ServeArgs → Opening
opening_of serving =
    record {
      port = serving.listening.port;
      all = serving.listening.all;
      connections = serving.listening.connections;
      slot_units = serving.planning.slot;
    }

-- what the arguments let clients settle by themselves, and the slot length
abbrev pub settings_of : ServeArgs → Settings
settings_of serving =
    record {
      slot_units = serving.planning.slot;
      buffer = serving.planning.buffer;
      startup = serving.planning.delay;
    }

-- what a worker's seat is asked under: the capacity and the most entries that the arguments say,
-- and the number after the worker's own
abbrev pub terms_for : ServeArgs → ℕ → Terms
terms_for serving worker =
    record { steps = serving.capacity; limit = serving.journal; maker = worker + 1 }

-- the film of that name may be served: there is no reason to refuse it
abbrev pub MayBeServed : List File → List ℕ → Type 0
MayBeServed held name = IsNotRefused IsServedFilmRefused held name

-- a film is what the library holds under its name, and may be served
abbrev pub IsHeld : Option (List File) → Stored → Type 0
IsHeld told film = (held : List File) → told ≡ Some held →
    HoldsVideo held (string_bytes film.name) film.film.bytes.items
    × MayBeServed held (string_bytes film.name)

-- the films of these names, in their order, as the library holds them
pub record AreLoaded (told : Option (List File)) (names : List (List ℕ)) (films : List Stored)
    : Type 0 where
  pub names_are : names_of films ≡ names
  pub held : All (IsHeld told) films

-- a gate is open in this way
abbrev pub IsOpenAs : Opening → Option Content → Type 0
IsOpenAs opening told = IfSome told (λ content. content.opening ≡ Some opening)

-- a gate was opened once more than before, and no connection was taken from it but by its parts
pub record IsOpenedOnce (before : Option Content) (gate : Content) : Type 0 where
  pub told : Content
  pub told_is : before ≡ Some told
  pub openings : gate.openings ≡ one_more told.openings
  pub own : gate.own ≡ told.own

-- a part that gave no connection
pub record IsIdle (part : Part) : Type 0 where
  pub given : part.given ≡ 0
  pub back : part.back ≡ []

-- of a gate fewer parts were split than it was to have; each is back, and gave no connection
pub record HasTooFewParts (count : ℕ) (gate : Content) : Type 0 where
  pub fewer : length gate.parts < count
  pub idle : (k : ℕ) → k < length gate.parts →
      (part : Part) × ((slice_index_or gate.parts k None ≡ Some part) × IsIdle part)

-- so many parts were split from a gate
abbrev pub HasParts : ℕ → Option Content → Type 0
HasParts count told = IfSome told (λ content. length content.parts ≡ count)

-- a part is back in its gate as it was exposed last
abbrev pub IsPartBack : ℕ → Option Content → Content → Type 0
IsPartBack number told gate = (part : Content)
    × ((told ≡ Some part) × (slice_index_or gate.parts number None ≡ Some part.own))

-- what the workers of a server serve: films, as the arguments say, with identities drawn from a
-- seed; and the journal that they make
pub record ServerRun : Type 0 where
  pub films : List Stored
  pub serving : ServeArgs
  pub seed : List ℕ
  pub journal : List Entry

abbrev pub server_run : List Stored → ServeArgs → List ℕ → List Entry → ServerRun
server_run films serving seed journal =
    record { films = films; serving = serving; seed = seed; journal = journal }

-- what the worker of a number serves
abbrev pub duty_of : ServerRun → ℕ → WorkerInput
duty_of work worker = worker_input work.films (settings_of work.serving) work.seed worker

-- A worker served its part of the gate, of which no connection had been taken before, from the seat
-- of the number after its own, under the capacity and the most entries that the arguments say. The
-- journal's entries of that seat are those that the worker made, and all that it saw of the journal
-- is a prefix of it. The part is back in the gate, and a fault of it was counted there.
pub record IsWorkerResult (work : ServerRun) (gate gate' : WorkerGate) (worker : ℕ)
    (report : PartReport) : Type 0 where
  pub seat : SeatState
  pub left : SeatState
  pub part : Option Content
  pub after : WorkerGate
  pub served : WorkerSpec (duty_of work worker) seat left (worker_gate 0 part) after report
  pub terms : terms_of seat ≡ terms_for work.serving worker
  pub mine : seat.mine ≡ []
  pub untouched : IfSome part IsUntouched
  pub seen : IsPrefix left.seen work.journal
  pub made : left.mine ≡ entries_by (worker + 1) work.journal
  pub back : IfSome gate'.told (IsPartBack worker after.told)
  pub counted : 0 < after.faults → HasRisen gate.faults gate'.faults

-- workers whose numbers go on from one, with their reports
abbrev pub AreWorkerResults : ServerRun → WorkerGate → WorkerGate → ℕ → List PartReport → Type 0
AreWorkerResults work gate gate' from [] = ⊤
AreWorkerResults work gate gate' from (report ∷ reports) =
    IsWorkerResult work gate gate' from report × AreWorkerResults work gate gate' (from + 1) reports

-- the reports of workers on their connections: those of the first one, then those of the next, and
-- so on
abbrev pub all_reports : List PartReport → List ConnReport
all_reports [] = []
all_reports (part ∷ parts) = part.reports.items ++ all_reports parts

-- the worse of two ends: out of memory before a fault of the gate
pub record IsWorse (one other end : PartEnd) : Type 0 where
  pub fault : end ≡ GateFault → (one ≡ GateFault) ⊎ (other ≡ GateFault)
  pub taken : end ≡ AllTaken → (one ≡ AllTaken) × (other ≡ AllTaken)
  pub memory : (one ≡ NoMemory) ⊎ (other ≡ NoMemory) → end ≡ NoMemory

-- a worker ended so
pub record HasOne (end : PartEnd) (parts : List PartReport) : Type 0 where
  pub worker : ℕ
  pub inside : worker < length parts
  pub ended : (none : PartReport) → (slice_index_or parts worker none).end ≡ end

-- how workers ended in all, and what is left of their connections: all have taken all; or one part
-- failed; unless memory ran out no worker ran out of it, and all reports are left
pub record AreLeft (parts : List PartReport) (end : PartEnd) (reports : List ConnReport)
    : Type 0 where
  pub taken : end ≡ AllTaken → All (λ part. part.end ≡ AllTaken) parts
  pub failed : end ≡ GateFault → HasOne GateFault parts
  pub memory : (end ≡ NoMemory) ⊎ All (λ part. part.end ≢ NoMemory) parts
  pub whole : (end ≡ NoMemory) ⊎ (reports ≡ all_reports parts)

-- The workers of a server: as many as the arguments say, each over a part of a gate that was opened
-- as they say, and what is left of them.
pub record IsWorkersResult (work : ServerRun) (gate gate' : WorkerGate) (end : PartEnd)
    (reports : List ConnReport) : Type 0 where
  pub parts : List PartReport
  pub count : length parts ≡ work.serving.listening.workers
  pub each : AreWorkerResults work gate gate' 0 parts
  pub open_as : IsOpenAs (opening_of work.serving) gate'.told
  pub split : HasParts work.serving.listening.workers gate'.told
  pub left : AreLeft parts end reports
