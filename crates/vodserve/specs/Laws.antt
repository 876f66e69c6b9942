-- What a server's run means to its users: laws over its definition.
use Rattle.std.specs.Prelude.{◌≡◌, ◌≢◌, ◌⊎◌, ℕ, ◌+◌, ◌<◌, ⊤, List, All, length, map, slice_index_or}
use Rattle.std.specs.Prelude.{Option, Some, None}
use Rattle.std.specs.List.{Contains}
use Rattle.vod_base.specs.IoState.{File, HasRisen, told_more}
use mathlib.Core.List.{IsPrefix}
use Rattle.vod_base.specs.Gates.{Content, Failed, NoMore, Part, ReturnedConn}
use Rattle.film_frames.specs.declared.stored_films.Stored.{Stored}
use Rattle.admission.specs.declared.entries.Entry.{Entry}
use Rattle.admission.specs.Makers.{entries_by}
use Rattle.session_records.specs.declared.notes.Receipt.{Receipt}
use Rattle.session_records.specs.declared.notes.Receipt.TheVariants.{Entry as EntryReceipt}
use Rattle.session_records.specs.declared.notes.Receipt.TheVariants.{Full as FullReceipt}
use Rattle.station.specs.Seats.{SeatState}
use Rattle.conn.specs.Agreement.{AgreesIfObserved, visit}
use Rattle.conn.specs.Journals.{terms_of}
use Rattle.conn.specs.ReservationInvariant.{Closed, open_play_from, receipt_for}
use Rattle.conn.specs.Parts.{HasServedOne, entries_reported}
use Rattle.conn.specs.Words.{words_of}
use Rattle.conn.specs.declared.reports.ConnReport.{ConnReport}
use Rattle.conn.specs.declared.reports.PartReport.{PartReport}
use Rattle.inputs.specs.LoadErrors.{IsServedFilmRefused}
use Rattle.cli_errors.specs.declared.errors.InputError.{InputError}
use Rattle.cli_args.specs.Invocations.{Invocation, ScriptRun, ServeArgs, day_of, fair_of, help}
use Rattle.cli_args.specs.Invocations.{make_of, serve_of, version, watch_of}
use Rattle.day_run.specs.DayLaws.{IsLink, SentIsBookedAfter}
use Rattle.day_script.specs.Scripts.{AreClients, AreLines}
use Rattle.day_run.specs.Days.{IsDay, link_of}
use Rattle.day_run.specs.FairDays.{IsFair}
use Rattle.day_run.specs.declared.media.Source.{Source}
use Rattle.day_script.specs.declared.scripts.Script.{Script}
use Rattle.offline_commands.specs.OfflineCommands.{IfTold, IsOutputOf, IsInputRefused, IsRead}
use Rattle.offline_commands.specs.Days.{AreHeldAs, HoldsScript, IsDayRefused}
use Rattle.vodserve.specs.WorkerResults.{AreLoaded, IsOpenedOnce, all_reports, opening_of}
use Rattle.vodserve.specs.WorkerResults.{settings_of, ServerRun, terms_for, server_run}
use Rattle.vodserve.specs.Run.{CommandSpec, HasRunScript, HasServedNothing, ServeSpec}
use Rattle.vodserve.specs.IoStates.{IoState, Streams, World}
use Rattle.vodserve.specs.ServerOutput.{IsJournal, served_text}
use Rattle.vodserve.specs.declared.run_results.Ended.{Ended}

-- the library exposes what it holds, and refuses no film that the arguments name
pub record IsServable (serving : ServeArgs) (told : Option (List File)) : Type 0 where
  pub held : List File
  pub told_is : told ≡ Some held
  pub accepted : (name : List ℕ) (fault : InputError) → Contains serving.films name →
      IsServedFilmRefused held name fault → ⊥

-- no call of the library, of the output or of the gate failed
pub record HasNoFault (before after : World) : Type 0 where
  pub store : HasRisen before.store.faults after.store.faults → ⊥
  pub out : HasRisen before.out.faults after.out.faults → ⊥
  pub gate : HasRisen before.gate.faults after.gate.faults → ⊥

-- the day of a script that a library holds, with the films and traces that it names: what it prints
-- and its journal
pub record IsScriptDay (held : List File) (run : ScriptRun) (text : List ℕ) (journal : List Entry)
    : Type 0 where
  pub script : Script
  pub sources : List Source
  pub read : HoldsScript held run.script script
  pub loaded : AreHeldAs held script.named.items sources
  pub clients : AreClients script.lines.items
  pub lines : AreLines (length sources) script.lines.items
  pub link : IsLink (link_of run.capacity run.journal run.slot sources)
  pub day : IsDay (link_of run.capacity run.journal run.slot sources) script.lines.items text
      journal

-- the inputs that a command reads, and why one is refused
abbrev pub IsRefusedFor : Invocation → List File → List ℕ → InputError → Type 0
IsRefusedFor (day_of run) held name fault = IsDayRefused run.script held name fault
IsRefusedFor order held name fault = IsRead order name × IsInputRefused order held name fault

-- the library exposes what it holds, and refuses no input of a command
pub record IsAccepted (order : Invocation) (told : Option (List File)) : Type 0 where
  pub held : List File
  pub told_is : told ≡ Some held
  pub accepted : (name : List ℕ) (fault : InputError) → IsRefusedFor order held name fault → ⊥

-- nothing that is asked for stops a command: what it reads is accepted. `watch` also needs a server
abbrev pub HasValidInput : Invocation → Option (List File) → Type 0
HasValidInput help told = Unit {0}
HasValidInput version told = Unit {0}
HasValidInput (make_of kind seed pictures) told = Unit {0}
HasValidInput (fair_of run) told = Unit {0}
HasValidInput (watch_of watching) told = ⊥
HasValidInput order told = IsAccepted order told

-- a command's work: with status 0, or for `check` with 1 where the certificate is refused, this
-- text and what else it leaves
abbrev pub IsResultOf : Option (List File) → Invocation → Ended → List ℕ → Type 0
IsResultOf told (day_of run) ended text =
    (ended.status ≡ 0) × IfTold told (λ held. IsScriptDay held run text ended.journal.items)
IsResultOf told (fair_of run) ended text =
    (ended.status ≡ 0) × IsFair run.capacity run.seed run.plays text ended.journal.items
IsResultOf told (serve_of serving) ended text =
    (ended.status ≡ 0) × (text ≡ served_text ended.journal.items (length ended.reports.items))
IsResultOf told (watch_of watching) ended text = ⊥
IsResultOf told order ended text = IsOutputOf told order ended.status text ended.plan

-- a command did its work and wrote its entire text, and said nothing on the error stream
pub record HasSucceeded (before after : World) (order : Invocation) (ended : Ended) : Type 0 where
  pub text : List ℕ
  pub work : IsResultOf before.store.told order ended text
  pub wrote : after.out.told ≡ told_more before.out.told text
  pub quiet : after.err ≡ before.err

-- a command whose inputs are accepted does its work: without an I/O fault it writes its entire
-- text, or ends with status 6 because memory ran out
abbrev pub ValidInputSucceeds : Type 0
ValidInputSucceeds =
    (before after : World) (seed : List ℕ) (order : Invocation) (ended : Ended) →
    CommandSpec before after seed order ended → HasValidInput order before.store.told →
    HasNoFault before after → HasSucceeded before after order ended ⊎ (ended.status ≡ 6)

-- films that are accepted are served: without an I/O fault a server ends with status 0, or with 6
-- because memory ran out
abbrev pub AcceptedFilmsAreServed : Type 0
AcceptedFilmsAreServed =
    (before after : World) (seed : List ℕ) (serving : ServeArgs) (ended : Ended) →
    ServeSpec before after seed serving ended → IsServable serving before.store.told →
    HasNoFault before after → (ended.status ≡ 0) ⊎ (ended.status ≡ 6)

-- a film that is refused is never served: the server does nothing, opens no gate, and says so by
-- its status
abbrev pub RefusedFilmsAreNotServed : Type 0
RefusedFilmsAreNotServed =
    (before after : World) (seed : List ℕ) (serving : ServeArgs) (ended : Ended) (held : List File)
    (name : List ℕ) (fault : InputError) → ServeSpec before after seed serving ended →
    before.store.told ≡ Some held → Contains serving.films name → IsServedFilmRefused held name
    fault →
    (ended.status ≢ 0) × (after.out ≡ before.out) × (after.gate ≡ before.gate)
    × HasServedNothing ended

-- the workers of a server ran: with status 0 or 5, and with 7 where as many parts as workers were
-- split from the gate
abbrev pub WorkersRan : ServeArgs → Ended → Content → Type 0
WorkersRan serving ended gate =
    (ended.status ≡ 0) ⊎ ((ended.status ≡ 5)
    ⊎ ((ended.status ≡ 7) × (length gate.parts ≡ serving.listening.workers)))

-- a part got back each connection that it gave; the last time it was asked for one it had no more,
-- or it failed, and the gate counted that
pub record HasReturnedAll (before after : World) (part : Part) : Type 0 where
  pub back : length part.back ≡ part.given
  pub last : (part.last ≡ NoMore)
      ⊎ ((part.last ≡ Failed) × HasRisen before.gate.faults after.gate.faults)

-- a gate was opened once, as the arguments say, no connection was taken but from its parts, and
-- something is true for each worker's part
pub record IsGateOf (IsPart : Part → Type 0) (serving : ServeArgs) (before : Option Content)
    (gate : Content) : Type 0 where
  pub once : IsOpenedOnce before gate
  pub opening : gate.opening ≡ Some (opening_of serving)
  pub count : length gate.parts ≡ serving.listening.workers
  pub each : (worker : ℕ) → worker < serving.listening.workers → (part : Part)
      × ((slice_index_or gate.parts worker None ≡ Some part) × IsPart part)

-- where the workers ran, each connection that was given came back
abbrev pub EachConnectionIsReturned : Type 0
EachConnectionIsReturned =
    (before after : World) (seed : List ℕ) (serving : ServeArgs) (ended : Ended) (gate : Content) →
    ServeSpec before after seed serving ended → after.gate.told ≡ Some gate →
    WorkersRan serving ended gate → IsGateOf (HasReturnedAll before after) serving before.gate.told
    gate

-- status 0 says that no connection was left out: each part gave connections until it had no more
abbrev pub NoConnectionIsLeftOut : Type 0
NoConnectionIsLeftOut =
    (before after : World) (seed : List ℕ) (serving : ServeArgs) (ended : Ended) (gate : Content) →
    ServeSpec before after seed serving ended → ended.status ≡ 0 →
    after.gate.told ≡ Some gate →
    IsGateOf (λ part. part.last ≡ NoMore) serving before.gate.told gate

-- a receipt of a seat records an entry of the journal: the one at its place, with its answer
abbrev pub IsReceiptIn : List Entry → ℕ → Receipt → Type 0
IsReceiptIn journal seat (EntryReceipt place answer) =
    (place < length journal)
    × ((none : Entry) → ((slice_index_or journal place none).maker ≡ seat)
    × ((slice_index_or journal place none).answer ≡ answer))
IsReceiptIn journal seat (FullReceipt entries live) = ⊤

-- so does each receipt of a connection, whose worker has the seat of the number after its own
abbrev pub IsReportIn : List Entry → ConnReport → Type 0
IsReportIn journal report = All (IsReceiptIn journal (report.worker + 1)) report.receipts.items

-- unless memory ran out no report names an entry that the journal hasn't
abbrev pub ReportsMatchJournal : Type 0
ReportsMatchJournal =
    (before after : World) (seed : List ℕ) (serving : ServeArgs) (ended : Ended) →
    ServeSpec before after seed serving ended → ended.status ≢ 6 →
    All (IsReportIn ended.journal.items) ended.reports.items

-- a connection of a worker, the one of that place among those of its part, from 0: its report has
-- the worker's number and the connection's random words, it was served as the report says and
-- satisfies what it promises, under the capacity and the most entries that the arguments say. What
-- its seat, of the number after the worker's own, made up to its end are the first of the journal's
-- entries of that seat, and all that the seat had seen by then is a prefix of the journal. What its
-- link exposed and its report agree with the journal, as the arguments' capacity and most entries
-- have it
pub record IsConnectionCorrect (work : ServerRun) (worker place : ℕ) (returned : ReturnedConn)
    (report : ConnReport) : Type 0 where
  pub worker_is : report.worker ≡ worker
  pub words_are : report.words ≡ words_of work.seed worker place
  pub old : SeatState
  pub new : SeatState
  pub served : HasServedOne work.films (settings_of work.serving) returned report old new
  pub terms : terms_of new ≡ terms_for work.serving worker
  pub entries : IsPrefix new.mine (entries_by (worker + 1) work.journal)
  pub seen : IsPrefix new.seen work.journal
  pub agrees : AgreesIfObserved (visit work.films (settings_of work.serving) returned report)
      (terms_for work.serving worker) work.journal

-- each connection of a part was served: it has the report at its place, and the entries that the
-- reports list are those that the journal has of the worker's seat, in order. Among these each play
-- that was admitted is halted once, before the next one is admitted
pub record IsServedPart (work : ServerRun) (worker : ℕ) (part : Part) (reports : List ConnReport)
    : Type 0 where
  pub count : length reports ≡ length part.back
  pub each : (k : ℕ) (none : ReturnedConn) (no_report : ConnReport) → k < length part.back →
      IsConnectionCorrect work worker k (slice_index_or part.back k none)
      (slice_index_or reports k no_report)
  pub entries : entries_reported reports ≡ map receipt_for (entries_by (worker + 1) work.journal)
  pub halts : open_play_from Closed (entries_by (worker + 1) work.journal) ≡ Closed

-- the films are those of the library, the journal is a legal history over the capacity, the gate
-- was opened once, each connection of each worker was served, and the reports are those of the
-- first worker, then those of the next, and so on
pub record ServesAllCorrectly (before : World) (seed : List ℕ) (serving : ServeArgs) (ended : Ended)
    (gate : Content) : Type 0 where
  pub films : List Stored
  pub loaded : AreLoaded before.store.told serving.films films
  pub journal : IsJournal serving ended.journal.items
  pub once : IsOpenedOnce before.gate.told gate
  pub parts : List PartReport
  pub count : length parts ≡ serving.listening.workers
  pub reports : ended.reports.items ≡ all_reports parts
  pub each : (worker : ℕ) (none : PartReport) → worker < serving.listening.workers →
      (part : Part) × ((slice_index_or gate.parts worker None ≡ Some part)
      × IsServedPart (server_run films serving seed ended.journal.items) worker part
      (slice_index_or parts worker none).reports.items)

-- where the workers ran, each connection was served
abbrev pub EveryConnectionIsCorrect : Type 0
EveryConnectionIsCorrect =
    (before after : World) (seed : List ℕ) (serving : ServeArgs) (ended : Ended) (gate : Content) →
    ServeSpec before after seed serving ended → after.gate.told ≡ Some gate →
    WorkersRan serving ended gate → ServesAllCorrectly before seed serving ended gate

-- a script that ran: after each of its lines what the clients are sent in the slots up to any later
-- one is what is booked there, and within the capacity
abbrev pub SentIsBookedAfterEachLine : Type 0
SentIsBookedAfterEachLine =
    (store : IoState (List File)) (streams : Streams) (run : ScriptRun)
    (ended : Ended) (ran : HasRunScript store streams run ended) (count : ℕ) →
    SentIsBookedAfter (link_of run.capacity run.journal run.slot ran.sources) ran.script.lines.items
    count

-- there is one such text and one such journal
abbrev pub DayIsUnique : Type 0
DayIsUnique =
    (held : List File) (run : ScriptRun) (text text' : List ℕ) (journal journal' : List Entry) →
    IsScriptDay held run text journal → IsScriptDay held run text' journal' →
    (text ≡ text') × (journal ≡ journal')

-- what a run of the script writes, and the journal that it leaves, are those of this day
abbrev pub RunPrintsItsDay : Type 0
RunPrintsItsDay =
    (held : List File) (store : IoState (List File)) (streams : Streams)
    (run : ScriptRun) (ended : Ended) (ran : HasRunScript store streams run ended) →
    store.told ≡ Some held → IsScriptDay held run ran.ran.text ended.journal.items
