-- What a run of the program did: it carried out what the arguments ask for, or it printed the error
-- that prevented that. `RunSpec`, at the end, is what `run` promises, and `CommandSpec`, before it,
-- has a definition for each command: `PrintSpec` where a text is printed at the end, `DaySpec`,
-- `FairSpec`, `WatchSpec` and `ServeSpec`. Above them stands what they are made of.
use Rattle.std.specs.Prelude.{◌≡◌, ℕ, ◌≤◌, ◌<◌, ◌^◌, Bool, List, [], length, Option, Some, None}
use Rattle.std.specs.Prelude.{Result, Ok, Err, IfSome, ◌⊎◌}
use Rattle.vod_base.specs.IoState.{File, HasRisen, told_more, IsWrittenPrefix}
use Rattle.plan_cert.specs.declared.Segment.{Segment}
use Rattle.slot_calendar.specs.declared.profiles.CapStep.{CapStep}
use Rattle.admission.specs.Histories.{IsLegal}
use Rattle.admission.specs.declared.entries.Entry.{Entry}
use Rattle.day_run.specs.declared.media.Source.{Source}
use Rattle.day_script.specs.declared.scripts.Script.{Script}
use Rattle.day_run.specs.DayLaws.{IsFairLine, IsLink, SentIsBookedEachTurn}
use Rattle.day_script.specs.Scripts.{AreClients, AreLines}
use Rattle.day_run.specs.Days.{IsDay, link_of}
use Rattle.day_run.specs.FairDays.{IsFair}
use Rattle.offline_commands.specs.Days.{AreHeldAs, IsDayInput, IsDayRefused, IsScriptOf}
use Rattle.rtsp_client.specs.declared.watch_request.Wish.{Wish}
use Rattle.rtsp_client.specs.declared.watch_request.Watched.{Watched}
use Rattle.rtsp_client.specs.declared.watch_request.WatchEnd.{WatchEnd}
use Rattle.rtsp_client.specs.declared.watch_request.WatchEnd.TheVariants.{Done as WatchDone}
use Rattle.rtsp_client.specs.declared.watch_request.WatchEnd.TheVariants.{Fault as WatchFailed}
use Rattle.rtsp_client.specs.declared.watch_request.WatchEnd.TheVariants.{NoMemory as WatchNoMemory}
use Rattle.rtsp_client.specs.declared.watch_request.WatchEnd.TheVariants.{
  LinkFault as
      WatchLinkFault,
}
use Rattle.rtsp_client.specs.declared.watch_request.WatchEnd.TheVariants.{
  SinkFault as
      WatchSinkFault,
}
use Rattle.rtsp_client.specs.declared.watch_request.WatchFault.{WatchFault}
use Rattle.cli_args.specs.Invocations.{ScriptRun, ServeArgs, WatchArgs, Invocation, help, version}
use Rattle.cli_args.specs.Invocations.{plan_of, check_of, scan_of, make_of, day_of, fair_of}
use Rattle.cli_args.specs.Invocations.{serve_of, watch_of}
use Rattle.cli_args.specs.declared.invocations.FairRun.{FairRun}
use Rattle.cli_errors.specs.StreamWrites.{IsTextWritten}
use Rattle.cli_errors.specs.ErrorLines.{error_text}
use Rattle.cli_errors.specs.ErrorReports.{IsPrintableError}
use Rattle.cli_errors.specs.ExitStatuses.{status_of}
use Rattle.cli_errors.specs.ReadErrors.{IsLibraryUnchanged, IsReadError}
use Rattle.cli_errors.specs.declared.errors.CliError.{CliError}
use Rattle.cli_errors.specs.declared.errors.CliError.TheVariants.{Usage, Refused, StoreFault}
use Rattle.cli_errors.specs.declared.errors.CliError.TheVariants.{SinkFault, NoMemory, GateFault}
use Rattle.cli_errors.specs.declared.errors.CliError.TheVariants.{LinkFault}
use Rattle.cli_errors.specs.declared.errors.InputError.TheVariants.{NoConnection}
use Rattle.vodserve.specs.WatchSpec.{HasHeardFilm, HasPart, IsWishOf, idle_part, opening_at}
use Rattle.vodserve.specs.WatchSpec.{IsShortWatched, refusal_of, watched_text}
use Rattle.film_frames.specs.declared.stored_films.Stored.{Stored}
use Rattle.conn.specs.Parts.{WorkerGate}
use Rattle.conn.specs.declared.reports.PartEnd.{PartEnd}
use Rattle.conn.specs.declared.reports.PartEnd.TheVariants.{GateFault as PartFault}
use Rattle.vodserve.specs.IoStates.{IoState, Streams, World, streams_of}
use Rattle.vodserve.specs.WorkerResults.{AreLoaded, HasTooFewParts, IsWorkersResult, IsOpenAs}
use Rattle.vodserve.specs.WorkerResults.{IsOpenedOnce, server_run}
use Rattle.vodserve.specs.ServerOutput.{IsJournal, IsPrinted, IsServeError, served_text}
use Rattle.offline_commands.specs.OfflineCommands.{IfTold, IsOutputOf, IsRead, IsInputRefused}
use Rattle.offline_commands.specs.declared.command_output.CommandOutput.{CommandOutput}
use Rattle.vodserve.specs.declared.run_results.Ended.{Ended}

-- an error's status, and its line on the error stream, or after a fault there a prefix of it; the
-- error is one whose line gives its cause
pub record FailsWith (err err' : IoState (List ℕ)) (error : CliError) (ended : Ended) : Type 0 where
  pub status : ended.status ≡ status_of error
  pub may : IsPrintableError error
  pub no_plan : ended.plan ≡ None
  pub whole : Bool
  pub said : IsTextWritten err.faults err'.faults err.told err'.told (error_text error) whole

-- all was done, and its entire text written
pub record HasPrintedAll (before after : World) (order : Invocation) (ended : Ended) : Type 0 where
  pub text : List ℕ
  pub done : IsOutputOf before.store.told order ended.status text ended.plan
  pub wrote : after.out.told ≡ told_more before.out.told text
  pub quiet : after.err ≡ before.err

-- all was done, but a fault left only a prefix of its text written
pub record HasPrintedPrefix (before after : World) (order : Invocation) : Type 0 where
  pub status : ℕ
  pub text : List ℕ
  pub plan : Option (List Segment)
  pub done : IsOutputOf before.store.told order status text plan
  pub risen : HasRisen before.out.faults after.out.faults
  pub front : IsWrittenPrefix before.out.told after.out.told text

-- a text was written completely, and status and plan are these; or a fault left a prefix of it, and
-- was said
abbrev pub IsWritten : Streams → List ℕ → ℕ → Option (List Segment) → Ended → Type 0
IsWritten s text status plan ended =
    ((ended.status ≡ status) × (ended.plan ≡ plan)
    × (s.out_after.told ≡ told_more s.out.told text) × (s.err_after ≡ s.err))
    ⊎ (HasRisen s.out.faults s.out_after.faults × IsWrittenPrefix s.out.told s.out_after.told text
    × FailsWith s.err s.err_after SinkFault ended)

-- the text of what was done was written; or only the error that prevented it was printed
abbrev pub PrintResult : Streams → Result CommandOutput CliError → Ended → Type 0
PrintResult s (Ok done) ended = IsWritten s done.text.items done.status done.plan ended
PrintResult s (Err error) ended = (s.out_after ≡ s.out) × FailsWith s.err s.err_after error ended

-- a command that wrote its text itself ended; or the error that prevented it was said
abbrev pub EndResult : IoState (List ℕ) → IoState (List ℕ) → Result (Unit {0}) CliError → Ended
    → Type 0
EndResult err err' (Ok done) ended = (ended.status ≡ 0) × (ended.plan ≡ None) × (err' ≡ err)
EndResult err err' (Err error) ended = FailsWith err err' error ended

-- an input that a command reads is refused, or the library failed as it was read
abbrev pub IsReadInputError : Invocation → IoState (List File) → IoState (List File) → CliError →
    Type 0
IsReadInputError order store store' =
    IsReadError (IsRead order) (IsInputRefused order) store.told store.faults store'.faults

-- what an error comes from, and what it leaves of the output: before the text was made nothing was
-- written
abbrev pub IsCause : World → World → Invocation → CliError → Type 0
IsCause before after order (Refused name fault) =
    IsReadInputError order before.store after.store (Refused name fault) × (after.out ≡ before.out)
IsCause before after order (StoreFault name) =
    IsReadInputError order before.store after.store (StoreFault name) × (after.out ≡ before.out)
IsCause before after order SinkFault = HasPrintedPrefix before after order
IsCause before after order NoMemory = after.out ≡ before.out
IsCause before after order _ = ⊥

-- all was done and its text written; or an error prevented that
abbrev pub IsPrintedOrFailed : World → World → Invocation → Ended → Type 0
IsPrintedOrFailed before after order ended =
    HasPrintedAll before after order ended
    ⊎ ((error : CliError)
    × (IsCause before after order error × FailsWith before.err after.err error ended))

-- no journal, and no reports
abbrev pub HasServedNothing : Ended → Type 0
HasServedNothing ended = (ended.journal.items ≡ []) × (ended.reports.items ≡ [])

-- a command whose text is printed at its end; the gate is as it was
pub record PrintSpec (before after : World) (order : Invocation) (ended : Ended) : Type 0 where
  pub gate : after.gate ≡ before.gate
  pub nothing : HasServedNothing ended
  pub out : IsPrintedOrFailed before after order ended

-- a server's end: its text was written completely; or what went wrong was said
abbrev pub Ends : Streams → List ℕ → PartEnd → Ended → Type 0
Ends s text end ended =
    (IsPrinted s.out s.out_after text end (Ok tt)
    × (ended.status ≡ 0) × (ended.plan ≡ None) × (s.err_after ≡ s.err))
    ⊎ ((error : CliError)
    × (IsPrinted s.out s.out_after text end (Err error)
    × FailsWith s.err s.err_after error ended))

-- a server that served: the films as they were loaded, the journal, what the workers did over the
-- one opening of the gate, and the text that reports it, whose counts are numbers of 64 bits; where
-- a worker ended by a fault of the gate, the gate counted one
pub record HasServed (before after : World) (seed : List ℕ) (serving : ServeArgs) (ended : Ended)
    : Type 0 where
  pub films : List Stored
  pub loaded : AreLoaded before.store.told serving.films films
  pub journal : IsJournal serving ended.journal.items
  pub entries_short : length ended.journal.items < 2 ^ 64
  pub connections_short : length ended.reports.items < 2 ^ 64
  pub end : PartEnd
  pub worked : IsWorkersResult (server_run films serving seed ended.journal.items) before.gate
      after.gate
      end ended.reports.items
  pub once : IfSome after.gate.told (IsOpenedOnce before.gate.told)
  pub fault : end ≡ PartFault → HasRisen before.gate.faults after.gate.faults
  pub ends : Ends (streams_of before after)
      (served_text ended.journal.items (length ended.reports.items)) end ended

-- a server: what kept it from its work, and then nothing was written; or it served
abbrev pub ServeSpec : World → World → List ℕ → ServeArgs → Ended → Type 0
ServeSpec before after seed serving ended =
    ((error : CliError)
    × (IsServeError serving before.store after.store before.gate after.gate error
    × (after.out ≡ before.out) × HasServedNothing ended × FailsWith before.err after.err error
    ended))
    ⊎ HasServed before after seed serving ended

-- arguments without meaning: only the error line
abbrev pub IsUsage : World → World → Ended → Type 0
IsUsage before after ended =
    (after.store ≡ before.store) × (after.out ≡ before.out) × (after.gate ≡ before.gate)
    × HasServedNothing ended
    × FailsWith before.err after.err Usage ended

-- a day that ran: its journal is a legal history over the link's capacity, and what it printed was
-- written
pub record HasRun (streams : Streams) (capacity : List CapStep)
    (IsDayOf : List ℕ → List Entry → Type 0) (ended : Ended) : Type 0 where
  pub legal : IsLegal capacity ended.journal.items
  pub no_reports : ended.reports.items ≡ []
  pub text : List ℕ
  pub day : IsDayOf text ended.journal.items
  pub written : IsWritten streams text 0 None ended

-- what kept a day from its run: then nothing was written
abbrev pub IsDayFailed : Streams → (CliError → Type 0) → Ended → Type 0
IsDayFailed s IsWhy ended =
    (error : CliError)
    × (IsWhy error × (s.out_after ≡ s.out) × HasServedNothing ended
    × FailsWith s.err s.err_after error ended)

-- a script that was read and ran, with its films and traces, as the library holds them: its lines
-- ask for one of the 256 clients and for what it names, and all of that can be played
pub record HasRunScript (store : IoState (List File)) (streams : Streams) (run : ScriptRun)
    (ended : Ended) : Type 0 where
  pub script : Script
  pub sources : List Source
  pub read : IsScriptOf store.told run.script script
  pub loaded : IfTold store.told (λ held. AreHeldAs held script.named.items sources)
  pub clients : AreClients script.lines.items
  pub lines : AreLines (length sources) script.lines.items
  pub link : IsLink (link_of run.capacity run.journal run.slot sources)
  pub ran : HasRun streams run.capacity
      (IsDay (link_of run.capacity run.journal run.slot sources) script.lines.items) ended

-- a script was run; or an input prevented that, or memory ran out
abbrev pub DaySpec : IoState (List File) → IoState (List File) → Streams → ScriptRun → Ended → Type
    0
DaySpec store store' streams run ended =
    IsDayFailed streams
    (λ error. IsReadError (IsDayInput store.told run.script)
    (IsDayRefused run.script) store.told store.faults store'.faults error) ended
    ⊎ HasRunScript store streams run ended

-- drawn plays that were run, and what their line says is true: as many bytes were sent as the
-- journal books, in no slot more than its capacity, and the numbers of plays that were admitted,
-- that overflowed a slot and that were halted are those of the journal's entries; no play found the
-- journal full. In each turn, up to each of its slots, what the clients were sent is what the
-- journal books there
pub record HasRunFair (streams : Streams) (run : FairRun) (ended : Ended) : Type 0 where
  pub ran : HasRun streams run.capacity (IsFair run.capacity run.seed run.plays) ended
  pub line : IsFairLine run.capacity run.plays ran.text ended.journal.items
  pub never_full : line.counts.full ≡ 0
  pub turns : SentIsBookedEachTurn run.capacity run.seed run.plays ended.journal.items

-- drawn plays were run; or memory ran out
abbrev pub FairSpec : Streams → FairRun → Ended → Type 0
FairSpec streams run ended =
    IsDayFailed streams (λ error. error ≡ NoMemory) ended ⊎ HasRunFair streams run ended

-- a gate was opened for a client as the arguments say
abbrev pub IsOpenFor : WatchArgs → WorkerGate → Type 0
IsOpenFor watching gate = IsOpenAs (opening_at watching.port watching.planning.slot) gate.told

-- what prevents a client from watching a film: no connection at the port; out of memory, and then
-- the gate is as it was; or the gate, which counted a fault and gave no connection
abbrev pub IsWatchError : WatchArgs → WorkerGate → WorkerGate → CliError → Type 0
IsWatchError watching gate gate' (Refused name NoConnection) =
    (name.now ≡ watching.film) × IsOpenFor watching gate' × HasPart gate'.told idle_part
    × IfSome gate'.told (IsOpenedOnce gate.told)
IsWatchError watching gate gate' NoMemory = gate' ≡ gate
IsWatchError watching gate gate' GateFault = HasRisen gate.faults gate'.faults
    × IfSome gate'.told (IsOpenedOnce gate.told) × IfSome gate'.told (HasTooFewParts 2)
IsWatchError watching gate gate' _ = ⊥

-- a server's fault, as the refusal of the film
abbrev pub IsRefusalOf : List ℕ → WatchFault → CliError → Type 0
IsRefusalOf film fault (Refused name refusal) = (name.now ≡ film) × (refusal ≡ refusal_of fault)
IsRefusalOf film fault _ = ⊥

-- what the meter of the client's buffer read, in numbers of 64 bits, was said, or after a fault
-- there a prefix of it
pub record PrintsWatched (err err' : IoState (List ℕ)) (watched : Watched) (ended : Ended) : Type 0
  where
    pub status : ended.status ≡ 0
    pub no_plan : ended.plan ≡ None
    pub short : IsShortWatched watched
    pub whole : Bool
    pub said : IsTextWritten err.faults err'.faults err.told err'.told (watched_text watched) whole

-- what was said of a watching
abbrev pub WatchEndSpec : IoState (List ℕ) → IoState (List ℕ) → List ℕ → WatchEnd → Ended → Type 0
WatchEndSpec err err' film (WatchDone watched) ended = PrintsWatched err err' watched ended
WatchEndSpec err err' film (WatchFailed fault) ended =
    (error : CliError) × (IsRefusalOf film fault error × FailsWith err err' error ended)
WatchEndSpec err err' film WatchLinkFault ended = FailsWith err err' LinkFault ended
WatchEndSpec err err' film WatchSinkFault ended = FailsWith err err' SinkFault ended
WatchEndSpec err err' film WatchNoMemory ended = FailsWith err err' NoMemory ended

-- a client that watched a film over the one connection of a gate that was opened once, as the
-- arguments say
pub record HasWatchedFilm (streams : Streams) (gate gate' : WorkerGate) (watching : WatchArgs)
    (ended : Ended) : Type 0 where
  pub wish : Wish
  pub wish_is : IsWishOf watching wish
  pub open_as : IsOpenFor watching gate'
  pub once : IfSome gate'.told (IsOpenedOnce gate.told)
  pub end : WatchEnd
  pub heard : HasHeardFilm wish gate'.told streams.out streams.out_after end
  pub nothing : HasServedNothing ended
  pub ends : WatchEndSpec streams.err streams.err_after watching.film end ended

-- a client: what kept it from the film, and then nothing was written; or it watched it
abbrev pub WatchSpec : Streams → WorkerGate → WorkerGate → WatchArgs → Ended → Type 0
WatchSpec s gate gate' watching ended =
    ((error : CliError)
    × (IsWatchError watching gate gate' error × (s.out_after ≡ s.out)
    × HasServedNothing ended × FailsWith s.err s.err_after error ended))
    ⊎ HasWatchedFilm s gate gate' watching ended

-- one definition for each command
abbrev pub CommandSpec : World → World → List ℕ → Invocation → Ended → Type 0
CommandSpec before after seed help ended =
    (after.store ≡ before.store) × PrintSpec before after help ended
CommandSpec before after seed version ended =
    (after.store ≡ before.store) × PrintSpec before after version ended
CommandSpec before after seed (plan_of viewer) ended = PrintSpec before after (plan_of viewer) ended
CommandSpec before after seed (check_of viewer cert) ended =
    PrintSpec before after (check_of viewer cert) ended
CommandSpec before after seed (make_of kind number pictures) ended =
    (after.store ≡ before.store) × PrintSpec before after (make_of kind number pictures) ended
CommandSpec before after seed (scan_of film) ended = PrintSpec before after (scan_of film) ended
CommandSpec before after seed (day_of run) ended =
    (after.gate ≡ before.gate)
    × DaySpec before.store after.store (streams_of before after) run ended
CommandSpec before after seed (fair_of run) ended =
    (after.gate ≡ before.gate) × (after.store ≡ before.store)
    × FairSpec (streams_of before after) run ended
CommandSpec before after seed (watch_of watching) ended =
    (after.store ≡ before.store)
    × WatchSpec (streams_of before after) before.gate after.gate watching ended
CommandSpec before after seed (serve_of serving) ended = ServeSpec before after seed serving ended

-- the library is as it was, and what the arguments ask for was done, if they mean something
pub record RunSpec (before after : World) (seed : List ℕ) (asked : Option Invocation)
    (ended : Ended) : Type 0 where
  pub library : IsLibraryUnchanged before.store.told after.store.told before.store.faults
      after.store.faults
  pub output : before.out.faults ≤ after.out.faults
  pub gate : before.gate.faults ≤ after.gate.faults
  pub does : ((order : Invocation) × ((asked ≡ Some order) × CommandSpec before after seed order
      ended))
      ⊎ ((asked ≡ None) × IsUsage before after ended)
