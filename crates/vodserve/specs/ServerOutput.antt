-- What a server prints and leaves.
use Rattle.std.specs.Prelude.{◌≡◌, ◌≢◌, ◌⊎◌, ℕ, ◌<◌, ◌≤◌, List, [], ◌∷◌, ◌++◌, length, codes}
use Rattle.std.specs.Prelude.{decimal, All, Option, Some, Result, Ok, Err, IfSome}
use Rattle.std.specs.List.{Contains}
use Rattle.vod_base.specs.IoState.{File, HasRisen, IsWrittenPrefix, told_more}
use Rattle.vod_base.specs.Gates.{Content}
use Rattle.vod_base.specs.declared.gates.Opening.{Opening}
use Rattle.admission.specs.declared.entries.Entry.{Entry}
use Rattle.admission.specs.Books.{places_taken}
use Rattle.admission.specs.Machine.{booked_in}
use Rattle.admission.specs.Histories.{IsLegal, state_after}
use Rattle.admission.specs.Makers.{AreHaltsOwn, entries_by}
use Rattle.conn.specs.Parts.{WorkerGate}
use Rattle.conn.specs.declared.reports.PartEnd.{PartEnd}
use Rattle.conn.specs.declared.reports.PartEnd.TheVariants.{AllTaken, GateFault as PartFault}
use Rattle.conn.specs.declared.reports.PartEnd.TheVariants.{NoMemory as PartNoMemory}
use Rattle.report.specs.JournalTexts.{journal_text}
use Rattle.report.specs.CalendarTexts.{calendar_text}
use Rattle.inputs.specs.LoadErrors.{IsServedFilmRefused}
use Rattle.cli_errors.specs.ReadErrors.{IsReadError}
use Rattle.cli_errors.specs.declared.errors.InputError.{InputError}
use Rattle.cli_errors.specs.declared.errors.CliError.{CliError}
use Rattle.cli_errors.specs.declared.errors.CliError.TheVariants.{Refused, StoreFault, SinkFault}
use Rattle.cli_errors.specs.declared.errors.CliError.TheVariants.{NoMemory, GateFault}
use Rattle.cli_args.specs.Settings.{setting_value}
use Rattle.cli_args.specs.Invocations.{ServeArgs}
use Rattle.vodserve.specs.IoStates.{IoState}
use Rattle.vodserve.specs.WorkerResults.{HasTooFewParts, IsOpenedOnce, MayBeServed}

-- how many connections were served, and how many entries the journal has
abbrev pub last_line : ℕ → ℕ → List ℕ
last_line connections entries =
    codes "served connections=" ++ decimal connections ++ codes " entries=" ++ decimal entries
    ++ codes "\n"

-- the journal, what is booked from the machine's now on, and the last line
abbrev pub served_text : List Entry → ℕ → List ℕ
served_text entries connections =
    journal_text 0 entries
    ++ calendar_text (state_after entries).now (booked_in (state_after entries))
    ++ last_line connections (length entries)

-- the journal of a closed server: a legal history over its capacity, in which each play is halted
-- by its own maker, with entries of the seats 1 up to that of the last worker alone; its entries,
-- with one for the halt of each open play, are no more than the arguments allow
pub record IsJournal (serving : ServeArgs) (entries : List Entry) : Type 0 where
  pub legal : IsLegal serving.capacity entries
  pub few : places_taken entries ≤ serving.journal
  pub halts : AreHaltsOwn entries
  pub first : entries_by 0 entries ≡ []
  pub others : (maker : ℕ) → serving.listening.workers < maker → entries_by maker entries ≡ []

-- a server whose workers didn't run: its films may be served, the gate was opened once, and of
-- fewer parts than workers none gave a connection
pub record HasOnlyOpened (serving : ServeArgs) (store : Option (List File))
    (gate gate' : Option Content) : Type 0 where
  pub accepted : (held : List File) → store ≡ Some held → All (MayBeServed held) serving.films
  pub once : IfSome gate' (IsOpenedOnce gate)
  pub few : IfSome gate' (HasTooFewParts serving.listening.workers)

-- the first film of these names that is refused: each before it may be served
pub record IsFirstRefused (names : List (List ℕ)) (held : List File) (name : List ℕ)
    (fault : InputError) : Type 0 where
  pub before : List (List ℕ)
  pub rest : List (List ℕ)
  pub names_are : names ≡ before ++ name ∷ rest
  pub accepted : All (MayBeServed held) before
  pub refused : IsServedFilmRefused held name fault

-- the first film that is refused, in the order of the arguments, or a fault of the library
abbrev pub IsFilmError : ServeArgs → IoState (List File) → IoState (List File) → CliError → Type 0
IsFilmError serving store store' =
    IsReadError (Contains serving.films) (IsFirstRefused serving.films) store.told store.faults
    store'.faults

-- what prevents a server from serving: a film that is refused, or the library, and then the gate is
-- as it was; out of memory; or the gate, which counted a fault. No part of the gate gave a
-- connection
abbrev pub IsServeError : ServeArgs → IoState (List File) → IoState (List File) → WorkerGate →
    WorkerGate →
    CliError → Type 0
IsServeError serving store store' gate gate' (Refused name fault) =
    IsFilmError serving store store' (Refused name fault) × (gate' ≡ gate)
IsServeError serving store store' gate gate' (StoreFault name) =
    IsFilmError serving store store' (StoreFault name) × (gate' ≡ gate)
IsServeError serving store store' gate gate' NoMemory =
    (gate' ≡ gate) ⊎ HasOnlyOpened serving store.told gate.told gate'.told
IsServeError serving store store' gate gate' GateFault =
    HasRisen gate.faults gate'.faults × HasOnlyOpened serving store.told gate.told gate'.told
IsServeError serving store store' gate gate' _ = ⊥

-- a gate that was opened in this way, and not split since
abbrev pub IsNewlyOpen : Opening → Option Content → Type 0
IsNewlyOpen opening told =
    IfSome told (λ content. (content.opening ≡ Some opening) × (content.parts ≡ []))

-- the name that a word gives to the key `film`
abbrev pub IsWordNamed : List ℕ → List ℕ → Type 0
IsWordNamed word name = setting_value (codes "film") word ≡ Some name

-- the text was written completely and each part of the gate gave all its connections; or what went
-- wrong: out of memory left a prefix of it; where no worker ran out of memory a fault of the
-- output, which was counted, left a prefix of it; else a part of the gate failed
abbrev pub IsPrinted : IoState (List ℕ) → IoState (List ℕ) → List ℕ → PartEnd →
    Result (Unit {0}) CliError → Type 0
IsPrinted out out' text end (Ok done) = (out'.told ≡ told_more out.told text) × (end ≡ AllTaken)
IsPrinted out out' text end (Err SinkFault) =
    HasRisen out.faults out'.faults × IsWrittenPrefix out.told out'.told text × (end ≢ PartNoMemory)
IsPrinted out out' text end (Err NoMemory) = IsWrittenPrefix out.told out'.told text
IsPrinted out out' text end (Err GateFault) =
    (out'.told ≡ told_more out.told text) × (end ≡ PartFault)
IsPrinted out out' text end (Err _) = ⊥
