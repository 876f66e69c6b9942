-- What keeps the program from its work names inputs by good names.
use Rattle.std.proofs.Common.{◌≡◌, ℕ, true, List, Option, Result, Ok, Err, sym, subst}
use Rattle.std.specs.Prelude.{IfErr}
use Rattle.std.specs.List.{Contains}
use Rattle.vod_base.specs.Names.{good_name}
use Rattle.vod_base.specs.IoState.{File}
use Rattle.cli_args.specs.InvocationViews.{source_name}
use Rattle.cli_args.specs.ArgumentText.{IsValidSource, IsValidClient}
use Rattle.cli_args.specs.Invocations.{Invocation, PlanSource, ClientParams, are_films, film_source, scan_of}
use Rattle.cli_args.specs.Invocations.{trace_source}
use Rattle.cli_args.proofs.FilmLemmas.{films_asked}
use Rattle.cli_errors.specs.ErrorReports.{HasGoodName}
use Rattle.cli_errors.specs.declared.errors.CliError.{CliError}
use Rattle.cli_errors.specs.declared.errors.CliError.TheVariants.{Usage, Refused, StoreFault, SinkFault, NoMemory}
use Rattle.cli_errors.specs.declared.errors.CliError.TheVariants.{GateFault, LinkFault}
use Rattle.cli_errors.proofs.ReadErrorLemmas.{Causes, IsTroubleOf, good_input}
use Rattle.offline_commands.specs.OfflineCommands.{IsInputRefused, IsListedOrFailed, IsRead}
use Rattle.offline_commands.specs.declared.command_output.CommandOutput.{CommandOutput}
use Rattle.vodserve.specs.Workers.{IsMakeWorkersError}
use Rattle.vodserve.proofs.FilmLoadLemmas.{Keeps, ServingRun}

source_named : (source : PlanSource) → IsValidSource source → good_name (source_name source) ≡ true
source_named (trace_source name) may = may
source_named (film_source name slot) may = may.0

-- the trace or film of a client's words has a good name
pub viewer_named : (viewer : ClientParams) → IsValidClient viewer → good_name (source_name viewer.source) ≡ true
viewer_named viewer may = source_named viewer.source may.source

-- what the error of a command may come from
abbrev pub causes_of : Option (List File) → ℕ → ℕ → Invocation → Causes
causes_of told faults faults' order = record {
  Reads = IsRead order;
  Refuses = IsInputRefused order;
  told = told;
  before = faults;
  after = faults';
}

-- where the inputs of a command have good names, so has the one that its error names
pub good_result : (causes : Causes) (result : Result CommandOutput CliError) →
    ((name : List ℕ) → causes.Reads name → good_name name ≡ true) → IfErr result (IsTroubleOf causes) →
    IfErr result HasGoodName
good_result causes (Ok done) good is = tt
good_result causes (Err error) good is = good_input causes error good is

-- so has the one that the error of a scan names
pub good_listing : (film : List ℕ) (told : Option (List File)) (reads reads' faults faults' : ℕ)
    (out out' : Option (List ℕ)) (result : Result (Unit {0}) CliError) → good_name film ≡ true →
    IsListedOrFailed film told reads reads' faults faults' out out' result → IfErr result HasGoodName
good_listing film told reads reads' faults faults' out out' (Ok done) good is = tt
good_listing film told reads reads' faults faults' out out' (Err SinkFault) good is = tt
good_listing film told reads reads' faults faults' out out' (Err NoMemory) good is = tt
good_listing film told reads reads' faults faults' out out' (Err Usage) good is = absurd is.0
good_listing film told reads reads' faults faults' out out' (Err GateFault) good is = absurd is.0
good_listing film told reads reads' faults faults' out out' (Err LinkFault) good is = absurd is.0
good_listing film told reads reads' faults faults' out out' (Err (Refused name fault)) good is =
    good_input (causes_of told reads reads' (scan_of film)) (Refused name fault)
    (λ n named. subst (λ (m : List ℕ). good_name m ≡ true) (sym named) good) is.0
good_listing film told reads reads' faults faults' out out' (Err (StoreFault name)) good is =
    good_input (causes_of told reads reads' (scan_of film)) (StoreFault name)
    (λ n named. subst (λ (m : List ℕ). good_name m ≡ true) (sym named) good) is.0

-- out of memory names no input
pub nameless : (result : Result CommandOutput CliError) → IfErr result (λ error. error ≡ NoMemory) → IfErr result
    HasGoodName
nameless (Ok done) is = tt
nameless (Err error) is = subst HasGoodName (sym is) tt

-- a film of a server's words has a good name
film_named : {name : List ℕ} (films : List (List ℕ)) → are_films films ≡ true → Contains films name →
    good_name name ≡ true
film_named {name} films are (k, inside, at) =
    subst (λ (n : List ℕ). good_name n ≡ true) at ((films_asked films are).good k name inside)

-- what keeps a server from its work names a film of its words, if it names an input
pub good_serve_trouble : (served : ServingRun) (error : CliError) → are_films served.serving.films ≡ true →
    Keeps served error → HasGoodName error
good_serve_trouble served Usage are is = tt
good_serve_trouble served (Refused name fault) are is = film_named served.serving.films are is.0.0
good_serve_trouble served (StoreFault name) are is = film_named served.serving.films are is.0.0
good_serve_trouble served SinkFault are is = tt
good_serve_trouble served NoMemory are is = tt
good_serve_trouble served GateFault are is = tt
good_serve_trouble served LinkFault are is = tt

-- seats and parts that can't be made name none
pub good_make_trouble : (faults faults' : ℕ) (error : CliError) → IsMakeWorkersError faults faults' error →
    HasGoodName error
good_make_trouble faults faults' Usage is = tt
good_make_trouble faults faults' (Refused name fault) is = absurd is
good_make_trouble faults faults' (StoreFault name) is = absurd is
good_make_trouble faults faults' SinkFault is = tt
good_make_trouble faults faults' NoMemory is = tt
good_make_trouble faults faults' GateFault is = tt
good_make_trouble faults faults' LinkFault is = tt
