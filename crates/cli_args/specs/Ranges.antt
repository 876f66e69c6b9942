-- What is known of an invocation that was read: good names of files, and numbers in their ranges.
use Rattle.std.specs.Prelude.{◌≡◌, true, codes}
use Rattle.vod_base.specs.Names.{good_name}
use Rattle.slot_calendar.specs.Profiles.{IsProfile}
use Rattle.cli_args.specs.Settings.{texts, values_of}
use Rattle.cli_args.specs.Invocations.{are_films}
use Rattle.cli_args.specs.InvocationViews.{source_read, client_params_of, watch_args_of}
use Rattle.cli_args.specs.ArgumentText.{IsValidJournal, ArePlanSettings, IsValidPictures}
use Rattle.cli_args.specs.ArgumentText.{IsValidPlays, IsValidSlot, IsValidSource, IsValidClient}
use Rattle.cli_args.specs.ArgumentText.{AreListenSettings, AreWatchArgs}
use Rattle.cli_args.specs.declared.invocations.Invocation.{Invocation}
use Rattle.cli_args.specs.declared.invocations.Invocation.TheVariants.{Help, Version, Plan, Check}
use Rattle.cli_args.specs.declared.invocations.Invocation.TheVariants.{Scan, Make, Day, Fair, Serve}
use Rattle.cli_args.specs.declared.invocations.Invocation.TheVariants.{Watch}
use Rattle.cli_args.specs.declared.invocations.PlanSource.{PlanSource}
use Rattle.cli_args.specs.declared.invocations.ClientParams.{ClientParams}
use Rattle.cli_args.specs.declared.invocations.ServeArgs.{ServeArgs}
use Rattle.cli_args.specs.declared.invocations.ScriptRun.{ScriptRun}
use Rattle.cli_args.specs.declared.invocations.FairRun.{FairRun}
use Rattle.cli_args.specs.declared.invocations.WatchArgs.{WatchArgs}

abbrev pub IsSourceInRange : PlanSource → Type 0
IsSourceInRange source = IsValidSource (source_read source)

abbrev pub IsClientInRange : ClientParams → Type 0
IsClientInRange viewer = IsValidClient (client_params_of viewer)

pub record AreServeArgsInRange (serving : ServeArgs) : Type 0 where
  pub films : are_films (values_of (codes "film") (texts serving.words.now)) ≡ true
  pub profile : IsProfile serving.capacity
  pub journal : IsValidJournal serving.journal
  pub listening : AreListenSettings serving.listening
  pub planning : ArePlanSettings serving.planning

pub record IsScriptRunInRange (run : ScriptRun) : Type 0 where
  pub named : good_name run.script.now ≡ true
  pub profile : IsProfile run.capacity
  pub journal : IsValidJournal run.journal
  pub slot : IsValidSlot run.slot

pub record IsFairRunInRange (run : FairRun) : Type 0 where
  pub plays : IsValidPlays run.plays
  pub profile : IsProfile run.capacity

abbrev pub AreWatchArgsInRange : WatchArgs → Type 0
AreWatchArgsInRange watching = AreWatchArgs (watch_args_of watching)

abbrev pub IsInvocationInRange : Invocation → Type 0
IsInvocationInRange Help = Unit {0}
IsInvocationInRange Version = Unit {0}
IsInvocationInRange (Plan viewer) = IsClientInRange viewer
IsInvocationInRange (Check viewer cert) = IsClientInRange viewer × (good_name cert.now ≡ true)
IsInvocationInRange (Scan film) = good_name film.now ≡ true
IsInvocationInRange (Make kind seed pictures) = IsValidPictures pictures
IsInvocationInRange (Day run) = IsScriptRunInRange run
IsInvocationInRange (Fair run) = IsFairRunInRange run
IsInvocationInRange (Serve serving) = AreServeArgsInRange serving
IsInvocationInRange (Watch watching) = AreWatchArgsInRange watching
