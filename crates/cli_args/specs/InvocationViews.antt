-- The invocations that the program reads from its arguments, as their meaning.
use Rattle.std.specs.Prelude.{ℕ, List, codes}
use Rattle.cli_args.specs.Settings.{texts, values_of}
use Rattle.cli_args.specs.Invocations.{PlanSource, trace_source, film_source, ClientParams}
use Rattle.cli_args.specs.Invocations.{ServeArgs, ScriptRun, WatchArgs, Invocation, help, version}
use Rattle.cli_args.specs.Invocations.{plan_of, check_of, scan_of, make_of, day_of, fair_of}
use Rattle.cli_args.specs.Invocations.{serve_of, watch_of}
use Rattle.cli_args.specs.declared.invocations.Invocation.{Invocation as OrderRead}
use Rattle.cli_args.specs.declared.invocations.Invocation.TheVariants.{Help, Version, Plan, Check}
use Rattle.cli_args.specs.declared.invocations.Invocation.TheVariants.{Scan, Make, Day, Fair, Serve}
use Rattle.cli_args.specs.declared.invocations.Invocation.TheVariants.{Watch}
use Rattle.cli_args.specs.declared.invocations.PlanSource.{PlanSource as SourceRead}
use Rattle.cli_args.specs.declared.invocations.PlanSource.TheVariants.{Trace, Film}
use Rattle.cli_args.specs.declared.invocations.ClientParams.{ClientParams as ViewerRead}
use Rattle.cli_args.specs.declared.invocations.ServeArgs.{ServeArgs as ServingRead}
use Rattle.cli_args.specs.declared.invocations.ScriptRun.{ScriptRun as ScriptRunRead}
use Rattle.cli_args.specs.declared.invocations.WatchArgs.{WatchArgs as WatchingRead}

abbrev pub source_name : PlanSource → List ℕ
source_name (trace_source name) = name
source_name (film_source name slot) = name

abbrev pub source_read : SourceRead → PlanSource
source_read (Trace name) = trace_source name.now
source_read (Film name slot) = film_source name.now slot

abbrev pub client_params_of : ViewerRead → ClientParams
client_params_of viewer = record {
  source = source_read viewer.source;
  buffer = viewer.buffer;
  delay = viewer.delay;
}

abbrev pub serve_args_of : ServingRead → ServeArgs
serve_args_of serving =
    record {
      films = values_of (codes "film") (texts serving.words.now);
      capacity = serving.capacity;
      journal = serving.journal;
      listening = serving.listening;
      planning = serving.planning;
    }

abbrev pub script_run_of : ScriptRunRead → ScriptRun
script_run_of run = record {
  script = run.script.now;
  capacity = run.capacity;
  journal = run.journal;
  slot = run.slot;
}

abbrev pub watch_args_of : WatchingRead → WatchArgs
watch_args_of watching =
    record { film = watching.film.now; port = watching.port; planning = watching.planning }

abbrev pub invocation_view : OrderRead → Invocation
invocation_view Help = help
invocation_view Version = version
invocation_view (Plan viewer) = plan_of (client_params_of viewer)
invocation_view (Check viewer cert) = check_of (client_params_of viewer) cert.now
invocation_view (Scan film) = scan_of film.now
invocation_view (Make kind seed pictures) = make_of kind seed pictures
invocation_view (Day run) = day_of (script_run_of run)
invocation_view (Fair run) = fair_of run
invocation_view (Serve serving) = serve_of (serve_args_of serving)
invocation_view (Watch watching) = watch_of (watch_args_of watching)
