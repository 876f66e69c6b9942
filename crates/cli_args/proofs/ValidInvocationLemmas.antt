-- What arguments mean may be asked.
use Rattle.std.proofs.Common.{◌≡◌, ℕ, ◌+◌, ◌≤◌, ◌&&◌, ◌==◌, All, List, [], ◌∷◌, ◌++◌, length, subst, arith, Option}
use Rattle.std.proofs.Common.{Some, None, Bool, true, false, refl, codes, if◌then◌else◌, nat_le, nat_lt, length-append}
use Rattle.std.specs.Int.{IsInRange}
use Rattle.std.specs.List.{fold, list_all, position_or_len, slice_split}
use Rattle.std.specs.Option.{option_and_then}
use Rattle.std.specs.Prelude.{option_map}
use Rattle.std.specs.Str.{bytes_eq}
use Rattle.std.proofs.lemmas.Bool.{and_parts, le-leb, leb-true}
use Rattle.std.proofs.lemmas.List.Elements.{All-nil, All-push}
use Rattle.std.proofs.lemmas.List.Splits.{length-slice_split}
use Rattle.std.proofs.lemmas.Option.{none-some, same_Some}
use Rattle.vod_base.specs.Names.{good_name}
use Rattle.vod_base.specs.Numbers.{number_of}
use Rattle.slot_calendar.specs.declared.profiles.CapStep.{CapStep}
use Rattle.vod_base.specs.Limits.{in_range}
use Rattle.vod_base.specs.declared.links.TheConstants.{LATEST_SLOT}
use Rattle.slot_calendar.specs.declared.profiles.TheConstants.{MAX_CAPACITY}
use Rattle.cli_args.specs.declared.capacities.TheConstants.{DEFAULT_CAPACITY}
use Rattle.cli_args.specs.Settings.{number_or, one_name, one_number, values_of}
use Rattle.cli_args.specs.Capacities.{IsStepPrefix, capacity_of, flat_steps, may_follow, one_capacity, add_step_text}
use Rattle.cli_args.specs.Capacities.{add_step, step_of, steps_of}
use Rattle.cli_args.specs.KeyValues.{film_given, buffer_given, delay_given, slot_given, journal_given, port_given}
use Rattle.cli_args.specs.Subcommands.{subcommand_named, is_setting_of}
use Rattle.cli_args.specs.declared.subcommands.Subcommand.{Subcommand}
use Rattle.cli_args.specs.declared.subcommands.Subcommand.TheVariants.{Plan, Check, Scan, Make, Day, Fair, Serve, Watch}
use Rattle.cli_args.specs.Invocations.{PlanSource, trace_source, film_source, ClientParams, ServeArgs, ScriptRun}
use Rattle.cli_args.specs.Invocations.{WatchArgs, Invocation, help, version, plan_of, scan_of, day_of, fair_of}
use Rattle.cli_args.specs.Invocations.{serve_of, watch_of, command_invocation, lone_invocation, source_of, client_given}
use Rattle.cli_args.specs.Invocations.{script_run_given, fair_run_given, listen_given, planning_given, serve_args_given}
use Rattle.cli_args.specs.Invocations.{watch_args_given, invocation_given, invocation_from}
use Rattle.cli_args.specs.ArgumentText.{IsCapacity, IsValidBuffer, IsValidDelay, IsValidPort, IsValidSlot}
use Rattle.cli_args.specs.ArgumentText.{IsValidJournal, AreValidFilms, IsValidSource, IsValidClient, ArePlanSettings}
use Rattle.cli_args.specs.ArgumentText.{AreListenSettings, AreServeArgs, IsValidScriptRun, IsValidFairRun, AreWatchArgs}
use Rattle.cli_args.specs.ArgumentText.{IsValidInvocation}
use Rattle.cli_args.specs.declared.invocations.ListenSettings.{ListenSettings}
use Rattle.cli_args.specs.declared.invocations.PlanSettings.{PlanSettings}
use Rattle.cli_args.specs.declared.invocations.FairRun.{FairRun}
use Rattle.cli_args.proofs.CapacityLemmas.{front_more, profile_of, step_parts}
use Rattle.cli_args.proofs.FilmLemmas.{films_asked}
use Rattle.cli_args.proofs.SettingGroupLemmas.{last_step_found, step_found, test_passes, viewer_keys, pace_keys}
use Rattle.cli_args.proofs.SettingGroupLemmas.{listening_keys, script_run_keys, fair_run_keys, serving_keys}
use Rattle.cli_args.proofs.SettingGroupLemmas.{watching_keys, check_keys, make_keys}

-- ---- one value
between_found : {least most n : ℕ} (o : Option ℕ) → in_range least most o ≡ Some n → IsInRange least most n
between_found None e = absurd (none-some _ e)
between_found {least} {most} {n} (Some m) e =
    let found = test_passes (nat_le least m && nat_le m most) (Some m) n e in
    let parts = and_parts (nat_le least m) (nat_le m most) found.0 in
    subst (IsInRange least most) (same_Some m n found.1) (leb-true least m parts.0, leb-true m most parts.1)

one_between : {least most n : ℕ} (values : List (List ℕ)) → one_number least most values ≡ Some n
    → IsInRange least most n
one_between [] e = absurd (none-some _ e)
one_between (value ∷ []) e = between_found (number_of value) e
one_between (value ∷ other ∷ others) e = absurd (none-some _ e)

or_between : {default least most n : ℕ} (values : List (List ℕ)) → IsInRange least most default
    → number_or default least most values ≡ Some n → IsInRange least most n
or_between {default} {least} {most} {n} [] inside e = subst (IsInRange least most) (same_Some default n e) inside
or_between {default} {least} {most} {n} (value ∷ values) inside e = one_between (value ∷ values) e

name_found : (name : List ℕ) (values : List (List ℕ)) → one_name values ≡ Some name → good_name name ≡ true
name_found name [] e = absurd (none-some _ e)
name_found name (value ∷ []) e =
    let found = test_passes (good_name value) (Some value) name e in
    subst (λ (n : List ℕ). good_name n ≡ true) (same_Some value name found.1) found.0
name_found name (value ∷ other ∷ others) e = absurd (none-some _ e)

-- ---- a capacity
-- steps that were read so far
record AreRead (steps : List CapStep) : Type 0 where
  front : IsStepPrefix steps
  early : All (λ step. step.from ≤ LATEST_SLOT) steps

none_read : AreRead []
none_read = record {
  front = record {
    few = omega arith;
    first = λ some. absurd (omega (arith, some));
    ascend = λ i inside. absurd (omega (arith, inside));
    small = λ i inside. absurd (omega (arith, inside));
  };
  early = All-nil (λ (step : CapStep). step.from ≤ LATEST_SLOT);
}

one_read : (steps : List CapStep) (step : CapStep) → AreRead steps → may_follow steps step ≡ true
    → AreRead (steps ++ step ∷ [])
one_read steps step read may = record {
  front = front_more steps step read.front may;
  early = All-push (λ (s : CapStep). s.from ≤ LATEST_SLOT) steps step read.early
      (leb-true step.from LATEST_SLOT (step_parts steps step may).2);
}

some_read : (steps : List CapStep) → AreRead steps → 1 ≤ length steps → IsCapacity steps
some_read steps read some = (profile_of steps read.front some, read.early)

-- nothing comes of parts after one that writes no step
none_after : (parts : List (List ℕ)) (steps : List CapStep) → fold add_step_text None parts ≡ Some steps → ⊥
none_after [] steps e = none-some _ e
none_after (part ∷ parts) steps e = none_after parts steps e

-- the step of a part that others follow
part_found : (front : List CapStep) (o : Option CapStep) (parts : List (List ℕ)) (steps : List CapStep) →
    fold add_step_text (add_step front o) parts ≡ Some steps →
    (step : CapStep) × (may_follow front step ≡ true)
    × (fold add_step_text (Some (front ++ step ∷ [])) parts ≡ Some steps)
part_found front None parts steps e = absurd (none_after parts steps e)
part_found front (Some step) parts steps e = by (may_follow front step) refl e
  where
    by : (taken : Bool) → may_follow front step ≡ taken →
        fold add_step_text (if taken then Some (front ++ step ∷ []) else None) parts ≡ Some steps →
        (s : CapStep) × (may_follow front s ≡ true) × (fold add_step_text (Some (front ++ s ∷ [])) parts ≡ Some steps)
    by false may e = absurd (none_after parts steps e)
    by true may e = (step, may, e)

parts_read : (front : List CapStep) (parts : List (List ℕ)) (steps : List CapStep) → AreRead front →
    fold add_step_text (Some front) parts ≡ Some steps →
    AreRead steps × (length front + length parts ≤ length steps)
parts_read front [] steps read e =
    subst (λ (ss : List CapStep). AreRead ss × (length front + 0 ≤ length ss)) (same_Some front steps e)
    (read, omega arith)
parts_read front (part ∷ parts) steps read e =
    let next = part_found front (step_of part) parts steps e in
    let rest = parts_read (front ++ next.0 ∷ []) parts steps (one_read front next.0 read next.1) next.2 in
    (rest.0, omega (arith, rest.1, length-append front (next.0 ∷ [])))

steps_read : (text : List ℕ) (steps : List CapStep) → steps_of text ≡ Some steps → IsCapacity steps
steps_read text steps e =
    let read = parts_read [] (slice_split (λ b. b == 44) text) steps none_read e in
    some_read steps read.0 (omega (arith, read.1, length-slice_split (λ b. b == 44) text))

flat_capacity : (bytes : ℕ) → bytes ≤ MAX_CAPACITY → IsCapacity (flat_steps bytes)
flat_capacity bytes fits =
    some_read (flat_steps bytes)
    (one_read [] (record { from = 0; bytes = bytes }) none_read (le-leb bytes MAX_CAPACITY fits)) (omega arith)

text_capacity : (text : List ℕ) (steps : List CapStep) → capacity_of text ≡ Some steps → IsCapacity steps
text_capacity text steps e = by (nat_lt (position_or_len (λ b. b == 58) text) (length text)) e
  where
    by : (many : Bool)
        → (if many then steps_of text else option_map flat_steps (in_range 1 MAX_CAPACITY (number_of text)))
        ≡ Some steps → IsCapacity steps
    by true e = steps_read text steps e
    by false e =
        let bytes = last_step_found flat_steps (in_range 1 MAX_CAPACITY (number_of text)) steps e in
        subst IsCapacity bytes.2 (flat_capacity bytes.0 (between_found (number_of text) bytes.1).1)

capacity_asked : (steps : List CapStep) (values : List (List ℕ)) → one_capacity values ≡ Some steps
    → IsCapacity steps
capacity_asked steps [] e =
    subst IsCapacity (same_Some (flat_steps DEFAULT_CAPACITY) steps e) (flat_capacity DEFAULT_CAPACITY (omega arith))
capacity_asked steps (value ∷ []) e = text_capacity value steps e
capacity_asked steps (value ∷ other ∷ others) e = absurd (none-some _ e)

-- ---- a group of keys
source_asked : (traces films slots : List (List ℕ)) (source : PlanSource)
    → source_of traces films slots ≡ Some source → IsValidSource source
source_asked [] films slots source e =
    let film = step_found _ (one_name films) source e in
    let slot =
    last_step_found (λ (slot : ℕ). film_source film.0 slot) _ source film.2 in
    subst IsValidSource slot.2 (name_found film.0 films film.1, or_between slots (omega arith, omega arith) slot.1)
source_asked (trace ∷ traces) [] [] source e =
    let name = last_step_found trace_source (one_name (trace ∷ traces)) source e in
    subst IsValidSource name.2 (name_found name.0 (trace ∷ traces) name.1)
source_asked (trace ∷ traces) [] (slot ∷ slots) source e = absurd (none-some _ e)
source_asked (trace ∷ traces) (film ∷ films) slots source e = absurd (none-some _ e)

buffer_asked : (words : List (List ℕ)) (buffer : ℕ) → buffer_given words ≡ Some buffer → IsValidBuffer buffer
buffer_asked words buffer e = or_between (values_of (codes "buffer") words) (omega arith, omega arith) e

delay_asked : (words : List (List ℕ)) (delay : ℕ) → delay_given words ≡ Some delay → IsValidDelay delay
delay_asked words delay e = or_between (values_of (codes "startup") words) (omega arith, omega arith) e

slot_asked : (words : List (List ℕ)) (slot : ℕ) → slot_given words ≡ Some slot → IsValidSlot slot
slot_asked words slot e = or_between (values_of (codes "slot") words) (omega arith, omega arith) e

journal_asked : (words : List (List ℕ)) (journal : ℕ) → journal_given words ≡ Some journal → IsValidJournal journal
journal_asked words journal e = or_between (values_of (codes "journal") words) (omega arith, omega arith) e

port_asked : (words : List (List ℕ)) (port : ℕ) → port_given words ≡ Some port → IsValidPort port
port_asked words port e = or_between (values_of (codes "port") words) (omega arith, omega arith) e

viewer_asked : (words : List (List ℕ)) (viewer : ClientParams) → client_given words ≡ Some viewer → IsValidClient viewer
viewer_asked words viewer e =
    let read = viewer_keys words viewer e in
    record {
      source = source_asked (values_of (codes "trace") words) (values_of (codes "film") words)
          (values_of (codes "slot") words) viewer.source read.source;
      buffer = buffer_asked words viewer.buffer read.buffer;
      delay = delay_asked words viewer.delay read.delay;
    }

pace_asked : (words : List (List ℕ)) (planning : PlanSettings) → planning_given words ≡ Some planning → ArePlanSettings
    planning
pace_asked words planning e =
    let read = pace_keys words planning e in
    record {
      buffer = buffer_asked words planning.buffer read.buffer;
      delay = delay_asked words planning.delay read.delay;
      slot = slot_asked words planning.slot read.slot;
    }

listening_asked : (words : List (List ℕ)) (listening : ListenSettings) → listen_given words ≡ Some listening
    → AreListenSettings listening
listening_asked words listening e =
    let read = listening_keys words listening e in
    let most = (or_between (values_of (codes "connections") words) (omega arith, omega arith) read.connections).1 in
    record {
      port = port_asked words listening.port read.port;
      workers = or_between (values_of (codes "workers") words) (omega arith, omega arith) read.workers;
      connections = omega (arith, most);
    }

run_asked : (words : List (List ℕ)) (run : ScriptRun) → script_run_given words ≡ Some run → IsValidScriptRun run
run_asked words run e =
    let read = script_run_keys words run e in
    record {
      script = name_found run.script (values_of (codes "script") words) read.script;
      capacity = capacity_asked run.capacity (values_of (codes "capacity") words) read.capacity;
      journal = journal_asked words run.journal read.journal;
      slot = slot_asked words run.slot read.slot;
    }

draw_asked : (words : List (List ℕ)) (run : FairRun) → fair_run_given words ≡ Some run → IsValidFairRun run
draw_asked words run e =
    let read = fair_run_keys words run e in
    let most = (one_between (values_of (codes "seed") words) read.seed).1 in
    record {
      seed = omega (arith, most);
      plays = one_between (values_of (codes "plays") words) read.plays;
      capacity = capacity_asked run.capacity (values_of (codes "capacity") words) read.capacity;
    }

serving_asked : (words : List (List ℕ)) (serving : ServeArgs) → serve_args_given words ≡ Some serving → AreServeArgs
    serving
serving_asked words serving e =
    let read = serving_keys words serving e in
    record {
      films = subst AreValidFilms read.films_are (films_asked (values_of (codes "film") words) read.films_pass);
      capacity = capacity_asked serving.capacity (values_of (codes "capacity") words) read.capacity;
      journal = journal_asked words serving.journal read.journal;
      listening = listening_asked words serving.listening read.listening;
      planning = pace_asked words serving.planning read.planning;
    }

watching_asked : (words : List (List ℕ)) (watching : WatchArgs) → watch_args_given words ≡ Some watching
    → AreWatchArgs watching
watching_asked words watching e =
    let read = watching_keys words watching e in
    record {
      film = name_found watching.film (values_of (codes "film") words) read.film;
      port = port_asked words watching.port read.port;
      planning = pace_asked words watching.planning read.planning;
    }

-- ---- a command
check_asked : (words : List (List ℕ)) (order : Invocation) → invocation_given Check words ≡ Some order →
    IsValidInvocation order
check_asked words order e =
    let read = check_keys words order e in
    subst IsValidInvocation read.order_is
    (viewer_asked words read.viewer read.viewer_is, name_found read.cert (values_of (codes "cert") words) read.cert_is)

make_asked : (words : List (List ℕ)) (order : Invocation) → invocation_given Make words ≡ Some order → IsValidInvocation
    order
make_asked words order e =
    let read = make_keys words order e in
    let most = (one_between (values_of (codes "seed") words) read.seed_is).1 in
    subst IsValidInvocation read.order_is
    (omega (arith, most), one_between (values_of (codes "pictures") words) read.pictures_are)

given_asked : (command : Subcommand) (words : List (List ℕ)) (order : Invocation)
    → invocation_given command words ≡ Some order → IsValidInvocation order
given_asked Plan words order e =
    let viewer = last_step_found plan_of (client_given words) order e in
    subst IsValidInvocation viewer.2 (viewer_asked words viewer.0 viewer.1)
given_asked Check words order e = check_asked words order e
given_asked Scan words order e =
    let film = last_step_found scan_of (film_given words) order e in
    subst IsValidInvocation film.2 (name_found film.0 (values_of (codes "film") words) film.1)
given_asked Make words order e = make_asked words order e
given_asked Day words order e =
    let run = last_step_found day_of (script_run_given words) order e in
    subst IsValidInvocation run.2 (run_asked words run.0 run.1)
given_asked Fair words order e =
    let run = last_step_found fair_of (fair_run_given words) order e in
    subst IsValidInvocation run.2 (draw_asked words run.0 run.1)
given_asked Serve words order e =
    let serving = last_step_found serve_of (serve_args_given words) order e in
    subst IsValidInvocation serving.2 (serving_asked words serving.0 serving.1)
given_asked Watch words order e =
    let watching = last_step_found watch_of (watch_args_given words) order e in
    subst IsValidInvocation watching.2 (watching_asked words watching.0 watching.1)

lone_asked : (lone : Invocation) (words : List (List ℕ)) (order : Invocation) → IsValidInvocation lone
    → lone_invocation lone words ≡ Some order → IsValidInvocation order
lone_asked lone [] order may e = subst IsValidInvocation (same_Some lone order e) may
lone_asked lone (word ∷ words) order may e = absurd (none-some _ e)

command_asked : (first : List ℕ) (words : List (List ℕ)) (order : Invocation)
    → option_and_then (command_invocation words) (subcommand_named first) ≡ Some order → IsValidInvocation order
command_asked first words order e =
    let command = step_found (command_invocation words) (subcommand_named first) order e in
    given_asked command.0 words order
    (test_passes (list_all (is_setting_of command.0) words) (invocation_given command.0 words) order command.2).1

-- what arguments mean may be asked
pub order_asked : (words : List (List ℕ)) (order : Invocation) → invocation_from words ≡ Some order → IsValidInvocation
    order
order_asked [] order e = absurd (none-some _ e)
order_asked (first ∷ words) order e = by (bytes_eq first (codes "--help")) (bytes_eq first (codes "--version")) e
  where
    by : (helps tells : Bool) →
        (if helps then lone_invocation help words else if tells then lone_invocation version words else option_and_then
        (command_invocation words) (subcommand_named first)) ≡ Some order →
        IsValidInvocation order
    by true tells e = lone_asked help words order tt e
    by false true e = lone_asked version words order tt e
    by false false e = command_asked first words order e
