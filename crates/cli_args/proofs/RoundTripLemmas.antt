-- The arguments of an invocation mean that invocation.
use Rattle.std.proofs.Common.{◌≡◌, ℕ, ◌<◌, ◌^◌, List, [], ◌∷◌, map, ap, ◌∙◌, arith, Option, Some, None, Bool, true}
use Rattle.std.proofs.Common.{false, refl, codes, decimal, if◌then◌else◌}
use Rattle.std.specs.Option.{option_and_then}
use Rattle.std.specs.Prelude.{option_map}
use Rattle.std.specs.Str.{bytes_eq}
use Rattle.std.proofs.lemmas.List.{append-nil}
use Rattle.vod_base.specs.Names.{good_name}
use Rattle.slot_calendar.specs.declared.profiles.CapStep.{CapStep}
use Rattle.cli_args.specs.Settings.{values_of, one_name}
use Rattle.cli_args.specs.KeyValues.{film_given, cert_given, script_given, buffer_given, delay_given, slot_given}
use Rattle.cli_args.specs.KeyValues.{capacity_given, journal_given, port_given, workers_given, connections_given}
use Rattle.cli_args.specs.KeyValues.{seed_given, pictures_given, plays_given, one_kind, one_bind}
use Rattle.cli_args.specs.Subcommands.{keys_of}
use Rattle.cli_args.specs.declared.subcommands.Subcommand.{Subcommand}
use Rattle.cli_args.specs.declared.subcommands.Subcommand.TheVariants.{Plan, Check, Scan, Make, Day, Fair, Serve, Watch}
use Rattle.cli_args.specs.Invocations.{PlanSource, trace_source, film_source, ClientParams, ServeArgs, ScriptRun}
use Rattle.cli_args.specs.Invocations.{WatchArgs, Invocation, help, version, plan_of, check_of, scan_of, make_of}
use Rattle.cli_args.specs.Invocations.{day_of, fair_of, serve_of, watch_of, source_of, source_given, client_given}
use Rattle.cli_args.specs.Invocations.{check_given, make_given, script_run_given, fair_run_given, listen_given}
use Rattle.cli_args.specs.Invocations.{planning_given, serve_args_given, watch_args_given, invocation_given}
use Rattle.cli_args.specs.Invocations.{command_invocation, invocation_from}
use Rattle.cli_args.specs.ArgumentText.{Setting, setting_text, settings_of, args_of, film_setting, server_settings}
use Rattle.cli_args.specs.ArgumentText.{client_settings, kind_name, bind_text, steps_text, IsCapacity, IsValidBuffer}
use Rattle.cli_args.specs.ArgumentText.{IsValidDelay, IsValidPort, IsValidPictures, IsValidSlot, IsValidJournal}
use Rattle.cli_args.specs.ArgumentText.{IsValidSource, IsValidClient, ArePlanSettings, AreListenSettings, AreServeArgs}
use Rattle.cli_args.specs.ArgumentText.{IsValidScriptRun, IsValidFairRun, AreWatchArgs, IsValidInvocation}
use Rattle.cli_args.specs.declared.invocations.MediaKind.{MediaKind}
use Rattle.cli_args.specs.declared.invocations.MediaKind.TheVariants.{Film, Trace, System}
use Rattle.cli_args.specs.declared.invocations.ListenSettings.{ListenSettings}
use Rattle.cli_args.specs.declared.invocations.PlanSettings.{PlanSettings}
use Rattle.cli_args.specs.declared.invocations.FairRun.{FairRun}
use Rattle.cli_args.proofs.FilmLemmas.{films_back}
use Rattle.cli_args.proofs.SettingLemmas.{picked, are_plain, are_among, values_read, words_read, films_plain}
use Rattle.cli_args.proofs.SettingLemmas.{films_among, picked_films, picked_past}
use Rattle.cli_args.proofs.ArgumentTextLemmas.{key_or, key_one, name_back, capacity_back}

-- settings that are read, with what each key is given
abbrev given : List Setting → List (List ℕ)
given settings = map setting_text settings

-- a value after another that was found
then_is : {A B : Type 0} (f : A → Option B) (o : Option A) (a : A) (b : Option B) → o ≡ Some a → f a ≡ b
    → option_and_then f o ≡ b
then_is f o a b found rest = ap (option_and_then f) found ∙ rest

-- the numbers that settings give to a client
pub record GivesPace (words : List (List ℕ)) (bytes slots : ℕ) : Type 0 where
  pub buffer : buffer_given words ≡ Some bytes
  pub delay : delay_given words ≡ Some slots

pace_read : {buffer delay : ℕ} (settings : List Setting) → are_plain settings ≡ true →
    picked (codes "buffer") settings ≡ decimal buffer ∷ [] →
    picked (codes "startup") settings ≡ decimal delay ∷ [] → IsValidBuffer buffer
    → IsValidDelay delay → GivesPace (given settings) buffer delay
pace_read {buffer} {delay} settings plain b s some few =
    record {
      buffer = key_or _ (values_read (codes "buffer") settings plain ∙ b) some (omega (arith, some.1));
      delay = key_or _ (values_read (codes "startup") settings plain ∙ s) few (omega (arith, few.1));
    }

slot_read : (settings : List Setting) (slot : ℕ) → are_plain settings ≡ true →
    picked (codes "slot") settings ≡ decimal slot ∷ [] →
    IsValidSlot slot → slot_given (given settings) ≡ Some slot
slot_read settings slot plain s within =
    key_or _ (values_read (codes "slot") settings plain ∙ s) within (omega (arith, within.1))

journal_read : (settings : List Setting) (journal : ℕ) → are_plain settings ≡ true →
    picked (codes "journal") settings ≡ decimal journal ∷ [] →
    IsValidJournal journal → journal_given (given settings) ≡ Some journal
journal_read settings journal plain j within =
    key_or _ (values_read (codes "journal") settings plain ∙ j) within (omega (arith, within.1))

capacity_read : (settings : List Setting) (steps : List CapStep) → are_plain settings ≡ true →
    picked (codes "capacity") settings ≡ steps_text steps ∷ [] →
    IsCapacity steps → capacity_given (given settings) ≡ Some steps
capacity_read settings steps plain c capacity =
    capacity_back steps (values_of (codes "capacity") (given settings))
    (values_read (codes "capacity") settings plain ∙ c) capacity

named_read : (key : List ℕ) (settings : List Setting) (name : List ℕ) → are_plain settings ≡ true →
    picked key settings ≡ name ∷ [] → good_name name ≡ true → one_name (values_of key (given settings)) ≡ Some name
named_read key settings name plain p good =
    name_back name (values_of key (given settings)) (values_read key settings plain ∙ p) good

port_read : (settings : List Setting) (port : ℕ) → are_plain settings ≡ true →
    picked (codes "port") settings ≡ decimal port ∷ [] →
    IsValidPort port → port_given (given settings) ≡ Some port
port_read settings port plain p within =
    key_or _ (values_read (codes "port") settings plain ∙ p) within (omega (arith, within.1))

-- a source, by what its keys are given
trace_read : {name : List ℕ} (settings : List Setting) → are_plain settings ≡ true
    → picked (codes "trace") settings ≡ name ∷ [] →
    picked (codes "film") settings ≡ [] → picked (codes "slot") settings ≡ [] → good_name name ≡ true
    → source_given (given settings) ≡ Some (trace_source name)
trace_read {name} settings plain t f s good =
    ap (λ (vs : List (List ℕ)). source_of vs (values_of (codes "film") (given settings))
    (values_of (codes "slot") (given settings))) (values_read (codes "trace") settings plain ∙ t)
    ∙ ap (λ (vs : List (List ℕ)). source_of (name ∷ []) vs (values_of (codes "slot") (given settings)))
    (values_read (codes "film") settings plain ∙ f)
    ∙ ap (λ (vs : List (List ℕ)). source_of (name ∷ []) [] vs) (values_read (codes "slot") settings plain ∙ s)
    ∙ ap (option_map trace_source) (name_back name (name ∷ []) refl good)

-- settings of a film, and of no trace
record PicksFilm (settings : List Setting) (name : List ℕ) (slot : ℕ) : Type 0 where
  trace : picked (codes "trace") settings ≡ []
  film : picked (codes "film") settings ≡ name ∷ []
  slot_is : picked (codes "slot") settings ≡ decimal slot ∷ []

film_read : {name : List ℕ} {slot : ℕ} (settings : List Setting) → are_plain settings ≡ true
    → PicksFilm settings name slot →
    good_name name ≡ true → IsValidSlot slot →
    source_given (given settings) ≡ Some (film_source name slot)
film_read {name} {slot} settings plain picks good within =
    ap (λ (vs : List (List ℕ)). source_of vs (values_of (codes "film") (given settings))
    (values_of (codes "slot") (given settings)))
    (values_read (codes "trace") settings plain ∙ picks.trace)
    ∙ then_is (λ (n : List ℕ). option_map (λ (k : ℕ). film_source n k)
    (slot_given (given settings)))
    (one_name (values_of (codes "film") (given settings))) name (Some (film_source name slot))
    (named_read (codes "film") settings name plain picks.film good)
    (ap (option_map (λ (k : ℕ). film_source name k)) (slot_read settings slot plain picks.slot_is within))

viewer_is : (words : List (List ℕ)) (source : PlanSource) (buffer delay : ℕ) → source_given words ≡ Some source →
    GivesPace words buffer delay →
    client_given words ≡ Some (record { source = source; buffer = buffer; delay = delay })
viewer_is words source buffer delay from planning = rw from (rw planning.buffer (rw planning.delay refl))

viewer_read : (viewer : ClientParams) → IsValidClient viewer → client_given (given (client_settings viewer)) ≡ Some
    viewer
viewer_read viewer may = by viewer.source viewer.buffer viewer.delay may.source may.buffer may.delay
  where
    by : (source : PlanSource) (buffer delay : ℕ) → IsValidSource source → IsValidBuffer buffer → IsValidDelay delay →
        client_given (given (client_settings (record { source = source; buffer = buffer; delay = delay })))
        ≡ Some (record { source = source; buffer = buffer; delay = delay })
    by (trace_source name) buffer delay good some few =
        let settings = client_settings (record { source = trace_source name; buffer = buffer; delay = delay }) in
        viewer_is (given settings) (trace_source name) buffer delay
        (trace_read settings refl refl refl refl good) (pace_read settings refl refl refl some few)
    by (film_source name slot) buffer delay good some few =
        let settings =
        client_settings (record { source = film_source name slot; buffer = buffer; delay = delay }) in
        viewer_is (given settings) (film_source name slot) buffer delay
        (film_read settings refl (record { trace = refl; film = refl; slot_is = refl }) good.0 good.1)
        (pace_read settings refl refl refl some few)

check_read : (viewer : ClientParams) (cert : List ℕ) → IsValidClient viewer → good_name cert ≡ true →
    check_given (given (settings_of (check_of viewer cert))) ≡ Some (check_of viewer cert)
check_read viewer cert may good = by viewer.source viewer.buffer viewer.delay may.source may.buffer may.delay
  where
    by : (source : PlanSource) (buffer delay : ℕ) → IsValidSource source → IsValidBuffer buffer → IsValidDelay delay →
        check_given (given
        (settings_of (check_of (record { source = source; buffer = buffer; delay = delay }) cert)))
        ≡ Some (check_of (record { source = source; buffer = buffer; delay = delay }) cert)
    by (trace_source name) buffer delay named some few =
        let viewer : ClientParams = record { source = trace_source name; buffer = buffer; delay = delay } in
        let settings = settings_of (check_of viewer cert) in
        let found = viewer_is (given settings) (trace_source name) buffer delay
        (trace_read settings refl refl refl refl named) (pace_read settings refl refl refl some few) in
        then_is (λ (v : ClientParams). option_map (λ (c : List ℕ). check_of v c) (cert_given (given settings)))
        (client_given (given settings)) viewer (Some (check_of viewer cert)) found
        (ap (option_map (λ (c : List ℕ). check_of viewer c))
        (named_read (codes "cert") settings cert refl refl good))
    by (film_source name slot) buffer delay named some few =
        let viewer : ClientParams = record { source = film_source name slot; buffer = buffer; delay = delay } in
        let settings = settings_of (check_of viewer cert) in
        let found = viewer_is (given settings) (film_source name slot) buffer delay
        (film_read settings refl (record { trace = refl; film = refl; slot_is = refl }) named.0 named.1)
        (pace_read settings refl refl refl some few) in
        then_is (λ (v : ClientParams). option_map (λ (c : List ℕ). check_of v c) (cert_given (given settings)))
        (client_given (given settings)) viewer (Some (check_of viewer cert)) found
        (ap (option_map (λ (c : List ℕ). check_of viewer c))
        (named_read (codes "cert") settings cert refl refl good))

make_read : (kind : MediaKind) (seed pictures : ℕ) → seed < 2 ^ 64 → IsValidPictures pictures →
    make_given (given (settings_of (make_of kind seed pictures))) ≡ Some (make_of kind seed pictures)
make_read kind seed pictures small within =
    let settings = settings_of (make_of kind seed pictures) in
    let kinds : one_kind (values_of (codes "kind") (given settings)) ≡ Some kind =
    ap one_kind (values_read (codes "kind") settings refl) ∙ kind_back kind in
    let seeds : seed_given (given settings) ≡ Some seed =
    key_one (values_read (codes "seed") settings refl) (omega arith, omega (arith, small)) small in
    let all : pictures_given (given settings) ≡ Some pictures =
    key_one (values_read (codes "pictures") settings refl) within (omega (arith, within.1)) in
    rw kinds (rw seeds (rw all refl))
  where
    kind_back : (kind : MediaKind) → one_kind (kind_name kind ∷ []) ≡ Some kind
    kind_back Film = refl
    kind_back Trace = refl
    kind_back System = refl

run_read : (run : ScriptRun) → IsValidScriptRun run → script_run_given (given (settings_of (day_of run))) ≡ Some run
run_read run may =
    let settings = settings_of (day_of run) in
    let script : script_given (given settings) ≡ Some run.script =
    named_read (codes "script") settings run.script refl refl may.script in
    let capacity = capacity_read settings run.capacity refl refl may.capacity in
    let journal = journal_read settings run.journal refl refl may.journal in
    let slot = slot_read settings run.slot refl refl may.slot in
    rw script (rw capacity (rw journal (rw slot refl)))

draw_read : (run : FairRun) → IsValidFairRun run → fair_run_given (given (settings_of (fair_of run))) ≡ Some run
draw_read run may =
    let settings = settings_of (fair_of run) in
    let seed : seed_given (given settings) ≡ Some run.seed =
    key_one (values_read (codes "seed") settings refl) (omega arith, omega (arith, may.seed)) may.seed in
    let plays : plays_given (given settings) ≡ Some run.plays =
    key_one (values_read (codes "plays") settings refl) may.plays (omega (arith, may.plays.1)) in
    let capacity = capacity_read settings run.capacity refl refl may.capacity in
    rw seed (rw plays (rw capacity refl))

-- the client and the slot length that settings give
whole_pace : {planning : PlanSettings} (settings : List Setting) → are_plain settings ≡ true →
    picked (codes "buffer") settings ≡ decimal planning.buffer ∷ [] →
    picked (codes "startup") settings ≡ decimal planning.delay ∷ [] →
    picked (codes "slot") settings ≡ decimal planning.slot ∷ [] → ArePlanSettings planning →
    planning_given (given settings) ≡ Some planning
whole_pace {planning} settings plain b s k may =
    let gives : GivesPace (given settings) planning.buffer planning.delay =
    pace_read settings plain b s may.buffer may.delay in
    let slot = slot_read settings planning.slot plain k may.slot in
    rw gives.buffer (rw gives.delay (rw slot refl))

watching_read : (watching : WatchArgs) → AreWatchArgs watching
    → watch_args_given (given (settings_of (watch_of watching))) ≡ Some watching
watching_read watching may =
    let settings = settings_of (watch_of watching) in
    let film : film_given (given settings) ≡ Some watching.film =
    named_read (codes "film") settings watching.film refl refl may.film in
    let port = port_read settings watching.port refl refl may.port in
    let planning = whole_pace settings refl refl refl refl may.planning in
    rw film (rw port (rw planning refl))

-- settings that say where and how a server listens
record PicksListening (settings : List Setting) (listening : ListenSettings) : Type 0 where
  port : picked (codes "port") settings ≡ decimal listening.port ∷ []
  bind : picked (codes "bind") settings ≡ bind_text listening.all ∷ []
  workers : picked (codes "workers") settings ≡ decimal listening.workers ∷ []
  connections : picked (codes "connections") settings ≡ decimal listening.connections ∷ []

listening_read : {listening : ListenSettings} (settings : List Setting) → are_plain settings ≡ true →
    PicksListening settings listening →
    AreListenSettings listening →
    listen_given (given settings) ≡ Some listening
listening_read {listening} settings plain picks may =
    let port = port_read settings listening.port plain picks.port may.port in
    let bind : one_bind (values_of (codes "bind") (given settings)) ≡ Some listening.all =
    ap one_bind (values_read (codes "bind") settings plain ∙ picks.bind) ∙ bind_back listening.all in
    let workers : workers_given (given settings) ≡ Some listening.workers =
    key_or _ (values_read (codes "workers") settings plain ∙ picks.workers) may.workers
    (omega (arith, may.workers.1)) in
    let connections : connections_given (given settings) ≡ Some listening.connections =
    key_or _ (values_read (codes "connections") settings plain ∙ picks.connections)
    (omega arith, omega (arith, may.connections)) may.connections in
    rw port (rw bind (rw workers (rw connections refl)))
  where
    bind_back : (all : Bool) → one_bind (bind_text all ∷ []) ≡ Some all
    bind_back true = refl
    bind_back false = refl

serving_read : (serving : ServeArgs) → AreServeArgs serving
    → serve_args_given (given (settings_of (serve_of serving))) ≡ Some serving
serving_read serving may =
    let settings = settings_of (serve_of serving) in
    let others = server_settings serving in
    let plain : are_plain settings ≡ true = films_plain serving.films others refl in
    let past : (asked : List ℕ) → bytes_eq (codes "film") asked ≡ false
    → picked asked settings ≡ picked asked others = λ asked. picked_past asked serving.films others in
    let films : values_of (codes "film") (given settings) ≡ serving.films =
    values_read (codes "film") settings plain ∙ picked_films serving.films others ∙ append-nil serving.films in
    let capacity = capacity_read settings serving.capacity plain (past (codes "capacity") refl) may.capacity in
    let journal = journal_read settings serving.journal plain (past (codes "journal") refl) may.journal in
    let listening = listening_read settings plain (record {
      port = past (codes "port") refl;
      bind = past (codes "bind") refl;
      workers = past (codes "workers") refl;
      connections = past (codes "connections") refl;
    }) may.listening in
    let planning = whole_pace settings plain (past (codes "buffer") refl) (past (codes "startup") refl)
    (past (codes "slot") refl) may.planning in
    rw films (rw (films_back serving.films may.films) (rw capacity (rw journal (rw listening (rw planning refl)))))

-- the settings of a client are arguments of `plan` and `check`
viewer_plain : (viewer : ClientParams) → are_plain (client_settings viewer) ≡ true
viewer_plain viewer = by viewer.source viewer.buffer viewer.delay
  where
    by : (source : PlanSource) (buffer delay : ℕ)
        → are_plain (client_settings (record { source = source; buffer = buffer; delay = delay })) ≡ true
    by (trace_source name) buffer delay = refl
    by (film_source name slot) buffer delay = refl

viewer_among : (viewer : ClientParams) → are_among (keys_of Plan) (client_settings viewer) ≡ true
viewer_among viewer = by viewer.source viewer.buffer viewer.delay
  where
    by : (source : PlanSource) (buffer delay : ℕ)
        → are_among (keys_of Plan) (client_settings (record { source = source; buffer = buffer; delay = delay }))
        ≡ true
    by (trace_source name) buffer delay = refl
    by (film_source name slot) buffer delay = refl

check_plain : (viewer : ClientParams) (cert : List ℕ) → are_plain (settings_of (check_of viewer cert)) ≡ true
check_plain viewer cert = viewer_plain viewer

check_among : (viewer : ClientParams) (cert : List ℕ) → are_among (keys_of Check) (settings_of (check_of viewer cert)) ≡
    true
check_among viewer cert = by viewer.source viewer.buffer viewer.delay
  where
    by : (source : PlanSource) (buffer delay : ℕ)
        → are_among (keys_of Check)
        (settings_of (check_of (record { source = source; buffer = buffer; delay = delay }) cert)) ≡ true
    by (trace_source name) buffer delay = refl
    by (film_source name slot) buffer delay = refl

-- a command whose arguments are its own
command_read : (command : Subcommand) (settings : List Setting) (order : Invocation) → are_plain settings ≡ true →
    are_among (keys_of command) settings ≡ true →
    invocation_given command (given settings) ≡ Some order → command_invocation (given settings) command ≡ Some order
command_read command settings order plain among read =
    ap (λ (b : Bool). if b then invocation_given command (given settings) else None)
    (words_read (keys_of command) settings plain among) ∙ read

-- the arguments of an invocation mean that invocation
pub order_back : (order : Invocation) → IsValidInvocation order → invocation_from (args_of order) ≡ Some order
order_back help may = refl
order_back version may = refl
order_back (plan_of viewer) may =
    command_read Plan (client_settings viewer) (plan_of viewer) (viewer_plain viewer) (viewer_among viewer)
    (ap (option_map plan_of) (viewer_read viewer may))
order_back (check_of viewer cert) may =
    command_read Check (settings_of (check_of viewer cert)) (check_of viewer cert) (check_plain viewer cert)
    (check_among viewer cert) (check_read viewer cert may.0 may.1)
order_back (scan_of film) may =
    command_read Scan (film_setting film ∷ []) (scan_of film) refl refl
    (ap (option_map scan_of)
    (named_read (codes "film") (film_setting film ∷ []) film refl refl may))
order_back (make_of kind seed pictures) may =
    command_read Make (settings_of (make_of kind seed pictures)) (make_of kind seed pictures) refl refl
    (make_read kind seed pictures may.0 may.1)
order_back (day_of run) may =
    command_read Day (settings_of (day_of run)) (day_of run) refl refl (ap (option_map day_of) (run_read run may))
order_back (fair_of run) may =
    command_read Fair (settings_of (fair_of run)) (fair_of run) refl refl (ap (option_map fair_of) (draw_read run may))
order_back (serve_of serving) may =
    command_read Serve (settings_of (serve_of serving)) (serve_of serving)
    (films_plain serving.films (server_settings serving) refl)
    (films_among (keys_of Serve) serving.films (server_settings serving) refl refl)
    (ap (option_map serve_of) (serving_read serving may))
order_back (watch_of watching) may =
    command_read Watch (settings_of (watch_of watching)) (watch_of watching) refl refl
    (ap (option_map watch_of) (watching_read watching may))
