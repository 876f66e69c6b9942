-- What was read for each key of a group that was read.
use Rattle.std.proofs.Common.{◌≡◌, ℕ, List, Option, Some, None, Bool, true, false, refl, codes, subst, if◌then◌else◌}
use Rattle.std.specs.Option.{option_and_then}
use Rattle.std.specs.Prelude.{option_map}
use Rattle.std.proofs.lemmas.Option.{none-some, same_Some}
use Rattle.cli_args.specs.Settings.{values_of}
use Rattle.cli_args.specs.KeyValues.{film_given, cert_given, script_given, buffer_given, delay_given, slot_given}
use Rattle.cli_args.specs.KeyValues.{capacity_given, journal_given, port_given, workers_given, connections_given}
use Rattle.cli_args.specs.KeyValues.{seed_given, pictures_given, plays_given, one_kind, one_bind}
use Rattle.cli_args.specs.Invocations.{ClientParams, ServeArgs, ScriptRun, WatchArgs, Invocation, check_of, make_of}
use Rattle.cli_args.specs.Invocations.{are_films, from_two, from_three, from_four, source_given, client_given}
use Rattle.cli_args.specs.Invocations.{check_given, make_given, script_run_given, fair_run_given, listen_given}
use Rattle.cli_args.specs.Invocations.{planning_given, serve_args_given, watch_args_given}
use Rattle.cli_args.specs.declared.invocations.MediaKind.{MediaKind}
use Rattle.cli_args.specs.declared.invocations.ListenSettings.{ListenSettings}
use Rattle.cli_args.specs.declared.invocations.PlanSettings.{PlanSettings}
use Rattle.cli_args.specs.declared.invocations.FairRun.{FairRun}

-- what a step of a reading found, and the rest of it
pub step_found : {A B : Type 0} (f : A → Option B) (o : Option A) (b : B) → option_and_then f o ≡ Some b
    → (a : A) × (o ≡ Some a) × (f a ≡ Some b)
step_found f None b e = absurd (none-some _ e)
step_found f (Some a) b e = (a, refl, e)

pub last_step_found : {A B : Type 0} (f : A → B) (o : Option A) (b : B) → option_map f o ≡ Some b
    → (a : A) × (o ≡ Some a) × (f a ≡ b)
last_step_found f None b e = absurd (none-some _ e)
last_step_found f (Some a) b e = (a, refl, same_Some _ _ e)

-- a value that a test lets through
pub test_passes : {A : Type 0} (t : Bool) (o : Option A) (a : A) → (if t then o else None) ≡ Some a
    → (t ≡ true) × (o ≡ Some a)
test_passes true o a e = (refl, e)
test_passes false o a e = absurd (none-some _ e)

-- what was read of two, three and four values that make one
pub record AreTwoFound {A B C : Type 0} (make : A → B → C) (first : Option A) (second : Option B) (c : C)
    : Type 0 where
  pub one : A
  pub two : B
  pub one_is : first ≡ Some one
  pub two_is : second ≡ Some two
  pub made : make one two ≡ c

pub two_found : {A B C : Type 0} {make : A → B → C} {first : Option A} {second : Option B} {c : C}
    → from_two make first second ≡ Some c → AreTwoFound make first second c
two_found {make} {first} {second} {c} e =
    let one = step_found (λ a. option_map (make a) second) first c e in
    let two = last_step_found (make one.0) second c one.2 in
    record { one = one.0; two = two.0; one_is = one.1; two_is = two.1; made = two.2 }

pub record AreThreeFound {A B C D : Type 0} (make : A → B → C → D) (first : Option A) (second : Option B)
    (third : Option C) (d : D) : Type 0 where
  pub one : A
  pub one_is : first ≡ Some one
  pub rest : AreTwoFound (make one) second third d

pub three_found : {A B C D : Type 0} {make : A → B → C → D} {first : Option A} {second : Option B} {third : Option C}
    {d : D} → from_three make first second third ≡ Some d → AreThreeFound make first second third d
three_found {make} {first} {second} {third} {d} e =
    let one = step_found (λ a. from_two (make a) second third) first d e in
    record { one = one.0; one_is = one.1; rest = two_found one.2 }

pub record AreFourFound {A B C D E : Type 0} (make : A → B → C → D → E) (first : Option A) (second : Option B)
    (third : Option C) (fourth : Option D) (e : E) : Type 0 where
  pub one : A
  pub one_is : first ≡ Some one
  pub rest : AreThreeFound (make one) second third fourth e

pub four_found : {A B C D E : Type 0} {make : A → B → C → D → E} {first : Option A} {second : Option B}
    {third : Option C} {fourth : Option D} {made : E}
    → from_four make first second third fourth ≡ Some made → AreFourFound make first second third fourth made
four_found {make} {first} {second} {third} {fourth} {made} e =
    let one = step_found (λ a. from_three (make a) second third fourth) first made e in
    record { one = one.0; one_is = one.1; rest = three_found one.2 }

-- ---- each group
pub record IsViewerRead (words : List (List ℕ)) (viewer : ClientParams) : Type 0 where
  pub source : source_given words ≡ Some viewer.source
  pub buffer : buffer_given words ≡ Some viewer.buffer
  pub delay : delay_given words ≡ Some viewer.delay

pub viewer_keys : (words : List (List ℕ)) (viewer : ClientParams) → client_given words ≡ Some viewer
    → IsViewerRead words viewer
viewer_keys words viewer e =
    let found = three_found e in
    subst (IsViewerRead words) found.rest.made
    (record { source = found.one_is; buffer = found.rest.one_is; delay = found.rest.two_is })

pub record IsPaceRead (words : List (List ℕ)) (planning : PlanSettings) : Type 0 where
  pub buffer : buffer_given words ≡ Some planning.buffer
  pub delay : delay_given words ≡ Some planning.delay
  pub slot : slot_given words ≡ Some planning.slot

pub pace_keys : (words : List (List ℕ)) (planning : PlanSettings) → planning_given words ≡ Some planning → IsPaceRead
    words planning
pace_keys words planning e =
    let found = three_found e in
    subst (IsPaceRead words) found.rest.made
    (record { buffer = found.one_is; delay = found.rest.one_is; slot = found.rest.two_is })

pub record IsListeningRead (words : List (List ℕ)) (listening : ListenSettings) : Type 0 where
  pub port : port_given words ≡ Some listening.port
  pub bind : one_bind (values_of (codes "bind") words) ≡ Some listening.all
  pub workers : workers_given words ≡ Some listening.workers
  pub connections : connections_given words ≡ Some listening.connections

pub listening_keys : (words : List (List ℕ)) (listening : ListenSettings) → listen_given words ≡ Some listening
    → IsListeningRead words listening
listening_keys words listening e =
    let found = four_found e in
    let last = found.rest.rest in
    subst (IsListeningRead words) last.made (record {
      port = found.one_is;
      bind = found.rest.one_is;
      workers = last.one_is;
      connections = last.two_is;
    })

pub record IsScriptRunRead (words : List (List ℕ)) (run : ScriptRun) : Type 0 where
  pub script : script_given words ≡ Some run.script
  pub capacity : capacity_given words ≡ Some run.capacity
  pub journal : journal_given words ≡ Some run.journal
  pub slot : slot_given words ≡ Some run.slot

pub script_run_keys : (words : List (List ℕ)) (run : ScriptRun) → script_run_given words ≡ Some run
    → IsScriptRunRead words run
script_run_keys words run e =
    let found = four_found e in
    let last = found.rest.rest in
    subst (IsScriptRunRead words) last.made (record {
      script = found.one_is;
      capacity = found.rest.one_is;
      journal = last.one_is;
      slot = last.two_is;
    })

pub record IsFairRunRead (words : List (List ℕ)) (run : FairRun) : Type 0 where
  pub seed : seed_given words ≡ Some run.seed
  pub plays : plays_given words ≡ Some run.plays
  pub capacity : capacity_given words ≡ Some run.capacity

pub fair_run_keys : (words : List (List ℕ)) (run : FairRun) → fair_run_given words ≡ Some run → IsFairRunRead words run
fair_run_keys words run e =
    let found = three_found e in
    subst (IsFairRunRead words) found.rest.made
    (record { seed = found.one_is; plays = found.rest.one_is; capacity = found.rest.two_is })

pub record IsServingRead (words : List (List ℕ)) (serving : ServeArgs) : Type 0 where
  pub films_pass : are_films (values_of (codes "film") words) ≡ true
  pub films_are : values_of (codes "film") words ≡ serving.films
  pub capacity : capacity_given words ≡ Some serving.capacity
  pub journal : journal_given words ≡ Some serving.journal
  pub listening : listen_given words ≡ Some serving.listening
  pub planning : planning_given words ≡ Some serving.planning

pub serving_keys : (words : List (List ℕ)) (serving : ServeArgs) → serve_args_given words ≡ Some serving
    → IsServingRead words serving
serving_keys words serving e =
    let films = test_passes (are_films (values_of (codes "film") words)) _ serving e in
    let found = four_found films.1 in
    let last = found.rest.rest in
    subst (IsServingRead words) last.made (record {
      films_pass = films.0;
      films_are = refl;
      capacity = found.one_is;
      journal = found.rest.one_is;
      listening = last.one_is;
      planning = last.two_is;
    })

pub record IsWatchingRead (words : List (List ℕ)) (watching : WatchArgs) : Type 0 where
  pub film : film_given words ≡ Some watching.film
  pub port : port_given words ≡ Some watching.port
  pub planning : planning_given words ≡ Some watching.planning

pub watching_keys : (words : List (List ℕ)) (watching : WatchArgs) → watch_args_given words ≡ Some watching
    → IsWatchingRead words watching
watching_keys words watching e =
    let found = three_found e in
    subst (IsWatchingRead words) found.rest.made
    (record { film = found.one_is; port = found.rest.one_is; planning = found.rest.two_is })

-- ---- two commands
pub record IsCheckRead (words : List (List ℕ)) (order : Invocation) : Type 0 where
  pub viewer : ClientParams
  pub cert : List ℕ
  pub order_is : check_of viewer cert ≡ order
  pub viewer_is : client_given words ≡ Some viewer
  pub cert_is : cert_given words ≡ Some cert

pub check_keys : (words : List (List ℕ)) (order : Invocation) → check_given words ≡ Some order → IsCheckRead words order
check_keys words order e =
    let found = two_found {make = check_of} e in record {
      viewer = found.one;
      cert = found.two;
      order_is = found.made;
      viewer_is = found.one_is;
      cert_is = found.two_is;
    }

pub record IsMakeRead (words : List (List ℕ)) (order : Invocation) : Type 0 where
  pub kind : MediaKind
  pub seed : ℕ
  pub pictures : ℕ
  pub order_is : make_of kind seed pictures ≡ order
  pub kind_is : one_kind (values_of (codes "kind") words) ≡ Some kind
  pub seed_is : seed_given words ≡ Some seed
  pub pictures_are : pictures_given words ≡ Some pictures

pub make_keys : (words : List (List ℕ)) (order : Invocation) → make_given words ≡ Some order → IsMakeRead words order
make_keys words order e =
    let found = three_found {make = make_of} e in record {
      kind = found.one;
      seed = found.rest.one;
      pictures = found.rest.two;
      order_is = found.rest.made;
      kind_is = found.one_is;
      seed_is = found.rest.one_is;
      pictures_are = found.rest.two_is;
    }
