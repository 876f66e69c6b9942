-- Arguments with a meaning have the form of their command.
use Rattle.std.proofs.Common.{◌≡◌, ℕ, ◌+◌, ◌<◌, ◌≤◌, ◌&&◌, ◌==◌, All, List, [], ◌∷◌, ◌++◌, length, sym, ap, ◌∙◌, arith}
use Rattle.std.proofs.Common.{Some, None, Bool, true, false, refl, codes, if◌then◌else◌, nat_lt, get_or, inl, inr}
use Rattle.std.specs.List.{after_first, before_first, list_all, position_or_len}
use Rattle.std.specs.Option.{is_some, option_and_then}
use Rattle.std.specs.Str.{bytes_eq}
use Rattle.std.proofs.lemmas.Bool.{and_parts, eqb-true, ltb-true}
use Rattle.std.proofs.lemmas.List.Elements.{All-cons, All-from_recursion, All-nil}
use Rattle.std.proofs.lemmas.List.Folds.{Any-from_list_any}
use Rattle.std.proofs.lemmas.List.Sums.{passes_at_first, split_at_first}
use Rattle.std.proofs.lemmas.Slice.Eq.{bytes_eq-Decides}
use Rattle.std.proofs.lemmas.Option.{none-some}
use Rattle.slot_calendar.specs.declared.profiles.CapStep.{CapStep}
use Rattle.cli_args.specs.Settings.{number_or, one_name, one_number, setting_value, values_of}
use Rattle.cli_args.specs.Capacities.{one_capacity}
use Rattle.cli_args.specs.KeyValues.{film_given, buffer_given, delay_given, one_kind, one_bind}
use Rattle.cli_args.specs.Subcommands.{subcommand_named, is_setting_of, keys_of}
use Rattle.cli_args.specs.declared.subcommands.Subcommand.{Subcommand}
use Rattle.cli_args.specs.declared.subcommands.Subcommand.TheVariants.{Plan, Check, Scan, Make, Day, Fair, Serve, Watch}
use Rattle.cli_args.specs.ArgumentSyntax.{HasFilms, HasSource, AreArgsOf, AreValidArgs, IsOneSource, IsSettingOf}
use Rattle.cli_args.specs.ArgumentSyntax.{most_times, needed_keys, times}
use Rattle.cli_args.specs.ArgumentText.{AreApart, setting_text}
use Rattle.cli_args.specs.Invocations.{PlanSource, ClientParams, Invocation, help, version, plan_of, scan_of, day_of}
use Rattle.cli_args.specs.Invocations.{fair_of, serve_of, watch_of, command_invocation, lone_invocation, source_of}
use Rattle.cli_args.specs.Invocations.{client_given, script_run_given, fair_run_given, listen_given, planning_given}
use Rattle.cli_args.specs.Invocations.{serve_args_given, watch_args_given, invocation_given, invocation_from}
use Rattle.cli_args.specs.declared.invocations.MediaKind.{MediaKind}
use Rattle.cli_args.specs.declared.invocations.ListenSettings.{ListenSettings}
use Rattle.cli_args.specs.declared.invocations.PlanSettings.{PlanSettings}
use Rattle.cli_args.proofs.FilmLemmas.{films_asked}
use Rattle.cli_args.proofs.SettingGroupLemmas.{last_step_found, step_found, test_passes, viewer_keys, pace_keys}
use Rattle.cli_args.proofs.SettingGroupLemmas.{listening_keys, script_run_keys, fair_run_keys, serving_keys}
use Rattle.cli_args.proofs.SettingGroupLemmas.{watching_keys, check_keys, make_keys}
use Rattle.cli_args.proofs.InvocationLemmas.{meaning_of}

-- ---- how often a key is given that was read
one_of_number : (least most n : ℕ) (values : List (List ℕ)) → one_number least most values ≡ Some n → length values ≡ 1
one_of_number least most n [] e = absurd (none-some _ e)
one_of_number least most n (value ∷ []) e = refl
one_of_number least most n (value ∷ other ∷ others) e = absurd (none-some _ e)

few_of_number : (default least most n : ℕ) (values : List (List ℕ))
    → number_or default least most values ≡ Some n → length values ≤ 1
few_of_number default least most n [] e = omega arith
few_of_number default least most n (value ∷ values) e = omega (arith, one_of_number least most n (value ∷ values) e)

one_of_name : (name : List ℕ) (values : List (List ℕ)) → one_name values ≡ Some name → length values ≡ 1
one_of_name name [] e = absurd (none-some _ e)
one_of_name name (value ∷ []) e = refl
one_of_name name (value ∷ other ∷ others) e = absurd (none-some _ e)

few_of_capacity : (steps : List CapStep) (values : List (List ℕ)) → one_capacity values ≡ Some steps
    → length values ≤ 1
few_of_capacity steps [] e = omega arith
few_of_capacity steps (value ∷ []) e = omega arith
few_of_capacity steps (value ∷ other ∷ others) e = absurd (none-some _ e)

few_of_bind : (all : Bool) (values : List (List ℕ)) → one_bind values ≡ Some all → length values ≤ 1
few_of_bind all [] e = omega arith
few_of_bind all (value ∷ []) e = omega arith
few_of_bind all (value ∷ other ∷ others) e = absurd (none-some _ e)

one_of_kind : (kind : MediaKind) (values : List (List ℕ)) → one_kind values ≡ Some kind → length values ≡ 1
one_of_kind kind [] e = absurd (none-some _ e)
one_of_kind kind (value ∷ []) e = refl
one_of_kind kind (value ∷ other ∷ others) e = absurd (none-some _ e)

-- ---- what was given where a group of keys was read
pub record HasClient (words : List (List ℕ)) : Type 0 where
  pub buffer : times (codes "buffer") words ≤ 1
  pub delay : times (codes "startup") words ≤ 1

client_form : (words : List (List ℕ)) (bytes slots : ℕ) → buffer_given words ≡ Some bytes
    → delay_given words ≡ Some slots → HasClient words
client_form words bytes slots buffer delay = record {
  buffer = few_of_number _ _ _ _ (values_of (codes "buffer") words) buffer;
  delay = few_of_number _ _ _ _ (values_of (codes "startup") words) delay;
}

pub record HasPace (words : List (List ℕ)) : Type 0 where
  pub client : HasClient words
  pub slot : times (codes "slot") words ≤ 1

pace_form : (words : List (List ℕ)) (planning : PlanSettings) → planning_given words ≡ Some planning → HasPace words
pace_form words planning e =
    let read = pace_keys words planning e in
    record {
      client = client_form words planning.buffer planning.delay read.buffer read.delay;
      slot = few_of_number _ _ _ _ (values_of (codes "slot") words) read.slot;
    }

pub record HasListening (words : List (List ℕ)) : Type 0 where
  pub port : times (codes "port") words ≤ 1
  pub bind : times (codes "bind") words ≤ 1
  pub workers : times (codes "workers") words ≤ 1
  pub connections : times (codes "connections") words ≤ 1

listening_form : (words : List (List ℕ)) (listening : ListenSettings) → listen_given words ≡ Some listening
    → HasListening words
listening_form words listening e =
    let read = listening_keys words listening e in
    record {
      port = few_of_number _ _ _ _ (values_of (codes "port") words) read.port;
      bind = few_of_bind listening.all (values_of (codes "bind") words) read.bind;
      workers = few_of_number _ _ _ _ (values_of (codes "workers") words) read.workers;
      connections = few_of_number _ _ _ _ (values_of (codes "connections") words) read.connections;
    }

-- a source of these values: one name, and at most one slot, of a film
pub record HasOneSource (traces films slots : List (List ℕ)) : Type 0 where
  pub one : length traces + length films ≡ 1
  pub slot : 0 < length slots → length traces ≡ 0
  pub few : length slots ≤ 1

source_form : (traces films slots : List (List ℕ)) (source : PlanSource)
    → source_of traces films slots ≡ Some source → HasOneSource traces films slots
source_form [] films slots source e =
    let film = step_found _ (one_name films) source e in
    let slot = last_step_found _ _ source film.2 in
    record {
      one = omega (arith, one_of_name film.0 films film.1);
      slot = λ some. refl;
      few = few_of_number _ _ _ _ slots slot.1;
    }
source_form (trace ∷ traces) [] [] source e =
    let name = last_step_found _ (one_name (trace ∷ traces)) source e in
    record {
      one = omega (arith, one_of_name name.0 (trace ∷ traces) name.1);
      slot = λ some. absurd (omega (arith, some));
      few = omega arith;
    }
source_form (trace ∷ traces) [] (slot ∷ slots) source e = absurd (none-some _ e)
source_form (trace ∷ traces) (film ∷ films) slots source e = absurd (none-some _ e)

pub record HasViewer (words : List (List ℕ)) : Type 0 where
  pub source : HasOneSource (values_of (codes "trace") words) (values_of (codes "film") words)
      (values_of (codes "slot") words)
  pub client : HasClient words

viewer_form : (words : List (List ℕ)) (viewer : ClientParams) → client_given words ≡ Some viewer → HasViewer words
viewer_form words viewer e =
    let read = viewer_keys words viewer e in
    record {
      source = source_form (values_of (codes "trace") words) (values_of (codes "film") words)
          (values_of (codes "slot") words) viewer.source read.source;
      client = client_form words viewer.buffer viewer.delay read.buffer read.delay;
    }

-- ---- lists of keys
abbrev IsFew : Subcommand → List (List ℕ) → List ℕ → Type 0
IsFew command words key = times key words ≤ most_times command key

abbrev AreFew : Subcommand → List (List ℕ) → List (List ℕ) → Type 0
AreFew command words keys = All (IsFew command words) keys

abbrev IsGivenBy : List (List ℕ) → List ℕ → Type 0
IsGivenBy words key = 1 ≤ times key words

abbrev AreGiven : List (List ℕ) → List (List ℕ) → Type 0
AreGiven words keys = All (IsGivenBy words) keys

-- what is known of a command's keys
pub record HaveKeys (command : Subcommand) (words : List (List ℕ)) : Type 0 where
  pub few : AreFew command words (keys_of command)
  pub needed : AreGiven words (needed_keys command)
  pub source : HasSource command words

one_source : (words : List (List ℕ)) → HasViewer words → IsOneSource words
one_source words viewer = record { one = viewer.source.one; slot = viewer.source.slot }

-- ---- each command
scan_form : (words : List (List ℕ)) (order : Invocation) → invocation_given Scan words ≡ Some order → HaveKeys Scan
    words
scan_form words order e =
    let film = last_step_found scan_of (film_given words) order e in
    let one = one_of_name film.0 (values_of (codes "film") words) film.1 in
    record {
      few = All-from_recursion (IsFew Scan words) (keys_of Scan) (omega (arith, one), tt);
      needed = All-from_recursion (IsGivenBy words) (needed_keys Scan) (omega (arith, one), tt);
      source = tt;
    }

plan_form : (words : List (List ℕ)) (order : Invocation) → invocation_given Plan words ≡ Some order → HaveKeys Plan
    words
plan_form words order e =
    let read = last_step_found plan_of (client_given words) order e in
    let viewer = viewer_form words read.0 read.1 in
    let client = viewer.client in
    let trace : IsFew Plan words (codes "trace") = omega (arith, viewer.source.one) in
    let film : IsFew Plan words (codes "film") = omega (arith, viewer.source.one) in
    record {
      few = All-from_recursion (IsFew Plan words) (keys_of Plan)
          (trace, (film, (client.buffer, (client.delay, (viewer.source.few, tt)))));
      needed = All-nil (IsGivenBy words);
      source = one_source words viewer;
    }

check_form : (words : List (List ℕ)) (order : Invocation) → invocation_given Check words ≡ Some order → HaveKeys Check
    words
check_form words order e =
    let read = check_keys words order e in
    let viewer = viewer_form words read.viewer read.viewer_is in
    let one = one_of_name read.cert (values_of (codes "cert") words) read.cert_is in
    let client = viewer.client in
    let trace : IsFew Check words (codes "trace") = omega (arith, viewer.source.one) in
    let film : IsFew Check words (codes "film") = omega (arith, viewer.source.one) in
    let cert : IsFew Check words (codes "cert") = omega (arith, one) in
    record {
      few = All-from_recursion (IsFew Check words) (keys_of Check)
          (trace, (film, (cert, (client.buffer, (client.delay, (viewer.source.few, tt))))));
      needed = All-from_recursion (IsGivenBy words) (needed_keys Check) (omega (arith, one), tt);
      source = one_source words viewer;
    }

make_form : (words : List (List ℕ)) (order : Invocation) → invocation_given Make words ≡ Some order → HaveKeys Make
    words
make_form words order e =
    let read = make_keys words order e in
    let kind = one_of_kind read.kind (values_of (codes "kind") words) read.kind_is in
    let seed = one_of_number _ _ _ (values_of (codes "seed") words) read.seed_is in
    let pictures = one_of_number _ _ _ (values_of (codes "pictures") words) read.pictures_are in
    record {
      few = All-from_recursion (IsFew Make words) (keys_of Make)
          (omega (arith, kind), (omega (arith, seed), (omega (arith, pictures), tt)));
      needed = All-from_recursion (IsGivenBy words) (needed_keys Make)
          (omega (arith, kind), (omega (arith, seed), (omega (arith, pictures), tt)));
      source = tt;
    }

day_form : (words : List (List ℕ)) (order : Invocation) → invocation_given Day words ≡ Some order → HaveKeys Day words
day_form words order e =
    let run = last_step_found day_of (script_run_given words) order e in
    let read = script_run_keys words run.0 run.1 in
    let one = one_of_name run.0.script (values_of (codes "script") words) read.script in
    let capacity = few_of_capacity run.0.capacity (values_of (codes "capacity") words) read.capacity in
    let journal = few_of_number _ _ _ _ (values_of (codes "journal") words) read.journal in
    let slot = few_of_number _ _ _ _ (values_of (codes "slot") words) read.slot in
    record {
      few = All-from_recursion (IsFew Day words) (keys_of Day)
          (omega (arith, one), (capacity, (journal, (slot, tt))));
      needed = All-from_recursion (IsGivenBy words) (needed_keys Day) (omega (arith, one), tt);
      source = tt;
    }

fair_form : (words : List (List ℕ)) (order : Invocation) → invocation_given Fair words ≡ Some order → HaveKeys Fair
    words
fair_form words order e =
    let run = last_step_found fair_of (fair_run_given words) order e in
    let read = fair_run_keys words run.0 run.1 in
    let seed = one_of_number _ _ _ (values_of (codes "seed") words) read.seed in
    let plays = one_of_number _ _ _ (values_of (codes "plays") words) read.plays in
    let capacity = few_of_capacity run.0.capacity (values_of (codes "capacity") words) read.capacity in
    record {
      few = All-from_recursion (IsFew Fair words) (keys_of Fair)
          (omega (arith, seed), (omega (arith, plays), (capacity, tt)));
      needed = All-from_recursion (IsGivenBy words) (needed_keys Fair)
          (omega (arith, seed), (omega (arith, plays), tt));
      source = tt;
    }

watch_form : (words : List (List ℕ)) (order : Invocation) → invocation_given Watch words ≡ Some order → HaveKeys Watch
    words
watch_form words order e =
    let watching = last_step_found watch_of (watch_args_given words) order e in
    let read = watching_keys words watching.0 watching.1 in
    let planning = pace_form words watching.0.planning read.planning in
    let one = one_of_name watching.0.film (values_of (codes "film") words) read.film in
    let port = few_of_number _ _ _ _ (values_of (codes "port") words) read.port in
    record {
      few = All-from_recursion (IsFew Watch words) (keys_of Watch)
          (omega (arith, one), (port, (planning.client.buffer, (planning.client.delay, (planning.slot, tt)))));
      needed = All-from_recursion (IsGivenBy words) (needed_keys Watch) (omega (arith, one), tt);
      source = tt;
    }

serve_form : (words : List (List ℕ)) (order : Invocation) → invocation_given Serve words ≡ Some order → HaveKeys Serve
    words
serve_form words order e =
    let serving = last_step_found serve_of (serve_args_given words) order e in
    let read = serving_keys words serving.0 serving.1 in
    let named = films_asked (values_of (codes "film") words) read.films_pass in
    let listening = listening_form words serving.0.listening read.listening in
    let planning = pace_form words serving.0.planning read.planning in
    let port = listening.port in
    let bind = listening.bind in
    let capacity = few_of_capacity serving.0.capacity (values_of (codes "capacity") words) read.capacity in
    let journal = few_of_number _ _ _ _ (values_of (codes "journal") words) read.journal in
    let buffer = planning.client.buffer in
    let delay = planning.client.delay in
    let slot = planning.slot in
    let workers = listening.workers in
    let connections = listening.connections in
    record {
      few = All-from_recursion (IsFew Serve words) (keys_of Serve)
          (named.few, (port, (bind, (capacity, (buffer, (delay, (slot, (journal, (workers, (connections, tt))))))))));
      needed = All-from_recursion (IsGivenBy words) (needed_keys Serve) (named.some, tt);
      source = tt;
    }

keys_form : (command : Subcommand) (words : List (List ℕ)) (order : Invocation) → invocation_given command words ≡ Some
    order
    → HaveKeys command words
keys_form Plan words order e = plan_form words order e
keys_form Check words order e = check_form words order e
keys_form Scan words order e = scan_form words order e
keys_form Make words order e = make_form words order e
keys_form Day words order e = day_form words order e
keys_form Fair words order e = fair_form words order e
keys_form Serve words order e = serve_form words order e
keys_form Watch words order e = watch_form words order e

films_apart : (words : List (List ℕ)) (order : Invocation) → invocation_given Serve words ≡ Some order
    → AreApart (values_of (codes "film") words)
films_apart words order e =
    let serving = last_step_found serve_of (serve_args_given words) order e in
    let read = serving_keys words serving.0 serving.1 in
    (films_asked (values_of (codes "film") words) read.films_pass).apart

films_form : (command : Subcommand) (words : List (List ℕ)) (order : Invocation)
    → invocation_given command words ≡ Some order → HasFilms command words
films_form Plan words order e = tt
films_form Check words order e = tt
films_form Scan words order e = tt
films_form Make words order e = tt
films_form Day words order e = tt
films_form Fair words order e = tt
films_form Serve words order e = films_apart words order e
films_form Watch words order e = tt

-- ---- each argument
-- a value that an argument gives to a key stands after it and `=`
value_after : (key word : List ℕ) → is_some (setting_value key word) ≡ true
    → (value : List ℕ) × (word ≡ setting_text (record { key = key; value = value }))
value_after key word e =
    let inside = nat_lt (position_or_len (λ b. b == 61) word) (length word) in
    let same = bytes_eq (before_first (λ b. b == 61) word) key in
    let parts = and_parts inside same (tests (inside && same) (after_first (λ b. b == 61) word) e) in
    let before = ltb-true (position_or_len (λ b. b == 61) word) (length word) parts.0 in
    let equals =
    eqb-true (get_or word (position_or_len (λ b. b == 61) word) 0) 61 (passes_at_first (λ b. b == 61) word 0 before) in
    let front = (bytes_eq-Decides (before_first (λ b. b == 61) word) key).0 parts.1 in (
      after_first (λ b. b == 61) word,
      split_at_first (λ b. b == 61) word 0 before
          ∙ ap (λ (b : ℕ). before_first (λ b. b == 61) word ++ (b ∷ after_first (λ b. b == 61) word)) equals
          ∙ ap (λ (k : List ℕ). k ++ (61 ∷ after_first (λ b. b == 61) word)) front,
    )
  where
    tests : (t : Bool) (value : List ℕ) → is_some (if t then Some value else None) ≡ true → t ≡ true
    tests true value e = refl
    tests false value e = e

word_form : (command : Subcommand) (word : List ℕ) → is_setting_of command word ≡ true → IsSettingOf command word
word_form command word e =
    let one = Any-from_list_any (λ key. is_some (setting_value key word)) (keys_of command) e in
    let read = value_after one.1 word one.4 in
    record { setting = record { key = one.1; value = read.0 }; taken = (one.0, one.2, one.3); word_is = read.1 }

each_word : (command : Subcommand) (words : List (List ℕ)) → list_all (is_setting_of command) words ≡ true
    → All (IsSettingOf command) words
each_word command [] e = All-nil (IsSettingOf command)
each_word command (word ∷ words) e =
    let parts = and_parts (is_setting_of command word) (list_all (is_setting_of command) words) e in
    All-cons (IsSettingOf command) word words (word_form command word parts.0) (each_word command words parts.1)

words_form : (name : List ℕ) (command : Subcommand) (words : List (List ℕ)) (order : Invocation) →
    subcommand_named name ≡ Some command → invocation_from (name ∷ words) ≡ Some order →
    AreArgsOf command words
words_form name command words order named e =
    let mine = test_passes (list_all (is_setting_of command) words) (invocation_given command words) order
    (sym (meaning_of name command words named) ∙ e) in
    let keys = keys_form command words order mine.1 in
    record {
      each = each_word command words mine.0;
      few = keys.few;
      needed = keys.needed;
      source = keys.source;
      films = films_form command words order mine.1;
    }

-- ---- arguments with a meaning
alone : (lone : Invocation) (words : List (List ℕ)) (order : Invocation) → lone_invocation lone words ≡ Some order →
    words ≡ []
alone lone [] order e = refl
alone lone (word ∷ words) order e = absurd (none-some _ e)

pub meaning_form : (words : List (List ℕ)) (order : Invocation) → invocation_from words ≡ Some order → AreValidArgs
    words
meaning_form [] order e = absurd (none-some _ e)
meaning_form (first ∷ words) order e =
    by (bytes_eq first (codes "--help")) (bytes_eq first (codes "--version")) refl refl e
  where
    lone : (word : List ℕ) (is : Invocation) → bytes_eq first word ≡ true → lone_invocation is words ≡ Some order
        → first ∷ words ≡ word ∷ []
    lone word is same only =
        ap (λ (w : List ℕ). w ∷ words) ((bytes_eq-Decides first word).0 same)
        ∙ ap (λ (ws : List (List ℕ)). word ∷ ws) (alone is words order only)

    by : (helps tells : Bool) → bytes_eq first (codes "--help") ≡ helps → bytes_eq first (codes "--version") ≡ tells →
        (if helps then lone_invocation help words else if tells then lone_invocation version words else option_and_then
        (command_invocation words) (subcommand_named first)) ≡ Some order →
        AreValidArgs (first ∷ words)
    by true tells helped told only = inl (lone (codes "--help") help helped only)
    by false true helped told only = inr (inl (lone (codes "--version") version told only))
    by false false helped told command =
        let named = step_found (command_invocation words) (subcommand_named first) order command in
        inr (inr (record {
          name = first;
          rest = words;
          command = named.0;
          parts = refl;
          named = named.1;
          form = words_form first named.0 words order named.1 e;
        }))
