-- The films and traces that a script names.
use Rattle.std.proofs.Common.{◌≡◌, ◌∙◌, ◌+◌, ◌-◌, ◌<◌, ◌≤◌, ℕ, List, [], ◌∷◌, ◌++◌, Option, Some, None, true, length}
use Rattle.std.proofs.Common.{take, drop, get_or, refl, sym, ap, subst, suc, zero, add-one, arith, inl, inr}
use Rattle.std.proofs.Common.{string_bytes}
use Rattle.std.specs.Prelude.{All, slice_index_or}
use Rattle.std.specs.Option.{option_and_then}
use Rattle.std.proofs.Math.Seq.{drop-cons, get_or-append_seam}
use Rattle.day_script.specs.TextLines.{lines_of_script}
use Rattle.std.specs.List.{Contains}
use Rattle.std.proofs.Math.ListN.{get_or-map}
use Rattle.std.proofs.lemmas.Bool.{cases_lt}
use Rattle.std.proofs.lemmas.Option.{none-some}
use Rattle.std.proofs.lemmas.List.{length-append, length-map, length-take, take-append-drop, get_or-take}
use Rattle.std.proofs.lemmas.List.{get_or_append_left, get_or-append_right, get_or_push, get_or_read_under}
use Rattle.std.proofs.lemmas.List.Elements.{All-cons, All-head, All-nil, All-tail}
use Rattle.day_script.specs.declared.scripts.Named.{Named}
use Rattle.day_run.specs.declared.media.Source.{Source}
use Rattle.day_run.specs.Sources.{AreSources, IsSource}
use Rattle.vod_base.specs.Names.{good_name}
use Rattle.vod_base.specs.IoState.{File}
use Rattle.cli_errors.specs.ReadErrors.{IsReadError}
use Rattle.cli_errors.specs.declared.errors.InputError.{InputError}
use Rattle.cli_errors.specs.declared.errors.CliError.{CliError}
use Rattle.inputs.specs.FileReads.{IsThatName}
use Rattle.day_run.specs.declared.media.Source.TheVariants.{Film, Trace}
use Rattle.day_script.specs.declared.scripts.Script.{Script}
use Rattle.day_script.specs.declared.scripts.Line.{Line}
use Rattle.day_script.specs.declared.scripts.SourceKind.{SourceKind}
use Rattle.day_script.specs.declared.scripts.SourceKind.TheVariants as kinds
use Rattle.day_script.specs.ScriptReading.{HasGoodName, IsBadLine, IsScript, Name, Reading, line_read, lines_read}
use Rattle.day_script.specs.ScriptReading.{name_of, names_of, nothing_read}
use Rattle.inputs.proofs.ReadLemmas.{one_file}
use Rattle.inputs.proofs.VideoLemmas.{held_not_refused}
use Rattle.inputs.proofs.ScanLemmas.{read_trouble_map}
use Rattle.offline_commands.specs.Days.{AreHeldAs, HoldsScript, IsDayRefused, IsFirstNamedRefused, IsHeldAs}
use Rattle.offline_commands.specs.Days.{IsHeldUnder, IsNameOf, IsNamedRefused, IsNotRefusedAs, IsRefusedAs, IsScriptOf}
use Rattle.offline_commands.specs.Days.{IsScriptRefused, names_in}
use Rattle.offline_commands.proofs.PlanUniqueness.{trace_not_refused}

abbrev bytes_of : Named → List ℕ
bytes_of n = string_bytes n.name

-- a film or trace is read as what the script names
pub record IsNamedAs (named : Named) (kind : SourceKind) (name : List ℕ) : Type 0 where
  pub kind_is : named.kind ≡ kind
  pub name_is : name ≡ string_bytes named.name

-- the error of a film or trace that was read by its name, where the script names it
pub named_trouble : {kind : SourceKind} {name : List ℕ} {named : Named} (told : Option (List File)) (before after : ℕ)
    (t : CliError) → IsNamedAs named kind name → IsReadError (IsThatName name) (IsRefusedAs kind) told before after t →
    IsReadError (IsNameOf named) (IsNamedRefused named) told before after t
named_trouble told before after t read h =
    read_trouble_map before after t (λ other same. same ∙ read.name_is)
    (λ held other fault told_is same refused.
    subst (λ (k : SourceKind). IsRefusedAs k held other fault) (sym read.kind_is) refused)
    h

-- what was read is held as the script names it
pub held_as : {kind : SourceKind} {name : List ℕ} {named : Named} (held : List File) (source : Source) →
    IsNamedAs named kind name → IsHeldUnder kind held name source → IsHeldAs held named source
held_as {kind} {name} {named} held source read is =
    subst (λ (n : List ℕ). IsHeldUnder named.kind held n source) read.name_is
    (subst (λ (k : SourceKind). IsHeldUnder k held name source) (sym read.kind_is) is)

-- a name of the script
pub named_contains : {one : Named} {name : List ℕ} (named : List Named) (k : ℕ) → k < length named
    → one ≡ get_or named k one → name ≡ string_bytes one.name → Contains (names_in named) name
named_contains {one} {name} named k inside at is =
    subst (λ (y : List ℕ). Contains (names_in named) y) (sym is)
    (k, omega (arith, inside, length-map named bytes_of), get_or-map bytes_of named k one ∙ ap bytes_of (sym at))

pub sources_push : (sources after : List Source) (source : Source) → after ≡ sources ++ source ∷ []
    → IsSource source → AreSources sources → AreSources after
sources_push sources after source e own are =
    subst (λ (l : List Source). AreSources l) (sym e) (record {
      each = λ i none inside. elim (cases_lt i (length sources)) [
        | inl before ↦
            subst (λ (s : Source). IsSource s) (sym (get_or_append_left sources (source ∷ []) none i before))
            (are.each i none before)
        | inr past ↦
            let at : length sources ≡ i = omega (arith, past, inside, length-append sources (source ∷ [])) in
            let z : i - i ≡ 0 = omega arith in
            subst (λ (s : Source). IsSource s)
            (sym (get_or-append_right sources (source ∷ []) i i none at (omega arith)
            ∙ ap (λ k. get_or (source ∷ []) k none) z)) own
      ];
    })

-- those that were loaded so far are what the library holds
pub record AreHeldFront (held : List File) (named : List Named) (sources : List Source) : Type 0 where
  pub each : (k : ℕ) (name : Named) (none : Source) → k < length sources
      → IsHeldAs held (get_or named k name) (get_or sources k none)

-- the next of the names, after so many sources
pub record NextNamed (named : List Named) (sources : List Source) (one : Named) (i : ℕ) : Type 0 where
  pub long : length sources ≡ i
  pub inside : i < length named
  pub at : one ≡ get_or named i one

pub held_push : {held : List File} {named : List Named} {sources after : List Source} {one : Named} {i : ℕ}
    (source : Source) → after ≡ sources ++ source ∷ [] → NextNamed named sources one i →
    AreHeldFront held named sources → IsHeldAs held one source → AreHeldFront held named after
held_push {held} {named} {sources} {one} {i} source e next are own =
    subst (λ (l : List Source). AreHeldFront held named l) (sym e) (record {
      each = λ k name none short. elim (cases_lt k (length sources)) [
        | inl before ↦
            subst (λ (s : Source). IsHeldAs held (get_or named k name) s)
            (sym (get_or_append_left sources (source ∷ []) none k before)) (are.each k name none before)
        | inr past ↦
            let here : k ≡ i = omega (arith, past, short, next.long, length-append sources (source ∷ [])) in
            let named_is : one ≡ get_or named k name =
            get_or_read_under named i (length named) one name next.at next.inside refl ∙ ap
            (λ (j : ℕ). get_or named j name) (sym here) in
            let source_is : get_or (sources ++ source ∷ []) k none ≡ source =
            get_or_push sources source none k (next.long ∙ sym here) in
            subst (λ (s : Source). IsHeldAs held (get_or named k name) s) (sym source_is)
            (subst (λ (n : Named). IsHeldAs held n source) named_is own)
      ];
    })

pub held_whole : (held : List File) (named : List Named) (sources : List Source) → length sources ≡ length named
    → AreHeldFront held named sources → AreHeldAs held named sources
held_whole held named sources long are =
    record { count = long; each = λ k name none inside. are.each k name none (omega (arith, inside, long)) }

-- one of a list that has that many
pub first_of : {A : Type 0} (xs : List A) (k : ℕ) → k < length xs → A
first_of [] k inside = absurd (omega (arith, inside))
first_of (x ∷ xs) k inside = x

-- a source that is refused under its name
record RefusedSource (kind : SourceKind) (held : List File) (name : List ℕ) : Type 0 where
  fault : InputError
  refused : IsRefusedAs kind held name fault

-- what the library holds isn't refused
held_as_not_refused : {held : List File} {name : List ℕ} (kind : SourceKind) (source : Source) →
    RefusedSource kind held name → IsHeldUnder kind held name source → ⊥
held_as_not_refused {held} {name} kinds.Film (Film stored) refused_source is =
    held_not_refused held name stored.film.bytes.items refused_source.fault is refused_source.refused
held_as_not_refused kinds.Film (Trace sizes) refused_source is = is
held_as_not_refused kinds.Trace (Film stored) refused_source is = is
held_as_not_refused {held} {name} kinds.Trace (Trace sizes) refused_source is =
    trace_not_refused held name sizes.items refused_source.fault is refused_source.refused

-- those that were loaded so far aren't refused
front_accepted : {held : List File} {named : List Named} {sources : List Source} {i : ℕ} → i ≤ length named
    → length sources ≡ i → AreHeldFront held named sources → All (IsNotRefusedAs held) (take i named)
front_accepted {held} {named} {sources} {i} few long are = λ k d inside fault refused.
    let short : k < i = omega (arith, inside, length-take i named, few) in
    let same : get_or (take i named) k d ≡ get_or named k d = get_or-take i named k d short in
    let other : Named = get_or (take i named) k d in
    held_as_not_refused other.kind (get_or sources k (first_of sources k (omega (arith, short, long))))
    (record { fault = fault; refused = refused }) (subst (λ (n : Named). IsHeldAs held n
    (get_or sources k (first_of sources k (omega (arith, short, long))))) (sym same)
    (are.each k d (first_of sources k (omega (arith, short, long))) (omega (arith, short, long))))

-- a film or trace that is refused after those before it were loaded is the first
pub first_named_refused : {held : List File} {named : List Named} {sources : List Source} {i : ℕ} {one : Named}
    {name : List ℕ} {fault : InputError} → i < length named → one ≡ get_or named i one → length sources ≡ i
    → AreHeldFront held named sources → IsNameOf one name → IsNamedRefused one held name fault
    → IsFirstNamedRefused named held name fault
first_named_refused {named} {i} {one} {name} inside at long are is refused = record {
  before = take i named;
  one = one;
  rest = drop (i + 1) named;
  named_are = sym (take-append-drop i named) ∙ ap (λ (l : List Named). take i named ++ l) (drop-cons named i one inside
      ∙ ap (λ (n : Named). n ∷ drop (suc i) named) (sym at) ∙ ap (λ (j : ℕ). one ∷ drop j named) (sym (add-one i)));
  accepted = front_accepted (omega (arith, inside)) long are;
  name_is = is;
  refused = refused;
}

-- a script that was read is what the library holds, where it exposes that
pub script_held : {told : Option (List File)} {name : List ℕ} {script : Script} (held : List File) →
    IsScriptOf told name script → told ≡ Some held → HoldsScript held name script
script_held held read told_is = record { text = read.text; found = read.found held told_is; script_is = read.script_is }

names_good : (named : List Named) → All HasGoodName named → All (λ name. good_name name ≡ true) (names_in named)
names_good [] good = All-nil (λ name. good_name name ≡ true)
names_good (n ∷ named) good =
    All-cons (λ name. good_name name ≡ true) (string_bytes n.name) (names_in named)
    (All-head HasGoodName n named good) (names_good named (All-tail HasGoodName n named good))

-- a film or trace that a script names has a good name
pub named_good : {name : List ℕ} (named : List Named) → All HasGoodName named → Contains (names_in named) name →
    good_name name ≡ true
named_good {name} named good (k, inside, at) =
    subst (λ (n : List ℕ). good_name n ≡ true) at (names_good named good k name inside)

-- ---- what is read once

-- a line, those after it, and how many of these are read
record FirstLines : Type 0 where
  line : List ℕ
  lines : List (List ℕ)
  count : ℕ

-- a line is taken in, where it and lines after it are read
line_fails_after : {mid whole : Reading} {o : Option Reading} (r : Reading) (first : FirstLines)
    → line_read r first.line ≡ o → ((next : Reading) → lines_read next (take first.count first.lines) ≡ Some mid
    → lines_read next first.lines ≡ Some whole → ⊥) → lines_read r (first.line ∷ take first.count first.lines)
    ≡ Some mid → lines_read r (first.line ∷ first.lines) ≡ Some whole → ⊥
line_fails_after {whole} {o = None} r first is fails before all =
    let bad : None ≡ Some whole = sym (ap (option_and_then (λ (next : Reading). lines_read next first.lines)) is)
    ∙ all in
    cc
line_fails_after {whole} {o = Some next} r first is fails before all =
    fails next (sym (ap (option_and_then (λ (n : Reading). lines_read n (take first.count first.lines))) is) ∙ before)
    (sym (ap (option_and_then (λ (n : Reading). lines_read n first.lines)) is) ∙ all)

-- a line among these at which a reading of those before it fails
record FailingLine (lines : List (List ℕ)) (k : ℕ) (mid : Reading) : Type 0 where
  inside : k < length lines
  here : line_read mid (slice_index_or lines k []) ≡ None

-- one of the lines of a text that is read may not stand there
line_fails : {mid whole : Reading} (r : Reading) (lines : List (List ℕ)) (k : ℕ) →
    lines_read r (take k lines) ≡ Some mid → FailingLine lines k mid → lines_read r lines ≡ Some whole → ⊥
line_fails {whole} r [] k before failing all = omega (arith, failing.inside)
line_fails {mid} {whole} r (line ∷ lines) zero before failing all =
    let same : r ≡ mid = cc in
    let none : line_read r line ≡ None = ap (λ (s : Reading). line_read s line) same ∙ failing.here in
    let bad : None ≡ Some whole = sym (ap (option_and_then (λ (next : Reading). lines_read next lines)) none) ∙ all in
    cc
line_fails {whole} r (line ∷ lines) (suc k) before failing all =
    line_fails_after r (record { line = line; lines = lines; count = k }) refl
    (λ next front rest. line_fails next lines k front
    (record { inside = omega (arith, failing.inside); here = failing.here })
    rest) before all

-- a script's text has no bad line
script_not_bad : (text : List ℕ) (script : Script) (line : ℕ) → IsScript text script → IsBadLine text line → ⊥
script_not_bad text script line is bad = elim bad.here [
  | inl many ↦ omega (arith, many, bad.inside, is.few)
  | inr here ↦ line_fails nothing_read (lines_of_script text) (line - 1) bad.before
      (record { inside = omega (arith, bad.some, bad.inside); here = here }) is.read
]

script_not_refused : (held : List File) (name : List ℕ) (script : Script) (fault : InputError)
    → HoldsScript held name script → IsScriptRefused held name fault → ⊥
script_not_refused held name script fault holds (inl missing) = none-some holds.text (sym missing.1 ∙ holds.found)
script_not_refused held name script fault holds (inr bad) =
    script_not_bad holds.text script bad.line holds.script_is
    (subst (λ (t : List ℕ). IsBadLine t bad.line)
    (one_file held name bad.text holds.text bad.found holds.found) bad.bad)

read_names : Option Reading → List Name
read_names None = []
read_names (Some reading) = reading.names

read_lines : Option Reading → List Line
read_lines None = []
read_lines (Some reading) = reading.lines

-- what was read of a script's text
abbrev reading_in : Script → ℕ → Reading
reading_in script slot = record { lines = script.lines.items; names = names_of script.named.items; slot = slot }

-- what is read of a script is always the same
same_reading : (held : List File) (name : List ℕ) (a b : Script) (p : HoldsScript held name a)
    (q : HoldsScript held name b) → Some (reading_in a p.script_is.slot) ≡ Some (reading_in b q.script_is.slot)
same_reading held name a b p q =
    sym p.script_is.read
    ∙ ap (λ (t : List ℕ). lines_read nothing_read (lines_of_script t))
    (one_file held name p.text q.text p.found q.found) ∙ q.script_is.read

-- a script's names are the only ones
pub names_once : (held : List File) (name : List ℕ) (a b : Script) → HoldsScript held name a
    → HoldsScript held name b → names_of a.named.items ≡ names_of b.named.items
unfolding read_names
names_once held name a b p q = ap read_names (same_reading held name a b p q)

-- so are its lines
pub lines_once : (held : List File) (name : List ℕ) (a b : Script) → HoldsScript held name a
    → HoldsScript held name b → a.lines.items ≡ b.lines.items
unfolding read_lines
lines_once held name a b p q = ap read_lines (same_reading held name a b p q)

-- a film or trace that is held in place of another of its name and kind
pub same_name : (a b : Named) → name_of a ≡ name_of b → (held : List File) (source : Source)
    → IsHeldAs held a source → IsHeldAs held b source
same_name a b same held source is = subst (λ (n : Name). IsHeldUnder n.kind held n.name source) same is

pub day_not_refused : {held : List File} {script : List ℕ} {read : Script} {sources : List Source} (name : List ℕ)
    (fault : InputError) → HoldsScript held script read →
    AreHeldAs held read.named.items sources → IsDayRefused script held name fault → ⊥
day_not_refused {held} {script} {read} name fault holds are (inl refused) =
    script_not_refused held script read fault holds
    (subst (λ (n : List ℕ). IsScriptRefused held n fault) refused.0 refused.1)
day_not_refused {held} {script} {read} {sources} name fault holds are (inr named) =
    let other : Script = named.0 in
    let first : IsFirstNamedRefused other.named.items held name fault = named.1.1 in
    let names : names_of other.named.items ≡ names_of read.named.items =
    names_once held script other read named.1.0 holds in
    let k : ℕ = length first.before in
    let inside : k < length other.named.items =
    omega (arith, ap length first.named_are, length-append first.before (first.one ∷ first.rest)) in
    let short : k < length read.named.items =
    omega (arith, inside, length-map other.named.items name_of, length-map read.named.items name_of, ap length names) in
    let at : get_or other.named.items k first.one ≡ first.one =
    ap (λ (l : List Named). get_or l k first.one) first.named_are
    ∙ get_or-append_seam first.before first.one first.rest first.one in
    let alike : name_of (get_or read.named.items k first.one) ≡ name_of first.one =
    sym (get_or-map name_of read.named.items k first.one)
    ∙ ap (λ (ns : List Name). get_or ns k (name_of first.one)) (sym names)
    ∙ get_or-map name_of other.named.items k first.one ∙ ap name_of at in
    let none : Source = first_of sources k (omega (arith, short, are.count)) in
    held_as_not_refused first.one.kind (get_or sources k none)
    (record {
      fault = fault;
      refused = subst (λ (n : List ℕ). IsRefusedAs first.one.kind held n fault) first.name_is
          first.refused;
    }) (same_name (get_or read.named.items k first.one) first.one alike held (get_or sources k none)
    (are.each k first.one none short))
