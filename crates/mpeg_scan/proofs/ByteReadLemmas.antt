-- Bytes read one after another, runs that change nothing but the place, and what stays refused.
use Rattle.std.proofs.Common.{ℕ, suc, Bool, true, false, cond, eqb, ◌+◌, ◌-◌, ◌<◌, ◌≤◌, ◌≡◌, List, [], ◌∷◌, ◌++◌}
use Rattle.std.proofs.Common.{Option, None, Some, length, take, drop, get_or, sym, subst, ◌∙◌, ap, refl, inl, inr}
use Rattle.std.proofs.Common.{arith}
use Rattle.std.specs.Option.{option_map}
use Rattle.std.proofs.lemmas.Bool.{cases_Bool, ne_eqb}
use Rattle.std.proofs.lemmas.List.{take_more, take_rest, get_or-take, length-take-le, length-drop, take-append-drop}
use Rattle.std.proofs.Math.Seq.{take-add}
use Rattle.mpeg_scan.specs.declared.codes.Code.{Code}
use Rattle.mpeg_scan.specs.declared.codes.Prefix.{Prefix}
use Rattle.mpeg_scan.specs.declared.codes.Prefix.TheVariants.{Nothing, Zero, Whole}
use Rattle.mpeg_scan.specs.declared.faults.FilmFault.{FilmFault}
use Rattle.mpeg_scan.specs.declared.progress.Progress.{Progress}
use Rattle.mpeg_scan.specs.StartCodes.{read_after, latest_prefix, next_prefix, is_whole, note, note_latest, codes_of}
use Rattle.mpeg_scan.specs.FilmFaults.{first_refusal, fault_at, first_fault}
use Rattle.mpeg_scan.specs.Calls.{Call, calls_of}
use Rattle.mpeg_scan.specs.ScannerState.{HasReadBytes, HasSkipped, IsQuiet, note_all, scan_with_byte}
use Rattle.mpeg_scan.specs.ScannerState.{scan_with_run, with_header_bytes}
use Rattle.mpeg_scan.proofs.ScanStepLemmas.{codes-plain, codes-code, first_fault-note, taken-none, taken-plain}

pub read-append : (r xs ys : List ℕ) → read_after r (xs ++ ys) ≡ read_after (read_after r xs) ys
read-append r [] ys = refl
read-append r (x ∷ xs) ys = read-append (x ∷ r) xs ys

-- a run of a chunk after its first bytes, and one byte after it
pub read-run : (r chunk : List ℕ) (a n : ℕ)
    → read_after (read_after r (take a chunk)) (take n (take (length chunk - a) (drop a chunk))) ≡ read_after r
    (take (a + n) chunk)
read-run r chunk a n =
    ap (λ (l : List ℕ). read_after (read_after r (take a chunk)) (take n l)) (take_rest chunk a)
    ∙ sym (read-append r (take a chunk) (take n (drop a chunk))) ∙ ap (read_after r) (sym (take-add a n chunk))

pub read-byte : (r chunk : List ℕ) (b : ℕ) → b < length chunk
    → get_or chunk b 0 ∷ read_after r (take b chunk) ≡ read_after r (take (b + 1) chunk)
read-byte r chunk b within =
    sym (read-append r (take b chunk) (get_or chunk b 0 ∷ [])) ∙ ap (read_after r) (sym (take_more chunk b 0 within))

pub read-rest : (r chunk : List ℕ) (a : ℕ)
    → read_after (read_after r (take a chunk)) (drop a chunk) ≡ read_after r chunk
read-rest r chunk a = sym (read-append r (take a chunk) (drop a chunk)) ∙ ap (read_after r) (take-append-drop a chunk)

-- ---- runs

next-other : (b : Bool) (x : ℕ) → (x ≡ 0 → ⊥) → eqb x 1 ≡ b → next_prefix Nothing x ≡ Nothing
next-other true x other is = ap (λ t. cond t Nothing (cond (eqb x 0) Zero Nothing)) is
next-other false x other is =
    ap (λ t. cond t Nothing (cond (eqb x 0) Zero Nothing)) is ∙ ap (λ t. cond t Zero Nothing) (ne_eqb x 0 other)

-- none of the first n bytes is 0
abbrev AreNonzero : List ℕ → ℕ → Type 0
AreNonzero xs n = (k : ℕ) → k < n → get_or xs k 0 ≡ 0 → ⊥

front-nonzero : (xs : List ℕ) (n : ℕ) → n ≤ length xs → AreNonzero xs n → AreNonzero (take n xs) (length (take n xs))
front-nonzero xs n bound nonzero k within zero_there =
    let below : k < n = omega (arith, length-take-le n xs bound) in
    nonzero k below (sym (get_or-take n xs k 0 below) ∙ zero_there)

-- a run without zero bytes, where nothing of a prefix stands
record IsRun (s : Progress) (xs : List ℕ) : Type 0 where
  none : s.prefix ≡ Nothing
  nonzero : AreNonzero xs (length xs)

next-run : {s : Progress} {x : ℕ} {xs : List ℕ} → IsRun s (x ∷ xs) → IsRun (scan_with_byte s x) xs
next-run {s} {x} run = record {
  none = ap (λ p. next_prefix p x) run.none ∙ next-other (eqb x 1) x (run.nonzero 0 (omega arith)) refl;
  nonzero = λ k within. run.nonzero (suc k) (omega arith);
}

-- what it leaves: the bytes are counted, and added to the latest header
header-run : (latest : Option Code) (x : ℕ) (xs : List ℕ)
    → option_map (λ c. note_all c xs) (option_map (λ c. note c x) latest)
    ≡ option_map (λ c. note_all c (x ∷ xs)) latest
header-run None x xs = refl
header-run (Some c) x xs = refl

header-none : (latest : Option Code)
    → latest ≡ option_map (λ c. note_all c []) latest
header-none None = refl
header-none (Some c) = refl

run-is : {s : Progress} (xs : List ℕ) → IsRun s xs
    → scan_with_run s xs ≡ record s { fed = s.fed + length xs; latest = option_map (λ c. note_all c xs) s.latest }
run-is {s} [] run =
    let none : s.fed ≡ s.fed + 0 = omega arith in
    ap (λ n. record s { fed = n }) none
    ∙ ap (λ (o : Option Code). record s { fed = s.fed + 0; latest = o }) (header-none s.latest)
run-is {s} (x ∷ xs) run =
    let next = next-run run in
    let count : s.fed + 1 + length xs ≡ s.fed + length (x ∷ xs) = omega arith in
    let still : next_prefix s.prefix x ≡ s.prefix = next.none ∙ sym run.none in
    let headers = option_map (λ c. note_all c xs)
    (option_map (λ c. note c x) s.latest) in
    run-is {s = scan_with_byte s x} xs next
    ∙ (ap (λ n. record s { fed = n; prefix = next_prefix s.prefix x; latest = headers }) count
    ∙ (ap (λ p. record s { fed = s.fed + length (x ∷ xs); prefix = p; latest = headers }) still
    ∙ ap (λ (o : Option Code). record s { fed = s.fed + length (x ∷ xs); latest = o }) (header-run s.latest x xs)))

-- none of a run's bytes is the value of a code
run-quiet : {s : Progress} (xs : List ℕ) → IsRun s xs → IsQuiet s xs
run-quiet [] run = tt
run-quiet {s} (x ∷ xs) run = (ap is_whole run.none, run-quiet {s = scan_with_byte s x} xs (next-run run))

-- ---- bytes of which none is the value of a code

quiet-kept : {s : Progress} {r : List ℕ} (xs : List ℕ) → IsQuiet s xs → HasReadBytes s r
    → HasReadBytes (scan_with_run s xs) (read_after r xs)
quiet-kept [] quiet kept = kept
quiet-kept {s} {r} (x ∷ xs) quiet kept =
    quiet-kept {s = scan_with_byte s x} {r = x ∷ r} xs quiet.1 (taken-plain {s = s} {x = x} quiet.0 kept)

quiet-calls : {s : Progress} {r : List ℕ} (xs : List ℕ) → IsQuiet s xs → HasReadBytes s r
    → calls_of (codes_of (read_after r xs)) ≡ calls_of (codes_of r)
quiet-calls [] quiet kept = refl
quiet-calls {s} {r} (x ∷ xs) quiet kept =
    quiet-calls {s = scan_with_byte s x} {r = x ∷ r} xs quiet.1 (taken-plain {s = s} {x = x} quiet.0 kept)
    ∙ sym (taken-none x quiet.0 kept [])

pub skipped-kept : {old new : Progress} {rest : List ℕ} {count : ℕ} {r : List ℕ} → HasSkipped old new rest count
    → HasReadBytes old r → HasReadBytes new (read_after r (take count rest))
skipped-kept {rest} {count} {r} skipped kept =
    subst (λ (s : Progress). HasReadBytes s (read_after r (take count rest))) (sym skipped.is)
    (quiet-kept (take count rest) skipped.quiet kept)

pub skipped-calls : {old new : Progress} {rest : List ℕ} {count : ℕ} {r : List ℕ} → HasSkipped old new rest count
    → HasReadBytes old r → calls_of (codes_of (read_after r (take count rest))) ≡ calls_of (codes_of r)
skipped-calls {rest} {count} skipped kept = quiet-calls (take count rest) skipped.quiet kept

-- one such part after another
quiet-append : (s : Progress) (xs ys : List ℕ) → IsQuiet s xs → IsQuiet (scan_with_run s xs) ys → IsQuiet s (xs ++ ys)
quiet-append s [] ys one other = other
quiet-append s (x ∷ xs) ys one other = (one.0, quiet-append (scan_with_byte s x) xs ys one.1 other)

run-append : (s : Progress) (xs ys : List ℕ) → scan_with_run s (xs ++ ys) ≡ scan_with_run (scan_with_run s xs) ys
run-append s [] ys = refl
run-append s (x ∷ xs) ys = run-append (scan_with_byte s x) xs ys

pub skipped-more : {old mid new : Progress} {rest left : List ℕ} {count more : ℕ} → HasSkipped old mid rest count
    → left ≡ drop count rest → HasSkipped mid new left more → HasSkipped old new rest (count + more)
skipped-more {old} {mid} {new} {rest} {left} {count} {more} one left_is other =
    let xs = take count rest in
    let ys = take more left in
    let all : take (count + more) rest ≡ xs ++ ys =
    take-add count more rest ∙ ap (λ (l : List ℕ). xs ++ take more l) (sym left_is) in record {
      quiet = subst (λ (l : List ℕ). IsQuiet old l) (sym all)
          (quiet-append old xs ys one.quiet (subst (λ (s : Progress). IsQuiet s ys) one.is other.quiet));
      is = other.is ∙ (ap (λ (s : Progress). scan_with_run s ys) one.is
          ∙ (sym (run-append old xs ys) ∙ ap (scan_with_run old) (sym all)));
    }

-- ---- the run before the first zero byte of a chunk

-- the bytes before the first zero byte, where nothing of a prefix stood
pub skipped-run : {old new : Progress} {rest : List ℕ} {count : ℕ} → old.prefix ≡ Nothing → count ≤ length rest
    → ((k : ℕ) → k < count → get_or rest k 0 ≡ 0 → ⊥)
    → new ≡ record (with_header_bytes old (take count rest)) { fed = old.fed + count }
    → HasSkipped old new rest count
skipped-run {old} {rest} {count} none bound nonzero is =
    let xs = take count rest in
    let run : IsRun old xs = record { none = none; nonzero = front-nonzero rest count bound nonzero } in
    let headers = option_map (λ c. note_all c xs) old.latest in record {
      quiet = run-quiet xs run;
      is = is
          ∙ (ap (λ n. record old { fed = old.fed + n; latest = headers }) (sym (length-take-le count rest bound))
          ∙ sym (run-is xs run));
    }

-- ---- a prefix that stands there

three-first : (rest : List ℕ) → 3 ≤ length rest → get_or rest 0 0 ≡ 0 → get_or rest 1 0 ≡ 0 → get_or rest 2 0 ≡ 1
    → take 3 rest ≡ 0 ∷ 0 ∷ 1 ∷ []
three-first [] some a b c = absurd (omega arith)
three-first (x ∷ []) some a b c = absurd (omega arith)
three-first (x ∷ y ∷ []) some a b c = absurd (omega arith)
three-first (x ∷ y ∷ z ∷ rest) some a b c = cc

header-three : (latest : Option Code)
    → option_map (λ c. note_all c (0 ∷ 0 ∷ 1 ∷ [])) latest
    ≡ option_map (λ c. note c 1) (option_map (λ c. note c 0) (option_map (λ c. note c 0) latest))
header-three None = refl
header-three (Some c) = refl

abbrev prefix_three : Prefix → Prefix
prefix_three p = next_prefix (next_prefix (next_prefix p 0) 0) 1

pub skipped-prefix : {old new : Progress} (rest : List ℕ) → old.prefix ≡ Nothing → 3 ≤ length rest
    → get_or rest 0 0 ≡ 0 → get_or rest 1 0 ≡ 0 → get_or rest 2 0 ≡ 1
    → new ≡ record (with_header_bytes old (take 3 rest)) { fed = old.fed + 3; prefix = Whole }
    → HasSkipped old new rest 3
skipped-prefix {old} {new} rest none some a b c is =
    let three = three-first rest some a b c in
    let whole : Whole ≡ prefix_three old.prefix = sym (ap prefix_three none) in
    let fed : old.fed + 3 ≡ old.fed + 1 + 1 + 1 = omega arith in
    let noted = option_map (λ c. note_all c (0 ∷ 0 ∷ 1 ∷ [])) old.latest in record {
      quiet = subst (λ (l : List ℕ). IsQuiet old l) (sym three) (
        ap is_whole none,
        (ap (λ p. is_whole (next_prefix p 0)) none, (ap (λ p. is_whole (next_prefix (next_prefix p 0) 0)) none, tt)),
      );
      is = is
          ∙ (ap (λ (l : List ℕ). record (with_header_bytes old l) { fed = old.fed + 3; prefix = Whole }) three
          ∙ (ap (λ n. record old { fed = n; prefix = Whole; latest = noted }) fed
          ∙ (ap (λ p. record old { fed = old.fed + 1 + 1 + 1; prefix = p; latest = noted }) whole
          ∙ (ap (λ (o : Option Code). record old {
            fed = old.fed + 1 + 1 + 1;
            prefix = prefix_three old.prefix;
            latest = o;
          }) (header-three old.latest)
          ∙ ap (scan_with_run old) (sym three)))));
    }

-- ---- what is refused stays refused

fault-stays-code : (c : Code) (past : List Code) (f : FilmFault) → first_fault past ≡ Some f
    → first_fault (c ∷ past) ≡ Some f
unfolding first_fault
fault-stays-code c past f is = ap (λ (o : Option FilmFault). first_refusal o (fault_at past c.place c.value)) is

fault-stays-byte : (x : ℕ) (r : List ℕ) (f : FilmFault) → first_fault (codes_of r) ≡ Some f
    → first_fault (codes_of (x ∷ r)) ≡ Some f
fault-stays-byte x r f is = elim (cases_Bool (is_whole (latest_prefix r))) [
  | inl e ↦ ap first_fault (codes-code x r e)
      ∙ fault-stays-code _ (note_latest (codes_of r) x) f (first_fault-note (codes_of r) x ∙ is)
  | inr e ↦ ap first_fault (codes-plain x r e) ∙ first_fault-note (codes_of r) x ∙ is
]

pub fault-stays : (xs r : List ℕ) (f : FilmFault) → first_fault (codes_of r) ≡ Some f
    → first_fault (codes_of (read_after r xs)) ≡ Some f
fault-stays [] r f is = is
fault-stays (x ∷ xs) r f is = fault-stays xs (x ∷ r) f (fault-stays-byte x r f is)

-- ---- as the code takes a chunk

pub length-rest : (chunk : List ℕ) (a : ℕ) → length (take (length chunk - a) (drop a chunk)) ≡ length chunk - a
length-rest chunk a = ap (λ (l : List ℕ). length l) (take_rest chunk a) ∙ length-drop a chunk

pub calls-run : (r chunk : List ℕ) (a n : ℕ) (calls : List Call)
    → calls_of (codes_of (read_after (read_after r (take a chunk)) (take n (take (length chunk - a) (drop a chunk)))))
    ≡ calls_of (codes_of (read_after r (take a chunk)))
    → calls ++ calls_of (codes_of (read_after r (take a chunk))) ≡ calls ++ calls_of
    (codes_of (read_after r (take (a + n) chunk)))
calls-run r chunk a n calls same =
    ap (λ (l : List Call). calls ++ l)
    (sym same ∙ ap (λ (q : List ℕ). calls_of (codes_of q)) (read-run r chunk a n))

pub fault-rest : (r chunk : List ℕ) (b : ℕ) (f : FilmFault) → b < length chunk
    → first_fault (codes_of (get_or chunk b 0 ∷ read_after r (take b chunk))) ≡ Some f
    → first_fault (codes_of (read_after r chunk)) ≡ Some f
fault-rest r chunk b f within is =
    let there : first_fault (codes_of (read_after r (take (b + 1) chunk))) ≡ Some f =
    ap (λ (q : List ℕ). first_fault (codes_of q)) (sym (read-byte r chunk b within)) ∙ is in
    ap (λ (q : List ℕ). first_fault (codes_of q)) (sym (read-rest r chunk (b + 1)))
    ∙ fault-stays (drop (b + 1) chunk) (read_after r (take (b + 1) chunk)) f there
