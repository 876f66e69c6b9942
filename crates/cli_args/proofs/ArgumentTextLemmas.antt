-- The values of written invocations are read back.
use Rattle.std.proofs.Common.{◌≡◌, ℕ, ◌+◌, ◌-◌, ◌<◌, ◌≤◌, ◌^◌, ◌&&◌, not, List, [], ◌∷◌, ◌++◌, All, length, sym, ap}
use Rattle.std.proofs.Common.{subst, ◌∙◌, arith, Option, Some, None, Bool, true, false, refl, codes, decimal, nat_lt}
use Rattle.std.proofs.Common.{nat_le, ◌==◌, if◌then◌else◌, inl, inr, length-append, true≢false}
use Rattle.std.specs.Int.{IsInRange}
use Rattle.std.specs.List.{list_all, position_or_len, before_first, after_first, slice_split, fold}
use Rattle.std.specs.Option.{option_and_then, option_map}
use Rattle.std.specs.Char.{is_ascii_digit}
use Rattle.std.proofs.lemmas.Bool.{and_parts, and_from, cases_Bool, eqb-true, eq-eqb, le-leb, lt-ltb, ne_eqb}
use Rattle.std.proofs.lemmas.Fmt.{digits_decimal}
use Rattle.std.proofs.lemmas.List.{append_assoc}
use Rattle.std.proofs.lemmas.List.Elements.{All-nil, All-cons}
use Rattle.std.proofs.lemmas.List.Splits.{slice_split_at, slice_split_none}
use Rattle.std.proofs.Math.ListN.{get_or-append}
use Rattle.std.proofs.Math.Seq.{get_or-append_seam}
use Rattle.vod_base.specs.Names.{good_name}
use Rattle.vod_base.specs.Numbers.{number_of}
use Rattle.vod_base.proofs.DigitLemmas.{decimal_numerals}
use Rattle.vod_base.proofs.TextLemmas.{decimal_read}
use Rattle.slot_calendar.specs.declared.profiles.CapStep.{CapStep}
use Rattle.slot_calendar.specs.Profiles.{no_step, step_at}
use Rattle.vod_base.specs.Limits.{in_range}
use Rattle.vod_base.specs.declared.links.TheConstants.{LATEST_SLOT}
use Rattle.slot_calendar.specs.declared.profiles.TheConstants.{MAX_CAPACITY, MAX_STEPS}
use Rattle.cli_args.specs.Settings.{one_name, one_number, number_or}
use Rattle.cli_args.specs.Capacities.{step_of, is_later_step, may_follow, add_step, add_step_text, steps_of}
use Rattle.cli_args.specs.Capacities.{one_capacity}
use Rattle.cli_args.specs.ArgumentText.{IsCapacity, step_text, steps_text}
use Rattle.cli_args.proofs.SettingLemmas.{has_no, inside_of, before_of, after_of}

-- a number in its range
pub number_back : (least most n : ℕ) → IsInRange least most n → n < 2 ^ 64
    → in_range least most (number_of (decimal n)) ≡ Some n
number_back least most n within small =
    ap (in_range least most) (decimal_read n small)
    ∙ ap (λ (b : Bool). if b && nat_le n most then Some n else None) (le-leb least n within.0)
    ∙ ap (λ (b : Bool). if b then Some n else None) (le-leb n most within.1)

pub key_or : {least most n : ℕ} {values : List (List ℕ)} (default : ℕ) → values ≡ decimal n ∷ [] →
    IsInRange least most n → n < 2 ^ 64 →
    number_or default least most values ≡ Some n
key_or {least} {most} {n} default given within small =
    ap (number_or default least most) given ∙ number_back least most n within small

pub key_one : {least most n : ℕ} {values : List (List ℕ)} → values ≡ decimal n ∷ [] → IsInRange least most n
    → n < 2 ^ 64 →
    one_number least most values ≡ Some n
key_one {least} {most} {n} given within small = ap (one_number least most) given ∙ number_back least most n within small

pub name_back : (name : List ℕ) (values : List (List ℕ)) → values ≡ name ∷ [] → good_name name ≡ true
    → one_name values ≡ Some name
name_back name values given good = ap one_name given ∙ ap (λ (b : Bool). if b then Some name else None) good

-- no digit is another byte
no_digit : (c : ℕ) (ds : List ℕ) → is_ascii_digit c ≡ false → list_all is_ascii_digit ds ≡ true → has_no c ds ≡ true
no_digit c [] other digits = refl
no_digit c (b ∷ ds) other digits =
    let parts = and_parts (is_ascii_digit b) (list_all is_ascii_digit ds) digits in
    let here : not (b == c) ≡ true = elim (cases_Bool (b == c)) [
      | inl same ↦ absurd (true≢false (sym parts.0 ∙ ap is_ascii_digit (eqb-true b c same) ∙ other))
      | inr apart ↦ ap not apart
    ] in
    and_from (not (b == c)) (has_no c ds) here (no_digit c ds other parts.1)

decimal_has_no : (c n : ℕ) → is_ascii_digit c ≡ false → n < 2 ^ 64 → has_no c (decimal n) ≡ true
decimal_has_no c n other small = no_digit c (decimal n) other (digits_decimal decimal_numerals n small)

-- a text without a byte, followed by another such
none_joined : (c : ℕ) (front rest : List ℕ) → has_no c front ≡ true → has_no c rest ≡ true
    → has_no c (front ++ rest) ≡ true
none_joined c [] rest h k = k
none_joined c (b ∷ front) rest h k =
    let parts = and_parts (not (b == c)) (has_no c front) h in
    and_from (not (b == c)) (has_no c (front ++ rest)) parts.0 (none_joined c front rest parts.1 k)

all_fail : (c : ℕ) (text : List ℕ) → has_no c text ≡ true → All (λ b. (b == c) ≡ false) text
all_fail c [] none = All-nil (λ b. (b == c) ≡ false)
all_fail c (b ∷ text) none =
    let parts = and_parts (not (b == c)) (has_no c text) none in
    let here : (b == c) ≡ false = elim (cases_Bool (b == c)) [
      | inl same ↦ absurd (true≢false (sym parts.0 ∙ ap not same))
      | inr apart ↦ apart
    ] in
    All-cons (λ b. (b == c) ≡ false) b text here (all_fail c text parts.1)

-- numbers of a step that a text can have
pub record IsShort (step : CapStep) : Type 0 where
  pub from : step.from < 2 ^ 64
  pub bytes : step.bytes < 2 ^ 64

abbrev made_step : ℕ → ℕ → CapStep
made_step from bytes = record { from = from; bytes = bytes }

-- a slot and bytes make a step
abbrev step_from : Option ℕ → Option ℕ → Option CapStep
step_from slot bytes = option_and_then (λ (from : ℕ). option_map (λ (b : ℕ). made_step from b) bytes) slot

step_text_is : (step : CapStep) → step_text step ≡ decimal step.from ++ 58 ∷ decimal step.bytes
step_text_is step = append_assoc (decimal step.from) (codes ":") (decimal step.bytes)

step_of_cut : (text front rest : List ℕ) → nat_lt (position_or_len (λ b. b == 58) text) (length text) ≡ true →
    before_first (λ b. b == 58) text ≡ front → after_first (λ b. b == 58) text ≡ rest
    → step_of text ≡ step_from (number_of front) (number_of rest)
step_of_cut text front rest inside before after =
    ap (λ (b : Bool). if b then step_from (number_of (before_first (λ b. b == 58) text))
    (number_of (after_first (λ b. b == 58) text)) else None) inside
    ∙ ap (λ (f : List ℕ). step_from (number_of f) (number_of (after_first (λ b. b == 58) text))) before
    ∙ ap (λ (r : List ℕ). step_from (number_of front) (number_of r)) after

-- a written step is read back
step_back : (step : CapStep) → IsShort step → step_of (step_text step) ≡ Some step
step_back step short =
    let plain : has_no 58 (decimal step.from) ≡ true = decimal_has_no 58 step.from refl short.from in
    ap step_of (step_text_is step)
    ∙ step_of_cut (decimal step.from ++ 58 ∷ decimal step.bytes) (decimal step.from) (decimal step.bytes)
    (inside_of 58 (decimal step.from) (decimal step.bytes) refl plain)
    (before_of 58 (decimal step.from) (decimal step.bytes) refl plain)
    (after_of 58 (decimal step.from) (decimal step.bytes) refl plain)
    ∙ ap (λ (o : Option ℕ). step_from o (number_of (decimal step.bytes))) (decimal_read step.from short.from)
    ∙ ap (λ (o : Option ℕ). step_from (Some step.from) o) (decimal_read step.bytes short.bytes)

-- a step's text has no comma
step_one : (step : CapStep) → IsShort step → has_no 44 (step_text step) ≡ true
step_one step short =
    none_joined 44 (decimal step.from ++ codes ":") (decimal step.bytes)
    (none_joined 44 (decimal step.from) (codes ":") (decimal_has_no 44 step.from refl short.from) refl)
    (decimal_has_no 44 step.bytes refl short.bytes)

-- the step that stands after others in a capacity may follow them
step_may : (front : List CapStep) (step : CapStep) (rest : List CapStep)
    → IsCapacity (front ++ step ∷ rest) → may_follow front step ≡ true
step_may front step rest capacity =
    let profile = capacity.0 in
    let long = length-append front (step ∷ rest) in
    let here : step_at (front ++ step ∷ rest) (length front) ≡ step = get_or-append_seam front step rest no_step in
    let few : nat_lt (length front) MAX_STEPS ≡ true =
    lt-ltb (length front) MAX_STEPS (omega (arith, profile.few, long)) in
    let late : nat_le step.from LATEST_SLOT ≡ true = le-leb step.from LATEST_SLOT
    (subst (λ (s : CapStep). s.from ≤ LATEST_SLOT) here (capacity.1 (length front) no_step (omega (arith, long)))) in
    let small : nat_le step.bytes MAX_CAPACITY ≡ true = le-leb step.bytes MAX_CAPACITY
    (subst (λ (s : CapStep). s.bytes ≤ MAX_CAPACITY) here (profile.small (length front) (omega (arith, long)))) in
    let stands : is_later_step front step.from ≡ true = stands_here front step rest capacity here in
    and_from (nat_lt (length front) MAX_STEPS)
    (is_later_step front step.from && (nat_le step.from LATEST_SLOT && nat_le step.bytes MAX_CAPACITY)) few
    (and_from (is_later_step front step.from) (nat_le step.from LATEST_SLOT && nat_le step.bytes MAX_CAPACITY) stands
    (and_from (nat_le step.from LATEST_SLOT) (nat_le step.bytes MAX_CAPACITY) late small))
  where
    stands_here : (front : List CapStep) (step : CapStep) (rest : List CapStep)
        → IsCapacity (front ++ step ∷ rest) → step_at (front ++ step ∷ rest) (length front) ≡ step
        → is_later_step front step.from ≡ true
    stands_here [] step rest capacity here = eq-eqb step.from 0 capacity.0.first
    stands_here (s ∷ front) step rest capacity here =
        let steps = s ∷ front in
        let long = length-append steps (step ∷ rest) in
        let inside : (length steps - 1) + 1 < length (steps ++ step ∷ rest) = omega (arith, long) in
        let place : (length steps - 1) + 1 ≡ length steps = omega arith in
        let before : step_at (steps ++ step ∷ rest) (length steps - 1) ≡ step_at steps (length steps - 1) =
        get_or-append steps (step ∷ rest) no_step (length steps - 1) (omega arith) in
        let rises : (step_at steps (length steps - 1)).from < step.from =
        subst (λ (t : CapStep). t.from < step.from) before
        (subst (λ (t : CapStep). (step_at (steps ++ step ∷ rest) (length steps - 1)).from < t.from) here
        (subst (λ (i : ℕ). (step_at (steps ++ step ∷ rest) (length steps - 1)).from
        < (step_at (steps ++ step ∷ rest) i).from) place (capacity.0.ascend (length steps - 1) inside))) in
        let some : (length steps == 0) ≡ false = ne_eqb (length steps) 0 (λ none. omega (arith, none)) in
        ap (λ (b : Bool). if b then step.from == 0 else nat_lt (step_at steps (length steps - 1)).from step.from) some
        ∙ lt-ltb (step_at steps (length steps - 1)).from step.from rises

-- a step that may follow is taken
pub step_taken : (front : List CapStep) (step : CapStep) (rest : List CapStep) →
    IsCapacity (front ++ step ∷ rest) → IsShort step →
    add_step_text (Some front) (step_text step) ≡ Some (front ++ step ∷ [])
step_taken front step rest capacity short =
    ap (add_step front) (step_back step short)
    ∙ ap (λ (b : Bool). if b then Some (front ++ step ∷ []) else None) (step_may front step rest capacity)

-- the numbers of a capacity's step are short
short_step : (front : List CapStep) (step : CapStep) (rest : List CapStep)
    → IsCapacity (front ++ step ∷ rest) → IsShort step
short_step front step rest capacity =
    let long = length-append front (step ∷ rest) in
    let here : step_at (front ++ step ∷ rest) (length front) ≡ step = get_or-append_seam front step rest no_step in
    let late : step.from ≤ LATEST_SLOT =
    subst (λ (s : CapStep). s.from ≤ LATEST_SLOT) here (capacity.1 (length front) no_step (omega (arith, long))) in
    let small : step.bytes ≤ MAX_CAPACITY =
    subst (λ (s : CapStep). s.bytes ≤ MAX_CAPACITY) here (capacity.0.small (length front) (omega (arith, long))) in
    record { from = omega (arith, late); bytes = omega (arith, small) }

-- one step more before them
moved : (front : List CapStep) (step : CapStep) (rest : List CapStep)
    → (front ++ step ∷ []) ++ rest ≡ front ++ step ∷ rest
moved front step rest = append_assoc front (step ∷ []) rest

-- written steps are read back, after those before them
pub steps_back : (front : List CapStep) (step : CapStep) (rest : List CapStep)
    → IsCapacity (front ++ step ∷ rest)
    → fold add_step_text (Some front) (slice_split (λ b. b == 44) (steps_text (step ∷ rest))) ≡ Some (front ++ step ∷
    rest)
steps_back front step [] capacity =
    let short = short_step front step [] capacity in
    ap (fold add_step_text (Some front))
    (slice_split_none (λ b. b == 44) (step_text step) (all_fail 44 (step_text step) (step_one step short)))
    ∙ step_taken front step [] capacity short
steps_back front step (next ∷ rest) capacity =
    let short = short_step front step (next ∷ rest) capacity in
    let whole : (front ++ step ∷ []) ++ next ∷ rest ≡ front ++ step ∷ next ∷ rest = moved front step (next ∷ rest) in
    let text : steps_text (step ∷ next ∷ rest) ≡ step_text step ++ 44 ∷ steps_text (next ∷ rest) =
    append_assoc (step_text step) (codes ",") (steps_text (next ∷ rest)) in
    ap (λ (t : List ℕ). fold add_step_text (Some front) (slice_split (λ b. b == 44) t)) text
    ∙ ap (fold add_step_text (Some front))
    (slice_split_at (λ b. b == 44) (step_text step) 44 (steps_text (next ∷ rest))
    (all_fail 44 (step_text step) (step_one step short)) refl)
    ∙ ap (λ (o : Option (List CapStep)). fold add_step_text o
    (slice_split (λ b. b == 44) (steps_text (next ∷ rest)))) (step_taken front step (next ∷ rest) capacity short)
    ∙ steps_back (front ++ step ∷ []) next rest (subst IsCapacity (sym whole) capacity)
    ∙ ap (λ (steps : List CapStep). Some steps) whole

-- a colon stands in written steps
colon_inside : (step : CapStep) (rest : List CapStep) → IsShort step →
    nat_lt (position_or_len (λ b. b == 58) (steps_text (step ∷ rest))) (length (steps_text (step ∷ rest))) ≡ true
colon_inside step [] short =
    subst (λ (t : List ℕ). nat_lt (position_or_len (λ b. b == 58) t) (length t) ≡ true) (sym (step_text_is step))
    (inside_of 58 (decimal step.from) (decimal step.bytes) refl (decimal_has_no 58 step.from refl short.from))
colon_inside step (next ∷ rest) short =
    let tail = codes "," ++ steps_text (next ∷ rest) in
    let text : steps_text (step ∷ next ∷ rest) ≡ decimal step.from ++ 58 ∷ (decimal step.bytes ++ tail) =
    append_assoc (step_text step) (codes ",") (steps_text (next ∷ rest))
    ∙ ap (λ (t : List ℕ). t ++ tail) (step_text_is step)
    ∙ append_assoc (decimal step.from) (58 ∷ decimal step.bytes) tail in
    subst (λ (t : List ℕ). nat_lt (position_or_len (λ b. b == 58) t) (length t) ≡ true) (sym text)
    (inside_of 58 (decimal step.from) (decimal step.bytes ++ tail) refl (decimal_has_no 58 step.from refl short.from))

-- a written capacity is read back
pub capacity_back : (steps : List CapStep) (values : List (List ℕ)) → values ≡ steps_text steps ∷ []
    → IsCapacity steps → one_capacity values ≡ Some steps
capacity_back [] values given capacity = absurd (omega (arith, capacity.0.some))
capacity_back (step ∷ rest) values given capacity =
    ap one_capacity given
    ∙ ap (λ (b : Bool). if b then steps_of (steps_text (step ∷ rest)) else option_map
    (λ (n : ℕ). (made_step 0 n) ∷ []) (in_range 1 MAX_CAPACITY (number_of (steps_text (step ∷ rest)))))
    (colon_inside step rest (short_step [] step rest capacity))
    ∙ steps_back [] step rest capacity
