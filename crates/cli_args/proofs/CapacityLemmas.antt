-- Steps, each of which may follow the ones before it.
use Rattle.std.proofs.Common.{◌≡◌, ◌+◌, ◌-◌, ◌<◌, ◌≤◌, ℕ, Bool, true, false, if◌then◌else◌}
use Rattle.std.proofs.Common.{◌&&◌, ◌==◌, nat_lt, nat_le, List, [], ◌∷◌, ◌++◌, length, Option, Some}
use Rattle.std.proofs.Common.{None, inl, inr, arith, refl, sym, ap, ◌∙◌, length-append}
use Rattle.std.specs.List.{before_first, after_first, position_or_len, slice_split, fold}
use Rattle.std.proofs.lemmas.Bool.{and_parts, cases_lt, ltb-true, leb-true, eqb-true, eq-eqb, ne_eqb}
use Rattle.std.proofs.lemmas.List.Elements.{All-from_get_or}
use Rattle.std.proofs.lemmas.List.Sums.{fails_before_first}
use Rattle.std.proofs.lemmas.List.Splits.{slice_split_first, slice_split_none}
use Rattle.std.proofs.Math.ListN.{get_or-append}
use Rattle.std.proofs.Math.Seq.{get_or-append_seam}
use Rattle.slot_calendar.specs.declared.profiles.CapStep.{CapStep}
use Rattle.slot_calendar.specs.Profiles.{IsProfile, no_step, step_at}
use Rattle.vod_base.specs.declared.links.TheConstants.{LATEST_SLOT}
use Rattle.slot_calendar.specs.declared.profiles.TheConstants.{MAX_CAPACITY, MAX_STEPS}
use Rattle.cli_args.specs.Capacities.{IsStepPrefix, may_follow, add_step_text, is_later_step, add_step, step_of}

-- what a step that may follow is known for
pub record MayFollow (steps : List CapStep) (step : CapStep) : Type 0 where
  pub short : length steps < MAX_STEPS
  pub first : length steps ≡ 0 → step.from ≡ 0
  pub later : 0 < length steps → (step_at steps (length steps - 1)).from < step.from
  pub small : step.bytes ≤ MAX_CAPACITY

at_start : (steps : List CapStep) (slot : ℕ) → is_later_step steps slot ≡ true → length steps ≡ 0 → slot ≡ 0
at_start steps slot e none = eqb-true slot 0 (rw (eq-eqb (length steps) 0 none) at e)

after_last : (steps : List CapStep) (slot : ℕ) → is_later_step steps slot ≡ true → 0 < length steps
    → (step_at steps (length steps - 1)).from < slot
after_last steps slot e some =
    let apart : (length steps == 0) ≡ false = ne_eqb (length steps) 0 (λ none. omega (arith, some, none)) in
    ltb-true (step_at steps (length steps - 1)).from slot (rw apart at e)

-- each part of the test of a step
pub step_parts : (steps : List CapStep) (step : CapStep) → may_follow steps step ≡ true →
    (nat_lt (length steps) MAX_STEPS ≡ true) × (is_later_step steps step.from ≡ true)
    × (nat_le step.from LATEST_SLOT ≡ true) × (nat_le step.bytes MAX_CAPACITY ≡ true)
step_parts steps step may =
    let all = and_parts (nat_lt (length steps) MAX_STEPS)
    (is_later_step steps step.from && (nat_le step.from LATEST_SLOT && nat_le step.bytes MAX_CAPACITY)) may in
    let rest =
    and_parts (is_later_step steps step.from) (nat_le step.from LATEST_SLOT && nat_le step.bytes MAX_CAPACITY) all.1 in
    let small = and_parts (nat_le step.from LATEST_SLOT) (nat_le step.bytes MAX_CAPACITY) rest.1 in
    (all.0, rest.0, small.0, small.1)

follows : (steps : List CapStep) (step : CapStep) → may_follow steps step ≡ true → MayFollow steps step
follows steps step may =
    let parts = step_parts steps step may in
    record {
      short = ltb-true (length steps) MAX_STEPS parts.0;
      first = at_start steps step.from parts.1;
      later = after_last steps step.from parts.1;
      small = leb-true step.bytes MAX_CAPACITY parts.3;
    }

-- a step before the last one, and the last one
old_step : (steps : List CapStep) (step : CapStep) (i : ℕ) → i < length steps
    → step_at (steps ++ step ∷ []) i ≡ step_at steps i
old_step steps step i inside = get_or-append steps (step ∷ []) no_step i inside

new_step : (steps : List CapStep) (step : CapStep) (i : ℕ) → i ≡ length steps
    → step_at (steps ++ step ∷ []) i ≡ step
new_step steps step i last = ap (step_at (steps ++ step ∷ [])) last ∙ get_or-append_seam steps step [] no_step

first_more : (steps : List CapStep) (step : CapStep) → IsStepPrefix steps → MayFollow steps step
    → (step_at (steps ++ step ∷ []) 0).from ≡ 0
first_more steps step front more = elim (cases_lt 0 (length steps)) [
  | inl some ↦ ap (λ (s : CapStep). s.from) (old_step steps step 0 some) ∙ front.first some
  | inr none ↦ ap (λ (s : CapStep). s.from) (new_step steps step 0 (omega (arith, none)))
      ∙ more.first (omega (arith, none))
]

ascend_more : (steps : List CapStep) (step : CapStep) → IsStepPrefix steps → MayFollow steps step → (i : ℕ) →
    i + 1 < length (steps ++ step ∷ []) →
    (step_at (steps ++ step ∷ []) i).from < (step_at (steps ++ step ∷ []) (i + 1)).from
ascend_more steps step front more i inside = elim (cases_lt (i + 1) (length steps)) [
  | inl before ↦
      let here : step_at (steps ++ step ∷ []) i ≡ step_at steps i = old_step steps step i (omega (arith, before)) in
      let next : step_at (steps ++ step ∷ []) (i + 1) ≡ step_at steps (i + 1) = old_step steps step (i + 1) before in
      rw here (rw next (front.ascend i before))
  | inr last ↦
      let long : length (steps ++ step ∷ []) ≡ length steps + 1 = length-append steps (step ∷ []) in
      let at : i + 1 ≡ length steps = omega (arith, inside, last, long) in
      let here : step_at (steps ++ step ∷ []) i ≡ step_at steps i = old_step steps step i (omega (arith, at)) in
      let next : step_at (steps ++ step ∷ []) (i + 1) ≡ step = new_step steps step (i + 1) at in
      let place : length steps - 1 ≡ i = omega (arith, at) in
      let below : (step_at steps i).from < step.from = rw place at (more.later (omega (arith, at))) in
      rw here (rw next below)
]

small_more : (steps : List CapStep) (step : CapStep) → IsStepPrefix steps → MayFollow steps step → (i : ℕ) →
    i < length (steps ++ step ∷ []) →
    (step_at (steps ++ step ∷ []) i).bytes ≤ MAX_CAPACITY
small_more steps step front more i inside = elim (cases_lt i (length steps)) [
  | inl before ↦ rw (old_step steps step i before) (front.small i before)
  | inr last ↦
      let long : length (steps ++ step ∷ []) ≡ length steps + 1 = length-append steps (step ∷ []) in
      rw (new_step steps step i (omega (arith, inside, last, long))) more.small
]

pub front_more : (steps : List CapStep) (step : CapStep) → IsStepPrefix steps → may_follow steps step ≡ true
    → IsStepPrefix (steps ++ step ∷ [])
front_more steps step front may =
    let more : MayFollow steps step = follows steps step may in
    let long : length (steps ++ step ∷ []) ≡ length steps + 1 = length-append steps (step ∷ []) in
    record {
      few = omega (arith, more.short, long);
      first = λ some. first_more steps step front more;
      ascend = ascend_more steps step front more;
      small = small_more steps step front more;
    }

-- no steps are a prefix
pub none_front : IsStepPrefix []
none_front = record {
  few = omega arith;
  first = λ some. absurd (omega (arith, some));
  ascend = λ i inside. absurd (omega (arith, inside));
  small = λ i inside. absurd (omega (arith, inside));
}

-- with a step more there are some
pub some_more : {more : List CapStep} (steps : List CapStep) (step : Option CapStep)
    → add_step steps step ≡ Some more → 1 ≤ length more
some_more steps None e = absurd (cc)
some_more {more} steps (Some step) e = by (may_follow steps step) e
  where
    by : (b : Bool) → (if b then Some (steps ++ step ∷ []) else None) ≡ Some more → 1 ≤ length more
    by true put = let same : steps ++ step ∷ [] ≡ more = cc in
        omega (arith, ap length same, length-append steps (step ∷ []))
    by false put = absurd (cc)

-- some steps that are a prefix are a profile
pub profile_of : (steps : List CapStep) → IsStepPrefix steps → 1 ≤ length steps → IsProfile steps
profile_of steps front some = record {
  some = some;
  few = front.few;
  first = front.first (omega (arith, some));
  ascend = front.ascend;
  small = front.small;
}

-- nothing comes of parts after one that writes no step
none_more : (parts : List (List ℕ)) → fold add_step_text None parts ≡ None
none_more [] = refl
none_more (part ∷ parts) = none_more parts

-- a part before a comma: what is read of it decides, with the rest
pub part_first : {part rest : List ℕ} (steps : List CapStep) (text : List ℕ)
    → position_or_len (λ b. b == 44) text < length text →
    part ≡ before_first (λ b. b == 44) text → rest ≡ after_first (λ b. b == 44) text →
    fold add_step_text (Some steps) (slice_split (λ b. b == 44) text)
    ≡ fold add_step_text (add_step steps (step_of part)) (slice_split (λ b. b == 44) rest)
part_first {part} steps text inside before after =
    ap (fold add_step_text (Some steps)) (slice_split_first (λ b. b == 44) text 0 inside)
    ∙ ap (λ (p : List ℕ). fold add_step_text (add_step steps (step_of p))
    (slice_split (λ b. b == 44) (after_first (λ b. b == 44) text))) (sym before)
    ∙ ap (λ (r : List ℕ). fold add_step_text (add_step steps (step_of part)) (slice_split (λ b. b == 44) r)) (sym after)

-- the last part
pub part_last : (steps : List CapStep) (text : List ℕ) → position_or_len (λ b. b == 44) text ≡ length text →
    fold add_step_text (Some steps) (slice_split (λ b. b == 44) text) ≡ add_step steps (step_of text)
part_last steps text none =
    ap (fold add_step_text (Some steps)) (slice_split_none (λ b. b == 44) text
    (All-from_get_or (λ b. (b == 44) ≡ false) text 0
    (λ i inside. fails_before_first (λ b. b == 44) text i 0 (rw none inside))))

-- a part that writes no step which may stand there
pub part_bad : {part rest : List ℕ} (steps : List CapStep) (text : List ℕ)
    → position_or_len (λ b. b == 44) text < length text →
    part ≡ before_first (λ b. b == 44) text → rest ≡ after_first (λ b. b == 44) text
    → add_step steps (step_of part) ≡ None →
    fold add_step_text (Some steps) (slice_split (λ b. b == 44) text) ≡ None
part_bad {rest} steps text inside before after bad =
    part_first steps text inside before after
    ∙ ap (λ (o : Option (List CapStep)). fold add_step_text o (slice_split (λ b. b == 44) rest)) bad
    ∙ none_more (slice_split (λ b. b == 44) rest)
