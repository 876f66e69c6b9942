use Rattle.std.proofs.Common.{◌≡◌, ◌==◌, Some, length}
use Rattle.std.specs.List.{slice_split, fold}
use denote.Text.{Utf8}
use denote.Shadow.{shadow}
use Rattle.cli_args.specs.Capacities.{IsStepPrefix, add_step_text, steps_of}
use Rattle.cli_args.proofs.capacities.read_steps.Given as goal

abbrev pub invariant-loop-part : goal.invariant-loop-part
invariant-loop-part l =
    shadow (Utf8 l.rest) × IsStepPrefix l.steps
    × (steps_of l.text ≡ fold add_step_text (Some l.steps) (slice_split (λ b. b == 44) l.rest))

abbrev pub decreases-loop-part : goal.decreases-loop-part
decreases-loop-part l = length l.rest
