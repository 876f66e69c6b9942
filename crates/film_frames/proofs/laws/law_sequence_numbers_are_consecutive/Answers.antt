use Rattle.std.proofs.Common.{◌≡◌, ◌+◌, ◌%◌, ◌^◌, arith, ap, ◌∙◌}
use Rattle.film_frames.specs.FramedRuns.{pieces_in}
use Rattle.film_frames.proofs.EndedPieceLemmas.{counts-on, frames-count}
use Rattle.film_frames.proofs.laws.law_sequence_numbers_are_consecutive.Goals as goal

pub returns : goal.returns
returns c = record {
  frames = λ run. frames-count run 0 0 (pieces_in run);
  numbers = λ run k h.
      let from : 0 + k ≡ k = omega arith in
      counts-on run 0 0 (pieces_in run) k h ∙ ap (λ n. (run.identity.sequence + n) % 2 ^ 16) from;
}
