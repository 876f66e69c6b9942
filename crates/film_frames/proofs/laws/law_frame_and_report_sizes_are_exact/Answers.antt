use Rattle.std.proofs.Common.{arith}
use Rattle.film_frames.specs.FramedRuns.{run_of, pieces_in}
use Rattle.film_frames.proofs.PayloadLemmas.{run-sum}
use Rattle.film_frames.proofs.EndedPieceLemmas.{are-blocks, have-sizes}
use Rattle.film_frames.proofs.laws.law_frame_and_report_sizes_are_exact.Goals as goal

pub returns : goal.returns
returns c = record {
  pieces = λ film first_unit end_unit identity order within.
      have-sizes (run_of film first_unit end_unit identity)
      (run-sum film first_unit end_unit identity (omega (arith, order)) within).0;
  blocks = λ run. are-blocks run 0 0 (pieces_in run);
  all = λ film first_unit end_unit identity order within.
      (run-sum film first_unit end_unit identity (omega (arith, order)) within).1;
}
