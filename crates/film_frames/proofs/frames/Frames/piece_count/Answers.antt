use Rattle.std.proofs.Common.{arith}
use Rattle.film_frames.specs.FramedRuns.{pieces_in}
use Rattle.film_frames.proofs.FramedRunFacts.{is-run-of}
use Rattle.film_frames.proofs.RunBytesLemmas.{blocks_from-count}
use Rattle.film_frames.proofs.frames.Frames.piece_count.Goals as goal

pub overflow_sub-result : goal.overflow_sub-result
overflow_sub-result c =
    let has = is-run-of c.self.inside c.args.self.now c.self.view_is c.self.invariant in
    omega (arith, c.first_piece.ensures, c.first_piece-2.ensures, has.count)

pub returns : goal.returns
returns c =
    let run = c.args.self.now in
    let has = is-run-of c.self.inside run c.self.view_is c.self.invariant in
    let blocks = blocks_from-count run 0 0 (pieces_in run) in record {
      count = omega (arith, c.first_piece.ensures, c.first_piece-2.ensures, has.count);
      pieces = omega (arith, c.first_piece.ensures, c.first_piece-2.ensures, has.count, blocks);
    }
