use Rattle.std.proofs.Common.{◌-◌, arith}
use Rattle.film_frames.specs.FramedRuns.{run_pieces, pieces_in}
use Rattle.film_frames.proofs.RunBytesLemmas.{blocks_from-count}
use Rattle.film_frames.proofs.NextBytesLemmas.{boundary-count_ended, count_ended-within}
use Rattle.film_frames.proofs.frames.FramesTrack.boundary_after.Goals as goal

pub overflow_add-count_ended : goal.overflow_add-count_ended
overflow_add-count_ended c = omega (arith, c.count_ended.ensures.few)

pub begin_of-requires : goal.begin_of-requires
begin_of-requires c =
    let run = c.args.self.now in
    omega (
      arith,
      blocks_from-count run 0 0 (pieces_in run),
      count_ended-within (run_pieces run) (c.args.at - 1) c.count_ended.result
          c.count_ended.ensures.count_ended (omega (arith, c.requires, c.if-at-eq0.false)),
    )

pub returns : goal.returns
returns c =
    rw c.begin_of.ensures.begin
    (boundary-count_ended (run_pieces c.args.self.now) c.args.at c.count_ended.result
    c.count_ended.ensures.count_ended (omega (arith, c.if-at-eq0.false)) c.requires)
