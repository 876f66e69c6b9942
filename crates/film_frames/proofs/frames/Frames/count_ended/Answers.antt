use Rattle.std.proofs.Common.{arith}
use Rattle.film_frames.specs.FramedRuns.{pieces_in, run_pieces}
use Rattle.film_frames.proofs.FramedRunFacts.{is-run-of, total-from}
use Rattle.film_frames.proofs.RunBytesLemmas.{blocks_from-count, have-count_ended}
use Rattle.film_frames.proofs.RunPieceLemmas.{run-ends}
use Rattle.film_frames.proofs.TrackLemmas.{AreEnds, PieceEnds, ends-rise}
use Rattle.film_frames.proofs.frames.Frames.count_ended.Goals as goal
use Rattle.film_frames.proofs.frames.Frames.count_ended.Goals.{After-ends}

-- the ends of the run's pieces
ends-are : (c : After-ends) → AreEnds c.place.result (run_pieces c.args.self.now) c.ends.result.now
ends-are c =
    let has = is-run-of c.self.inside c.args.self.now c.self.view_is c.self.invariant in
    let first = c.first_piece-first.ensures in
    let end = c.first_piece-end.ensures in
    let place = rw first at c.place.ensures in
    rw place (run-ends has.is (rw (first, end) at c.ends.ensures.count) (rw (first, end) at c.ends.ensures.each))

pub place-requires : goal.place-requires
place-requires c =
    let has = is-run-of c.self.inside c.args.self.now c.self.view_is c.self.invariant in
    omega (arith, c.first_piece-first.ensures, has.count, has.within)

pub overflow_add-place : goal.overflow_add-place
overflow_add-place c =
    let has = is-run-of c.self.inside c.args.self.now c.self.view_is c.self.invariant in
    let total = total-from has c.first_piece-first.ensures in
    omega (arith, c.place.ensures, c.min.ensures, c.total.ensures, total)

pub overflow_add-place-2 : goal.overflow_add-place-2
overflow_add-place-2 c =
    let has = is-run-of c.self.inside c.args.self.now c.self.view_is c.self.invariant in
    let total = total-from has c.first_piece-first.ensures in
    omega (arith, c.place.ensures, c.min.ensures, c.total.ensures, total)

pub ends-requires : goal.ends-requires
ends-requires c =
    let has = is-run-of c.self.inside c.args.self.now c.self.view_is c.self.invariant in record {
      order = omega (arith, c.first_piece-first.ensures, c.first_piece-end.ensures, has.count);
      within = omega (arith, c.first_piece-end.ensures, has.within);
    }

pub ends_below-requires : goal.ends_below-requires
ends_below-requires c =
    let at = (goal.at.ends_below-requires c).After-ends in
    ends-rise c.place.result (run_pieces c.args.self.now) c.ends.result.now (ends-are at)

pub returns : goal.returns
returns c =
    let run = c.args.self.now in
    let has = is-run-of c.self.inside run c.self.view_is c.self.invariant in
    let e : PieceEnds = record {
      base = c.place.result;
      pieces = run_pieces run;
      ends = c.ends.result.now;
      are = ends-are (goal.at.returns c).After-ends;
    } in
    let ended = have-count_ended e {upto = c.min.result} (record {
      count = c.ends_below.ensures.count;
      below = λ j h. omega (arith, c.ends_below.ensures.below j h);
      from = λ h. omega (arith, c.ends_below.ensures.from c.ends_below.result (omega arith) h);
    }) (omega (arith, c.min.ensures), λ cut. omega (arith, c.min.ensures, c.total.ensures, cut)) in record {
      count_ended = ended;
      among = omega (arith, ended.among, blocks_from-count run 0 0 (pieces_in run));
      few = omega (arith, c.ends_below.ensures.count, c.ends.ensures.count, c.first_piece-end.ensures);
    }
