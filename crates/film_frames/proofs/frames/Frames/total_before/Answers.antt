use Rattle.std.proofs.Common.{arith, sym}
use Rattle.film_frames.specs.Pieces.{counted_of}
use Rattle.film_frames.proofs.FramedRunFacts.{InFilm, in-film, is-run-of, span_of}
use Rattle.film_frames.proofs.RunPieceLemmas.{run-begin}
use Rattle.film_frames.proofs.frames.Frames.total_before.Goals as goal
use Rattle.film_frames.proofs.frames.Frames.total_before.Goals.{After-first_piece-first}

in-its-film : (c : After-first_piece-first)
    → InFilm c.self.inside c.args.self.now c.first_piece-first.result c.args.piece
in-its-film c =
    in-film (is-run-of c.self.inside c.args.self.now c.self.view_is c.self.invariant)
    (c.first_piece-first.ensures, c.requires)

pub overflow_add-first : goal.overflow_add-first
overflow_add-first c =
    let at = in-its-film (goal.at.overflow_add-first c).After-first_piece-first in
    omega (arith, at.number, at.few)

pub total_before-requires : goal.total_before-requires
total_before-requires c = (in-its-film (goal.at.total_before-requires c).After-first_piece-first).number

pub total_before-requires-2 : goal.total_before-requires-2
total_before-requires-2 c = (in-its-film (goal.at.total_before-requires-2 c).After-first_piece-first).start

pub overflow_sub-result : goal.overflow_sub-result
overflow_sub-result c =
    let at = in-its-film (goal.at.overflow_sub-result c).After-first_piece-first in
    omega (arith, c.total_before.ensures, c.total_before-2.ensures, at.sum (counted_of c.args.counted))

pub returns : goal.returns
returns c =
    let f = c.self.inside in
    let run = c.args.self.now in
    let at = in-its-film (goal.at.returns c).After-first_piece-first in record {
      sum = omega (arith, c.total_before.ensures, c.total_before-2.ensures, at.sum (counted_of c.args.counted));
      begin = sym (run-begin (span_of f) run c.args.piece (is-run-of f run c.self.view_is c.self.invariant).is);
    }
