use Rattle.std.proofs.Common.{◌≡◌, Some, arith, slice_get, sym, ◌∙◌}
use Rattle.film_frames.proofs.FramedRunFacts.{is-run-of, span_of}
use Rattle.film_frames.proofs.RunPieceLemmas.{between, run-piece}
use Rattle.film_frames.specs.FramedRuns.{pieces_in}
use Rattle.film_frames.proofs.PieceLemmas.{sound-at}
use Rattle.film_frames.proofs.frames.Frames.piece.Goals as goal

pub overflow_add-first_piece : goal.overflow_add-first_piece
overflow_add-first_piece c =
    let has = is-run-of c.self.inside c.args.self.now c.self.view_is c.self.invariant in
    omega (arith, c.first_piece.ensures, c.requires, has.count, has.within, has.short)

pub piece-requires : goal.piece-requires
piece-requires c =
    let has = is-run-of c.self.inside c.args.self.now c.self.view_is c.self.invariant in
    omega (arith, c.first_piece.ensures, c.requires, has.count, has.within)

pub returns : goal.returns
returns c =
    let f = c.self.inside in
    let run = c.args.self.now in
    let is = (is-run-of f run c.self.view_is c.self.invariant).is in
    let piece : slice_get (pieces_in run) c.args.number ≡ Some c.piece.result =
    sym (rw c.first_piece.ensures (run-piece c.args.number is c.requires)) ∙ c.piece.ensures in record {
      piece = piece;
      sound = sound-at run.film (pieces_in run) c.args.number c.piece.result piece (between (span_of f) run is).sound;
    }
