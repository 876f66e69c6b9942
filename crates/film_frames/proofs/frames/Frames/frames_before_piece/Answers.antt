use Rattle.film_frames.proofs.frames.Frames.frames_before_piece.Goals as goal

pub returns : goal.returns
returns c = c.total_before.ensures.sum
