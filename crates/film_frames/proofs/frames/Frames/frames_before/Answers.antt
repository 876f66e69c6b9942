use Rattle.std.proofs.Common.{sym, ◌∙◌}
use Rattle.film_frames.proofs.ReportLemmas.{counted-before}
use Rattle.film_frames.proofs.frames.Frames.frames_before.Goals as goal

pub returns : goal.returns
returns c =
    let ended = c.count_ended.ensures.count_ended in
    c.frames_before_piece.ensures
    ∙ sym (counted-before c.args.self.now c.args.at c.count_ended.result ended).frames
