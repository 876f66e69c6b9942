use Rattle.std.proofs.Common.{◌∙◌}
use Rattle.film_frames.proofs.frames.Frames.begin_of.Goals as goal

pub returns : goal.returns
returns c =
    let sum = c.total_before.ensures.sum in record { begin = sum ∙ c.total_before.ensures.begin; wire = sum }
