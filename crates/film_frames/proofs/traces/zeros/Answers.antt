use Rattle.std.proofs.lemmas.List.{take-replicate}
use Rattle.film_frames.proofs.traces.zeros.Goals as goal

pub returns : goal.returns
returns c = take-replicate c.args.length 1024 0 c.requires
