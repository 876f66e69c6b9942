use Rattle.film_frames.proofs.ReportLemmas.{counted-before}
use Rattle.film_frames.proofs.laws.law_frames_before_are_counted.Goals as goal

pub returns : goal.returns
returns c = counted-before
