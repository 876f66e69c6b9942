use Rattle.film_frames.proofs.ReportPlacementLemmas.{reports-stand}
use Rattle.film_frames.proofs.laws.law_reports_precede_groups.Goals as goal

pub returns : goal.returns
returns c = reports-stand
