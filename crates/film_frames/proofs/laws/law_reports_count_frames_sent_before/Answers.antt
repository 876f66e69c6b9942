use Rattle.film_frames.proofs.ReportCountLemmas.{reports-have-counts}
use Rattle.film_frames.proofs.ReportLemmas.{on-channels, reports-count}
use Rattle.film_frames.proofs.laws.law_reports_count_frames_sent_before.Goals as goal

pub returns : goal.returns
returns c = record { counts = reports-count; fields = reports-have-counts; channels = on-channels }
