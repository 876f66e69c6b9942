-- The counts of a run's reports, read at their bytes.
use Rattle.std.proofs.Common.{ℕ, List, drop, ap, ◌∙◌, arith}
use Rattle.mpeg_scan.specs.PictureRates.{picture_time}
use Rattle.rtp_pack.specs.Fields.{octets_sent, packets_sent}
use Rattle.rtp_pack.specs.Reports.{unit_report}
use Rattle.rtp_pack.proofs.ReportCountLemmas.{octets-read, packets-read}
use Rattle.film_frames.specs.Laws.{ReportsHaveSessionCounts}
use Rattle.film_frames.specs.FramedRuns.{FramedRun, frames_before, octets_before, run_pieces}
use Rattle.film_frames.specs.Tracks.{begin_of}
use Rattle.film_frames.proofs.ReportLemmas.{reports-count}

pub reports-have-counts : (run : FramedRun) → ReportsHaveSessionCounts run
reports-have-counts run = λ k unit at.
    let place = begin_of (run_pieces run) k in
    let report =
    unit_report run.identity (picture_time run.rate) unit (frames_before run place) (octets_before run place) in
    record {
      packets = ap (λ (l : List ℕ). packets_sent (drop 4 l)) (reports-count run k unit at)
          ∙ packets-read report (omega arith);
      octets = ap (λ (l : List ℕ). octets_sent (drop 4 l)) (reports-count run k unit at)
          ∙ octets-read report (omega arith);
    }
