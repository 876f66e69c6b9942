use Rattle.rtsp_client.proofs.ReadingCounts.{over-counted, under-counted}
use Rattle.rtsp_client.proofs.laws.law_meter_counts_readings.Goals as goal

pub returns : goal.returns
returns c = record { over = over-counted; under = under-counted }
