use Rattle.rtsp_fields.proofs.ClockTexts.{clock_read}
use Rattle.rtsp_fields.proofs.laws.law_clock_time_is_read.Goals as goal

pub returns : goal.returns
returns c = clock_read
