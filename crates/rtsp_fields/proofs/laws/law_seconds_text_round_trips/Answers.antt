use Rattle.rtsp_fields.proofs.SecondsTexts.{seconds_read}
use Rattle.rtsp_fields.proofs.laws.law_seconds_text_round_trips.Goals as goal

pub returns : goal.returns
returns c = seconds_read
