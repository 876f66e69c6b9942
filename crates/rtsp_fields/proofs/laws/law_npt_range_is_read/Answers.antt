use Rattle.rtsp_fields.proofs.RangeTexts.{any_case_read, between_read, from_read, now_read, now_to_read}
use Rattle.rtsp_fields.proofs.laws.law_npt_range_is_read.Goals as goal

pub returns : goal.returns
returns c =
    record { from = from_read; between = between_read; now = now_read; now_to = now_to_read; any_case = any_case_read }
