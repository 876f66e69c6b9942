use Rattle.rtsp_text.proofs.HeaderValues.{same_name}
use Rattle.rtsp_text.proofs.fields.is_same_name.Goals as goal

pub returns : goal.returns
returns c = same_name c.eq_ignore_ascii_case.result c.args.one.now c.args.other.now c.eq_ignore_ascii_case.ensures.test
