use Rattle.std.proofs.Common.{ap, ◌∙◌, rules}
use Rattle.std.specs.Int.{w32, to_be_bytes}
use Rattle.rtsp_text.specs.Lines.{is_one_line}
use Rattle.rtsp_fields.proofs.HexTexts.{one_line-hex}
use Rattle.rtsp_replies.proofs.replies.ssrc_text.Goals as goal

pub returns-clause-text : goal.returns-clause-text
returns-clause-text c = search rules

pub returns-clause-line : goal.returns-clause-line
returns-clause-line c = ap is_one_line (returns-clause-text c) ∙ one_line-hex (to_be_bytes w32 c.args.ssrc)
