use Rattle.std.proofs.Common.{ap, ◌∙◌, rules}
use Rattle.std.specs.Int.{w64, to_be_bytes}
use Rattle.rtsp_text.specs.Lines.{is_one_line}
use Rattle.rtsp_fields.proofs.HexTexts.{one_line-hex}
use Rattle.rtsp_fields.proofs.session_ids.session_id.Goals as goal

pub returns-clause-id : goal.returns-clause-id
returns-clause-id c = search rules

pub returns-clause-one_line : goal.returns-clause-one_line
returns-clause-one_line c = ap is_one_line (returns-clause-id c) ∙ one_line-hex (to_be_bytes w64 c.args.number)
