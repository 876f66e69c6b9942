use Rattle.std.proofs.Common.{IsTrue}
use Rattle.rtsp_fields.proofs.CaseInsensitiveWords.{begins_by_test}
use Rattle.rtsp_fields.proofs.separated_parts.starts_with.Goals as goal

pub returns-then-text-start : goal.returns-then-text-start
returns-then-text-start c =
    begins_by_test c.args.start.now c.args.text.now (IsTrue c.eq_ignore_ascii_case.result) c.requires
    c.eq_ignore_ascii_case.ensures.test
