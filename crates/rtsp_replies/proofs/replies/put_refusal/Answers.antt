use Rattle.std.proofs.Common.{[], ap, ◌∙◌}
use Rattle.rtsp_text.specs.Replies.{reply_text}
use Rattle.rtsp_replies.specs.Replies.{refusal_fields}
use Rattle.rtsp_replies.proofs.replies.put_refusal.Goals as goal

pub returns : goal.returns
returns c =
    c.finish.ensures.whole c.code_of.result c.args.sequence (refusal_fields c.args.refusal c.args.option.now)
    (c.put_refusal_field.ensures.front c.code_of.result c.args.sequence (c.start.ensures.front c.clear.ensures))
    ∙ ap (λ code. reply_text code c.args.sequence
    (refusal_fields c.args.refusal c.args.option.now) []) c.code_of.ensures.code
