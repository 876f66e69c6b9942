use Rattle.std.proofs.Common.{[], sym, ap, ◌∙◌}
use Rattle.rtsp_text.specs.Replies.{reply_front}
use Rattle.rtsp_replies.specs.Replies.{refusal_fields}
use Rattle.rtsp_replies.proofs.replies.put_refusal_field.Goals as goal

pub returns-in-Option-clause-front : goal.returns-in-Option-clause-front
returns-in-Option-clause-front c code sequence front =
    c.field.ensures.front code sequence [] front
    ∙ ap (λ refusal. reply_front code sequence (refusal_fields refusal c.args.option.now)) (sym c.in-Option.is)

pub returns-in-Buffer-clause-front : goal.returns-in-Buffer-clause-front
returns-in-Buffer-clause-front c code sequence front =
    c.number_field.ensures.front code sequence [] front
    ∙ ap (λ refusal. reply_front code sequence (refusal_fields refusal c.args.option.now)) (sym c.in-Buffer.is)
