use Rattle.std.proofs.Common.{◌≡◌, ◌++◌, decimal, ap, ◌∙◌}
use Rattle.rtsp_text.specs.Replies.{field_line}
use Rattle.rtsp_text.proofs.ReplyTexts.{front_field}
use Rattle.rtsp_text.proofs.replies.Reply.number_field.Goals as goal

pub returns-clause-front : goal.returns-clause-front
returns-clause-front c = λ code sequence fields is.
    let digits : c.as_bytes.result.now ≡ decimal c.args.value = c.as_bytes.ensures.value ∙ c.format.ensures.text in
    front_field code sequence fields (record { name = c.args.name.now; value = decimal c.args.value })
    (c.put_field.ensures.text
    ∙ ap (λ t. c.args.self.now ++ field_line (record { name = c.args.name.now; value = t })) digits) is
