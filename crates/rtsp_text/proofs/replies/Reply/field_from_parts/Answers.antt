use Rattle.std.proofs.Common.{◌++◌, codes, ◌∙◌}
use Rattle.rtsp_text.proofs.ReplyTexts.{front_field, two_put}
use Rattle.rtsp_text.proofs.replies.Reply.field_from_parts.Goals as goal

pub returns-clause-text : goal.returns-clause-text
returns-clause-text c =
    let old = c.args.self.now in
    let name = c.args.name.now in
    c.put-3.ensures.text ∙ two_put old _ (codes "\r\n")
    (c.put_parts.ensures.text ∙ two_put old (name ++ codes ": ") _
    (c.put-2.ensures.text ∙ two_put old name (codes ": ") c.put.ensures.text))

pub returns-clause-front : goal.returns-clause-front
returns-clause-front c = λ code sequence fields is. front_field code sequence fields _ (returns-clause-text c) is
