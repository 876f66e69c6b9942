use Rattle.std.proofs.Common.{◌++◌, codes, ◌∙◌}
use Rattle.rtsp_text.proofs.ReplyTexts.{two_put}
use Rattle.rtsp_text.proofs.replies.Reply.put_field.Goals as goal

pub returns-clause-text : goal.returns-clause-text
returns-clause-text c =
    let old = c.args.self.now in
    let name = c.args.name.now in
    let value = c.args.value.now in
    c.put-4.ensures.text ∙ two_put old (name ++ codes ": " ++ value) (codes "\r\n")
    (c.put-3.ensures.text ∙ two_put old (name ++ codes ": ") value
    (c.put-2.ensures.text ∙ two_put old name (codes ": ") c.put.ensures.text))
