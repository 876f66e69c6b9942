use Rattle.rtsp_text.proofs.ReplyTexts.{two_put, whole_reply}
use Rattle.std.proofs.Common.{codes, ◌∙◌}
use Rattle.rtsp_text.proofs.replies.Reply.finish.Goals as goal

pub returns-clause-whole : goal.returns-clause-whole
returns-clause-whole c = λ code sequence fields is.
    whole_reply code sequence fields c.args.body.now
    (c.put-2.ensures.text ∙ two_put c.args.self.now (codes "\r\n") c.args.body.now c.put.ensures.text) is
