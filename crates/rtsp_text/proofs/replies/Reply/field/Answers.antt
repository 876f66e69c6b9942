use Rattle.rtsp_text.proofs.ReplyTexts.{front_field}
use Rattle.rtsp_text.proofs.replies.Reply.field.Goals as goal

pub returns-clause-front : goal.returns-clause-front
returns-clause-front c = λ code sequence fields is. front_field code sequence fields _ c.put_field.ensures.text is
