use Rattle.rtsp_text.proofs.RequestTextLemmas.{reply_whole}
use Rattle.rtsp_text.proofs.laws.law_reply_is_a_complete_message.Goals as goal

pub returns : goal.returns
returns c = λ code sequence fields body is plain given short small.
    reply_whole (record { code = code; sequence = sequence; fields = fields; body = body }) is plain given short small
