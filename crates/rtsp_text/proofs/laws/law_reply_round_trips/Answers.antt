use Rattle.rtsp_text.proofs.ReplyRoundTrip.{read_back}
use Rattle.rtsp_text.proofs.laws.law_reply_round_trips.Goals as goal

pub returns : goal.returns
returns c = λ message code sequence fields body whole is plain text. read_back
    (record { code = code; sequence = sequence; fields = fields; body = body }) whole is plain text
