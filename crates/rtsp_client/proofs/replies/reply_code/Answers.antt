use Rattle.rtsp_client.proofs.replies.reply_code.Goals as goal

pub returns-in_err-reply : goal.returns-in_err-reply
returns-in_err-reply c =
    rw c.from_residual.ensures
    (λ code answer. c.in_err-reply.ensures.read code answer.phrase answer.line)
