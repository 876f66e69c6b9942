use Rattle.std.proofs.Common.{ℕ, ◌+◌, rules, subst}
use Rattle.std.specs.Prelude.{MatchOption}
use Rattle.rtsp_client.specs.Replies.{IsAnswer}
use Rattle.rtsp_client.proofs.ReplyResults.{awaited-of}
use Rattle.rtsp_client.proofs.clients.Client.awaited_code.Goals as goal

pub returns : goal.returns
returns c =
    awaited-of c.reply_code.result c.args.self.now c.args.message.now (search rules)
    (subst (λ n. MatchOption c.reply_code.result ((code : ℕ) → ¬ IsAnswer c.args.message.now (n + 1) code)
    (IsAnswer c.args.message.now (n + 1))) c.replies.ensures.count c.reply_code.ensures)
