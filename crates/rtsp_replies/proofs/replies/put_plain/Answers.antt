use Rattle.std.proofs.Common.{[], Some}
use Rattle.rtsp_replies.proofs.replies.put_plain.Goals as goal

pub returns : goal.returns
returns c = c.finish.ensures.whole 200 (Some c.args.sequence) [] (c.start.ensures.front c.clear.ensures)
