use Rattle.std.proofs.Common.{[], ◌∷◌, Some, codes}
use Rattle.rtsp_replies.specs.Replies.{field}
use Rattle.rtsp_replies.proofs.replies.put_session.Goals as goal

pub returns : goal.returns
returns c =
    c.finish.ensures.whole 200 (Some c.args.sequence) (field (codes "Session") c.args.id.now ∷ [])
    (c.field.ensures.front 200 (Some c.args.sequence) [] (c.start.ensures.front c.clear.ensures))
