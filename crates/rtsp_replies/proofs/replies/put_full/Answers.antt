use Rattle.std.proofs.Common.{[], ◌∷◌, Some, codes, decimal}
use Rattle.rtsp_replies.specs.Replies.{field}
use Rattle.rtsp_replies.proofs.replies.put_full.Goals as goal

pub returns : goal.returns
returns c =
    let entries = field (codes "x-Entries") (decimal c.args.entries) in
    let live = field (codes "x-Open") (decimal c.args.live) in
    c.finish.ensures.whole 503 (Some c.args.sequence) (entries ∷ live ∷ [])
    (c.number_field-2.ensures.front 503 (Some c.args.sequence) (entries ∷ [])
    (c.number_field.ensures.front 503 (Some c.args.sequence) [] (c.start.ensures.front c.clear.ensures)))
