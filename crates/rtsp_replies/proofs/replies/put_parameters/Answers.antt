use Rattle.std.proofs.Common.{[], ◌∷◌, Some, length, codes, decimal}
use Rattle.rtsp_replies.specs.Replies.{field}
use Rattle.rtsp_replies.proofs.replies.put_parameters.Goals as goal

pub returns : goal.returns
returns c =
    let kind = field (codes "Content-Type") (codes "text/parameters") in
    c.finish.ensures.whole 200 (Some c.args.sequence)
    (kind ∷ field (codes "Content-Length") (decimal (length c.args.body.now)) ∷ [])
    (c.number_field.ensures.front 200 (Some c.args.sequence) (kind ∷ [])
    (c.field.ensures.front 200 (Some c.args.sequence) [] (c.start.ensures.front c.clear.ensures)))
