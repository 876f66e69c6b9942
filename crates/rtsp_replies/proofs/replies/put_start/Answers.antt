use Rattle.std.proofs.Common.{◌++◌, [], ◌∷◌, Some, codes, decimal}
use Rattle.rtsp_replies.specs.Replies.{field}
use Rattle.rtsp_replies.proofs.replies.put_start.Goals as goal

pub returns-clause-whole : goal.returns-clause-whole
returns-clause-whole c sequence fields front =
    c.finish.ensures.whole 200 (Some sequence) (fields ++ field (codes "x-Start") (decimal c.args.slots) ∷ [])
    (c.number_field.ensures.front 200 (Some sequence) fields front)
