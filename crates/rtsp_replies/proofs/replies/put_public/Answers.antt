use Rattle.std.proofs.Common.{ℕ, List, [], ◌∷◌, Some, codes, ap, ◌∙◌}
use Rattle.rtsp_text.specs.Replies.{reply_text}
use Rattle.rtsp_replies.specs.Replies.{field}
use Rattle.rtsp_replies.proofs.replies.put_public.Goals as goal

pub returns : goal.returns
returns c =
    c.finish.ensures.whole 200 (Some c.args.sequence) _
    (c.field_from_parts.ensures.front 200 (Some c.args.sequence) [] (c.start.ensures.front c.clear.ensures))
    ∙ ap (λ (names : List ℕ). reply_text 200 (Some c.args.sequence) (field (codes "Public") names ∷ []) [])
    c.listed_names.ensures.text
