use Rattle.std.proofs.Common.{[], ◌∷◌, Some, codes, decimal}
use Rattle.rtsp_replies.specs.Replies.{field}
use Rattle.rtsp_replies.proofs.replies.put_overflow.Goals as goal

pub returns : goal.returns
returns c =
    let slot = field (codes "x-Slot") (decimal c.args.slot) in
    let booked = field (codes "x-Booked") (decimal c.args.booked) in
    let asked = field (codes "x-Asked") (decimal c.args.asked) in
    c.finish.ensures.whole 453 (Some c.args.sequence) (slot ∷ booked ∷ asked ∷ [])
    (c.number_field-3.ensures.front 453 (Some c.args.sequence) (slot ∷ booked ∷ [])
    (c.number_field-2.ensures.front 453 (Some c.args.sequence) (slot ∷ [])
    (c.number_field.ensures.front 453 (Some c.args.sequence) [] (c.start.ensures.front c.clear.ensures))))
