use Rattle.std.proofs.Common.{◌≡◌, ◌+◌, ◌++◌, length, take, flat_map, sum_by}
use Rattle.rtsp_text.proofs.replies.Reply.put_parts.Given as goal

abbrev pub invariant-loop-part : goal.invariant-loop-part
invariant-loop-part l = record {
  text : l.self ≡ l.initial.self ++ flat_map (λ part. part.now) (take l.part-index l.parts);
  long : length l.self ≡ length l.initial.self + sum_by (λ part. length part.now) (take l.part-index l.parts);
}
