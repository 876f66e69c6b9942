use Rattle.std.proofs.Common.{◌≡◌, ◌≤◌, ◌+◌, ◌*◌, ◌++◌, length, take, flat_map}
use Rattle.rtsp_replies.specs.Replies.{over_line, start_line}
use Rattle.rtsp_replies.proofs.parameter_bodies.put_offer.Given as goal

abbrev pub invariant-loop-tried : goal.invariant-loop-tried
invariant-loop-tried l = record {
  text : l.body ≡ start_line l.fn.offers.start ++ flat_map over_line (take l.tried-index l.tried-items);
  short : length l.body ≤ 31 + 93 * l.tried-index;
}
