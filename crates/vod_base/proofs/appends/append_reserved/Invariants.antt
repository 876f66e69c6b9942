use Rattle.std.proofs.Common.{◌≡◌, ◌+◌, ◌++◌, take, vec_len, vec_capacity}
use Rattle.vod_base.proofs.appends.append_reserved.Given as goal

abbrev pub invariant-loop-byte : goal.invariant-loop-byte
invariant-loop-byte l = record {
  items : l.to.items ≡ l.initial.to.items ++ take l.byte-index l.bytes;
  len : vec_len l.to ≡ vec_len l.initial.to + l.byte-index;
  capacity : vec_capacity l.to ≡ vec_capacity l.initial.to;
}
