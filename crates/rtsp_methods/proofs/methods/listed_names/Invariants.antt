use Rattle.std.proofs.Common.{ℕ, ◌≡◌, ◌<◌, ◌*◌, [], map, get_or, length}
use Rattle.rtsp_methods.proofs.NameParts.{part_at}
use Rattle.rtsp_methods.proofs.methods.listed_names.Given as goal

abbrev pub invariant-loop-place : goal.invariant-loop-place
invariant-loop-place l = record {
  long : length l.parts ≡ 14;
  each : (j : ℕ) → j < 2 * l.place → get_or (map (λ part. part.now) l.parts) j [] ≡ part_at j;
}
