-- The times of pictures.
use Rattle.std.proofs.Common.{ℕ, ◌<◌, ◌≤◌, arith}
use Rattle.mpeg_scan.specs.PictureRates.{picture_time}
use Rattle.mpeg_scan.proofs.RateLemmas.{time-bounds}

pub time_bounds : (rate : ℕ) → 1 ≤ rate → rate ≤ 8 → (0 < picture_time rate) × (picture_time rate ≤ 15015)
time_bounds rate low high = let bounds = time-bounds rate low high in (omega (arith, bounds.0), bounds.1)
