-- The times of pictures lie within bounds.
use Rattle.std.proofs.Common.{ℕ, zero, suc, ◌≤◌, arith}
use Rattle.mpeg_scan.specs.PictureRates.{picture_time}

pub time-bounds : (rate : ℕ) → 1 ≤ rate → rate ≤ 8 → (6000 ≤ picture_time rate) × (picture_time rate ≤ 15015)
time-bounds zero low high = absurd (omega (arith, low))
time-bounds (suc zero) low high = (omega arith, omega arith)
time-bounds (suc (suc zero)) low high = (omega arith, omega arith)
time-bounds (suc (suc (suc zero))) low high = (omega arith, omega arith)
time-bounds (suc (suc (suc (suc zero)))) low high = (omega arith, omega arith)
time-bounds (suc (suc (suc (suc (suc zero))))) low high = (omega arith, omega arith)
time-bounds (suc (suc (suc (suc (suc (suc zero)))))) low high = (omega arith, omega arith)
time-bounds (suc (suc (suc (suc (suc (suc (suc zero))))))) low high = (omega arith, omega arith)
time-bounds (suc (suc (suc (suc (suc (suc (suc (suc zero)))))))) low high = (omega arith, omega arith)
time-bounds (suc (suc (suc (suc (suc (suc (suc (suc (suc n))))))))) low high = absurd (omega (arith, high))
