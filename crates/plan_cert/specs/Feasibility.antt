-- What a sending plan owes to a client's two curves, and how much it sends above a rate. After
-- Salehi, Zhang, Kurose and Towsley, "Supporting stored video: reducing rate variability and
-- end-to-end resource requirements through optimal smoothing", IEEE/ACM Transactions on Networking,
-- 1998.
use Rattle.std.specs.Prelude.{ℕ, ◌+◌, ◌-◌, ◌*◌, ◌<◌, ◌≤◌, ◌≡◌, List, length, take, sum, sum_by}
use Rattle.std.specs.Prelude.{slice_index}

-- The bytes x(0), x(1), .. keep the running sum, which begins at `from`, between the two curves at
-- the end of each slot.
pub record IsFeasible (from : ℕ) (low up x : List ℕ) : Type 0 where
  pub same_length : length x ≡ length low
  pub above : (t : ℕ) → t < length low → slice_index low t ≤ from + sum (take (t + 1) x)
  pub below : (t : ℕ) → t < length low → from + sum (take (t + 1) x) ≤ slice_index up t

-- The same of a list that counts m-ths of a byte.
pub record IsFeasibleIn (m from : ℕ) (low up x : List ℕ) : Type 0 where
  pub same_length : length x ≡ length low
  pub above : (t : ℕ) → t < length low → m * slice_index low t ≤ m * from + sum (take (t + 1) x)
  pub below : (t : ℕ) → t < length low → m * from + sum (take (t + 1) x) ≤ m * slice_index up t

-- q times what x sends above the rate of p/q bytes a slot (`-` stops at 0)
abbrev pub excess : List ℕ → ℕ → ℕ → ℕ
excess x p q = sum_by (λ b. q * b - p) x
