-- The two curves that a sending plan has to stay between, and when they are sound (Salehi, Zhang,
-- Kurose and Towsley, IEEE/ACM Transactions on Networking 6(4), 1998).
use Rattle.std.specs.Prelude.{◌≡◌, ℕ, ◌+◌, ◌-◌, ◌<◌, ◌≤◌, List, ◌∷◌, length, slice_index}
use Rattle.vod_base.specs.declared.limits.TheConstants.{MAX_BYTES, MAX_SLOTS}

-- The curves' bytes at the end of slot t are `slice_index low t` and `slice_index up t`; `from`
-- bytes were sent before slot 0.
pub record AreSound (from : ℕ) (low up : List ℕ) : Type 0 where
  pub some_slot : 0 < length low
  pub few_slots : length low ≤ MAX_SLOTS
  pub same_length : length up ≡ length low
  pub starts_within : from ≤ slice_index low 0
  pub low_never_falls : (t : ℕ) → t + 1 < length low → slice_index low t ≤ slice_index low (t + 1)
  pub up_never_falls : (t : ℕ) → t + 1 < length low → slice_index up t ≤ slice_index up (t + 1)
  pub low_below_up : (t : ℕ) → t < length low → slice_index low t ≤ slice_index up t
  pub meet_at_end : slice_index low (length low - 1) ≡ slice_index up (length low - 1)
  pub total_fits : slice_index low (length low - 1) ≤ MAX_BYTES

-- A curve by places: place 0 is the start of slot 0, where `from` bytes were sent, and place k the
-- end of slot k - 1.
abbrev pub bound_at : ℕ → List ℕ → ℕ → ℕ
bound_at from curve place = slice_index (from ∷ curve) place
