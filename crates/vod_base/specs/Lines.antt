-- Lines of a text: each ends with LF or with CR LF; a CR alone ends none.
use Rattle.std.specs.Prelude.{◌≡◌, ◌≢◌, ℕ, ◌+◌, ◌-◌, ◌<◌, ◌≤◌, ◌&&◌, ◌==◌, if◌then◌else◌, nat_lt}
use Rattle.std.specs.Prelude.{List, length, slice_index}

-- the line that begins at `at`: its LF is the first from there on, and a CR directly before the LF
-- is no part of its text
pub record IsLine (bytes : List ℕ) (at text_end next : ℕ) : Type 0 where
  pub after : at < next
  pub within : next ≤ length bytes
  pub feed : slice_index bytes (next - 1) ≡ 10
  pub first : (k : ℕ) → at ≤ k → k + 1 < next → slice_index bytes k ≢ 10
  pub text : text_end ≡
      (if nat_lt (at + 1) next && (slice_index bytes (next - 2) == 13) then next - 2 else next - 1)

-- no LF stands at or after `at`
abbrev pub HasNoLine : List ℕ → ℕ → Type 0
HasNoLine bytes at = (k : ℕ) → at ≤ k → k < length bytes → slice_index bytes k ≢ 10
