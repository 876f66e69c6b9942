-- The head of an RTSP message (RFC 2326 sections 4, 6 and 7): a first line, header lines and an
-- empty line. A line ends with LF or with CR LF.
use Rattle.std.specs.Prelude.{◌≡◌, ℕ, ◌+◌, ◌-◌, ◌<◌, ◌≤◌, ◌&&◌, ◌||◌, ◌==◌, Bool, true, false}
use Rattle.std.specs.Prelude.{nat_lt, List, length, slice_index}

-- CR or LF, which may stand before a request
abbrev pub is_line_end : ℕ → Bool
is_line_end c = c == 13 || c == 10

-- whether an empty line ends with the byte at `k`: an LF directly after a line's LF, or with a CR
-- between them
abbrev pub empty_line_ends : List ℕ → ℕ → Bool
empty_line_ends bytes k =
    (slice_index bytes k == 10)
    && ((nat_lt 0 k && (slice_index bytes (k - 1) == 10))
    || (nat_lt 1 k && (slice_index bytes (k - 1) == 13) && (slice_index bytes (k - 2) == 10)))

-- no empty line ends among the first `n` bytes
abbrev pub HasNoHead : List ℕ → ℕ → Type 0
HasNoHead bytes n = (k : ℕ) → k < n → empty_line_ends bytes k ≡ false

-- the first `head` bytes are a head: they reach to the end of the first empty line
pub record IsHead (bytes : List ℕ) (head : ℕ) : Type 0 where
  pub some : 0 < head
  pub within : head ≤ length bytes
  pub ends : empty_line_ends bytes (head - 1) ≡ true
  pub first : (k : ℕ) → k + 1 < head → empty_line_ends bytes k ≡ false
