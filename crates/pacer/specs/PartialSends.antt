-- A sending that a fault stopped.
use Rattle.std.specs.Prelude.{ℕ, ◌≡◌, ◌≤◌, ◌<◌, List, length, take, Option}
use Rattle.vod_base.specs.Links.{IoEvent, told_more, sends}

-- Bytes that were to be sent and weren't all: complete sends brought out so many of them, and one
-- more send, which failed, a prefix of the next ones. No send reaches across a seam.
pub record HasStopped (IsSeam : ℕ → Type 0) (bytes : List ℕ)
    (told_old told_new : Option (List IoEvent)) (whole : ℕ) : Type 0 where
  pub before_end : whole < length bytes
  pub out : ℕ
  pub out_least : whole ≤ out
  pub out_most : out ≤ length bytes
  -- what went out past the complete sends is of one send
  pub one_send : (seam : ℕ) → IsSeam seam → whole < seam → out ≤ seam
  pub told : told_new ≡ told_more told_old (sends (take out bytes))
