-- The words of the laws about the bytes that stand before a request.
use Rattle.std.specs.Prelude.{◌≡◌, ◌≢◌, ℕ, ◌<◌, ◌⊎◌, List, length, slice_index}

-- CR or LF
abbrev pub IsCrOrLf : ℕ → Type 0
IsCrOrLf byte = (byte ≡ 13) ⊎ (byte ≡ 10)

-- the bytes begin with neither CR nor LF
pub record BeginsOtherwise (bytes : List ℕ) : Type 0 where
  pub no_cr : 0 < length bytes → slice_index bytes 0 ≢ 13
  pub no_lf : 0 < length bytes → slice_index bytes 0 ≢ 10
