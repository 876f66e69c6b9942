-- Numbers within limits.
use Rattle.std.specs.Prelude.{◌≡◌, ℕ, ◌≤◌, ◌&&◌, if◌then◌else◌, nat_le, List, Option, Some, None}
use Rattle.vod_base.specs.Numbers.{number_of}

-- the number, where there is one and it is from `least` to `most`
abbrev pub in_range : ℕ → ℕ → Option ℕ → Option ℕ
in_range least most None = None
in_range least most (Some number) =
    if nat_le least number && nat_le number most then Some number else None

-- the text writes a number from `least` to `most`
pub record WritesNumber (least most : ℕ) (text : List ℕ) (number : ℕ) : Type 0 where
  pub is_number : number_of text ≡ Some number
  pub above : least ≤ number
  pub below : number ≤ most
