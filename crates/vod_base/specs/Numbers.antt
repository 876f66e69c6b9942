-- Decimal numbers as every input writes them: one or more digits, leading zeros allowed.
use Rattle.std.specs.Prelude.{◌≡◌, ℕ, ◌<◌, ◌≤◌, ◌^◌, Bool, true, false, ◌&&◌, if◌then◌else◌, nat_lt}
use Rattle.std.specs.Prelude.{List, [], length, take, slice_index, Option, Some, None}
use Rattle.std.specs.List.{list_all}
use Rattle.std.specs.Char.{is_ascii_digit}
use Rattle.std.specs.Str.Parse.{digits_value}
use Rattle.vod_base.specs.declared.numbers.NumberFault.{NumberFault}
use Rattle.vod_base.specs.declared.numbers.NumberFault.TheVariants.{Empty, NotDigit, TooLarge}

-- one or more bytes, each of them a digit
abbrev pub is_decimal : List ℕ → Bool
is_decimal text = nat_lt 0 (length text) && list_all is_ascii_digit text

-- the number that a text writes, where it is decimal and fits 64 bits
abbrev pub number_of : List ℕ → Option ℕ
number_of text = if is_decimal text && nat_lt (digits_value 10 text) (2 ^ 64)
    then Some (digits_value 10 text) else None

-- why a text writes no such number
abbrev pub IsNumberFault : List ℕ → NumberFault → Type 0
IsNumberFault text Empty = text ≡ []
IsNumberFault text (NotDigit place) =
    (place < length text) × (list_all is_ascii_digit (take place text) ≡ true)
    × (is_ascii_digit (slice_index text place) ≡ false)
IsNumberFault text TooLarge = (is_decimal text ≡ true) × (2 ^ 64 ≤ digits_value 10 text)
