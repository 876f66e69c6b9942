-- A text that is read as a number: for the crates above as well.
use Rattle.std.proofs.Common.{◌≡◌, ℕ, true, List, Some, arith}
use Rattle.std.specs.Str.Parse.{digits_value}
use Rattle.std.proofs.lemmas.Grind.{common_steps}
use Rattle.vod_base.specs.Numbers.{is_decimal, number_of}

-- it is decimal, and the number is the value of its digits
pub number_read : (text : List ℕ) (n : ℕ) → number_of text ≡ Some n
    → (is_decimal text ≡ true) × (n ≡ digits_value 10 text)
number_read text n read = grind (arith, common_steps)
