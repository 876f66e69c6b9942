-- The word at the start of a text, and the size that it writes.
use Rattle.std.specs.Prelude.{◌≡◌, ◌≤◌, ◌^◌, ℕ, List, not, take, Some}
use Rattle.std.specs.List.{prefix_len}
use Rattle.vod_base.specs.Numbers.{number_of}
use Rattle.inputs.specs.Traces.{is_white_space}

-- how many bytes stand before the first white space
abbrev pub word_length : List ℕ → ℕ
word_length rest = prefix_len (λ b. not (is_white_space b)) rest

-- the bytes before the first white space
abbrev pub first_word : List ℕ → List ℕ
first_word rest = take (word_length rest) rest

-- they write a number up to 2^32
abbrev pub WritesSize : List ℕ → ℕ → Type 0
WritesSize rest size = (number_of (first_word rest) ≡ Some size) × (size ≤ 2 ^ 32)
