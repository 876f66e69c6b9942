-- The length of a message's body (RFC 2326 sections 4.4 and 12.14): the value of the head's first
-- Content-Length, 0 where there is none.
use Rattle.std.specs.Prelude.{◌≡◌, ℕ, ◌+◌, ◌-◌, ◌<◌, ◌⊎◌, if◌then◌else◌, List, map, slice_index}
use Rattle.std.specs.Prelude.{slice_range, codes}
use Rattle.std.specs.Char.{to_ascii_lowercase}
use Rattle.std.specs.Str.Parse.{digits_value}
use Rattle.interleave.specs.declared.content_lengths.TheConstants.{MAX_BODY_BYTES}
use Rattle.vod_base.specs.Blanks.{without_blanks}
use Rattle.vod_base.specs.Lines.{IsLine, HasNoLine}
use Rattle.vod_base.specs.Numbers.{is_decimal}

-- a header line begins at `at`, directly after a line's LF, and its name, before its first colon,
-- is Content-Length in any case
pub record IsLengthLine (head : List ℕ) (at : ℕ) : Type 0 where
  pub after : 0 < at
  pub begins : slice_index head (at - 1) ≡ 10
  pub name : map to_ascii_lowercase (slice_range head at (at + 15)) ≡
      map to_ascii_lowercase (codes "Content-Length:")

-- the length that a value writes; 0 where it isn't all digits
abbrev pub written_length : List ℕ → ℕ
written_length value = if is_decimal value then digits_value 10 value else 0

-- the value that stands at `at`, up to its line's end and without the blanks around it, writes this
-- length
pub record IsValueAt (head : List ℕ) (at length : ℕ) : Type 0 where
  pub text_end : ℕ
  pub next : ℕ
  pub line : IsLine head at text_end next
  pub written : length ≡ written_length (without_blanks (slice_range head at text_end))

-- the length that stands at `at`; a text that ends within that line gives 0
abbrev pub IsWrittenAt : List ℕ → ℕ → ℕ → Type 0
IsWrittenAt head at length = IsValueAt head at length ⊎ (HasNoLine head at × (length ≡ 0))

-- the first line of that name begins at `at`, and gives this length
pub record IsLengthGiven (head : List ℕ) (length : ℕ) : Type 0 where
  pub at : ℕ
  pub is_line : IsLengthLine head at
  pub first : (k : ℕ) → k < at → ¬ IsLengthLine head k
  pub value : IsWrittenAt head (at + 15) length

-- the body of a message with this head has this length
abbrev pub IsBodyLength : List ℕ → ℕ → Type 0
IsBodyLength head length = IsLengthGiven head length
    ⊎ (((k : ℕ) → ¬ IsLengthLine head k) × (length ≡ 0))

-- the length that stands at `at` is above 65,536
abbrev pub IsLongAt : List ℕ → ℕ → Type 0
IsLongAt head at = (length : ℕ) × ((MAX_BODY_BYTES < length) × IsWrittenAt head at length)

-- the body of a message with this head is longer than 65,536
abbrev pub IsLongBody : List ℕ → Type 0
IsLongBody head = (length : ℕ) × ((MAX_BODY_BYTES < length) × IsBodyLength head length)
