-- The header fields of a head (RFC 2326 section 12): names in any case, and the first line of a
-- name counts.
use Rattle.std.specs.Prelude.{◌≡◌, ℕ, ◌<◌, ◌&&◌, ◌==◌, Bool, if◌then◌else◌, List, [], length, map}
use Rattle.std.specs.Prelude.{slice_index_or, Option, Some, None, option_and_then, codes, slice_get}
use Rattle.std.specs.List.{list_any, filter_map, before_first, after_first}
use Rattle.std.specs.Char.{to_ascii_lowercase}
use Rattle.std.specs.Str.{str_eq_ignore_ascii_case}
use Rattle.vod_base.specs.Numbers.{number_of}
use Rattle.vod_base.specs.Blanks.{without_blanks}
use Rattle.vod_base.specs.Splits.{IsSplitAtFirst}
use Rattle.rtsp_text.specs.Lines.{header_lines}

-- whether a line has a colon, and before its first one this name, in any case
abbrev pub has_name : List ℕ → List ℕ → Bool
has_name name line =
    list_any (λ byte. byte == 58) line
    && str_eq_ignore_ascii_case (before_first (λ byte. byte == 58) line) name

-- the value of a line of that name: what stands after its first colon, without the spaces and tabs
-- around it
unfoldable pub value_in : List ℕ → List ℕ → Option (List ℕ)
value_in name line = if has_name name line
    then Some (without_blanks (after_first (λ byte. byte == 58) line)) else None

-- the value of the first line of that name
unfoldable pub first_value : List ℕ → List (List ℕ) → Option (List ℕ)
first_value name lines = slice_get (filter_map (value_in name) lines) 0

-- the first number that a line of that name has as its value
unfoldable pub first_number : List ℕ → List (List ℕ) → Option ℕ
first_number name lines = slice_get (filter_map number_of (filter_map (value_in name) lines)) 0

-- the value that a head gives the field of that name
abbrev pub header_value : List ℕ → List ℕ → Option (List ℕ)
header_value head name = first_value name (header_lines head)

-- the sequence number that a head gives its request, where its first CSeq is a number
abbrev pub sequence_number : List ℕ → Option ℕ
sequence_number head = option_and_then number_of (header_value head (codes "CSeq"))

-- the first number that a CSeq of a head has
abbrev pub first_sequence : List ℕ → Option ℕ
first_sequence head = first_number (codes "CSeq") (header_lines head)

-- a line is a field of that name, in any case, and has this value: the name stands before its first
-- colon, and the value is the rest without the spaces and tabs around it
pub record IsField (name line value : List ℕ) : Type 0 where
  pub front : List ℕ
  pub after : List ℕ
  pub cut : IsSplitAtFirst 58 line front after
  pub name_is : map to_ascii_lowercase front ≡ map to_ascii_lowercase name
  pub value_is : value ≡ without_blanks after

-- the first of these lines that is a field of that name has this value
pub record IsFirstField (name : List ℕ) (lines : List (List ℕ)) (value : List ℕ) : Type 0 where
  pub index : ℕ
  pub inside : index < length lines
  pub field : IsField name (slice_index_or lines index []) value
  pub before : (k : ℕ) (other : List ℕ) → k < index →
      ¬ IsField name (slice_index_or lines k []) other

-- none of these lines is a field of that name
abbrev pub HasNoField : List ℕ → List (List ℕ) → Type 0
HasNoField name lines = (k : ℕ) (other : List ℕ) → k < length lines →
    ¬ IsField name (slice_index_or lines k []) other

-- the first of these lines that is a field of that name and has a number as its value has this
-- number
pub record IsFirstNumber (name : List ℕ) (lines : List (List ℕ)) (number : ℕ) : Type 0 where
  pub index : ℕ
  pub value : List ℕ
  pub inside : index < length lines
  pub field : IsField name (slice_index_or lines index []) value
  pub number_is : number_of value ≡ Some number
  pub before : (k : ℕ) (other : List ℕ) → k < index →
      IsField name (slice_index_or lines k []) other → number_of other ≡ None

-- none of these lines is a field of that name that has a number as its value
abbrev pub HasNoNumber : List ℕ → List (List ℕ) → Type 0
HasNoNumber name lines = (k : ℕ) (other : List ℕ) → k < length lines →
    IsField name (slice_index_or lines k []) other → number_of other ≡ None
