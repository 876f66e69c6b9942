-- The lines of a message's head (RFC 2326 sections 4, 6 and 7): a first line, header lines and an
-- empty line. Each ends with LF or CR LF; a CR alone ends none.
use Rattle.std.specs.Prelude.{◌≡◌, ℕ, ◌<◌, ◌++◌, ◌==◌, Bool, not, List, [], ◌∷◌, length, drop}
use Rattle.std.specs.Prelude.{nat_lt, take_while, slice_index_or}
use Rattle.std.specs.List.{list_all}
use Rattle.std.specs.Str.Lines.{lines}
use Rattle.interleave.specs.Heads.{IsHead}

-- a text without LF, as a line's text is
abbrev pub is_one_line : List ℕ → Bool
is_one_line text = list_all (λ byte. not (byte == 10)) text

-- the lines before the first empty one
abbrev pub before_empty : List (List ℕ) → List (List ℕ)
before_empty texts = take_while (λ text. nat_lt 0 (length text)) texts

-- the text of the first line
unfoldable pub first_line : List ℕ → List ℕ
first_line bytes = slice_index_or (lines bytes) 0 []

-- the lines before the first empty one, as texts
unfoldable pub lines_before_empty : List ℕ → List (List ℕ)
lines_before_empty bytes = before_empty (lines bytes)

-- the texts of the header lines: the lines after the first one, up to the first empty one
unfoldable pub header_lines : List ℕ → List (List ℕ)
header_lines bytes = before_empty (drop 1 (lines bytes))

-- `line` is the text of the first line, and `rest` is what stands after that line's end
pub record IsNextLine (bytes line rest : List ℕ) : Type 0 where
  pub lines_are : lines bytes ≡ line ∷ lines rest
  pub shorter : length rest < length bytes

-- a message is split after the empty line of its head, which has the lines of the message up to
-- there
pub record IsSplit (message head body : List ℕ) : Type 0 where
  pub parts : message ≡ head ++ body
  pub is_head : IsHead message (length head)
  pub lines_are : lines head ≡ first_line message ∷ (header_lines message ++ [] ∷ [])
  pub same_lines : header_lines head ≡ header_lines message
