-- Texts that a separator splits into parts, and words in any case.
use Rattle.std.specs.Prelude.{◌≡◌, ◌≢◌, ℕ, ◌+◌, ◌-◌, ◌<◌, ◌≤◌, ◌⊎◌, List, length, take, map}
use Rattle.std.specs.Prelude.{slice_index, slice_range}
use Rattle.std.specs.Char.{to_ascii_lowercase}

-- none of the bytes from `from` up to `to` is `c`
abbrev pub HasNone : ℕ → List ℕ → ℕ → ℕ → Type 0
HasNone c text from to = (k : ℕ) → from ≤ k → k < to → slice_index text k ≢ c

-- a part may begin at `at`: the text does, or the separator `c` stands directly before
abbrev pub IsStart : ℕ → List ℕ → ℕ → Type 0
IsStart c text at = (at ≡ 0) ⊎ ((0 < at) × (slice_index text (at - 1) ≡ c))

-- `to` is the first place from `from` on where `c` stands, or the end of the text
pub record IsPartEnd (c : ℕ) (text : List ℕ) (from to : ℕ) : Type 0 where
  pub after : from ≤ to
  pub within : to ≤ length text
  pub none : HasNone c text from to
  pub ends : to < length text → slice_index text to ≡ c

-- the bytes from `from` up to `to` are a part of the text that the separator `c` splits
pub record IsPart (c : ℕ) (text : List ℕ) (from to : ℕ) : Type 0 where
  pub start : IsStart c text from
  pub end : IsPartEnd c text from to

-- `part` begins at `from`, and ends before the next separator or with the text; `next` is the
-- place after that
pub record IsNextPart (c : ℕ) (text : List ℕ) (from next : ℕ) (part : List ℕ) : Type 0 where
  pub end : ℕ
  pub is_end : IsPartEnd c text from end
  pub next_is : next ≡ end + 1
  pub part_is : part ≡ slice_range text from end

-- no part that begins before `at` is such a text
abbrev pub NoneBefore : ℕ → List ℕ → ℕ → (List ℕ → Type 0) → Type 0
NoneBefore c text at P = (k end : ℕ) → k < at → IsPart c text k end → ¬ P (slice_range text k end)

-- no part is such a text
abbrev pub NoPart : ℕ → List ℕ → (List ℕ → Type 0) → Type 0
NoPart c text P = (k end : ℕ) → IsPart c text k end → ¬ P (slice_range text k end)

-- a text in lower case
abbrev pub in_lower_case : List ℕ → List ℕ
in_lower_case text = map to_ascii_lowercase text

-- the text begins with these bytes
abbrev pub Begins : List ℕ → List ℕ → Type 0
Begins start text = take (length start) text ≡ start
