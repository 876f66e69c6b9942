-- The header bytes of a start code: those after it that its header's fields are read from.
use Rattle.std.specs.Prelude.{ℕ, List, [], ◌∷◌, ◌++◌, if◌then◌else◌, length, nat_lt}

-- a byte more: they are the first five bytes after a code, as far as they are read
unfoldable pub header_with : List ℕ → ℕ → List ℕ
header_with header x = if nat_lt (length header) 5 then header ++ x ∷ [] else header

-- bytes more, one after another
abbrev pub header_with_all : List ℕ → List ℕ → List ℕ
header_with_all header [] = header
header_with_all header (x ∷ xs) = header_with_all (header_with header x) xs
