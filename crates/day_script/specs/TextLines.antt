-- A script as its lines, and a line as its words.
use Rattle.std.specs.Prelude.{ℕ, ◌-◌, Bool, ◌==◌, if◌then◌else◌, List, [], ◌∷◌, ◌++◌, map, length}
use Rattle.std.specs.Prelude.{take, slice_index}
use Rattle.std.specs.Borrow.{Bor}
use Rattle.plan_cert.specs.CertGrammar.{lines_of}

-- what references to texts point to
abbrev pub texts_at : List (Bor (List ℕ)) → List (List ℕ)
texts_at texts = map (λ (text : Bor (List ℕ)). text.now) texts

abbrev pub is_space : ℕ → Bool
is_space c = c == 32

-- a line that LF ended, without a CR at its end
abbrev pub without_return : List ℕ → List ℕ
without_return line =
    if slice_index line (length line - 1) == 13 then take (length line - 1) line else line

-- what stands after the last LF is a line where it has a byte
abbrev pub last_line : List ℕ → List (List ℕ)
last_line [] = []
last_line (c ∷ rest) = (c ∷ rest) ∷ []

-- the lines of a script: each is ended by LF or CR LF, the last one also by the end of the text
abbrev pub lines_of_script : List ℕ → List (List ℕ)
lines_of_script text = map without_return (lines_of text).whole ++ last_line (lines_of text).rest
