-- The trace of a number's words: a size in bytes for each picture, one a line.
use Rattle.std.specs.Prelude.{ℕ, ◌+◌, ◌*◌, ◌%◌, ◌==◌, List, [], ◌∷◌, ◌++◌, if◌then◌else◌, map}
use Rattle.std.specs.Prelude.{decimal}
use Rattle.std.specs.List.{range_with_len}
use Rattle.film_make.specs.Generator.{end_to_end}

-- the size of picture k, in bytes: word k gives 200 to 1,999, and four times as much for the first
-- of each twelve pictures
unfoldable pub trace_size : (ℕ → ℕ) → ℕ → ℕ
trace_size words k = (if k % 12 == 0 then 4 else 1) * (200 + words k % 1800)

-- the sizes of n pictures
abbrev pub sizes_of : (ℕ → ℕ) → ℕ → List ℕ
sizes_of words n = map (trace_size words) (range_with_len 0 n)

-- the trace of n pictures: each size as a decimal number, ended by LF
abbrev pub trace_of : (ℕ → ℕ) → ℕ → List ℕ
trace_of words n = end_to_end (λ k. decimal (trace_size words k) ++ 10 ∷ []) n
