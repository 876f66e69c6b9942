-- The generator of a number: ChaCha (D. J. Bernstein, 2008) with eight rounds, read word by word.
use Rattle.std.specs.Prelude.{ℕ, ◌+◌, ◌%◌, ◌^◌, List, ◌++◌, replicate}
use Rattle.std.specs.Int.{w64, to_le_bytes}
use Rattle.std.specs.List.{flat_map, range_with_len}
use Rattle.rand_chacha.specs.ChaCha.{ChaCha, word_at, key_of}

-- the seed of a number: its eight bytes, the least first, and 24 zero bytes
abbrev pub seed_of_number : ℕ → List ℕ
seed_of_number number = to_le_bytes w64 number ++ replicate 24 0

-- the words of the generator of a number, from the first on; they repeat after 2 ^ 68 words
unfoldable pub words_of : ℕ → ℕ → ℕ
words_of number = λ k. word_at 4 (key_of (seed_of_number number)) 0 (k % 2 ^ 68)

-- the words that a generator will give, from the next one on
unfoldable pub words_left : ChaCha → ℕ → ℕ
words_left g = λ k. word_at 4 g.key g.stream ((g.word_pos + k) % 2 ^ 68)

-- what is left of the words once n of them are drawn
unfoldable pub words_after : ℕ → (ℕ → ℕ) → ℕ → ℕ
words_after n words = λ k. words (n + k)

-- parts 0 to n - 1, end to end
unfoldable pub end_to_end : (ℕ → List ℕ) → ℕ → List ℕ
end_to_end part n = flat_map part (range_with_len 0 n)
