-- What one draw and several draws leave of a generator's words.
use Rattle.std.proofs.Common.{ℕ, ◌+◌, ◌%◌, ◌^◌, ◌<◌, ◌≡◌, sym, ◌∙◌, ap, refl, arith, add_assoc}
use Rattle.std.proofs.Math.Nat.{mod-add-mod}
use Rattle.rand_chacha.specs.ChaCha.{ChaCha, word_at, key_of, next_word}
use Rattle.film_make.specs.Generator.{words_left, words_of, words_after, seed_of_number}

-- the next word is the first of those left
pub words_left-first : (g : ChaCha) → g.word_pos < 2 ^ 68 → (next_word 4 g).0 ≡ words_left g 0
unfolding words_left
words_left-first g h = ap (word_at 4 g.key g.stream) (omega arith)

-- it is gone from those that are left then
pub words_left-rest : (g : ChaCha) → words_left (next_word 4 g).1 ≡ words_after 1 (words_left g)
unfolding words_left words_after
words_left-rest g i k =
    ap (word_at 4 g.key g.stream) (mod-add-mod (g.word_pos + 1) (2 ^ 68) k
    ∙ ap (λ n. n % 2 ^ 68) (add_assoc g.word_pos 1 k)) i

-- the words of a number are left at first
pub words_left-start : (number : ℕ)
    → words_left (record { key = key_of (seed_of_number number); stream = 0; word_pos = 0 }) ≡ words_of number
unfolding words_left words_of
words_left-start number i k =
    let same : (0 + k) % 2 ^ 68 ≡ k % 2 ^ 68 = ap (λ n. n % 2 ^ 68) (omega arith) in
    ap (word_at 4 (key_of (seed_of_number number)) 0) same i

pub words_after-zero : (words : ℕ → ℕ) → words_after 0 words ≡ words
unfolding words_after
words_after-zero words i k = let same : 0 + k ≡ k = omega arith in ap words same i

-- draws in a row
pub words_after-twice : (m n : ℕ) (words : ℕ → ℕ) → words_after m (words_after n words) ≡ words_after (n + m) words
unfolding words_after
words_after-twice m n words i k = ap words (sym (add_assoc n m k)) i

pub words_after-at : (n : ℕ) (words : ℕ → ℕ) (k : ℕ) → words_after n words k ≡ words (n + k)
unfolding words_after
words_after-at n words k = refl
