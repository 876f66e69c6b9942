-- The random words of a connection: the key stream of the seed, in a stream of the connection's
-- own.
use Rattle.std.specs.Prelude.{ℕ, ◌+◌, ◌*◌, ◌%◌, ◌^◌, List, [], ◌∷◌}
use Rattle.rand_chacha.specs.ChaCha.{word_at, key_of}

-- the stream of a worker's connection, both counted from 0
abbrev pub stream_of : ℕ → ℕ → ℕ
stream_of worker connection = (worker * 2 ^ 32 + connection) % 2 ^ 64

-- the word at a place of that stream
abbrev pub stream_word : List ℕ → ℕ → ℕ → ℕ → ℕ
stream_word seed worker connection place =
    word_at 10 (key_of seed) (stream_of worker connection) place

-- the first five words
abbrev pub words_of : List ℕ → ℕ → ℕ → List ℕ
words_of seed worker connection =
    let word : ℕ → ℕ = stream_word seed worker connection in
    word 0 ∷ word 1 ∷ word 2 ∷ word 3 ∷ word 4 ∷ []
