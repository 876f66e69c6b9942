-- Traces of picture sizes: decimal numbers with white space between them.
use Rattle.std.specs.Prelude.{◌≡◌, ℕ, ◌+◌, ◌<◌, ◌≤◌, ◌^◌, Bool, true, false, not, ◌||◌, ◌==◌}
use Rattle.std.specs.Prelude.{if◌then◌else◌, List, [], ◌∷◌, ◌++◌, length, map, sum, Some, All}
use Rattle.std.specs.List.{list_all}
use Rattle.vod_base.specs.Numbers.{number_of}

-- space, tab, CR or LF
abbrev pub is_white_space : ℕ → Bool
is_white_space b = (b == 32) || (b == 9) || (b == 13) || (b == 10)

-- bytes of a text without white space, with such or the text's end on each side, and the place of
-- the first of them
pub record Token : Type 0 where
  pub from : ℕ
  pub bytes : List ℕ

-- the text begins with a byte that is no white space
abbrev pub begins_token : List ℕ → Bool
begins_token [] = false
begins_token (b ∷ rest) = not (is_white_space b)

-- a byte that is no white space before the tokens: it belongs to the first of them, or is a token
-- by itself
abbrev pub joined_tokens : ℕ → ℕ → Bool → List Token → List Token
joined_tokens at b false tokens = (record { from = at; bytes = b ∷ [] }) ∷ tokens
joined_tokens at b true [] = (record { from = at; bytes = b ∷ [] }) ∷ []
joined_tokens at b true (token ∷ tokens) = (record { from = at; bytes = b ∷ token.bytes }) ∷ tokens

-- the tokens of a text that stands at `at`
abbrev pub tokens_from : ℕ → List ℕ → List Token
tokens_from at [] = []
tokens_from at (b ∷ rest) = if is_white_space b
    then tokens_from (at + 1) rest
    else joined_tokens at b (begins_token rest) (tokens_from (at + 1) rest)

-- the tokens write these sizes: each up to 2^32, 2^40 together, and at most 1,000,000 of them
pub record WriteSizes (tokens : List Token) (sizes : List ℕ) : Type 0 where
  pub numbers : map (λ token. number_of token.bytes) tokens ≡ map (λ size. Some size) sizes
  pub small : All (λ size. size ≤ 2 ^ 32) sizes
  pub few_bytes : sum sizes ≤ 2 ^ 40
  pub few : length sizes ≤ 1000000

-- a text is a trace of these sizes
abbrev pub IsTraceText : List ℕ → List ℕ → Type 0
IsTraceText text sizes = WriteSizes (tokens_from 0 text) sizes

-- no trace: the first token with which the tokens so far write no sizes begins at `place`
pub record IsBadTraceText (text : List ℕ) (place : ℕ) : Type 0 where
  pub good : List Token
  pub bad : Token
  pub rest : List Token
  pub sizes : List ℕ
  pub tokens : tokens_from 0 text ≡ good ++ bad ∷ rest
  pub written : WriteSizes good sizes
  pub ends : (more : List ℕ) → WriteSizes (good ++ bad ∷ []) more → ⊥
  pub starts : place ≡ bad.from

-- a token may add a size to a trace of `count` sizes with `total` bytes
pub record AddsSize (token : List ℕ) (count total size : ℕ) : Type 0 where
  pub number : number_of token ≡ Some size
  pub small : size ≤ 2 ^ 32
  pub few_bytes : total + size ≤ 2 ^ 40
  pub few : count < 1000000

-- at least one byte, and no white space
abbrev pub IsWord : List ℕ → Type 0
IsWord bytes = (0 < length bytes) × (list_all (λ b. not (is_white_space b)) bytes ≡ true)

-- these are the tokens of a text that stands at a place: words with their places, with white space
-- between them, before the first and after the last
abbrev pub AreSeparated : ℕ → List ℕ → List Token → Type 0
AreSeparated at text [] = list_all is_white_space text ≡ true
AreSeparated at text (token ∷ tokens) =
    (front : List ℕ) × ((rest : List ℕ) × (
    (text ≡ front ++ (token.bytes ++ rest)) × (list_all is_white_space front ≡ true)
    × IsWord token.bytes
    × (begins_token rest ≡ false)
    × (token.from ≡ at + length front) × AreSeparated (token.from + length token.bytes) rest tokens
    ))
