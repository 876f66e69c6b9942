-- Words and numbers with a blank between two can be distinguished.
use Rattle.std.proofs.Common.{◌≡◌, ◌≢◌, ℕ, ◌<◌, ◌^◌, ◌==◌, true, false, List, [], ◌∷◌, ◌++◌, All, map}
use Rattle.std.proofs.Common.{flat_map, Option, Some, None, decimal, refl, ap, ◌∙◌, arith}
use Rattle.std.specs.List.{slice_split}
use Rattle.std.proofs.lemmas.Bool.{ne_eqb}
use Rattle.std.proofs.lemmas.List.{append-nil}
use Rattle.std.proofs.lemmas.List.Elements.{All-append, All-cons, All-head, All-nil, All-tail, All-weaker}
use Rattle.std.proofs.lemmas.List.Splits.{slice_split_at, slice_split_none}
use Rattle.vod_base.specs.Numbers.{number_of}
use Rattle.vod_base.proofs.TextLemmas.{decimal_read}
use Rattle.plan_cert.proofs.DecimalLemmas.{not_in_decimal}
use Rattle.cli_errors.specs.StreamWrites.{number_text}

-- a text without this byte
abbrev pub HasNo : ℕ → List ℕ → Type 0
HasNo c text = All (λ b. b ≢ c) text

-- the parts of a text between bytes
abbrev pub split : ℕ → List ℕ → List (List ℕ)
split c text = slice_split (λ b. b == c) text

none_equal : (c : ℕ) (text : List ℕ) → HasNo c text → All (λ b. (b == c) ≡ false) text
none_equal c text none = All-weaker (λ b. b ≢ c) (λ b. (b == c) ≡ false) (λ b apart. ne_eqb b c apart) text none

pub split_none : (c : ℕ) (text : List ℕ) → HasNo c text → split c text ≡ text ∷ []
split_none c text none = slice_split_none (λ b. b == c) text (none_equal c text none)

pub split_at : (c : ℕ) (front rest : List ℕ) → (c == c) ≡ true → HasNo c front
    → split c (front ++ c ∷ rest) ≡ front ∷ split c rest
split_at c front rest same none = slice_split_at (λ b. b == c) front c rest (none_equal c front none) same

-- numbers, each after a blank
abbrev pub AreShort : List ℕ → Type 0
AreShort numbers = All (λ n. n < 2 ^ 64) numbers

no_blank : (n : ℕ) → n < 2 ^ 64 → HasNo 32 (decimal n)
no_blank n short = not_in_decimal 32 n short (λ within. omega (arith, within.0))

pub split_words : (word numbers : List ℕ) → HasNo 32 word → AreShort numbers
    → split 32 (word ++ flat_map number_text numbers) ≡ word ∷ map decimal numbers
split_words word [] none short = ap (split 32) (append-nil word) ∙ split_none 32 word none
split_words word (n ∷ ns) none short =
    split_at 32 word (decimal n ++ flat_map number_text ns) refl none
    ∙ ap (λ (parts : List (List ℕ)). word ∷ parts)
    (split_words (decimal n) ns (no_blank n (All-head (λ k. k < 2 ^ 64) n ns short))
    (All-tail (λ k. k < 2 ^ 64) n ns short))

-- numbers have no byte that is neither a digit nor a blank
pub none_in_numbers : (c : ℕ) (numbers : List ℕ) → 32 ≢ c → ((n : ℕ) → n < 2 ^ 64 → HasNo c (decimal n))
    → AreShort numbers → HasNo c (flat_map number_text numbers)
none_in_numbers c [] blank digits short = All-nil (λ b. b ≢ c)
none_in_numbers c (n ∷ ns) blank digits short =
    All-cons (λ b. b ≢ c) 32 (decimal n ++ flat_map number_text ns) blank
    (All-append (λ b. b ≢ c) (decimal n) (flat_map number_text ns) (digits n (All-head (λ k. k < 2 ^ 64) n ns short))
    (none_in_numbers c ns blank digits (All-tail (λ k. k < 2 ^ 64) n ns short)))

-- the number that digits write
abbrev value_of : Option ℕ → ℕ
value_of None = 0
value_of (Some n) = n

abbrev pub numbers_of : List (List ℕ) → List ℕ
numbers_of words = map (λ word. value_of (number_of word)) words

pub numbers_back : (numbers : List ℕ) → AreShort numbers → numbers_of (map decimal numbers) ≡ numbers
numbers_back [] short = refl
numbers_back (n ∷ ns) short =
    ap (λ (o : Option ℕ). value_of o ∷ numbers_of (map decimal ns))
    (decimal_read n (All-head (λ k. k < 2 ^ 64) n ns short))
    ∙ ap (λ (l : List ℕ). n ∷ l) (numbers_back ns (All-tail (λ k. k < 2 ^ 64) n ns short))
