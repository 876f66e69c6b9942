-- A text is split at the first byte of a kind where that byte was found, and in one way.
use Rattle.std.proofs.Common.{◌≡◌, ◌≢◌, ℕ, ◌+◌, ◌<◌, ◌==◌, true, not, List, [], ◌∷◌, ◌++◌, length, get_or, take, drop}
use Rattle.std.proofs.Common.{All, refl, sym, ap, ◌∙◌, eq-eqb}
use Rattle.std.specs.List.{list_all}
use Rattle.std.proofs.lemmas.Bool.{both_ways}
use Rattle.std.proofs.lemmas.List.{take-append-drop, drop_more}
use Rattle.std.proofs.lemmas.List.Elements.{All-head, All-tail}
use Rattle.std.proofs.lemmas.List.Sums.{AllPass-from_list_all}
use Rattle.vod_base.specs.Splits.{IsSplitAtFirst}

pub split_found : (c : ℕ) (text : List ℕ) (at : ℕ) → at < length text → get_or text at 0 ≡ c
    → list_all (λ b. not (b == c)) (take at text) ≡ true → IsSplitAtFirst c text (take at text) (drop (at + 1) text)
split_found c text at within is none = record {
  parts = sym (take-append-drop at text)
      ∙ ap (λ l. take at text ++ l) (drop_more text at 0 within ∙ ap (λ b. b ∷ drop (at + 1) text) is);
  first = none;
}

-- a text has one first place of a byte
pub split_once : {after after' : List ℕ} (c : ℕ) (front front' : List ℕ) → front ++ c ∷ after ≡ front' ++ c ∷ after'
    → All (λ b. b ≢ c) front → All (λ b. b ≢ c) front' → (front ≡ front') × (after ≡ after')
split_once c [] [] e none none' = (refl, cc)
split_once c [] (y ∷ ys) e none none' = absurd (All-head (λ b. b ≢ c) y ys none' (cc))
split_once c (x ∷ xs) [] e none none' = absurd (All-head (λ b. b ≢ c) x xs none (cc))
split_once {after} {after'} c (x ∷ xs) (y ∷ ys) e none none' =
    let first : x ≡ y = cc in
    let others : xs ++ c ∷ after ≡ ys ++ c ∷ after' = cc in
    let rest = split_once {after = after} {after' = after'} c xs ys others
    (All-tail (λ b. b ≢ c) x xs none) (All-tail (λ b. b ≢ c) y ys none') in
    let same : xs ≡ ys = rest.0 in
    (cc, rest.1)

-- no byte of a text is `c`
pub none_is : (c : ℕ) (text : List ℕ) → list_all (λ b. not (b == c)) text ≡ true → All (λ b. b ≢ c) text
none_is c text none k d h e =
    both_ways (not (get_or text k d == c)) (ap not (eq-eqb (get_or text k d) c e))
    (AllPass-from_list_all (λ b. not (b == c)) text none k d h)
