-- Texts that are put together part by part.
use Rattle.std.proofs.Common.{◌≡◌, ℕ, ◌+◌, List, [], ◌∷◌, ◌++◌, length, refl, ap, ◌∙◌, append_assoc, length-append}

-- a part after those before
pub then-put : {old mid new : List ℕ} (next : List ℕ) → mid ≡ old → new ≡ mid ++ next → new ≡ old ++ next
then-put next is put = put ∙ ap (λ (l : List ℕ). l ++ next) is

-- parts put after a text, each after all before it; and as one row from the end on
abbrev pub put_on : List ℕ → List (List ℕ) → List ℕ
put_on text [] = text
put_on text (next ∷ more) = put_on (text ++ next) more

abbrev pub in_row : List ℕ → List (List ℕ) → List ℕ
in_row text [] = text
in_row text (next ∷ more) = text ++ in_row next more

put_on-append : (text next : List ℕ) (more : List (List ℕ)) → put_on (text ++ next) more ≡ text ++ put_on next more
put_on-append text next [] = refl
put_on-append text next (last ∷ more) =
    ap (λ (l : List ℕ). put_on l more) (append_assoc text next last) ∙ put_on-append text (next ++ last) more

pub put-in-row : (text : List ℕ) (more : List (List ℕ)) → put_on text more ≡ in_row text more
put-in-row text [] = refl
put-in-row text (next ∷ more) = put_on-append text next more ∙ ap (λ (l : List ℕ). text ++ l) (put-in-row next more)

-- their length
abbrev pub lengths : ℕ → List (List ℕ) → ℕ
lengths n [] = n
lengths n (next ∷ more) = lengths (n + length next) more

pub put-long : (text : List ℕ) (more : List (List ℕ)) → length (put_on text more) ≡ lengths (length text) more
put-long text [] = refl
put-long text (next ∷ more) = put-long (text ++ next) more ∙ ap (λ n. lengths n more) (length-append text next)
