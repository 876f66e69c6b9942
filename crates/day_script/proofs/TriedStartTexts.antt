-- The lines of starts that were tried in vain, one after the other.
use Rattle.std.proofs.Common.{◌≡◌, ◌<◌, ◌+◌, ℕ, List, [], ◌∷◌, ◌++◌, length, take, get_or, flat_map, sym, ap, ◌∙◌}
use Rattle.std.proofs.lemmas.List.{append-nil, append_assoc, take_more}
use Rattle.std.proofs.lemmas.Grind.{flat_map-append}
use Rattle.early_start.specs.declared.Tried.{Tried}
use Rattle.day_script.specs.LineTexts.{tried_text}
use Rattle.day_script.proofs.Places.{Place}

tried-more : (xs : List Tried) (i : ℕ) (d : Tried) → i < length xs
    → flat_map tried_text (take (i + 1) xs) ≡ flat_map tried_text (take i xs) ++ tried_text (get_or xs i d)
tried-more xs i d within =
    ap (λ l. flat_map tried_text l) (take_more xs i d within)
    ∙ flat_map-append tried_text (take i xs) (get_or xs i d ∷ [])
    ∙ ap (λ l. flat_map tried_text (take i xs) ++ l) (append-nil (tried_text (get_or xs i d)))

pub tried-step : {mid new : List ℕ} (xs : List Tried) (place : Place xs) (out : List ℕ)
    → mid ≡ out ++ flat_map tried_text (take place.index xs)
    → new ≡ mid ++ tried_text (get_or xs place.index place.none)
    → new ≡ out ++ flat_map tried_text (take (place.index + 1) xs)
tried-step {new} xs place out before added =
    added ∙ ap (λ l. l ++ tried_text (get_or xs i d)) before
    ∙ append_assoc out (flat_map tried_text (take i xs)) (tried_text (get_or xs i d))
    ∙ ap (λ l. out ++ l) (sym (tried-more xs i d within))
  where
    open place use {index as i, none as d, inside as within}
