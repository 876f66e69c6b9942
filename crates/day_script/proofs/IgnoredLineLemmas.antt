-- Lines that say nothing by the number of their words.
use Rattle.std.proofs.Common.{◌≡◌, ℕ, List, [], ◌∷◌, length, get_or, None, refl, arith, Bor}
use Rattle.day_script.specs.TextLines.{texts_at}
use Rattle.day_script.specs.MessageWords.{asked_in, offer_in, message_in}

pub quiet : (words : List (List ℕ)) → (length words ≡ 2 → ⊥) → (length words ≡ 6 → ⊥) → (length words ≡ 7 → ⊥)
    → None ≡ message_in words
quiet [] two six seven = refl
quiet (a ∷ []) two six seven = refl
quiet (a ∷ b ∷ []) two six seven = absurd (two refl)
quiet (a ∷ b ∷ c ∷ []) two six seven = refl
quiet (a ∷ b ∷ c ∷ d ∷ []) two six seven = refl
quiet (a ∷ b ∷ c ∷ d ∷ e ∷ []) two six seven = refl
quiet (a ∷ b ∷ c ∷ d ∷ e ∷ f ∷ []) two six seven = absurd (six refl)
quiet (a ∷ b ∷ c ∷ d ∷ e ∷ f ∷ g ∷ []) two six seven = absurd (seven refl)
quiet (a ∷ b ∷ c ∷ d ∷ e ∷ f ∷ g ∷ h ∷ words) two six seven = refl

-- a line of seven words
pub seven : (words : List (Bor (List ℕ))) (none : Bor (List ℕ)) → length words ≡ 7 →
    offer_in (get_or words 0 none).now
    (asked_in (get_or words 1 none).now (get_or words 2 none).now (get_or words 4 none).now (get_or words 5 none).now)
    (get_or words 6 none).now ≡ message_in (texts_at words)
seven [] none e = cc e
seven (a ∷ []) none e = cc e
seven (a ∷ b ∷ []) none e = cc e
seven (a ∷ b ∷ c ∷ []) none e = cc e
seven (a ∷ b ∷ c ∷ d ∷ []) none e = cc e
seven (a ∷ b ∷ c ∷ d ∷ f ∷ []) none e = cc e
seven (a ∷ b ∷ c ∷ d ∷ f ∷ g ∷ []) none e = cc e
seven (a ∷ b ∷ c ∷ d ∷ f ∷ g ∷ h ∷ []) none e = refl
seven (a ∷ b ∷ c ∷ d ∷ f ∷ g ∷ h ∷ i ∷ words) none e = absurd (omega (arith, e))
