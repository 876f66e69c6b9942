-- Blanks around a text: spaces and tabs.
use Rattle.std.specs.Prelude.{◌≡◌, ℕ, ◌-◌, ◌<◌, ◌==◌, ◌||◌, Bool, true, false, if◌then◌else◌}
use Rattle.std.specs.Prelude.{List, [], ◌∷◌, ◌++◌, length, reverse, slice_index}
use Rattle.std.specs.List.{list_all}

-- space or tab
abbrev pub is_blank : ℕ → Bool
is_blank c = c == 32 || c == 9

-- a text without its leading blanks
abbrev pub without_leading_blanks : List ℕ → List ℕ
without_leading_blanks [] = []
without_leading_blanks (c ∷ cs) = if is_blank c then without_leading_blanks cs else c ∷ cs

-- a text without the blanks around it
abbrev pub without_blanks : List ℕ → List ℕ
without_blanks text = reverse (without_leading_blanks (reverse (without_leading_blanks text)))

-- a text is this bare one with blanks around it, or none; the bare one neither begins nor ends with
-- a blank
pub record IsTrimmed (text bare : List ℕ) : Type 0 where
  pub front : List ℕ
  pub back : List ℕ
  pub parts : text ≡ front ++ bare ++ back
  pub front_is_blank : list_all is_blank front ≡ true
  pub back_is_blank : list_all is_blank back ≡ true
  pub begins : 0 < length bare → is_blank (slice_index bare 0) ≡ false
  pub ends : 0 < length bare → is_blank (slice_index bare (length bare - 1)) ≡ false
