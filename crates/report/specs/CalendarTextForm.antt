-- The form of a calendar's text, line by line.
use Rattle.std.specs.Prelude.{ℕ, ◌≡◌, ◌<◌, ◌≤◌, All, List, [], ◌∷◌, ◌++◌, map, codes, decimal}
use Rattle.std.specs.List.{Contains}
use Rattle.plan_cert.specs.CertGrammar.{Lines}

-- each number is less than all that follow it
abbrev pub AreAscending : List ℕ → Type 0
AreAscending [] = Unit {0}
AreAscending (t ∷ rest) = All (λ u. t < u) rest × AreAscending rest

-- The first line gives the slot from which on bytes are listed; then each slot from it on in which
-- bytes are booked has one line, in the order of slots, with its bytes; the last line is `end`, and
-- nothing stands after it.
pub record IsCalendarText (from : ℕ) (booked : ℕ → ℕ) (lines : Lines) : Type 0 where
  pub slots : List ℕ
  pub ascend : AreAscending slots
  pub some : All (λ t. (from ≤ t) × (0 < booked t)) slots
  pub all : (t : ℕ) → from ≤ t → 0 < booked t → Contains slots t
  pub lines_are : lines.whole ≡ (codes "calendar from=" ++ decimal from)
      ∷ (map (λ t. codes "at " ++ decimal t ++ (codes " booked=" ++ decimal (booked t))) slots
      ++ codes "end" ∷ [])
  pub rest_is : lines.rest ≡ []
