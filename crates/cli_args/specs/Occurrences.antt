-- How often a key was given, and its value.
use Rattle.std.specs.Prelude.{◌≡◌, ℕ, ◌≤◌, List, [], ◌∷◌, length}
use Rattle.cli_args.specs.declared.settings.Given.{Given}
use Rattle.cli_args.specs.declared.settings.Given.TheVariants.{Absent, Once, Again}

abbrev pub IsGiven : Given → List (List ℕ) → Type 0
IsGiven Absent values = values ≡ []
IsGiven (Once value) values = values ≡ value.now ∷ []
IsGiven Again values = 2 ≤ length values
