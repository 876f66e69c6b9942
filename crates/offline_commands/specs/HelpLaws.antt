-- What `--help` says, as its reader looks for it.
use Rattle.std.specs.Prelude.{ℕ, Bool, true, false, ◌==◌, ◌&&◌, ◌||◌, nat_le, List, [], ◌∷◌, ◌++◌}
use Rattle.std.specs.Prelude.{length, reverse, codes}
use Rattle.std.specs.List.{list_all, list_any, slice_split}
use Rattle.cli_args.specs.ArgumentText.{Setting}

-- a text begins with another
abbrev pub begins_with : List ℕ → List ℕ → Bool
begins_with [] text = true
begins_with (b ∷ front) [] = false
begins_with (b ∷ front) (c ∷ text) = (b == c) && begins_with front text

-- a part stands somewhere in a text
abbrev pub has_part : List ℕ → List ℕ → Bool
has_part part [] = begins_with part []
has_part part (c ∷ text) = begins_with part (c ∷ text) || has_part part text

-- a line begins with the name of a command
abbrev pub shows_command : List ℕ → List ℕ → Bool
shows_command text name = has_part (codes "\n  " ++ name) text

-- a key stands before the place of its value, after a blank or in brackets
abbrev pub shows_key : List ℕ → List ℕ → Bool
shows_key text key =
    has_part (codes " " ++ key ++ codes "=") text || has_part (codes "[" ++ key ++ codes "=") text

-- a line begins with a key and ends with what holds where it is left out
abbrev pub is_row_of : Setting → List ℕ → Bool
is_row_of default line =
    begins_with (codes "  " ++ default.key ++ codes " ") line
    && begins_with (reverse (codes " " ++ default.value)) (reverse line)

abbrev pub split_lines : List ℕ → List (List ℕ)
split_lines text = slice_split (λ b. b == 10) text

abbrev pub shows_default : List ℕ → Setting → Bool
shows_default text default = list_any (is_row_of default) (split_lines text)

-- each line fits into so many columns
abbrev pub fits_into : ℕ → List ℕ → Bool
fits_into columns text = list_all (λ line. nat_le (length line) columns) (split_lines text)
