-- The text that `scan` prints of a film.
use Rattle.std.specs.Prelude.{ℕ, ◌+◌, Bool, if◌then◌else◌, List, [], ◌∷◌, ◌++◌, length, codes}
use Rattle.std.specs.Prelude.{decimal}
use Rattle.mpeg_scan.specs.declared.units.Kind.{Kind}
use Rattle.mpeg_scan.specs.declared.units.Kind.TheVariants.{I, P, B, D}
use Rattle.mpeg_scan.specs.declared.units.Unit.{Unit as PictureUnit}

abbrev pub kind_text : Kind → List ℕ
kind_text I = codes "I"
kind_text P = codes "P"
kind_text B = codes "B"
kind_text D = codes "D"

-- a word where something is so
abbrev pub word_if : Bool → List ℕ → List ℕ
word_if is word = if is then word else []

-- a unit's number, from 0 on, its kind, and its place in presentation order
abbrev pub unit_name : ℕ → PictureUnit → List ℕ
unit_name number unit =
    decimal number ++ codes " " ++ kind_text unit.kind ++ codes " show="
    ++ decimal unit.presentation

-- the places where it begins, where its first slice begins and where it ends, and how many slices
-- it has
abbrev pub unit_places : PictureUnit → List ℕ
unit_places unit =
    codes " from=" ++ decimal unit.from ++ codes " head=" ++ decimal unit.head_end ++ codes " to="
    ++ decimal unit.to ++ codes " slices=" ++ decimal unit.slices

-- whether a sequence header stands in its head, and whether it starts a group
abbrev pub unit_marks : PictureUnit → List ℕ
unit_marks unit = word_if unit.has_sequence (codes " sequence")
    ++ word_if unit.starts_group (codes " group") ++ codes "\n"

abbrev pub unit_line : ℕ → PictureUnit → List ℕ
unit_line number unit = unit_name number unit ++ unit_places unit ++ unit_marks unit

-- the lines of units, of which the first has that number
abbrev pub unit_lines : ℕ → List PictureUnit → List ℕ
unit_lines number [] = []
unit_lines number (unit ∷ units) = unit_line number unit ++ unit_lines (number + 1) units

abbrev pub film_line : ℕ → ℕ → ℕ → List ℕ
film_line bytes rate pictures =
    codes "film bytes=" ++ decimal bytes ++ codes " rate=" ++ decimal rate ++ codes " pictures="
    ++ decimal pictures ++ codes "\n"

-- the number of bytes, the rate code and the number of pictures, each unit, and an end
abbrev pub scan_text : ℕ → ℕ → List PictureUnit → List ℕ
scan_text bytes rate units =
    film_line bytes rate (length units) ++ unit_lines 0 units ++ codes "end\n"
