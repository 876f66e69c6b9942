-- A complete film: its units and the places of its slices.
use Rattle.std.specs.Prelude.{ℕ, ◌≡◌, List, [], ◌∷◌, Option, None}
use Rattle.mpeg_scan.specs.declared.faults.FilmFault.{FilmFault}
use Rattle.mpeg_scan.specs.declared.units.Unit.{Unit as PictureUnit}
use Rattle.mpeg_scan.specs.StartCodes.{read_after, codes_of}
use Rattle.mpeg_scan.specs.CodeFacts.{rate_of}
use Rattle.mpeg_scan.specs.FilmFaults.{refusal_of}
use Rattle.mpeg_scan.specs.Calls.{Call, head_call, slice_call, unit_call, all_calls}

-- the units that are reported, in order
abbrev pub units_in : List Call → List PictureUnit
units_in [] = []
units_in (head_call from to ∷ calls) = units_in calls
units_in (slice_call from to ∷ calls) = units_in calls
units_in (unit_call unit ∷ calls) = unit ∷ units_in calls

-- the places of the slices that are reported, in order
abbrev pub slices_in : List Call → List ℕ
slices_in [] = []
slices_in (head_call from to ∷ calls) = slices_in calls
slices_in (slice_call from to ∷ calls) = from ∷ slices_in calls
slices_in (unit_call unit ∷ calls) = slices_in calls

-- the refusal of a film, or none
abbrev pub refusal : List ℕ → Option FilmFault
refusal bytes = refusal_of (read_after [] bytes)

-- all that is reported of a film
abbrev pub film_calls : List ℕ → List Call
film_calls bytes = all_calls (read_after [] bytes)

-- a film with its rate, its units and the places of its slices
pub record IsFilm (bytes : List ℕ) (its_rate : ℕ) (its_units : List PictureUnit)
    (its_slices : List ℕ) : Type 0 where
  pub accepted : refusal bytes ≡ None
  pub rate : its_rate ≡ rate_of (codes_of (read_after [] bytes))
  pub units : its_units ≡ units_in (film_calls bytes)
  pub slices : its_slices ≡ slices_in (film_calls bytes)
