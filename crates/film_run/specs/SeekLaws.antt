-- Seeks in the words of RFC 2326, whose normal play time counts from the film's beginning (sections
-- 3.6 and 12.29).
use Rattle.std.specs.Prelude.{ℕ, ◌≡◌, ◌-◌, ◌*◌, ◌<◌, ◌≤◌, List, [], ◌∷◌, length, slice_index_or}
use Rattle.std.specs.Prelude.{Option, Some, None}
use Rattle.mpeg_scan.specs.declared.films.Film.{Film}
use Rattle.film_run.specs.declared.runs.Run.{Run}
use Rattle.film_run.specs.Seeks.{StartsGroup}

-- pictures a second, as a fraction, by the rate code from 1 on (ISO/IEC 11172-2, 2.4.3.2)
abbrev pub picture_rates : List (ℕ × ℕ)
picture_rates =
    (24000, 1001) ∷ (24, 1) ∷ (25, 1) ∷ (30000, 1001) ∷ (30, 1) ∷ (50, 1) ∷ (60000, 1001) ∷
    (60, 1) ∷ []

-- so many pictures are shown in so many seconds
abbrev pub pictures_in : Film → ℕ
pictures_in film = (slice_index_or picture_rates (film.rate - 1) (1, 1)).0

abbrev pub seconds_of : Film → ℕ
seconds_of film = (slice_index_or picture_rates (film.rate - 1) (1, 1)).1

-- the time of so many pictures is over by a time in nanoseconds, or lasts until then at least
abbrev pub ArePastBy : Film → ℕ → ℕ → Type 0
ArePastBy film pictures time = pictures * seconds_of film * 1000000000 ≤ time * pictures_in film

abbrev pub LastUntil : Film → ℕ → ℕ → Type 0
LastUntil film pictures time = time * pictures_in film ≤ pictures * seconds_of film * 1000000000

-- a run ends with the film where no end is asked for, or else with the first later group, or the
-- film, before which all pictures last until the time that is asked for
pub record IsEndedBy (film : Film) (time first end : ℕ) : Type 0 where
  pub later : first < end
  pub lasts : end < length film.units.items → LastUntil film end time
  pub group : end < length film.units.items → StartsGroup film.units.items end
  pub least : (other : ℕ) → first < other → StartsGroup film.units.items other →
      LastUntil film other time → end ≤ other

abbrev pub IsEndFor : Film → Option ℕ → ℕ → ℕ → Type 0
IsEndFor film None first end = end ≡ length film.units.items
IsEndFor film (Some time) first end = IsEndedBy film time first end

-- A seek to a time, in nanoseconds, and up to another, where one is named. The film isn't over at
-- that time. What is played begins with the last group whose first picture's time has come.
pub record IsSeekResult (film : Film) (from : ℕ) (to : Option ℕ) (run : Run) : Type 0 where
  pub goes_on : ¬ ArePastBy film (length film.units.items) from
  pub group : StartsGroup film.units.items run.first_unit
  pub begins : ArePastBy film run.first_unit from
  pub last : (other : ℕ) → StartsGroup film.units.items other → ArePastBy film other from →
      other ≤ run.first_unit
  pub ends : IsEndFor film to run.first_unit run.end_unit
