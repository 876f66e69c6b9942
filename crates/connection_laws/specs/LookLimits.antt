-- For which requests of a connection memory may run out.
use Rattle.std.specs.Prelude.{ℕ, ◌+◌, ◌≤◌, ◌⊎◌, List, [], ◌∷◌}
use Rattle.session.specs.declared.states.Awaited.{Awaited}
use Rattle.session.specs.declared.states.Awaited.TheVariants.{Look}
use Rattle.session.specs.Laws.{IsOfferInReady, IsPlayInReady}
use Rattle.session.specs.LookLaws.{AsksBooked}
use Rattle.connection_laws.specs.Courses.{Course, askings_of, first_stage}
use Rattle.connection_laws.specs.Plays.{StationRequest, Asks}

-- how many looks the station was asked for
abbrev pub look_in : Awaited → ℕ
look_in (Look sequence) = 1
look_in _ = 0

abbrev pub looks_in : List StationRequest → ℕ
looks_in [] = 0
looks_in (Asks asked outcome ∷ askings) = look_in asked + looks_in askings

abbrev pub course_looks : Course → ℕ
course_looks course =
    looks_in (askings_of (first_stage course.films course.settings course.words) course.rounds
    course.last course.follows)

-- a request is a PLAY in Ready, an offer in Ready, or a look that at least 1,024 looks came before
abbrev pub MayLackMemory : Course → List ℕ → Type 0
MayLackMemory course message = IsPlayInReady course.last.session message
    ⊎ (IsOfferInReady course.last.session message
    ⊎ (AsksBooked message × (1024 ≤ course_looks course)))
