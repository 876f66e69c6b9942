-- The order of a film's start codes (ISO/IEC 11172-2, 2.4.2): a sequence header comes first; a unit
-- is a head and slices; in a head stand any sequence and group headers, then exactly one picture,
-- and after it no such header; a slice comes after its picture alone.
use Rattle.std.specs.Prelude.{ℕ, ◌≡◌, ◌==◌, List, [], ◌∷◌, Option, Some, None, if◌then◌else◌}
use Rattle.mpeg_scan.specs.declared.codes.Code.{Code}
use Rattle.mpeg_scan.specs.StartCodes.{codes_of}
use Rattle.mpeg_scan.specs.CodeFacts.{is_head, is_slice}

pub data Phase : Type 0 where
  nowhere : Phase
  in_head : Phase
  after_picture : Phase
  in_slices : Phase

-- the phase after a code, where one may stand
abbrev pub next_phase : Phase → ℕ → Option Phase
next_phase nowhere value = if value == 0xb3 then Some in_head else None
next_phase in_head value =
    if value == 0 then Some after_picture else (if is_slice value then None else Some in_head)
next_phase after_picture value =
    if is_head value then None else (if is_slice value then Some in_slices else Some after_picture)
next_phase in_slices value =
    if value == 0 then Some after_picture
    else (if is_head value then Some in_head else Some in_slices)

abbrev pub then_phase : Option Phase → ℕ → Option Phase
then_phase None value = None
then_phase (Some p) value = next_phase p value

-- the phase after codes, which are given the latest first
abbrev pub phase_after : List Code → Option Phase
phase_after [] = Some nowhere
phase_after (c ∷ past) = then_phase (phase_after past) c.value

-- each code of a film may stand where it does, and its last unit has a slice
abbrev pub IsGrammatical : List ℕ → Type 0
IsGrammatical r = phase_after (codes_of r) ≡ Some in_slices
