-- The sizes of a film's units on the wire, counted while its parts are reported.
use Rattle.std.specs.Prelude.{◌≡◌, ℕ, ◌+◌, ◌-◌, ◌^◌, ◌≤◌, if◌then◌else◌, List, [], ◌∷◌, ◌++◌}
use Rattle.std.specs.Prelude.{length, map, sum}
use Rattle.mpeg_scan.specs.Calls.{Call, head_call, slice_call, unit_call}
use Rattle.mpeg_scan.specs.Films.{film_calls, slices_in, units_in}
use Rattle.rtp_pack.specs.Sizes.{Measure, measure_from_headers, with_slice, frames_of}
use Rattle.film_frames.specs.Pieces.{wire_size}

-- the sizes of the units of a film on the wire, in order
abbrev pub sizes_of : List ℕ → List ℕ
sizes_of film =
    map (λ unit. wire_size (slices_in (film_calls film)) unit) (units_in (film_calls film))

-- the unit that is being reported, and the sizes of those that have ended
pub record SizeState : Type 0 where
  pub unit : Measure
  pub sizes : List ℕ

-- a report of 52 bytes stands before each unit that starts a group
abbrev pub size_state_after_call : SizeState → Call → SizeState
size_state_after_call s (head_call from to) = record s { unit = measure_from_headers (to - from) }
size_state_after_call s (slice_call from to) = record s { unit = with_slice s.unit (to - from) }
size_state_after_call s (unit_call unit) =
    record {
      unit = measure_from_headers 1;
      sizes = s.sizes ++ ((if unit.starts_group then 52 else 0) + frames_of s.unit) ∷ [];
    }

abbrev pub size_state_after : SizeState → List Call → SizeState
size_state_after s [] = s
size_state_after s (call ∷ calls) = size_state_after (size_state_after_call s call) calls

-- before the first part
abbrev pub first_size_state : SizeState
first_size_state = record { unit = measure_from_headers 1; sizes = [] }

-- the sizes after these parts
pub record IsSized (unit : Measure) (sizes : List ℕ) (calls : List Call) : Type 0 where
  pub unit_is : unit ≡ (size_state_after first_size_state calls).unit
  pub sizes_are : sizes ≡ (size_state_after first_size_state calls).sizes

-- the rate code and the sizes of an accepted film are within these limits
pub record AreSizesWithin (rate : ℕ) (sizes : List ℕ) : Type 0 where
  pub slowest : 1 ≤ rate
  pub fastest : rate ≤ 8
  pub few : length sizes ≤ 4194304
  pub few_bytes : sum sizes ≤ 2 ^ 42
