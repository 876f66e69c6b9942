-- Boundaries of a track as a number, and the seams between its sends.
use Rattle.std.specs.Prelude.{ℕ, ◌+◌, ◌-◌, ◌==◌, ◌⊎◌, if◌then◌else◌, List, [], ◌∷◌}
use Rattle.std.specs.Prelude.{length, take, drop}
use Rattle.film_frames.specs.Tracks.{IsBoundary, IsHeadEnd, framed_bytes}

-- the least boundary at or after a place, which counts from where the first piece begins
abbrev pub boundary_from : List (List ℕ) → ℕ → ℕ
boundary_from [] at = 0
boundary_from (piece ∷ pieces) at = if at == 0
    then 0 else length piece + boundary_from pieces (at - length piece)

-- the bytes of pieces from a place up to another
abbrev pub bytes_between : List (List ℕ) → ℕ → ℕ → List ℕ
bytes_between pieces from to = take (to - from) (drop from (framed_bytes pieces))

-- no send reaches across a boundary, nor from a frame's heads into its payload
abbrev pub IsSeam : List (List ℕ) → ℕ → Type 0
IsSeam pieces place = IsBoundary pieces place ⊎ IsHeadEnd pieces place
