-- A scanner that was fed some bytes, which are given the latest first.
use Rattle.std.specs.Prelude.{ℕ, ◌+◌, ◌<◌, ◌≡◌, List, [], ◌∷◌, ◌++◌, Option, Some, None, false}
use Rattle.std.specs.Prelude.{length, option_map, take}
use Rattle.mpeg_scan.specs.declared.codes.Code.{Code}
use Rattle.mpeg_scan.specs.declared.faults.FilmFault.{FilmFault}
use Rattle.mpeg_scan.specs.declared.faults.ScanRefused.{ScanRefused}
use Rattle.mpeg_scan.specs.declared.progress.Progress.{Progress}
use Rattle.mpeg_scan.specs.declared.scanner.Scanner.{Scanner}
use Rattle.mpeg_scan.specs.Calls.{Call, calls_of}
use Rattle.mpeg_scan.specs.HeaderBytes.{header_with_all}
use Rattle.mpeg_scan.specs.StartCodes.{latest_prefix, next_prefix, is_whole, note, codes_of}
use Rattle.mpeg_scan.specs.StartCodes.{read_after}
use Rattle.mpeg_scan.specs.CodeFacts.{tally_of}
use Rattle.mpeg_scan.specs.FilmFaults.{first_fault}
use Rattle.mpeg_scan.specs.CodeSteps.{latest_of, older_of, tally_with}

-- what is kept is what the bytes say, and no code of theirs is refused
pub record HasReadBytes (s : Progress) (r : List ℕ) : Type 0 where
  pub fed : s.fed ≡ length r
  pub prefix : s.prefix ≡ latest_prefix r
  pub latest : s.latest ≡ latest_of (codes_of r)
  pub tally : s.tally ≡ tally_of (older_of (codes_of r))
  pub accepted : first_fault (codes_of r) ≡ None

-- these bytes were read behind those before them
abbrev pub ReadsBytes : Progress → Progress → List ℕ → Type 0
ReadsBytes old new bytes = (r : List ℕ) → HasReadBytes old r → HasReadBytes new (read_after r bytes)

-- the first fault of all bytes, with these behind those that were read
abbrev pub IsFaultWith : Progress → List ℕ → FilmFault → Type 0
IsFaultWith old bytes f =
    (r : List ℕ) → HasReadBytes old r → first_fault (codes_of (read_after r bytes)) ≡ Some f

-- the same of a scanner that has refused nothing
pub record HasScannedBytes (s : Scanner) (r : List ℕ) : Type 0 where
  pub progress : HasReadBytes s.progress r
  pub unrefused : s.refused ≡ None

-- a byte that isn't the value of a code
abbrev pub scan_with_byte : Progress → ℕ → Progress
scan_with_byte s x = record s {
  fed = s.fed + 1;
  prefix = next_prefix s.prefix x;
  latest = option_map (λ c. note c x) s.latest;
}

-- a code
abbrev pub scan_with_code : Progress → ℕ → ℕ → Progress
scan_with_code s place value = record s {
  latest = Some (record { place = place; value = value; header = [] });
  tally = tally_with s.latest s.tally;
}

-- how many bytes it was fed
abbrev pub bytes_fed : Scanner → ℕ
bytes_fed s = s.progress.fed

-- its refusal, if it has refused the film
abbrev pub refused_by : Scanner → Option ScanRefused
refused_by s = s.refused

-- the slices so far of its latest unit, and the place of the latest
abbrev pub open_slices : Scanner → ℕ
open_slices s = (tally_with s.progress.latest s.progress.tally).slices

abbrev pub open_slice : Scanner → ℕ
open_slice s = (tally_with s.progress.latest s.progress.tally).slice

-- where it has refused nothing and its latest unit has slices, it is known that the next slice may
-- begin where the latest does
abbrev pub IsSliceReady : (ℕ → Type 0) → Scanner → Type 0
IsSliceReady Ready s = s.refused ≡ None → 0 < open_slices s → Ready (open_slice s)

-- a code of a chunk is refused at its last byte, and all that ends before it was reported, after
-- these calls
pub record IsRefusedInChunk (Heard : List Call → Type 0) (r chunk : List ℕ) (calls : List Call)
    (f : FilmFault) : Type 0 where
  pub count : ℕ
  pub within : count < length chunk
  pub accepted : first_fault (codes_of (read_after r (take count chunk))) ≡ None
  pub fault : first_fault (codes_of (read_after r (take (count + 1) chunk))) ≡ Some f
  pub heard : Heard (calls ++ calls_of (codes_of (read_after r (take count chunk))))

-- bytes more of a code's header, one after another
abbrev pub note_all : Code → List ℕ → Code
note_all c bytes = record c { header = header_with_all c.header bytes }

-- those of the latest code
abbrev pub with_header_bytes : Progress → List ℕ → Progress
with_header_bytes s bytes = record s { latest = option_map (λ c. note_all c bytes) s.latest }

-- bytes that aren't the value of a code, one after another
abbrev pub scan_with_run : Progress → List ℕ → Progress
scan_with_run s [] = s
scan_with_run s (x ∷ xs) = scan_with_run (scan_with_byte s x) xs

-- before none of these bytes the prefix is complete, so that none of them is the value of a code
abbrev pub IsQuiet : Progress → List ℕ → Type 0
IsQuiet s [] = Unit {0}
IsQuiet s (x ∷ xs) = (is_whole s.prefix ≡ false) × IsQuiet (scan_with_byte s x) xs

-- the first bytes of `rest` were read, and none of them is the value of a code
pub record HasSkipped (old new : Progress) (rest : List ℕ) (count : ℕ) : Type 0 where
  pub quiet : IsQuiet old (take count rest)
  pub is : new ≡ scan_with_run old (take count rest)
