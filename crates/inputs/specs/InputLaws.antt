-- The words of the laws about traces that are written line by line, and about the faults of a
-- stream in a file.
use Rattle.std.specs.Prelude.{◌≡◌, ℕ, ◌≤◌, List, [], ◌∷◌, ◌++◌, length, sum, All, flat_map, drop}
use Rattle.std.specs.Prelude.{decimal, Some}
use Rattle.sys_demux.specs.SystemStreams.{IsBadStream}
use Rattle.sys_demux.specs.declared.faults.SystemFault.{SystemFault}
use Rattle.sys_demux.specs.declared.faults.SystemFault.TheVariants.{NotPack, BadCode, BadPacket}
use Rattle.sys_demux.specs.declared.faults.SystemFault.TheVariants.{Truncated}
use Rattle.inputs.specs.Videos.{pack_in, place_of}

-- sizes as a text, line by line, each as a decimal number
abbrev pub trace_text : List ℕ → List ℕ
trace_text sizes = flat_map (λ size. decimal size ++ 10 ∷ []) sizes

-- a million pictures, each of up to 4 GiB, and up to 1 TiB together
pub record AreWithinLimits (sizes : List ℕ) : Type 0 where
  pub pictures : length sizes ≤ 1000000
  pub each : All (λ size. size ≤ 4294967296) sizes
  pub together : sum sizes ≤ 1099511627776

-- the same fault, whatever its place
abbrev pub IsSameFault : SystemFault → SystemFault → Type 0
IsSameFault (NotPack one) (NotPack other) = Unit {0}
IsSameFault (BadCode one) (BadCode other) = Unit {0}
IsSameFault (BadPacket one) (BadPacket other) = Unit {0}
IsSameFault (Truncated one) (Truncated other) = Unit {0}
IsSameFault one other = ⊥

-- A system stream begins in a file, and this is its fault. Its own place counts from the stream's
-- first byte, and that of the file's fault from the file's: the same bytes follow on both.
pub record IsFaultInFile (file : List ℕ) (fault : SystemFault) : Type 0 where
  pub place : ℕ
  pub begins : pack_in file ≡ Some place
  pub own : SystemFault
  pub refused : IsBadStream (drop place file) own
  pub same : IsSameFault own fault
  pub bytes : drop (place_of fault) file ≡ drop (place_of own) (drop place file)
