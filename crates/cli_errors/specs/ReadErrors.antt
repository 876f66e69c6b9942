-- Why a call that reads a library fails.
use Rattle.std.specs.Prelude.{◌≡◌, ℕ, ◌≤◌, List, Option, Some}
use Rattle.vod_base.specs.IoState.{File, HasRisen}
use Rattle.cli_errors.specs.declared.errors.InputError.{InputError}
use Rattle.cli_errors.specs.declared.errors.CliError.{CliError}
use Rattle.cli_errors.specs.declared.errors.CliError.TheVariants.{Refused, StoreFault, NoMemory}

-- what a library exposes is as it was, and its count of faults didn't fall
pub record IsLibraryUnchanged (told told' : Option (List File)) (faults faults' : ℕ) : Type 0 where
  pub kept : told' ≡ told
  pub count : faults ≤ faults'

-- a library was only read, by what it exposes and counts
abbrev pub IsReadOnly : {L : Type 0} → (L → Option (List File)) → (L → ℕ) → L → L → Type 0
IsReadOnly files faults old new = IsLibraryUnchanged (files old) (files new) (faults old) (faults
    new)

-- a refusal names an input that is read, and goes with `Refuses` where the library exposes what it
-- holds; a fault of the library names an input that is read, and was counted; for out of memory
-- nothing is asserted
abbrev pub IsReadError : (List ℕ → Type 0) → (List File → List ℕ → InputError → Type 0) →
    Option (List File) → ℕ → ℕ → CliError → Type 0
IsReadError Reads Refuses told faults faults' (Refused name fault) =
    Reads name.now × ((held : List File) → told ≡ Some held → Refuses held name.now fault)
IsReadError Reads Refuses told faults faults' (StoreFault name) =
    Reads name.now × HasRisen faults faults'
IsReadError Reads Refuses told faults faults' NoMemory = Unit {0}
IsReadError Reads Refuses told faults faults' _ = ⊥
