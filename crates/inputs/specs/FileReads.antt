-- Reading a file of a library.
use Rattle.std.specs.Prelude.{◌≡◌, ℕ, ◌+◌, ◌<◌, ◌≤◌, List, ◌++◌, length, take, Option, Some, None}
use Rattle.vod_base.specs.IoState.{File, file_named}
use Rattle.cli_errors.specs.declared.errors.InputError.{InputError}
use Rattle.cli_errors.specs.declared.errors.InputError.TheVariants.{NotFound}

-- the one name
abbrev pub IsThatName : List ℕ → List ℕ → Type 0
IsThatName name other = other ≡ name

-- there is no such file
abbrev pub IsMissing : List File → List ℕ → InputError → Type 0
IsMissing held name fault = (fault ≡ NotFound) × (file_named held name ≡ None)

-- no refusal at all, where the library exposes what it holds
abbrev pub IsNever : List File → List ℕ → InputError → Type 0
IsNever held name fault = ⊥

-- the bytes are the start of the file that the library holds, whose size is known
pub record IsFilePrefix (held : List File) (name : List ℕ) (size : ℕ) (bytes : List ℕ) : Type 0
  where
    pub whole : List ℕ
    pub found : file_named held name ≡ Some whole
    pub sized : size ≡ length whole
    pub front : bytes ≡ take (length bytes) whole

-- a read at a place of the file came to so many bytes: some, no more than there was room for, and
-- none beyond the file's end
pub record IsChunk (size at room count : ℕ) : Type 0 where
  pub some : 0 < count
  pub fits : count ≤ room
  pub within : at + count ≤ size

-- a read after these bytes of the file gave the next ones, which stand at the start of `into`; or
-- the file ends there
abbrev pub IsNextRead : List File → List ℕ → ℕ → List ℕ → List ℕ → Option ℕ → Type 0
IsNextRead held name size bytes into (Some count) =
    IsFilePrefix held name size (bytes ++ take count into)
IsNextRead held name size bytes into None = file_named held name ≡ Some bytes
