-- What the I/O objects hold and count, as contracts see it.
use Rattle.std.specs.Prelude.{◌≡◌, ℕ, ◌+◌, ◌-◌, ◌<◌, ◌≤◌, ◌^◌, if◌then◌else◌, List, [], ◌∷◌, ◌++◌}
use Rattle.std.specs.Prelude.{nat_lt, length, take, drop, Option, Some, None, unwrap_or}
use Rattle.std.specs.Str.{bytes_eq}

-- A fault count rose. A count that stands at the end of 64 bits, where a counter stays, counts as
-- risen.
abbrev pub HasRisen : ℕ → ℕ → Type 0
HasRisen old new = new < 2 ^ 64 - 1 → old < new

-- one more, where the count stays at the end of 64 bits
abbrev pub one_more : ℕ → ℕ
one_more count = if nat_lt count (2 ^ 64 - 1) then count + 1 else count

-- a file of a library: its name, and its bytes
pub record File : Type 0 where
  pub name : List ℕ
  pub bytes : List ℕ

-- the bytes of the first file of that name
abbrev pub file_named : List File → List ℕ → Option (List ℕ)
file_named [] name = None
file_named (file ∷ files) name = if bytes_eq file.name name
    then Some file.bytes else file_named files name

-- the same, where a missing file has no bytes
abbrev pub bytes_named : List File → List ℕ → List ℕ
bytes_named files name = unwrap_or (file_named files name) []

-- A read of `bytes` at `at` put n bytes at the start of `into`: 0 only where `into` is empty or
-- nothing stands there.
pub record IsRead (bytes : List ℕ) (at n : ℕ) (into : List ℕ) : Type 0 where
  pub within : n ≤ length into
  pub there : n ≤ length bytes - at
  pub front : take n into ≡ take n (drop at bytes)
  pub some : 0 < length into → at < length bytes → 0 < n

-- what was exposed, with these after it: bytes that were written, or what a connection did
abbrev pub told_more : {A : Type 0} → Option (List A) → List A → Option (List A)
told_more None these = None
told_more (Some told) these = Some (told ++ these)

-- what was exposed, with a prefix of these bytes after it
abbrev pub IsWrittenPrefix : Option (List ℕ) → Option (List ℕ) → List ℕ → Type 0
IsWrittenPrefix old new bytes = (n : ℕ) × ((n ≤ length bytes) × (new ≡ told_more old (take n
    bytes)))
