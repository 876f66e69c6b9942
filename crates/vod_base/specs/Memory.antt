-- The objects in memory as contracts see them. A call that is to fail is named by its number, from
-- 1, over all calls of the object.
use Rattle.std.specs.Prelude.{ℕ, Bool, ◌==◌, if◌then◌else◌, List}
use Rattle.std.specs.List.{list_any}
use Rattle.vod_base.specs.IoState.{File, one_more}

-- whether the call of that number is to fail
abbrev pub fails : List ℕ → ℕ → Bool
fails failing number = list_any (λ n. n == number) failing

-- whether the call after so many is to fail
abbrev pub call_fails : List ℕ → ℕ → Bool
call_fails failing calls = fails failing (one_more calls)

-- a library in memory: its files, the failing calls, and how many calls and faults there were
pub record LibraryState : Type 0 where
  pub files : List File
  pub failing : List ℕ
  pub calls : ℕ
  pub faults : ℕ

-- the state after one call
abbrev pub library_called : LibraryState → LibraryState
library_called s = record s {
  calls = one_more s.calls;
  faults = if call_fails s.failing s.calls
      then one_more s.faults else s.faults;
}

-- a sink in memory: its bytes, the most that it keeps, the failing calls, and how many calls and
-- faults there were
pub record SinkState : Type 0 where
  pub bytes : List ℕ
  pub room : ℕ
  pub failing : List ℕ
  pub calls : ℕ
  pub faults : ℕ
