-- A library that is read on.
use Rattle.std.proofs.Common.{ℕ, List, Option, ◌∙◌, arith}
use Rattle.vod_base.specs.IoState.{File}
use Rattle.cli_errors.specs.ReadErrors.{IsLibraryUnchanged}

-- one read after another
pub then_read : {told told' told'' : Option (List File)} {a b c : ℕ} → IsLibraryUnchanged told told' a b →
    IsLibraryUnchanged told' told'' b c →
    IsLibraryUnchanged told told'' a c
then_read one two = record { kept = two.kept ∙ one.kept; count = omega (arith, one.count, two.count) }
