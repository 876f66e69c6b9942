-- What a flush leaves.
use Rattle.std.specs.Prelude.{◌≡◌, ℕ, List, length, Option, IsSome}
use Rattle.socket_link.specs.declared.links.Flushed.{Flushed}
use Rattle.socket_link.specs.declared.links.Flushed.TheVariants.{Everything, Stuck}

abbrev pub IsLeft : Flushed → List ℕ → Option ℕ → Type 0
IsLeft Everything waiting stuck = length waiting ≡ 0
IsLeft Stuck waiting stuck = IsSome stuck
