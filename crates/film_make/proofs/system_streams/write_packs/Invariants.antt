use Rattle.std.proofs.Common.{◌≡◌, ◌++◌}
use Rattle.film_make.specs.SystemStream.{packs_of}
use Rattle.film_make.proofs.system_streams.write_packs.Given as goal

abbrev pub invariant-loop-part : goal.invariant-loop-part
invariant-loop-part l = l.out.items ≡ l.initial.out.items ++ packs_of l.video l.part
