use Rattle.std.proofs.Common.{◌≡◌, length}
use Rattle.film_frames.specs.Pieces.{front_pieces}
use Rattle.film_frames.proofs.tables.count_pieces.Given as goal

abbrev pub invariant-loop-number : goal.invariant-loop-number
invariant-loop-number l = l.count ≡ length (front_pieces l.film l.number)
