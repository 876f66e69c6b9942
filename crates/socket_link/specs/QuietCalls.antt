-- Calls of a socket by what they do to the times that limits count from.
use Rattle.socket_link.specs.declared.sockets.Purpose.TheVariants.{Accept, Patience}
use Rattle.socket_link.specs.Calls.{SocketCall, GaveBytes, TookBytes, ReadClock}

-- no byte comes and none is taken, and the connection isn't accepted anew
abbrev pub IsQuiet : SocketCall → Type 0
IsQuiet (GaveBytes bytes) = ⊥
IsQuiet (TookBytes bytes) = ⊥
IsQuiet (ReadClock Accept time) = ⊥
IsQuiet _ = Unit {0}

-- no byte is taken; bytes may come
abbrev pub TakesNothing : SocketCall → Type 0
TakesNothing (TookBytes bytes) = ⊥
TakesNothing (ReadClock Accept time) = ⊥
TakesNothing _ = Unit {0}

-- no byte is taken, and no write has found a peer that takes nothing
abbrev pub IsBeforePatience : SocketCall → Type 0
IsBeforePatience (ReadClock Patience time) = ⊥
IsBeforePatience call = TakesNothing call
