-- The answers of a socket's read.
use Rattle.std.specs.Prelude.{ℕ, ◌≤◌, ⊤, List, take}
use Rattle.socket_link.specs.declared.sockets.ReadOutcome.{ReadOutcome}
use Rattle.socket_link.specs.declared.sockets.ReadOutcome.TheVariants.{Bytes, Nothing, Interrupted}
use Rattle.socket_link.specs.declared.sockets.ReadOutcome.TheVariants.{End}
use Rattle.socket_link.specs.Calls.{SocketCall, GaveBytes, GaveNothing, GaveEnd, WasInterrupted}

-- an answer as a call, where `into` has the bytes that arrived at its start
abbrev pub read_call : ReadOutcome → List ℕ → SocketCall
read_call (Bytes count) into = GaveBytes (take count into)
read_call Nothing into = GaveNothing
read_call Interrupted into = WasInterrupted
read_call End into = GaveEnd

-- bytes that came are at least one, and fit
abbrev pub IsReadWithin : ReadOutcome → ℕ → Type 0
IsReadWithin (Bytes count) room = (1 ≤ count) × (count ≤ room)
IsReadWithin _ room = ⊤
