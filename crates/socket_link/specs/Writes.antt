-- The answers of a socket's write.
use Rattle.std.specs.Prelude.{ℕ, ◌≤◌, ⊤, List, take}
use Rattle.socket_link.specs.declared.sockets.WriteOutcome.{WriteOutcome}
use Rattle.socket_link.specs.declared.sockets.WriteOutcome.TheVariants.{Bytes, Nothing, Interrupted}
use Rattle.socket_link.specs.Calls.{SocketCall, TookBytes, TookNothing, WasInterrupted}

-- an answer as a call: a write takes the first bytes
abbrev pub write_call : WriteOutcome → List ℕ → SocketCall
write_call (Bytes count) bytes = TookBytes (take count bytes)
write_call Nothing bytes = TookNothing
write_call Interrupted bytes = WasInterrupted

-- bytes that were taken are at least one, and no more than were offered
abbrev pub IsWrittenWithin : WriteOutcome → ℕ → Type 0
IsWrittenWithin (Bytes count) offered = (1 ≤ count) × (count ≤ offered)
IsWrittenWithin _ offered = ⊤
