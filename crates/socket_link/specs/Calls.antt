-- What the calls of a socket did, as contracts see them.
use Rattle.std.specs.Prelude.{ℕ, List, [], ◌∷◌, ◌++◌}
use Rattle.socket_link.specs.declared.sockets.Purpose.{Purpose}

-- One call that succeeded. A read gave bytes, gave nothing now, or found the end; a write took
-- bytes,
-- or nothing now; a signal interrupted a read or a write, which then did nothing; the clock was
-- read
-- for a purpose, in nanoseconds; the call waited for at most so many nanoseconds; the sending half
-- was
-- shut down.
pub data SocketCall : Type 0 where
  GaveBytes : List ℕ → SocketCall
  GaveNothing : SocketCall
  GaveEnd : SocketCall
  TookBytes : List ℕ → SocketCall
  TookNothing : SocketCall
  WasInterrupted : SocketCall
  ReadClock : Purpose → ℕ → SocketCall
  Waited : ℕ → SocketCall
  ShutDown : SocketCall

-- the bytes that one call took, and all that the writes took, in order
abbrev pub bytes_taken : SocketCall → List ℕ
bytes_taken (TookBytes bytes) = bytes
bytes_taken _ = []

abbrev pub taken_of : List SocketCall → List ℕ
taken_of [] = []
taken_of (call ∷ calls) = bytes_taken call ++ taken_of calls

-- what the reads gave, in order: the bytes of each read, and no bytes for the end
abbrev pub arrival_of : SocketCall → List (List ℕ)
arrival_of (GaveBytes bytes) = bytes ∷ []
arrival_of GaveEnd = [] ∷ []
arrival_of _ = []

abbrev pub arrivals_of : List SocketCall → List (List ℕ)
arrivals_of [] = []
arrivals_of (call ∷ calls) = arrival_of call ++ arrivals_of calls
