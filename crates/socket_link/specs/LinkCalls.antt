-- What a call of a link does to the link and to its socket.
use Rattle.std.specs.Prelude.{◌≡◌, ◌<◌, ◌≤◌, Result, OnOk, OnErr, IsTrue, length}
use Rattle.socket_link.specs.declared.sockets.Socket.{Ghosts}
use Rattle.socket_link.specs.declared.links.SocketLink.{SocketLink}
use Rattle.socket_link.specs.Histories.{IsCause}
use Rattle.socket_link.specs.Steps.{HasServed}

-- A call that may have called the socket, and its answer. A call that succeeded made further calls
-- in which no limit was reached. One that failed has a cause. The link counts its faults elsewhere.
pub record CallsSocket {S : Type 0} {G : Ghosts S} {A E : Type 0} (result : Result A E)
    (old new : SocketLink S G) : Type 0 where
  pub units : new.slot_units ≡ old.slot_units
  pub faults : new.faults ≡ old.faults
  pub count : G.faults old.socket ≤ G.faults new.socket
  pub served : OnOk result (IsTrue G.tells → HasServed old.slot_units (G.did old.socket)
      (G.did new.socket))
  pub cause : OnErr result (IsTrue G.tells → IsCause (G.faults old.socket) (G.faults new.socket)
      (G.did new.socket))

-- the socket was called at least once
abbrev pub MakesCall : {S : Type 0} {G : Ghosts S} → SocketLink S G → SocketLink S G → Type 0
MakesCall {S} {G} old new = IsTrue G.tells → length (G.did old.socket) < length (G.did new.socket)

-- no event was noted
pub record LeavesHistory {S : Type 0} {G : Ghosts S} (old new : SocketLink S G) : Type 0 where
  pub doings : new.history.doings ≡ old.history.doings
  pub slot : new.slot ≡ old.slot

-- the bytes that wait stay, and since when the peer takes none
pub record LeavesWaiting {S : Type 0} {G : Ghosts S} (old new : SocketLink S G) : Type 0 where
  pub buffer : new.buffer ≡ old.buffer
  pub stuck : new.watch.stuck ≡ old.watch.stuck
