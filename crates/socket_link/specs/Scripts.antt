-- What a socket in memory notes.
use Rattle.socket_link.specs.declared.memory_sockets.NotedCall.{NotedCall}
use Rattle.socket_link.specs.declared.memory_sockets.NotedCall.TheVariants.{Gave, Empty, Ended}
use Rattle.socket_link.specs.declared.memory_sockets.NotedCall.TheVariants.{Took, Full, Stopped}
use Rattle.socket_link.specs.declared.memory_sockets.NotedCall.TheVariants.{Clock, Wait, Shut}
use Rattle.socket_link.specs.Calls.{SocketCall, GaveBytes, GaveNothing, GaveEnd, TookBytes}
use Rattle.socket_link.specs.Calls.{TookNothing, WasInterrupted, ReadClock, Waited, ShutDown}

-- a note as the call that it represents
abbrev pub call_noted : NotedCall → SocketCall
call_noted (Gave bytes) = GaveBytes bytes.items
call_noted Empty = GaveNothing
call_noted Ended = GaveEnd
call_noted (Took bytes) = TookBytes bytes.items
call_noted Full = TookNothing
call_noted Stopped = WasInterrupted
call_noted (Clock purpose time) = ReadClock purpose time
call_noted (Wait most) = Waited most
call_noted Shut = ShutDown
