-- Readings of the clock by their purpose.
use Rattle.std.specs.Prelude.{ℕ}
use Rattle.socket_link.specs.declared.sockets.Purpose.TheVariants.{Slot, Idle, End}
use Rattle.socket_link.specs.Calls.{SocketCall, ReadClock}

abbrev pub slot_reading : ℕ → SocketCall
slot_reading time = ReadClock Slot time

abbrev pub idle_reading : ℕ → SocketCall
idle_reading time = ReadClock Idle time

abbrev pub end_reading : ℕ → SocketCall
end_reading time = ReadClock End time
