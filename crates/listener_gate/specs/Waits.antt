-- The waits among what a listener did.
use Rattle.std.specs.Prelude.{ℕ, List, [], ◌∷◌}
use Rattle.listener_gate.specs.declared.listeners.ListenerDoing.{ListenerDoing}
use Rattle.listener_gate.specs.declared.listeners.ListenerDoing.TheVariants.{Waited}

-- the waits in milliseconds, in order
abbrev pub waits_of : List ListenerDoing → List ℕ
waits_of [] = []
waits_of (Waited ms ∷ doings) = ms ∷ waits_of doings
waits_of (_ ∷ doings) = waits_of doings
