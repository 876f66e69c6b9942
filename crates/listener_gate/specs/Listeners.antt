-- What a listener did, as contracts see it.
use Rattle.std.specs.Prelude.{⊤, List, [], ◌∷◌}
use Rattle.listener_gate.specs.declared.listeners.AcceptError.{AcceptError}
use Rattle.listener_gate.specs.declared.listeners.AcceptError.TheVariants.{Transient, Shortage}
use Rattle.listener_gate.specs.declared.listeners.AcceptError.TheVariants.{Broken}
use Rattle.listener_gate.specs.declared.listeners.ListenerDoing.{ListenerDoing}
use Rattle.listener_gate.specs.declared.listeners.ListenerDoing.TheVariants as doing

-- a failed accept as doings: an error that stays isn't one
abbrev pub failed_accept : AcceptError → List ListenerDoing
failed_accept Transient = doing.TransientError ∷ []
failed_accept Shortage = doing.ShortageError ∷ []
failed_accept Broken = []

-- the error stays
abbrev pub IsBroken : AcceptError → Type 0
IsBroken Transient = ⊥
IsBroken Shortage = ⊥
IsBroken Broken = ⊤
