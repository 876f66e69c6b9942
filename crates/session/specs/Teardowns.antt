-- How far a TEARDOWN has come.
use Rattle.std.specs.Prelude.{Bool, true, false}
use Rattle.session.specs.declared.states.Teardown.{Teardown}
use Rattle.session.specs.declared.states.Teardown.TheVariants.{Unanswered, Sent}

-- it was answered 200
abbrev pub is_tearing : Teardown → Bool
is_tearing Unanswered = false
is_tearing _ = true

-- and that reply was sent
abbrev pub is_torn_down : Teardown → Bool
is_torn_down Sent = true
is_torn_down _ = false
