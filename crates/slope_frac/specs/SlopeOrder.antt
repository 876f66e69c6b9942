-- The order of slopes.
use Rattle.std.specs.Prelude.{◌≡◌, ◌*◌, ◌<◌}
use Rattle.slope_frac.specs.declared.Slope.{Slope}

-- slope a is less steep than slope b: the bytes of each by the slots of the other
abbrev pub IsLessSteep : Slope → Slope → Type 0
IsLessSteep a b = a.bytes * b.slots < b.bytes * a.slots

-- two slopes are equally steep
abbrev pub IsEquallySteep : Slope → Slope → Type 0
IsEquallySteep a b = a.bytes * b.slots ≡ b.bytes * a.slots
