-- A call's answer that may end the watching, read as a result: what it goes on with, or the end.
use Rattle.std.specs.Prelude.{Result, Ok, Err}
use Rattle.std.specs.declared.ops.ControlFlow.{ControlFlow}
use Rattle.std.specs.declared.ops.ControlFlow.TheVariants.{Continue, Break}

abbrev pub as_result : {E A : Type 0} → ControlFlow E A → Result A E
as_result (Continue value) = Ok value
as_result (Break end) = Err end
