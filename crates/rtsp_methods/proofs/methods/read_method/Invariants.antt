use Rattle.std.proofs.Common.{ℕ, ◌≢◌, ◌<◌}
use Rattle.rtsp_methods.specs.Methods.{name_of}
use Rattle.rtsp_methods.proofs.MethodTable.{method_at}
use Rattle.rtsp_methods.proofs.methods.read_method.Given as goal

abbrev pub invariant-loop-row : goal.invariant-loop-row
invariant-loop-row l = (place : ℕ) → place < l.row-index → l.text ≢ name_of (method_at place)
