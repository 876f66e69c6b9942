-- Why a text gives no trace.
use Rattle.std.specs.Prelude.{ℕ, List}
use Rattle.inputs.specs.Traces.{IsBadTraceText}
use Rattle.inputs.specs.declared.traces.TraceRefused.{TraceRefused}
use Rattle.inputs.specs.declared.traces.TraceRefused.TheVariants.{BadTrace, NoMemory}

abbrev pub IsTextRefused : List ℕ → TraceRefused → Type 0
IsTextRefused text (BadTrace place) = IsBadTraceText text place
IsTextRefused text NoMemory = Unit {0}
