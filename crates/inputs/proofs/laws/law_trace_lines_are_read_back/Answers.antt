use Rattle.inputs.proofs.TraceLineLemmas.{lines_read, lines_same, lines_within}
use Rattle.inputs.proofs.laws.law_trace_lines_are_read_back.Goals as goal

pub returns-clause-read : goal.returns-clause-read
returns-clause-read c = λ sizes are. lines_read sizes are

pub returns-clause-within : goal.returns-clause-within
returns-clause-within c = λ sizes read small is. lines_within sizes read small is

pub returns-clause-same : goal.returns-clause-same
returns-clause-same c = λ sizes read small is. lines_same sizes read small is
