use Rattle.day_script.proofs.RefusedLines.{range-bad, verb-bad}
use Rattle.day_script.proofs.ScriptReadBack.{script-back}
use Rattle.day_script.proofs.laws.law_written_script_reads_back.Goals as goal

pub returns-clause-read : goal.returns-clause-read
returns-clause-read c = script-back

pub returns-clause-range : goal.returns-clause-range
returns-clause-range c = λ names lines line rest written own not.
    range-bad (record { names = names; lines = lines; written = written }) line rest own not

pub returns-clause-verb : goal.returns-clause-verb
returns-clause-verb c = λ names lines verb words rest written plain some unknown.
    verb-bad (record { names = names; lines = lines; written = written })
    (record { verb = verb; words = words; plain = plain; some = some; unknown = unknown }) rest
