use Rattle.std.proofs.Common.{arith}
use Rattle.day_run.proofs.DayPrefixLemmas.{full-line}
use Rattle.day_run.proofs.LineOutcomes.{taken-left}
use Rattle.day_run.proofs.laws.law_full_journal_line_is_true.Goals as goal

pub returns : goal.returns
returns c = λ link sources lines texts moment next line text small clients are run is says.
    let left = taken-left link sources lines texts moment clients are run in
    full-line (record { link = link; old = moment; new = next; text = text }) line left.ready
    (omega (arith, left.within (omega arith), small)) is says
