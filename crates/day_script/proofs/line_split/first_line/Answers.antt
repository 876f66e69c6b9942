use Rattle.std.proofs.Common.{◌==◌, ◌∷◌, length, sym, ap, ◌∙◌}
use Rattle.day_script.specs.TextLines.{lines_of_script}
use Rattle.vod_base.proofs.SplitLemmas.{none_is}
use Rattle.day_script.proofs.TextSplitLemmas.{script-cut, script-rest}
use Rattle.day_script.proofs.line_split.first_line.Goals as goal

pub returns-in-Some-clause-some : goal.returns-in-Some-clause-some
returns-in-Some-clause-some c =
    script-cut c.args.text.now c.in-Some.line.now c.in-Some.rest.now c.in-Some.ensures
    ∙ ap (λ l. l ∷ lines_of_script c.in-Some.rest.now) (sym c.without_return.ensures)

pub returns-in-None-clause-some : goal.returns-in-None-clause-some
returns-in-None-clause-some c =
    script-rest c.args.text.now (λ e. cc (ap (λ t. length t == 0) e)) (none_is 10 c.args.text.now c.in-None.ensures)
