use Rattle.std.proofs.Common.{◌∙◌, sym}
use Rattle.day_script.proofs.LineReadLemmas.{good-utf8}
use Rattle.day_script.proofs.script_reader.name_in.Goals as goal

pub returns-in-Err-clause-none : goal.returns-in-Err-clause-none
returns-in-Err-clause-none c =
    absurd (c.in-Err.ensures.cases.0 (good-utf8 c.args.word.now (sym c.good_name.ensures ∙ c.if-not-good_name.false)))
