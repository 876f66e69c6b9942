use Rattle.std.proofs.Common.{◌==◌, ◌+◌, not, ap, sym, ◌∙◌, arith, ne_eqb}
use Rattle.std.specs.List.{list_all}
use Rattle.std.proofs.lemmas.List.{take_rest, take_all}
use Rattle.std.proofs.lemmas.List.Folds.{list_all_more}
use Rattle.vod_base.proofs.SplitLemmas.{split_found}
use Rattle.vod_base.proofs.splits.split_at_first.Goals as goal

pub returns-then-text-at : goal.returns-then-text-at
returns-then-text-at c =
    rw (take_rest c.args.text.now (c.loop-at.at + 1))
    (split_found c.args.c c.args.text.now c.loop-at.at c.loop-at-test.true c.if-text-at.true c.loop-at.invariant)

pub loop-at-preserved : goal.loop-at-preserved
loop-at-preserved c =
    list_all_more (λ byte. not (byte == c.args.c)) c.args.text.now c.loop-at.at 0 c.loop-at-test.true
    ∙ rw (c.loop-at.invariant) (ap not (ne_eqb _ c.args.c c.if-text-at.false))

pub returns : goal.returns
returns c = ap (list_all (λ byte. not (byte == c.args.c)))
    (sym (take_all c.loop-at.at c.args.text.now (omega arith))) ∙ c.loop-at.invariant
