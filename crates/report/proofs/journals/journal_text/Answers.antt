use Rattle.std.proofs.Common.{ap, arith, subst, sym}
use Rattle.report.specs.JournalTexts.{journal_text}
use Rattle.report.specs.AnswerKinds.{AreOfKind}
use Rattle.vod_base.proofs.AppendLemmas.{appended_as, handed_on}
use Rattle.report.proofs.JournalLemmas.{NextLine, all_appended, kind_at, kinds_from, line_cut, none_yet, one_more}
use Rattle.report.proofs.journals.journal_text.Goals.{After-index-rest-passed}
use Rattle.report.proofs.journals.journal_text.Goals as goal

pub entry_line-requires : goal.entry_line-requires
entry_line-requires c =
    let kinds : AreOfKind c.entries_from-rest.result.now =
    subst AreOfKind (sym c.entries_from-rest.ensures) (kinds_from c.args.entries.now c.args.from c.requires) in
    kind_at c.entries_from-rest.result.now c.loop-passed.passed c.index-rest-passed.result kinds
    c.loop-passed-test.true c.index-rest-passed.is

pub loop-passed-init : goal.loop-passed-init
loop-passed-init c = none_yet c.entries_from-rest.result.now c.args.from c.args.out.now.items

-- the line of the next entry
abbrev next_line : After-index-rest-passed → NextLine
next_line c = record {
  entries = c.entries_from-rest.result.now;
  from = c.args.from;
  passed = c.loop-passed.passed;
  before = c.args.out.now.items;
  mid = c.loop-passed.out.items;
  entry = c.index-rest-passed.result;
  so_far = c.loop-passed.invariant;
  inside = c.loop-passed-test.true;
  at = c.index-rest-passed.is;
}

pub loop-passed-preserved : goal.loop-passed-preserved
loop-passed-preserved c =
    one_more (next_line (goal.at.loop-passed-preserved c).After-index-rest-passed) c.in_ok-entry_line.ensures.whole

pub returns-in_err-entry_line : goal.returns-in_err-entry_line
returns-in_err-entry_line c =
    handed_on c.from_residual.result c.from_residual.ensures.0
    (appended_as (ap (journal_text c.args.from) c.entries_from-rest.ensures)
    (line_cut (next_line (goal.at.returns-in_err-entry_line c).After-index-rest-passed) c.in_err-entry_line.ensures))

pub returns : goal.returns
returns c =
    appended_as (ap (journal_text c.args.from) c.entries_from-rest.ensures)
    (record { whole = all_appended c.loop-passed.invariant (omega (arith, c.loop-passed-test.false)); cut = tt })
