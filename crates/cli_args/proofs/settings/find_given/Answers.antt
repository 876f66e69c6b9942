use Rattle.std.proofs.Common.{Option, List, ℕ, ◌∙◌, ap, sym}
use Rattle.std.specs.Option.{option_copied, option_to_list}
use Rattle.std.specs.Borrow.{Bor}
use Rattle.cli_args.specs.Settings.{setting_value}
use Rattle.cli_args.proofs.KeyValueLemmas.{Search, values_of_first, values_of_none, values_of_again}
use Rattle.cli_args.proofs.settings.find_given.Goals as goal
use Rattle.cli_args.proofs.settings.find_given.Goals.{After-setting, in-Some+else-is_some, in_default}

-- what the arguments so far gave
abbrev given : (c : After-setting) → Search c.args.key.now c.args.words.now
given c = record {
  i = c.loop-word.word-index;
  word = c.word-item.result;
  found = c.loop-word.found;
  answer = c.setting.result;
  at = record { inside = c.loop-word-test.true; is = c.word-item.is };
  before = c.loop-word.invariant;
  says = c.setting.ensures ∙ ap (setting_value c.args.key.now) c.as_str.ensures.value;
}

pub returns-then-is_some : goal.returns-then-is_some
returns-then-is_some c =
    values_of_again (given (goal.at.returns-then-is_some c).After-setting) (sym (c.if-is_some.ensures {u = tt}))
    c.in-Some.is

pub loop-word-preserved : goal.loop-word-preserved
loop-word-preserved c =
    let here = given (goal.at.loop-word-preserved c).After-setting in
    let list = λ (o : Option (Bor (List ℕ))). option_to_list (option_copied o) in
    elim c.match-setting.branch [
      | in-Some+else-is_some w ↦
          values_of_first here (sym (w.if-is_some.ensures {u = tt})) ∙ ap list (w.in-Some.is ∙ sym w.found-is)
      | in_default w ↦ values_of_none here w.in_default.is ∙ ap list (sym w.found-is)
    ]
