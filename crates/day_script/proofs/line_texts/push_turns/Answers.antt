use Rattle.std.proofs.Common.{codes}
use Rattle.vod_base.specs.Fields.{field}
use Rattle.day_script.specs.LineTexts.{entry_words, turn_words}
use Rattle.day_script.proofs.AppendedTextLemmas.{then-more}
use Rattle.day_script.proofs.line_texts.push_turns.Goals as goal

pub returns : goal.returns
unfolding turn_words
returns c =
    then-more c.push_entries.result (record {
      before = c.args.out.now.items;
      text = field (codes "fair turns=") c.args.counts.now.turns;
      whole = c.in_ok-push_field.ensures.whole;
    }) (entry_words c.args.entries.now) c.push_entries.new.out.items c.push_entries.ensures
