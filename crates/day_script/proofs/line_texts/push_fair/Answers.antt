use Rattle.std.proofs.Common.{◌++◌, codes}
use Rattle.vod_base.proofs.AppendLemmas.{both}
use Rattle.day_script.specs.LineTexts.{slot_words, turn_words}
use Rattle.day_script.proofs.AppendedTextLemmas.{then-more}
use Rattle.day_script.proofs.line_texts.push_fair.Goals as goal

pub returns : goal.returns
returns c =
    let out = c.args.out.now.items in
    let turns = turn_words c.args.counts.now c.args.entries.now in
    let slots = slot_words c.args.counts.now in
    then-more c.push.result (record {
      before = out;
      text = turns ++ slots;
      whole = both out turns slots c.in_ok-push_turns.ensures c.in_ok-push_slots.ensures;
    }) (codes "\n") c.push.new.out.items c.push.ensures.whole
