use Rattle.vod_base.proofs.SplitLemmas.{none_is}
use Rattle.day_script.proofs.TextSplitLemmas.{words-more, words-last}
use Rattle.day_script.proofs.line_split.split_words.Goals as goal

pub loop-word-preserved : goal.loop-word-preserved
loop-word-preserved c =
    words-more c.loop-word.words.items c.in-Some.word
    c.in_ok-push.ensures.items c.in-Some.ensures c.loop-word.invariant

pub returns : goal.returns
returns c =
    words-last c.loop-word.words.items c.loop-word.rest c.in_ok-push-2.ensures.items
    (none_is 32 c.loop-word.rest.now c.in_default.ensures) c.loop-word.invariant
