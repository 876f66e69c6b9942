use Rattle.std.proofs.Common.{Some, None}
use Rattle.std.proofs.lemmas.Bool.Decides.{Decides-eqb}
use Rattle.std.proofs.lemmas.Slice.Eq.{strip_prefix_is}
use Rattle.rtsp_methods.proofs.WordLemmas.{word_found, word_not_found}
use Rattle.rtsp_methods.proofs.topics.is_word.Goals as goal

pub returns-in-Some : goal.returns-in-Some
returns-in-Some c =
    let found = strip_prefix_is Decides-eqb c.args.body.now c.args.word.now
    (Some c.in-Some.end) c.in-Some.ensures.cases in
    word_found found c.is_line_end.ensures

pub returns-in-None : goal.returns-in-None
returns-in-None c =
    let none = strip_prefix_is Decides-eqb c.args.body.now c.args.word.now None c.in-None.ensures.cases in
    word_not_found none
