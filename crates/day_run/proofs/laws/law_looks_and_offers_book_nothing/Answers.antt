use Rattle.std.proofs.Common.{arith}
use Rattle.admission.proofs.HistoryPrefixes.{state-push}
use Rattle.day_run.proofs.laws.law_looks_and_offers_book_nothing.Goals as goal

pub returns : goal.returns
returns c = record {
  look = λ link slot old new text is. grind (arith, state-push);
  offer = search arith;
}
