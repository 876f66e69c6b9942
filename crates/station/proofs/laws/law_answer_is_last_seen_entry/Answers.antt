use Rattle.station.proofs.LongerJournals.{last_entry, last_place}
use Rattle.station.proofs.laws.law_answer_is_last_seen_entry.Goals as goal

pub returns : goal.returns
returns c = record {
  entry = λ old new more command place answer. last_entry;
  last = λ old new more command place answer. last_place;
}
