use Rattle.turnstile.proofs.Prefixes.{prefix_trans}
use Rattle.station.proofs.LongerJournals.{prefix_at, prefix_made, prefix_take}
use Rattle.station.proofs.laws.law_seen_entries_never_change.Goals as goal

pub returns : goal.returns
returns c = record { entries = prefix_at; fronts = prefix_take; makers = prefix_made; trans = prefix_trans }
