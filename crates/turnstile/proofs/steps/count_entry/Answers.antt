use Rattle.std.proofs.Common.{arith}
use Rattle.turnstile.proofs.StepRules.{kept_by, at_word, counts_entry}
use Rattle.turnstile.proofs.steps.count_entry.Goals as goal

pub fetch_add-requires : goal.fetch_add-requires
fetch_add-requires g c =
    let kept = kept_by g.B.Kept.entries g.B.Kept.terms c.args.shared.now.key.value in let place = c.args.place.now in
    at_word kept c.requires.seat 2 (omega arith)
    (counts_entry kept place.id c.args.shared.now.table_id.slots place.me c.requires.turn c.requires.one)
