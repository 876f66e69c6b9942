use Rattle.std.proofs.Common.{arith}
use Rattle.turnstile.proofs.StepRules.{kept_by, at_word, draws}
use Rattle.turnstile.proofs.steps.draw.Goals as goal

pub fetch_add-requires : goal.fetch_add-requires
fetch_add-requires g c =
    let kept = kept_by g.B.Kept.entries g.B.Kept.terms c.args.shared.now.key.value in let place = c.args.place.now in
    at_word kept c.requires.seat 0 (omega arith)
    (draws kept place.id c.args.shared.now.table_id.slots place.me c.requires.free)
