use Rattle.std.proofs.Common.{arith}
use Rattle.turnstile.proofs.StepRules.{kept_by, at_word, reads}
use Rattle.turnstile.proofs.steps.read_view.Goals as goal

pub load-requires : goal.load-requires
load-requires g c =
    let kept = kept_by g.B.Kept.entries g.B.Kept.terms c.args.shared.now.key.value in let place = c.args.place.now in
    at_word kept c.requires.seat 0 (omega arith)
    (reads kept place.id c.args.shared.now.table_id.slots place.me c.requires.left)
