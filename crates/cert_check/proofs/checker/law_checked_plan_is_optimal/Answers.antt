use Rattle.cert_check.proofs.OptimalityProof.{best}
use Rattle.cert_check.proofs.TautFormLemmas.{closed_of_sound}
use Rattle.cert_check.proofs.checker.law_checked_plan_is_optimal.Goals as goal

pub returns : goal.returns
returns c =
    let curves = c.args.curves.now in
    let sound = c.requires.sound in
    best curves.from curves.low.items curves.up.items c.args.segments.now
    (closed_of_sound curves.from curves.low.items curves.up.items sound) c.requires.taut
