use Rattle.std.proofs.Common.{◌≡◌, true}
use Rattle.cli_args.specs.Capacities.{may_follow}
use Rattle.cli_args.proofs.CapacityLemmas.{front_more}
use Rattle.cli_args.proofs.capacities.push_step_text.Goals as goal

pub returns-clause-front : goal.returns-clause-front
returns-clause-front c =
    let may : may_follow c.args.steps.now c.in-Some.step ≡ true = cc in
    rw c.push.ensures (front_more c.args.steps.now c.in-Some.step c.requires may)
