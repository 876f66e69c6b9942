use Rattle.std.proofs.Common.{◌≡◌}
use Rattle.turnstile.specs.Passes.{PassState}
use Rattle.turnstile.proofs.tests.take_turns.Given as goal

abbrev pub invariant-loop : goal.invariant-loop
invariant-loop g l = l.pass
    ≡ (let p : PassState = record l.initial.pass { seen = l.pass.seen; mine = l.pass.mine } in p)
