use Rattle.std.proofs.Common.{rules, refl, arith}
use Rattle.rtsp_client.specs.ClientSteps.{observed}
use Rattle.rtsp_client.proofs.ElementSteps.{stopped-on, taken-none, taken-on, taken-so}
use Rattle.rtsp_client.proofs.clients.Client.process_input.Goals as goal

pub elements-init : goal.elements-init
elements-init g c = (omega arith, omega arith, omega arith, λ h k. taken-none k refl)

pub returns-in_err-more-clause-stopped : goal.returns-in_err-more-clause-stopped
returns-in_err-more-clause-stopped g c =
    rw c.from_residual.ensures
    (λ h k.
    stopped-on {u = observed (g.K.Link.told c.process_next.new.link) (g.O.Sink.written c.process_next.new.out)}
    (taken-so (c.elements.invariant.3 h k)) (λ i ki. c.in_err-more.ensures.stopped i ki))

pub returns-then-not-more-clause-taken : goal.returns-then-not-more-clause-taken
returns-then-not-more-clause-taken g c = λ h k.
    taken-on (taken-so (c.elements.invariant.3 h k)) (λ i ki. c.in_ok-more.ensures.taken i ki)

pub elements-preserved : goal.elements-preserved
elements-preserved g c = (
  omega (arith, c.elements.invariant.0, c.in_ok-more.ensures.few),
  omega (arith, c.elements.invariant.1, c.process_next.ensures.count),
  omega (arith, c.elements.invariant.2, c.process_next.ensures.count_out),
  λ h k. taken-on (taken-so (c.elements.invariant.3 h k)) (λ i ki. c.in_ok-more.ensures.taken i ki),
)

pub returns-then-not-more-clause-idle : goal.returns-then-not-more-clause-idle
returns-then-not-more-clause-idle g c = c.in_ok-more.ensures.idle (search rules)
