use Rattle.std.proofs.Common.{ℕ, ◌+◌, ◌++◌, ◌∷◌, [], List, sym, ap, ◌∙◌, arith, append_assoc, length-append}
use Rattle.listener_gate.specs.declared.listeners.ListenerDoing.{ListenerDoing}
use Rattle.listener_gate.specs.Accepts.{failed_tries, failed_try, wait_after}
use Rattle.listener_gate.proofs.Tries.{failed_tries-append, wait_after_tries-append}
use Rattle.listener_gate.proofs.gates.accept.Goals as goal

pub loop-n-preserved : goal.loop-n-preserved
loop-n-preserved g c =
    let held = c.loop-n.invariant in
    let now = c.in-Ok-None.ensures in
    let failed = now.failed c.in-Ok-None.field-0-is in
    let rose = now.count in
    let t = failed.0 in
    let tries = held.tried.tries in
    let ms = c.args.wait.now in
    let wait = c.loop-n.wait in
    let before = g.L.Listener.did c.args.listener.now in
    record {
      count = omega (arith, held.count, rose);
      tried = record {
        tries = tries ++ t ∷ [];
        number = length-append tries (t ∷ []) ∙ ap (λ n. n + 1) held.tried.number;
        waits = failed.1.0 ∙ ap (wait_after t) held.tried.waits ∙ sym (wait_after_tries-append ms tries t);
        did = λ tells. failed.1.1 tells ∙ ap (λ (l : List ListenerDoing). l ++ failed_try wait t) (held.tried.did tells)
            ∙ append_assoc before (failed_tries ms tries) (failed_try wait t)
            ∙ ap (λ (w : ℕ). before ++ (failed_tries ms tries ++ failed_try w t)) held.tried.waits
            ∙ ap (λ (l : List ListenerDoing). before ++ l) (sym (failed_tries-append ms tries t));
      };
    }
