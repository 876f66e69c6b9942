use Rattle.std.proofs.Common.{ℕ, List, take, refl, subst, arith, inl, inr}
use Rattle.rtsp_client.specs.ClientState.{IsAwaited}
use Rattle.rtsp_client.proofs.InputPrefixes.{whole-request}
use Rattle.rtsp_client.proofs.ReplyResults.{bad-reply, gives, orderly, watch-done}
use Rattle.rtsp_client.proofs.clients.Client.take_reply.Goals as goal

pub awaited_code-requires : goal.awaited_code-requires
awaited_code-requires g c = record {
  whole =
      whole-request c.args.self.now.input c.waiting.result.now c.args.length c.requires.message
      c.waiting.ensures;
}

pub returns-in_default-clause-ended : goal.returns-in_default-clause-ended
returns-in_default-clause-ended g c = λ out h k.
    rw c.replies-number.ensures.count
    (bad-reply k
    (subst (λ (i : List ℕ). (code : ℕ) → ¬ IsAwaited c.args.self.now (take c.args.length i) code)
    c.waiting.ensures c.in_default.ensures))

pub returns-then-code-ne200-clause-ended : goal.returns-then-code-ne200-clause-ended
returns-then-code-ne200-clause-ended g c = λ out h k.
    let heard = subst (λ (i : List ℕ). IsAwaited c.args.self.now (take c.args.length i) c.in-Some.code)
    c.waiting.ensures c.in-Some.ensures in
    gives _ (inr (inl (c.in-Some.code, ((orderly k heard, c.if-code-ne200.true), refl))))

pub returns-in-0-clause-passed : goal.returns-in-0-clause-passed
returns-in-0-clause-passed g c = rw c.flow_of.ensures (λ out h k. c.take_setup.ensures.passed out h k)

pub returns-in-0-clause-ended : goal.returns-in-0-clause-ended
returns-in-0-clause-ended g c = rw c.flow_of.ensures (λ out h k. c.take_setup.ensures.ended out h k)

pub returns-in-1-clause-passed : goal.returns-in-1-clause-passed
returns-in-1-clause-passed g c =
    rw c.flow_of-in-1.ensures (λ out h k. c.take_play.ensures.passed (g.K.Link.told c.args.link.now) out h k)

pub returns-in-1-clause-ended : goal.returns-in-1-clause-ended
returns-in-1-clause-ended g c =
    rw c.flow_of-in-1.ensures (λ out h k. c.take_play.ensures.ended (g.K.Link.told c.args.link.now) out h k)

pub returns-in_default-replies-clause-ended : goal.returns-in_default-replies-clause-ended
returns-in_default-replies-clause-ended g c = λ out h k.
    let message = take c.args.length c.args.self.now.input in
    let heard : IsAwaited c.args.self.now message c.in-Some.code =
    subst (λ (i : List ℕ). IsAwaited c.args.self.now (take c.args.length i) c.in-Some.code)
    c.waiting.ensures c.in-Some.ensures in
    let good : IsAwaited c.args.self.now message 200 =
    subst (IsAwaited c.args.self.now message) c.if-code-ne200.false heard in
    rw c.tally.ensures
    (watch-done k
    (record { count_is = omega (arith, c.replies.ensures.count, c.replies.ensures.most); awaited = good }))
