use Rattle.std.proofs.Common.{◌≡◌, ◌<◌, ◌≤◌, ◌+◌, ℕ, List, Ok, drop, length, refl, ap, subst, sym, ◌∙◌, arith, inr}
use Rattle.std.proofs.lemmas.List.{length-drop}
use Rattle.interleave.specs.Elements.{IsFirst}
use Rattle.interleave.specs.declared.elements.Step.TheVariants.{Block, Request, Skip}
use Rattle.rtsp_text.proofs.WholeRequests.{fewer, first_is, some_request}
use Rattle.rtsp_client.proofs.ElementSteps.{block-element, frame-element, keeps-moved, reply-element}
use Rattle.rtsp_client.proofs.ElementSteps.{stop-here, stopped-framing, taken-element, taken-ends, taken-none}
use Rattle.rtsp_client.proofs.clients.Client.process_next.Goals as goal

-- what is left of bytes whose front was dropped
less : {new : List ℕ} (old : List ℕ) (n : ℕ) → n ≤ length old → new ≡ drop n old → length new + n ≡ length old
less old n within is = omega (arith, within, ap length is, length-drop n old)

pub returns-in-Err-clause-stopped : goal.returns-in-Err-clause-stopped
returns-in-Err-clause-stopped g c = λ h k.
    stopped-framing c.in-Err.field-0 c.in-Err.ensures.first

pub returns-in-Ok-More-clause-idle : goal.returns-in-Ok-More-clause-idle
returns-in-Ok-More-clause-idle g c =
    λ _. first_is c.in-Ok-More.ensures.first c.look.ensures.waiting c.in-Ok-More.field-0-is

pub returns-in-Ok-More-clause-taken : goal.returns-in-Ok-More-clause-taken
returns-in-Ok-More-clause-taken g c = λ h k. taken-none k c.look.ensures.waiting

pub returns-in-Ok-Skip-clause-taken : goal.returns-in-Ok-Skip-clause-taken
returns-in-Ok-Skip-clause-taken g c = λ h k.
    rw (c.drop_front.ensures ∙ ap (drop c.in-Ok-Skip.length) c.look.ensures.waiting)
    (taken-ends (first_is c.in-Ok-Skip.ensures.first refl c.in-Ok-Skip.field-0-is) k)

pub returns-in_err-take_block-in-Ok-Block-clause-stopped : goal.returns-in_err-take_block-in-Ok-Block-clause-stopped
returns-in_err-take_block-in-Ok-Block-clause-stopped g c =
    rw c.from_residual.ensures
    (λ h k.
    let ended = c.in_err-take_block-in-Ok-Block.ensures.ended h (keeps-moved k) in
    let x = frame-element _ (first_is c.in-Ok-Block.ensures.first c.look.ensures.waiting c.in-Ok-Block.field-0-is)
    ended.0 in
    rw (← c.look.ensures.waiting) (record {
      sent = ended.1.sent;
      out = ended.1.out;
      stops = stop-here (inr (_, ((x.n, (x.whole, x.moments_are)), ended.1.comes)));
      sight_is = ended.1.sight_is;
    }))

pub returns-in_ok-take_block-in-Ok-Block-clause-taken : goal.returns-in_ok-take_block-in-Ok-Block-clause-taken
returns-in_ok-take_block-in-Ok-Block-clause-taken g c = λ h k.
    rw (← c.look.ensures.waiting)
    (taken-element
    (block-element _ (first_is c.in-Ok-Block.ensures.first c.look.ensures.waiting c.in-Ok-Block.field-0-is))
    (c.in_ok-take_block-in-Ok-Block.ensures.passed h (keeps-moved k))
    (c.drop_front-in-Ok-Block.ensures ∙ ap (drop c.in-Ok-Block.length) c.take_block.ensures.input))

pub returns-in_err-take_reply-in-Ok-Request-clause-stopped : goal.returns-in_err-take_reply-in-Ok-Request-clause-stopped
returns-in_err-take_reply-in-Ok-Request-clause-stopped g c =
    rw c.from_residual-in_err-take_reply-in-Ok-Request.ensures
    (λ h k.
    let x = reply-element _
    (first_is c.in-Ok-Request.ensures.first c.look.ensures.waiting c.in-Ok-Request.field-0-is) in
    let ended = c.in_err-take_reply-in-Ok-Request.ensures.ended (g.O.Sink.written c.args.out.now) h (keeps-moved k) in
    rw (← c.look.ensures.waiting) (record {
      sent = ended.sent;
      out = ended.out;
      stops = stop-here (inr (_, ((x.n, (x.whole, x.moments_are)), ended.comes)));
      sight_is = ended.sight_is;
    }))

pub returns-in_ok-take_reply-in-Ok-Request-clause-taken : goal.returns-in_ok-take_reply-in-Ok-Request-clause-taken
returns-in_ok-take_reply-in-Ok-Request-clause-taken g c = λ h k.
    rw (← c.look.ensures.waiting)
    (taken-element
    (reply-element _ (first_is c.in-Ok-Request.ensures.first c.look.ensures.waiting c.in-Ok-Request.field-0-is))
    (c.in_ok-take_reply-in-Ok-Request.ensures.passed (g.O.Sink.written c.args.out.now) h (keeps-moved k))
    (c.drop_front-in-Ok-Request.ensures ∙ ap (drop c.in-Ok-Request.length) c.take_reply.ensures.input))

pub returns-in-Ok-Skip-clause-few : goal.returns-in-Ok-Skip-clause-few
returns-in-Ok-Skip-clause-few g c =
    let first : IsFirst c.args.self.now.input (Ok (Skip c.in-Ok-Skip.length)) =
    first_is c.in-Ok-Skip.ensures.first refl c.in-Ok-Skip.field-0-is in
    omega (
      arith,
      first.1.within,
      ap length (c.drop_front.ensures ∙ ap (drop c.in-Ok-Skip.length) c.look.ensures.waiting),
      length-drop c.in-Ok-Skip.length c.args.self.now.input,
    )

pub returns-in-Ok-Skip-clause-shorter : goal.returns-in-Ok-Skip-clause-shorter
returns-in-Ok-Skip-clause-shorter g c =
    let first : IsFirst c.args.self.now.input (Ok (Skip c.in-Ok-Skip.length)) =
    first_is c.in-Ok-Skip.ensures.first refl c.in-Ok-Skip.field-0-is in
    λ _. fewer c.args.self.now.input c.drop_front.new.self c.in-Ok-Skip.length first.0 first.1.within
    (c.drop_front.ensures ∙ ap (drop c.in-Ok-Skip.length) c.look.ensures.waiting)

pub returns-in_ok-take_block-in-Ok-Block-clause-few : goal.returns-in_ok-take_block-in-Ok-Block-clause-few
returns-in_ok-take_block-in-Ok-Block-clause-few g c =
    let first : IsFirst c.args.self.now.input (Ok (Block c.in-Ok-Block.channel c.in-Ok-Block.length)) =
    first_is c.in-Ok-Block.ensures.first refl c.in-Ok-Block.field-0-is in
    let rest = less c.args.self.now.input c.in-Ok-Block.length first.4 (c.drop_front-in-Ok-Block.ensures
    ∙ ap (drop c.in-Ok-Block.length) (c.take_block.ensures.input ∙ c.look.ensures.waiting)) in
    omega (arith, c.in_ok-take_block-in-Ok-Block.ensures.few, rest)

pub returns-in_ok-take_block-in-Ok-Block-clause-shorter : goal.returns-in_ok-take_block-in-Ok-Block-clause-shorter
returns-in_ok-take_block-in-Ok-Block-clause-shorter g c =
    let first : IsFirst c.args.self.now.input (Ok (Block c.in-Ok-Block.channel c.in-Ok-Block.length)) =
    first_is c.in-Ok-Block.ensures.first refl c.in-Ok-Block.field-0-is in
    λ _. fewer c.args.self.now.input c.drop_front-in-Ok-Block.new.self c.in-Ok-Block.length
    (subst (λ n. 0 < n) (sym first.3) (omega arith)) first.4
    (c.drop_front-in-Ok-Block.ensures
    ∙ ap (drop c.in-Ok-Block.length) (c.take_block.ensures.input ∙ c.look.ensures.waiting))

pub returns-in_ok-take_reply-in-Ok-Request-clause-few : goal.returns-in_ok-take_reply-in-Ok-Request-clause-few
returns-in_ok-take_reply-in-Ok-Request-clause-few g c =
    let first : IsFirst c.args.self.now.input (Ok (Request c.in-Ok-Request.length)) =
    first_is c.in-Ok-Request.ensures.first refl c.in-Ok-Request.field-0-is in
    let rest = less c.args.self.now.input c.in-Ok-Request.length first.2 (c.drop_front-in-Ok-Request.ensures
    ∙ ap (drop c.in-Ok-Request.length) (c.take_reply.ensures.input ∙ c.look.ensures.waiting)) in
    omega (arith, c.take_reply.ensures.few, rest)

pub returns-in_ok-take_reply-in-Ok-Request-clause-shorter : goal.returns-in_ok-take_reply-in-Ok-Request-clause-shorter
returns-in_ok-take_reply-in-Ok-Request-clause-shorter g c =
    let first : IsFirst c.args.self.now.input (Ok (Request c.in-Ok-Request.length)) =
    first_is c.in-Ok-Request.ensures.first refl c.in-Ok-Request.field-0-is in
    λ _. fewer c.args.self.now.input c.drop_front-in-Ok-Request.new.self c.in-Ok-Request.length
    (some_request c.args.self.now.input c.in-Ok-Request.length first.1) first.2
    (c.drop_front-in-Ok-Request.ensures
    ∙ ap (drop c.in-Ok-Request.length) (c.take_reply.ensures.input ∙ c.look.ensures.waiting))

pub take_reply-requires : goal.take_reply-requires
take_reply-requires g c = record {
  message = first_is c.in-Ok-Request.ensures.first c.look.ensures.waiting c.in-Ok-Request.field-0-is;
}
