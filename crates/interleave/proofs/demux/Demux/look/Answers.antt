use Rattle.std.proofs.Common.{ℕ, List, Ok, drop, sym, subst, ◌∙◌}
use Rattle.interleave.specs.HeadSearch.{IsHeadSearch, IsSettled}
use Rattle.interleave.specs.Elements.{IsFirst}
use Rattle.interleave.proofs.LaterBytes.{settled_known}
use Rattle.interleave.proofs.demux.Demux.look.Goals as goal

pub invariant_of-self : goal.invariant_of-self
invariant_of-self c = record {
  start = c.self.invariant.start;
  most = c.self.invariant.most;
  room = c.self.invariant.room;
  known = settled_known (drop c.self.inside.start c.self.inside.bytes.items) c.in_ok-known.known
      (subst (λ (l : List ℕ). IsSettled l c.in_ok-known.known) (c.waiting-waiting.ensures ∙ sym c.self.view_is)
      c.in_ok-known.ensures);
}

pub search_head-requires-clause-known : goal.search_head-requires-clause-known
search_head-requires-clause-known c =
    subst (λ (l : List ℕ). IsHeadSearch l c.self.inside.known)
    (c.self.view_is ∙ sym c.waiting-waiting.ensures) c.self.invariant.known

pub returns-clause-waiting : goal.returns-clause-waiting
returns-clause-waiting c = c.self.view_is

pub returns-clause-first : goal.returns-clause-first
returns-clause-first c =
    subst (λ (l : List ℕ). IsFirst l
    (Ok c.request_step-step.result)) c.waiting-waiting.ensures c.request_step-step.ensures.first

pub returns-then-front-eq-BLOCK_START-clause-first : goal.returns-then-front-eq-BLOCK_START-clause-first
returns-then-front-eq-BLOCK_START-clause-first c =
    subst (λ (l : List ℕ). IsFirst l
    (Ok c.block_step.result)) c.waiting-waiting.ensures c.block_step.ensures.first
