use Rattle.std.proofs.Common.{List, ℕ, Option, ap, ◌∙◌, sym}
use Rattle.vod_base.specs.Links.{IoEvent, told_more, sends}
use Rattle.pacer.proofs.SendLemmas.{FirstBytes, head-stopped, payload-stopped, sends-more, take-both}
use Rattle.pacer.proofs.link_writes.send_part.Goals as goal
use Rattle.pacer.proofs.link_writes.send_part.Goals.{After-front-payload}

-- what is to be sent of the head, and then of the payload
abbrev first-in : (g : _) (c : After-front-payload g) → FirstBytes
first-in g c = record {
  most = c.args.most;
  head = c.args.head.now;
  payload = c.args.payload.now;
  first = c.front-head.result.now;
  then = c.front-payload.result.now;
  of_head = c.front-head.ensures;
  of_payload = c.front-payload.ensures;
}

pub returns-in_default-clause-stopped : goal.returns-in_default-clause-stopped
returns-in_default-clause-stopped g c =
    head-stopped (first-in g (goal.at.returns-in_default-clause-stopped g c).After-front-payload)
    c.in_default.ensures.front c.in_default.ensures.some

pub returns-in_default-send_some-clause-stopped : goal.returns-in_default-send_some-clause-stopped
returns-in_default-send_some-clause-stopped g c =
    payload-stopped (first-in g (goal.at.returns-in_default-send_some-clause-stopped g c).After-front-payload)
    (rw c.in-Ok.ensures.whole at c.in_default-send_some.ensures.front) c.in_default-send_some.ensures.some

pub returns-clause-whole : goal.returns-clause-whole
returns-clause-whole g c =
    let f = first-in g (goal.at.returns-clause-whole g c).After-front-payload in
    let old = g.K.Link.told c.args.link.now in
    c.in-Ok-send_some.ensures.whole
    ∙ ap (λ (t : Option (List IoEvent)). told_more t (sends f.then)) c.in-Ok.ensures.whole
    ∙ sends-more old f.first f.then ∙ ap (λ (l : List ℕ). told_more old (sends l)) (sym (take-both f))
