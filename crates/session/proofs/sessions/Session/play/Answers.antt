use Rattle.std.proofs.Common.{arith, ◌≡◌, Ok, sym, subst}
use Rattle.session.proofs.SharedTerms.{Plays, Ready, State}
use Rattle.session.proofs.sessions.Session.play.Goals as goal

pub plan_play-requires-clause-paused : goal.plan_play-requires-clause-paused
plan_play-requires-clause-paused c = rw (← c.self.view_is) (rw c.in-Ready.is at c.self.invariant.state).1

pub returns-in-Ok-clause-exact : goal.returns-in-Ok-clause-exact
returns-in-Ok-clause-exact c =
    let old = c.args.self.now in
    let state : old.state ≡ Ready c.in-Ready.setup c.in-Ready.paused = search arith in
    subst (λ (s : State). Plays s old c.args.request.now c.args.authority.now c.ask_play.result c.ask_play.new.self)
    (sym state) (record {
      planned = Ok c.in-Ok.planned;
      is_planned = rw c.header.ensures.value at c.in-Ok.ensures.exact;
      asks = c.ask_play.ensures.exact;
    })
