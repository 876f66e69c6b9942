use Rattle.std.proofs.Common.{arith, ◌≡◌, refl, sym, ap, subst, ◌∙◌}
use Rattle.session.proofs.SharedTerms.{CanHandleRequest, IsPlayUnfinished, IsRunOf, PacerState, Paused}
use Rattle.session.proofs.StepInvariantLemmas.{halt_asked, halt_some}
use Rattle.session.proofs.sessions.Session.pause.Goals as goal

pub run_after-left-requires-clause-halt : goal.run_after-left-requires-clause-halt
run_after-left-requires-clause-halt c =
    let kept = rw (← c.in-Playing.ensures.value) at c.self.invariant.state in
    let unfinished : IsPlayUnfinished c.in-Playing.play = grind arith in
    let halt = c.ask_halt-keep.ensures in
    grind (arith, halt_some kept.1 unfinished halt.boundary halt.most, c.last_slot-last.ensures, halt.state)

pub invariant_of-self : goal.invariant_of-self
invariant_of-self c =
    let halt = c.ask_halt-keep.ensures in
    let kept = rw (← c.in-Playing.ensures.value) at c.self.invariant.state in
    let playing = kept.2 c.stored_at-stored.result.now c.stored_at-stored.ensures.film in
    let runs : IsRunOf c.stored_at-stored.result.now c.self.inside.source c.in-Playing.setup c.self.inside.counts
    c.run_after-left.result = search (arith) in
    rw (c.enter.ensures, c.set.ensures) (halt_asked (Paused c.run_after-left.result) c.self.invariant
    (subst CanHandleRequest (sym c.self.view_is) c.requires.hear) (record {
      setup = c.in-Playing.setup;
      play = c.in-Playing.play;
      pacer = c.ask_halt-keep.new.self;
      old_is = sym c.in-Playing.ensures.value;
      new_is = refl;
      pacing = halt.pacing;
      pacer_is = halt.state;
      keep_is = halt.value;
      most = halt.most;
    }) (grind arith))

pub returns-clause-exact : goal.returns-clause-exact
returns-clause-exact c =
    let keep = c.ask_halt-keep.result in
    let value = c.ask_halt-keep.ensures.value in
    let pacer : c.ask_halt-keep.new.self ≡ record c.in-Playing.play.pacer { keep = keep } = grind arith in
    rw (c.enter.ensures, c.set.ensures, ← c.self.view_is, ← c.in-Playing.ensures.value) (record {
      stored = c.stored_at-stored.result.now;
      at = c.stored_at-stored.ensures.film;
      last = c.last_slot-last.result;
      last_is = c.last_slot-last.ensures ∙ ap (λ (p : PacerState). p.passed) c.ask_halt-keep.ensures.state;
      left = c.run_after-left.result;
      left_is = grind arith;
      asks = record { keep = keep; keep_is = value; command = refl; state = cc };
    })
