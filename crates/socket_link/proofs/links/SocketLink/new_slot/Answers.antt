use Rattle.std.proofs.Common.{◌∙◌, sym, refl, ap, [], ◌∷◌}
use Rattle.std.proofs.lemmas.List.{append-nil}
use Rattle.vod_base.specs.Links.{HeardSlot}
use Rattle.socket_link.specs.declared.limits.Watch.{Watch}
use Rattle.socket_link.specs.Purposes.{slot_reading}
use Rattle.socket_link.proofs.HistorySteps.{followed, follows_on, newest_on, state_of}
use Rattle.socket_link.proofs.Rounds.{calls_once}
use Rattle.socket_link.proofs.links.SocketLink.new_slot.Goals as goal

pub invariant_of-self-clause-follows : goal.invariant_of-self-clause-follows
invariant_of-self-clause-follows g c = λ tells.
    let old = state_of c.args.self.now in
    let newer = sym c.is_newer.ensures ∙ c.if-not-is_newer.true in
    follows_on (followed c.args.self.now tells) (record old { watch = _; calls = _ }) (record {
      calls = slot_reading c.in-Ok.time ∷ [];
      doings = [];
      calls_are = c.in-Ok.ensures.read tells;
      doings_are = sym (append-nil old.doings);
      bytes = append-nil old.waiting;
      heard = refl;
      slots = rw (← c.args.self.now.newest, ← c.slot_at-slot.ensures, newer) refl;
      watch = c.at-self.ensures;
    })

pub returns-then-not-is_newer-clause-calls : goal.returns-then-not-is_newer-clause-calls
returns-then-not-is_newer-clause-calls g c =
    calls_once (slot_reading c.in-Ok.time) refl refl c.in-Ok.ensures.count c.in-Ok.ensures.read (λ tells. refl)
    (λ tells. tt)

pub returns-then-not-is_newer-clause-looked : goal.returns-then-not-is_newer-clause-looked
returns-then-not-is_newer-clause-looked g c =
    let newer = sym c.is_newer.ensures ∙ c.if-not-is_newer.true in λ tells.
    rw (ap (λ (w : Watch). w.latest) c.at-self.ensures)
    (record { now_is = c.in-Ok.ensures.read tells; due_is = rw (← c.slot_at-slot.ensures, newer) refl })

pub invariant_of-self-in-Ok-clause-follows : goal.invariant_of-self-in-Ok-clause-follows
invariant_of-self-in-Ok-clause-follows g c = λ tells.
    let old = state_of c.args.self.now in
    let newer = sym c.is_newer.ensures ∙ c.if-not-is_newer.false in
    follows_on (followed c.args.self.now tells) (record old { watch = _; calls = _; doings = _ }) (record {
      calls = slot_reading c.in-Ok.time ∷ [];
      doings = HeardSlot c.slot_at-slot.result ∷ [];
      calls_are = c.in-Ok.ensures.read tells;
      doings_are = c.then-self.ensures;
      bytes = append-nil old.waiting;
      heard = refl;
      slots = rw (← c.args.self.now.newest, ← c.slot_at-slot.ensures, newer) refl;
      watch = c.at-self.ensures;
    })

pub invariant_of-self-in-Ok-clause-newest : goal.invariant_of-self-in-Ok-clause-newest
invariant_of-self-in-Ok-clause-newest g c = rw (newest_on _ (HeardSlot _ ∷ []) c.then-self.ensures) refl

pub returns-else-not-is_newer-clause-calls : goal.returns-else-not-is_newer-clause-calls
returns-else-not-is_newer-clause-calls g c =
    calls_once (slot_reading c.in-Ok.time) refl refl c.in-Ok.ensures.count c.in-Ok.ensures.read (λ tells. refl)
    (λ tells. tt)

pub returns-else-not-is_newer-clause-looked : goal.returns-else-not-is_newer-clause-looked
returns-else-not-is_newer-clause-looked g c =
    let newer = sym c.is_newer.ensures ∙ c.if-not-is_newer.false in λ tells.
    rw (ap (λ (w : Watch). w.latest) c.at-self.ensures)
    (record { now_is = c.in-Ok.ensures.read tells; due_is = rw (← c.slot_at-slot.ensures, newer) refl })
