use Rattle.std.proofs.Common.{ap, ◌∙◌}
use Rattle.turnstile.specs.Passes.{PassState}
use Rattle.turnstile.specs.declared.view.Terms.{Terms}
use Rattle.station.proofs.SeatJoins.{seat_joins}
use Rattle.station.proofs.station.Station.join.Goals as goal

pub invariant_of-seat : goal.invariant_of-seat
invariant_of-seat c =
    let steps = ap (λ (t : Terms). t.steps) c.join.ensures.terms in record {
      rests = ap (λ (p : PassState). p.has_turn) c.join.ensures.pass ∙ c.seat.invariant.rests;
      sits = seat_joins c.seat.inside.pass c.other.inside.pass c.seat.invariant.sits c.other.invariant.sits
          (record { same_steps = steps; is = c.join.ensures.pass; own = c.join.ensures.own });
    }

pub returns-clause-kept : goal.returns-clause-kept
returns-clause-kept c =
    let steps = ap (λ (t : Terms). t.steps) c.join.ensures.terms in
    seat_joins c.seat.inside.pass c.other.inside.pass c.seat.invariant.sits c.other.invariant.sits
    (record { same_steps = steps; is = c.join.ensures.pass; own = c.join.ensures.own })
