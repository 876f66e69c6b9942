use Rattle.std.proofs.Common.{subst, rules, ◌∙◌}
use Rattle.admission.specs.declared.entries.Answer.TheVariants.{Halted}
use Rattle.admission.specs.declared.entries.Command.TheVariants.{Halt}
use Rattle.station.specs.Answers.{HasMadeEntry}
use Rattle.station.specs.Bookings.{Booking}
use Rattle.station.specs.Inside.{seat_of}
use Rattle.station.proofs.SeatTurns.{Visit, entered_longer, visit, visit_made, visit_same}
use Rattle.station.proofs.station.Station.halt.Goals as goal

pub returns : goal.returns
returns g c =
    let turn = c.enter-turn.ensures in
    let is : Visit = visit
    (record { pass = turn.pass; longer = turn.longer; own = turn.own; terms = turn.terms })
    (record { left = c.leave.ensures; last_is = c.value-2.ensures.value; lent_is = c.value.ensures.value })
    (c.number-maker.ensures ∙ turn.number) c.seat.view_is in
    record {
      same = visit_same is (entered_longer is c.halt-place.ensures);
      kept = search rules;
      made = subst (λ (b : Booking). HasMadeEntry c.args.seat.now (seat_of c.leave.new.pass) 0
          (Halt b.number c.args.keep) c.halt-place.result Halted) c.booking.view_is
          (visit_made is c.halt-place.ensures);
    }
