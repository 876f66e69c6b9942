use Rattle.std.proofs.Common.{rules, ◌∙◌}
use Rattle.std.proofs.lemmas.Result.{IfErr-weaker, IfOk-weaker}
use Rattle.admission.specs.declared.entries.Answer.TheVariants.{Looked}
use Rattle.station.specs.Answers.{IsFull, HasMadeEntry}
use Rattle.station.specs.Ledgers.{IsEntered, IsFullFor, look_at}
use Rattle.station.proofs.SeatTurns.{Visit, look_longer, visit, visit_full, visit_made, visit_same}
use Rattle.station.specs.Inside.{seat_of}
use Rattle.station.proofs.station.Station.look.Goals as goal

pub returns : goal.returns
returns g c =
    let turn = c.enter-turn.ensures in
    let is : Visit = visit
    (record { pass = turn.pass; longer = turn.longer; own = turn.own; terms = turn.terms })
    (record { left = c.leave.ensures; last_is = c.value-2.ensures.value; lent_is = c.value.ensures.value })
    (c.number-maker.ensures ∙ turn.number) c.seat.view_is in
    record {
      same = visit_same is
          (look_longer is c.look-told.result c.args.slot c.look-told.ensures.made c.look-told.ensures.full);
      kept = search rules;
      made = IfOk-weaker c.look-told.result
          (λ l. IsEntered is.lent is.new is.maker 1 (look_at c.args.slot) l.place (Looked l.now l.at l.booked))
          (λ l. HasMadeEntry c.args.seat.now (seat_of c.leave.new.pass) 1 (look_at c.args.slot) l.place
          (Looked l.now l.at l.booked))
          (λ l e. visit_made is e) c.look-told.ensures.made;
      full = IfErr-weaker c.look-told.result (λ f. IsFullFor is.lent is.new 1 f.entries f.live)
          (λ f. IsFull c.args.seat.now (seat_of c.leave.new.pass) 1 f.entries f.live)
          (λ f e. visit_full is e) c.look-told.ensures.full;
    }
