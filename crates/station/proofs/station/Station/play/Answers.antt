use Rattle.std.proofs.Common.{rules, ◌∙◌}
use Rattle.std.proofs.lemmas.Result.{IfErr-weaker, IfOk-weaker}
use Rattle.admission.specs.declared.entries.Answer.TheVariants.{Admitted}
use Rattle.station.specs.Answers.{IsSeatRefused, HasMadeEntry}
use Rattle.station.specs.Ledgers.{IsEntered, IsPlayRefused, play_of}
use Rattle.station.proofs.SeatTurns.{Visit, play_longer, visit, visit_made, visit_refused, visit_same}
use Rattle.station.specs.Inside.{seat_of}
use Rattle.station.proofs.OpenPlays.{IsOpenFor, visit_open}
use Rattle.station.proofs.station.Station.play.Goals as goal

pub returns : goal.returns
returns g c =
    let turn = c.enter-turn.ensures in
    let is : Visit = visit
    (record { pass = turn.pass; longer = turn.longer; own = turn.own; terms = turn.terms })
    (record { left = c.leave.ensures; last_is = c.value-2.ensures.value; lent_is = c.value.ensures.value })
    (c.number-maker.ensures ∙ turn.number) c.seat.view_is in
    let told = c.play-told.ensures in
    record {
      same = visit_same is
          (play_longer is c.play-told.result c.args.heard c.args.plan told.made told.refused);
      kept = search rules;
      made = IfOk-weaker c.play-told.result
          (λ b. IsEntered is.lent is.new is.maker 2 (play_of c.args.heard c.args.plan) b.number (Admitted b.start))
          (λ b. HasMadeEntry c.args.seat.now (seat_of c.leave.new.pass) 2 (play_of c.args.heard c.args.plan) b.number
          (Admitted b.start))
          (λ b e. visit_made is e) told.made;
      «open» = IfOk-weaker c.play-told.result
          (λ b. IsEntered is.lent is.new is.maker 2 (play_of c.args.heard c.args.plan) b.number (Admitted b.start))
          (λ b. IsOpenFor c.leave.new.pass.mine b.number c.args.plan)
          (λ b e. visit_open is c.args.heard c.args.plan e) told.made;
      refused = IfErr-weaker c.play-told.result (IsPlayRefused is.lent is.new is.maker c.args.heard c.args.plan)
          (IsSeatRefused c.args.seat.now (seat_of c.leave.new.pass) c.args.heard c.args.plan)
          (λ why e. visit_refused is c.args.heard c.args.plan why e) told.refused;
    }
