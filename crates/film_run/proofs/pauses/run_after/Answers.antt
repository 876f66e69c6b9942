use Rattle.std.proofs.Common.{◌≡◌, ◌+◌, ◌-◌, ◌<◌, ◌≤◌, ◌∙◌, refl, ap, subst, inl, inr, arith}
use Rattle.std.proofs.lemmas.Bool.{cases_lt}
use Rattle.wire_curve.specs.FilmCurves.{due_slot}
use Rattle.film_run.specs.Plans.{timing_of}
use Rattle.film_run.specs.Pauses.{IsRemainingRun}
use Rattle.film_run.proofs.SumLemmas.{bytes-more, bytes-most}
use Rattle.film_run.proofs.HaltLemmas.{IsPlayedTo, goes-on, kept-small, left-run, played-by}
use Rattle.film_run.proofs.pauses.run_after.Goals as goal

pub loop-left-init : goal.loop-left-init
loop-left-init g c = record {
  halting = record {
    can = assumption (c.requires, c.count-count.ensures);
    planned = c.requires.plan;
    halt = c.requires.halt;
  };
  first_is = refl;
  end_is = refl;
  sent_is = refl;
  from = omega arith;
  rest = c.requires.run.rest;
  played = c.requires.run.played_is;
  used = λ unit from less. absurd (omega (arith, from, less));
}

pub overflow_add-left : goal.overflow_add-left
overflow_add-left g c =
    let sizes = g.U.Units.sizes c.args.units.now in
    let more = bytes-more sizes c.args.run.now.first_unit c.loop-left.left.from_unit (omega arith) (omega arith) in
    let most = bytes-most sizes c.args.run.now.first_unit (c.loop-left.left.from_unit + 1) (omega arith) in
    omega (arith, more, most, c.count-count.ensures.small, c.wire_size.ensures)

pub loop-left-preserved : goal.loop-left-preserved
loop-left-preserved g c =
    let sizes = g.U.Units.sizes c.args.units.now in
    let used : due_slot (timing_of c.args.playback.now c.args.run.now)
    (c.loop-left.left.from_unit - c.args.run.now.from_unit) < c.stop_slot-stop.result =
    omega (arith, c.due_slot.ensures, c.loop-left-test.true) in
    let more = bytes-more sizes c.args.run.now.first_unit c.loop-left.left.from_unit (omega arith) (omega arith) in
    record {
      halting = c.loop-left.invariant.halting;
      first_is = c.loop-left.invariant.first_is;
      end_is = c.loop-left.invariant.end_is;
      sent_is = c.loop-left.invariant.sent_is;
      from = omega arith;
      rest =
          goes-on c.loop-left.left.from_unit c.loop-left.invariant.halting
          c.loop-left.invariant.from c.loop-left.invariant.rest (omega (arith, c.stop_slot-stop.ensures.inside, used));
      played = omega (arith, more, c.loop-left.invariant.played, c.wire_size.ensures);
      used = λ unit from less.
          elim (cases_lt unit c.loop-left.left.from_unit) [
            | inl before ↦ c.loop-left.invariant.used unit from before
            | inr here ↦
                let same : c.loop-left.left.from_unit ≡ unit = omega arith in
                subst (λ u. due_slot (timing_of c.args.playback.now c.args.run.now)
                (u - c.args.run.now.from_unit) < c.stop_slot-stop.result) same used
          ];
    }

pub overflow_add-left-2 : goal.overflow_add-left-2
overflow_add-left-2 g c = omega (arith, kept-small c.loop-left.invariant.halting, c.loop-left.invariant.sent_is)

pub returns : goal.returns
returns g c =
    let sizes = g.U.Units.sizes c.args.units.now in
    let unused : c.stop_slot-stop.result
    ≤ due_slot (timing_of c.args.playback.now c.args.run.now)
    (c.loop-left.left.from_unit - c.args.run.now.from_unit) =
    omega (arith, c.due_slot.ensures, c.loop-left-test.false) in
    let to : IsPlayedTo c.args.playback.now c.args.run.now c.loop-left.left.from_unit c.stop_slot-stop.result =
    assumption (c.loop-left.invariant, unused) in
    let left : IsRemainingRun sizes c.args.playback.now c.args.run.now c.args.plan.now c.args.last c.args.keep
    (record c.loop-left.left { sent = c.loop-left.left.sent + c.args.keep }) = record {
      first_is = c.loop-left.invariant.first_is;
      end_is = c.loop-left.invariant.end_is;
      sent_is = ap (λ s. s + c.args.keep) c.loop-left.invariant.sent_is;
      stop = c.stop_slot-stop.result;
      stop_is = c.stop_slot-stop.ensures.stop;
      played_is = c.loop-left.invariant.played ∙ played-by c.loop-left.invariant.halting to;
      not_back = c.loop-left.invariant.from;
      used = c.loop-left.invariant.used;
      unused = unused;
    } in
    let whole = left-run c.loop-left.invariant.halting left c.stop_slot-stop.ensures.inside
    c.loop-left.invariant.rest in
    record { left = left; run = whole.0; fits = whole.1 }
