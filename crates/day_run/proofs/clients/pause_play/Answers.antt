use Rattle.std.proofs.Common.{arith, ◌≡◌, ◌==◌, ℕ, Bool, cond, eq-eqb, ne_eqb, sym, subst, ap, ◌∙◌, rules}
use Rattle.pacer.specs.PacerStates.{PacerState}
use Rattle.slot_calendar.specs.Plays.{Play as Booked, truncated_play}
use Rattle.day_run.specs.Clients.{play_of, rest_of}
use Rattle.day_run.specs.ClientStates.{IsPause, Paused, Pausing, Rest, sent_by}
use Rattle.day_run.proofs.ScriptLines.{PauseLeft, TimedPlay, halts, kept-sent, left-rest, left-timed, pause-of}
use Rattle.day_run.proofs.clients.pause_play.Goals.{After-run_after-run}
use Rattle.day_run.proofs.clients.pause_play.Goals as goal

-- what the pause keeps and leaves
abbrev paused : (c : After-run_after-run) → PauseLeft c.args.play c.ask_halt-keep.result
paused c = record {
  at = record {
    last = c.last_slot-last.result;
    through = c.last_slot-last.ensures;
    boundary = c.ask_halt-keep.ensures.boundary;
    most = c.ask_halt-keep.ensures.most;
  };
  left = c.run_after-run.result;
  left_is = c.run_after-run.ensures.left;
  run_is = c.run_after-run.ensures.run;
  fits = c.run_after-run.ensures.fits;
}

-- what the play books of what it keeps, and what is then left
abbrev kept : After-run_after-run → Booked
kept c = truncated_play c.args.play.pacer.start c.args.play.plan c.ask_halt-keep.result

abbrev left : After-run_after-run → Rest
left c = record (rest_of c.args.play.rest) { run = c.run_after-run.result }

pub run_after-run-requires-clause-halt : goal.run_after-run-requires-clause-halt
run_after-run-requires-clause-halt c =
    halts {play = c.args.play} (record {
      last = c.last_slot-last.result;
      through = c.last_slot-last.ensures;
      boundary = c.ask_halt-keep.ensures.boundary;
      most = c.ask_halt-keep.ensures.most;
    }) c.requires.playing c.requires.undone

-- how it is paused, by whether all that it keeps was sent
paused-as : {heard : ℕ} {all : Bool} (c : After-run_after-run) → TimedPlay c.args.play heard
    → (sent_by (truncated_play c.args.play.pacer.start c.args.play.plan c.ask_halt-keep.result) heard
    == c.ask_halt-keep.result) ≡ all
    → IsPause (play_of c.args.play) heard c.ask_halt-keep.result
    (cond all (Paused (left c)) (Pausing (kept c) (left c)))
paused-as {heard} c own is = search (arith, pause-of own (paused c))

pub returns-then-sent-keep-clause-going : goal.returns-then-sent-keep-clause-going
returns-then-sent-keep-clause-going c = grind arith

pub returns-then-sent-keep-clause-pause : goal.returns-then-sent-keep-clause-pause
returns-then-sent-keep-clause-pause c = λ heard timed.
    let here = (goal.at.returns-then-sent-keep-clause-pause c).After-run_after-run in
    let own : TimedPlay c.args.play heard = record { playing = c.requires.playing; timed = timed } in
    paused-as here own
    (eq-eqb _ _ (kept-sent own (paused here).at ∙ sym c.sent-sent.ensures.value ∙ c.if-sent-keep.true))

pub returns : goal.returns
returns c =
    let here = (goal.at.returns c).After-run_after-run in
    let is = c.ask_halt-keep.ensures.state in
    let keep = c.ask_halt-keep.result in
    record {
      number = search rules;
      keep = search rules;
      going = record {
        rest = left-rest c.requires.playing (paused here);
        keep_is = ap (λ (p : PacerState). p.keep) is ∙ sym c.ask_halt-keep.ensures.value;
        pacing = c.ask_halt-keep.ensures.pacing;
        all_sent = grind arith;
      };
      quiet = search rules;
      pause = λ heard timed.
          let own : TimedPlay c.args.play heard = record { playing = c.requires.playing; timed = timed } in
          let booked : kept here
          ≡ truncated_play c.ask_halt-keep.new.self.start c.ask_halt-keep.new.self.plan keep = search arith in
          subst (IsPause (play_of c.args.play) heard keep) (ap (λ (b : Booked). Pausing b (left here)) booked)
          (paused-as here own (ne_eqb _ _
          (λ e. c.if-sent-keep.false (c.sent-sent.ensures.value ∙ sym (kept-sent own (paused here).at) ∙ e))));
      timed = λ heard timed. left-timed c.args.play.pacer heard is timed;
    }
