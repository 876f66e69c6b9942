use Rattle.std.proofs.Common.{arith, ◌≡◌, ℕ, map, ap, subst, ◌∙◌}
use Rattle.film_make.specs.Generator.{words_left, words_of}
use Rattle.day_run.specs.declared.fairs.TheConstants.{SLOT_UNITS}
use Rattle.day_run.specs.FairDays.{AreTurns, after_traces, fair_link, traces_drawn}
use Rattle.day_run.specs.Days.{SharedLink, first_moment}
use Rattle.day_run.specs.MachineState.{day_state_of, link_on}
use Rattle.day_run.specs.ClientStates.{trace_content}
use Rattle.day_run.specs.MediaContents.{media_content}
use Rattle.day_run.proofs.fairs.fair.Goals as goal

pub returns-clause-fair : goal.returns-clause-fair
returns-clause-fair c =
    let contents : map (media_content SLOT_UNITS) c.deref-2.result.now
    ≡ map (trace_content SLOT_UNITS) (traces_drawn 16 (words_of c.args.seed)) = grind arith in
    let link : link_on c.in_ok-machine.machine ≡ fair_link c.args.profile (words_of c.args.seed) = grind arith in
    let run = c.in_ok-counts.ensures.come in
    let evening = day_state_of c.run_turns.new.machine in
    let drawn = subst (λ (w : ℕ → ℕ). AreTurns (fair_link c.args.profile (words_of c.args.seed)) w run.turns
    first_moment evening) (c.in_ok-traces.ensures.left ∙ ap (after_traces 16) c.new-draws.ensures)
    (subst (λ (l : SharedLink). AreTurns l (words_left c.draw_traces.new.draws) run.turns first_moment evening) link
    run.run) in
    record {
      turns = run.turns;
      evening = evening;
      count = run.count;
      run = drawn;
      journal_is = c.into_entries-journal.ensures.value ∙ c.end.ensures.journal;
      text_is = grind arith;
    }
