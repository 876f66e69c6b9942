use Rattle.std.proofs.Common.{◌≡◌, List, ◌++◌, map, ap, subst, ◌∙◌}
use Rattle.day_run.specs.declared.media.Media.{Media}
use Rattle.day_script.specs.declared.scripts.Line.{Line}
use Rattle.day_run.specs.Days.{SharedLink, last_lines, link_of}
use Rattle.day_run.specs.MachineState.{HasRun, link_on, day_state_of}
use Rattle.day_run.specs.ClientStates.{MediaContent, source_content}
use Rattle.day_run.specs.MediaContents.{media_content}
use Rattle.std.proofs.lemmas.List.Elements.{All-map}
use Rattle.day_run.specs.DayLaws.{IsSoundMedia}
use Rattle.day_run.proofs.script_run.run_script.Goals as goal

pub returns-clause-day : goal.returns-clause-day
returns-clause-day c =
    let units = c.args.slot_units in
    let link = link_of c.args.profile c.args.limit units c.args.sources.now in
    let here = link_on c.in_ok-machine.machine in
    let m = day_state_of c.run_lines.new.machine in
    let text = c.run_lines.new.text.items in
    let on : List MediaContent → SharedLink =
    λ ts. record { steps = c.args.profile; limit = c.args.limit; slot_units = units; media = ts } in
    let same : here ≡ link =
    c.in_ok-machine.ensures.link ∙ ap (λ (l : List Media). on (map (media_content units) l)) c.deref.ensures.value
    ∙ ap on (c.in_ok-media.ensures.contents units) in
    let run = subst (λ (l : SharedLink). HasRun l c.args.script.now.lines.items text m) same
    (subst (λ (l : List Line). HasRun here l text m) c.deref-2.ensures.value c.in_ok-run_lines.ensures.run) in
    record {
      evening = m;
      texts = run.texts;
      run = run.run;
      text_is = c.in_ok-run_end.ensures.text ∙ ap (λ l. l ++ last_lines m) run.text_is;
      journal_is = c.into_entries.ensures.value ∙ c.in_ok-run_end.ensures.journal;
    }

pub returns-clause-link : goal.returns-clause-link
returns-clause-link c = record {
  some_slot_units = c.requires.some_slot_units;
  slot_units_fit = c.requires.slot_units_fit;
  media = All-map IsSoundMedia (source_content c.args.slot_units) c.args.sources.now (λ i d inside.
      c.in_ok-media.ensures.playable i d inside c.args.slot_units c.requires.some_slot_units
      c.requires.slot_units_fit);
}
