-- Commands whose inputs are accepted do their work.
use Rattle.std.proofs.Common.{◌≡◌, ◌⊎◌, ◌∙◌, List, ℕ, Option, Some, None, inl, inr, refl, sym, subst}
use Rattle.vod_base.specs.IoState.{File, told_more}
use Rattle.cli_args.specs.declared.invocations.FairRun.{FairRun}
use Rattle.cli_args.specs.Invocations.{Invocation, ScriptRun, ServeArgs, check_of, day_of, fair_of, help, make_of}
use Rattle.cli_args.specs.Invocations.{plan_of, scan_of, serve_of, version, watch_of}
use Rattle.cli_errors.specs.ReadErrors.{IsReadError}
use Rattle.cli_errors.specs.ExitStatuses.{status_of}
use Rattle.cli_errors.specs.declared.errors.InputError.{InputError}
use Rattle.cli_errors.specs.declared.errors.CliError.{CliError}
use Rattle.cli_errors.specs.declared.errors.CliError.TheVariants.{Usage, Refused, StoreFault, SinkFault, NoMemory}
use Rattle.cli_errors.specs.declared.errors.CliError.TheVariants.{GateFault, LinkFault}
use Rattle.offline_commands.specs.OfflineCommands.{IsOutputOf, IsInputRefused, IsRead}
use Rattle.offline_commands.specs.Days.{IsDayInput, IsDayRefused}
use Rattle.vodserve.specs.Laws.{ValidInputSucceeds, HasSucceeded, HasNoFault, IsAccepted, IsServable, IsResultOf}
use Rattle.vodserve.specs.Run.{IsCause, IsWritten, PrintSpec, DaySpec, FairSpec, ServeSpec}
use Rattle.vodserve.specs.IoStates.{World, streams_of}
use Rattle.vodserve.specs.declared.run_results.Ended.{Ended}
use Rattle.vodserve.proofs.PrintLemmas.{WorldChange}
use Rattle.vodserve.proofs.DayUniqueness.{runs_its_day}
use Rattle.vodserve.proofs.ServeSpecLemmas.{ended_by_memory, kept_by_memory}

-- no input of an order is refused: what it reads is accepted, or it reads none
abbrev RefusesNone : Invocation → Option (List File) → Type 0
RefusesNone order told = (trouble_name : List ℕ) (fault : InputError) → IsRead order trouble_name →
    ((held : List File) → told ≡ Some held → IsInputRefused order held trouble_name fault) → ⊥

-- what keeps a command from its work, where nothing is refused and nothing failed, is that memory
-- ran out
caused_by_memory : {w : WorldChange} (order : Invocation) (error : CliError) → RefusesNone order w.before.store.told
    → HasNoFault w.before w.after → IsCause w.before w.after order error → status_of error ≡ 6
caused_by_memory order Usage may none is = absurd is
caused_by_memory order (Refused name fault) may none is = absurd (may name.now fault is.0.0 is.0.1)
caused_by_memory order (StoreFault name) may none is = absurd (none.store is.0.1)
caused_by_memory order SinkFault may none is = absurd (none.out is.risen)
caused_by_memory order NoMemory may none is = refl
caused_by_memory order GateFault may none is = absurd is
caused_by_memory order LinkFault may none is = absurd is

-- a command's work is what was done
abbrev IsItsWork : Invocation → Type 0
IsItsWork order = (told : Option (List File)) (ended : Ended) (text : List ℕ) →
    IsOutputOf told order ended.status text ended.plan → IsResultOf told order ended text

printed_whole : {before after : World} {order : Invocation} {ended : Ended} → IsItsWork order
    → RefusesNone order before.store.told → HasNoFault before after → PrintSpec before after order ended
    → HasSucceeded before after order ended ⊎ (ended.status ≡ 6)
printed_whole {before} {after} {order} {ended} its may none prints = elim prints.out [
  | inl whole ↦ inl (record {
    text = whole.text;
    work = its before.store.told ended whole.text whole.done;
    wrote = whole.wrote;
    quiet = whole.quiet;
  })
  | inr failed ↦ inr (failed.1.1.status ∙ caused_by_memory order failed.0 may none failed.1.0)
]

-- an order that is accepted
accepts : {told : Option (List File)} (order : Invocation) (held : List File) → told ≡ Some held →
    ((name : List ℕ) (fault : InputError) → IsRead order name × IsInputRefused order held name fault → ⊥) →
    RefusesNone order told
accepts order held told_is accepted name fault reads refused = accepted name fault (reads, refused held told_is)

-- a text that a fault cut off needs a fault
text_whole : {ended : Ended} (before after : World) (text : List ℕ) → HasNoFault before after →
    IsWritten (streams_of before after) text 0 None ended →
    (ended.status ≡ 0) × (after.out.told ≡ told_more before.out.told text) × (after.err ≡ before.err)
text_whole before after text none (inl whole) = (whole.0, whole.2, whole.3)
text_whole before after text none (inr cut) = absurd (none.out cut.0)

day_by_memory : {w : WorldChange} {run : ScriptRun} (error : CliError) → IsAccepted (day_of run) w.before.store.told
    → HasNoFault w.before w.after → IsReadError (IsDayInput w.before.store.told run.script)
    (IsDayRefused run.script) w.before.store.told w.before.store.faults w.after.store.faults error → status_of error ≡ 6
day_by_memory Usage may none is = absurd is
day_by_memory (Refused name fault) may none is = absurd (may.accepted name.now fault (is.1 may.held may.told_is))
day_by_memory (StoreFault name) may none is = absurd (none.store is.1)
day_by_memory SinkFault may none is = absurd is
day_by_memory NoMemory may none is = refl
day_by_memory GateFault may none is = absurd is
day_by_memory LinkFault may none is = absurd is

day_whole : {w : WorldChange} {run : ScriptRun} {ended : Ended} → IsAccepted (day_of run) w.before.store.told →
    HasNoFault w.before w.after → DaySpec w.before.store w.after.store (streams_of w.before w.after) run ended →
    HasSucceeded w.before w.after (day_of run) ended ⊎ (ended.status ≡ 6)
day_whole may none (inl kept) = inr (kept.1.3.status ∙ day_by_memory kept.0 may none kept.1.0)
day_whole {w} {run} {ended} may none (inr ran) =
    let whole = text_whole w.before w.after ran.ran.text none ran.ran.written in
    inl (record {
      text = ran.ran.text;
      work = (whole.0, λ held told. runs_its_day held w.before.store (streams_of w.before w.after) run ended ran told);
      wrote = whole.1;
      quiet = whole.2;
    })

fair_whole : {before after : World} {run : FairRun} {ended : Ended} → HasNoFault before after
    → FairSpec (streams_of before after) run ended → HasSucceeded before after (fair_of run) ended ⊎ (ended.status ≡ 6)
fair_whole none (inl kept) = inr (kept.1.3.status ∙ subst (λ (t : CliError). status_of t ≡ 6) (sym kept.1.0) refl)
fair_whole {before} {after} none (inr ran) =
    let whole = text_whole before after ran.ran.text none ran.ran.written in
    inl (record { text = ran.ran.text; work = (whole.0, ran.ran.day); wrote = whole.1; quiet = whole.2 })

served_whole : {before after : World} {seed : List ℕ} {serving : ServeArgs} {ended : Ended} →
    IsAccepted (serve_of serving) before.store.told → HasNoFault before after →
    ServeSpec before after seed serving ended → HasSucceeded before after (serve_of serving) ended ⊎ (ended.status ≡ 6)
served_whole {before} {after} {serving} may none (inl kept) =
    let servable : IsServable serving before.store.told = record {
      held = may.held;
      told_is = may.told_is;
      accepted = λ name fault named refused. may.accepted name fault (named, refused);
    } in
    inr (kept.1.3.status ∙ kept_by_memory {w = record { before = before; after = after }} kept.0 servable none kept.1.0)
served_whole may none (inr served) = elim served.ends [
  | inl whole ↦ inl (record { text = _; work = (whole.1, refl); wrote = whole.0.0; quiet = whole.3 })
  | inr wrong ↦ inr (wrong.1.1.status ∙ ended_by_memory _ wrong.0 none served.fault wrong.1.0)
]

pub does_what_it_may : ValidInputSucceeds
does_what_it_may before after seed help ended does may none =
    printed_whole (λ told end text done. done) (λ name fault reads refused. reads) none does.1
does_what_it_may before after seed version ended does may none =
    printed_whole (λ told end text done. done) (λ name fault reads refused. reads) none does.1
does_what_it_may before after seed (plan_of viewer) ended does may none =
    printed_whole (λ told end text done. done) (accepts (plan_of viewer) may.held may.told_is may.accepted) none does
does_what_it_may before after seed (check_of viewer cert) ended does may none =
    printed_whole (λ told end text done. done)
    (accepts (check_of viewer cert) may.held may.told_is may.accepted) none does
does_what_it_may before after seed (make_of kind number pictures) ended does may none =
    printed_whole (λ told end text done. done) (λ name fault reads refused. reads) none does.1
does_what_it_may before after seed (scan_of film) ended does may none =
    printed_whole (λ told end text done. done) (accepts (scan_of film) may.held may.told_is may.accepted) none does
does_what_it_may before after seed (day_of run) ended does may none = day_whole may none does.1
does_what_it_may before after seed (fair_of run) ended does may none = fair_whole none does.2
does_what_it_may before after seed (serve_of serving) ended does may none = served_whole may none does
does_what_it_may before after seed (watch_of watching) ended does may none = absurd may
