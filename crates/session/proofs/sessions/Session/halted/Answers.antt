use Rattle.session.proofs.SharedTerms.{counts_done, is_answered, IsNextIn, Playing, session_context_of}
use Rattle.std.proofs.Common.{arith, ◌≡◌, ◌||◌, true, if◌then◌else◌, refl}
use Rattle.session.proofs.StepInvariantLemmas.{halted_kept, step_kept}
use Rattle.std.specs.Prelude.{slice_get}
use Rattle.session.proofs.sessions.Session.halted.Goals as goal

pub counts_next-self-inside-requires-clause-run : goal.counts_next-self-inside-requires-clause-run
counts_next-self-inside-requires-clause-run c =
    let kept = rw (← c.in-Playing.ensures.value) at c.self.invariant.state in
    λ stored at. (kept.2 stored at).playable.run_of.run_is

pub invariant_of-self : goal.invariant_of-self
invariant_of-self c =
    let inside = c.self.inside in
    let ground = session_context_of inside in
    let next = c.kept_and_next-keep.result.1 in
    let playing = Playing c.in-Playing.setup c.in-Playing.play in
    let waits : (inside.waits || c.is_answered.result) ≡ (if is_answered next then true else inside.waits) =
    search (arith) in
    let left : IsNextIn ground.films ground.source ground.counts playing next = grind arith in
    let after = halted_kept ground inside.lost inside.waits (counts_done inside.source inside.counts c.in-Playing.setup
    c.in-Playing.play.run c.kept_and_next-keep.result.0 (slice_get inside.films.now c.in-Playing.setup.film)) next
    (rw (← c.in-Playing.ensures.value) at c.self.invariant.state) left in
    rw (
      c.enter.ensures,
      c.state_and_note-state.ensures.state,
      c.counts_next-self-inside.ensures,
      c.replace-asked.ensures.after,
      waits,
    )
    (step_kept c.self.invariant refl (search (arith, after)))
