-- A PLAY asks for one run and one plan.
use Rattle.std.proofs.Common.{◌≡◌, ℕ, ◌⊎◌, List, Option, Result, Ok, Err, sym, ap, subst, ◌∙◌, inl, inr, arith}
use Rattle.session.proofs.SharedTerms.{curve_refusal, CurveRefused, Film, IsAskedRun, IsFilmAt, IsPlanned, IsPlannedRun}
use Rattle.session.proofs.SharedTerms.{playback_of, Refusal, rest_sizes, Run, run_of, SessionState, Setup, Stored}
use Rattle.session.proofs.SharedTerms.{stored_sizes, Timing, timing_of}
use Rattle.session.specs.declared.plans.Planned.{Planned}
use Rattle.session.specs.declared.play_requests.PlayRequest.{PlayRequest}
use Rattle.wire_curve.specs.CurveFaults.{IsAccepted, IsRefused}
use Rattle.film_run.proofs.PlanLemmas.{sending-one}
use Rattle.rtsp_methods.specs.declared.refusals.Refusal.TheVariants.{Memory}
use Rattle.session.proofs.ResumedPlayLemmas.{span_of_once}

pub film_at_once : (films : List Stored) (number : ℕ) (one other : Stored) → IsFilmAt films number one
    → IsFilmAt films number other → other ≡ one
film_at_once films number one other is its = cc

asked_run_once : {film : Film} {paused : Option Run} {range : Option (List ℕ)} {one other : PlayRequest}
    → IsAskedRun film paused range one → IsAskedRun film paused range other → other ≡ one
asked_run_once {film} {paused} {range} {one} {other} is its =
    grind (arith, span_of_once range its.span is.span its.is_span is.is_span)

abbrev Once : Result Planned Refusal → Result Planned Refusal → Type 0
Once one other = (other ≡ one) ⊎ ((one ≡ Err Memory) ⊎ (other ≡ Err Memory))

curves_once : (sizes : List ℕ) (timing : Timing) (one other : CurveRefused) → IsRefused sizes timing one
    → IsRefused sizes timing other → Once (Err (curve_refusal one)) (Err (curve_refusal other))
curves_once sizes timing one other given given' = search arith

accepted_once : (sizes : List ℕ) (timing : Timing) (refused : CurveRefused) → IsAccepted sizes timing
    → IsRefused sizes timing refused → curve_refusal refused ≡ Memory
accepted_once sizes timing refused given given' = grind arith

-- a plan that is asked for: of a session, with what it settled, its paused run and a Range
module _ (old : SessionState) (setup : Setup) (paused : Option Run) (range : Option (List ℕ)) where
  planned_run_once : (one other : Planned) → IsPlanned old setup paused range (Ok one)
      → IsPlanned old setup paused range (Ok other) → other ≡ one
  planned_run_once one other given again =
      let is = given.1 in
      let film = film_at_once old.films setup.film given.0 again.0 is.at again.1.at in
      let its = subst (λ (s : Stored). IsPlannedRun old s setup paused range other) film again.1 in
      let wanted = asked_run_once is.asked its.asked in
      let run : other.run ≡ one.run = its.run_is ∙ ap run_of wanted ∙ sym is.run_is in
      let counts : other.counts ≡ one.counts = grind arith in
      let plan : other.plan ≡ one.plan =
      sending-one (stored_sizes given.0) (playback_of given.0.film old.settings setup) one.run one.plan
      (record { can_play = is.can_play; plan_is = is.plan_is }) other.plan (rw run at its.plan_is) in
      λ i. record { run = run i; counts = counts i; plan = plan i }

  -- a plan, and none
  pub plan_or_none : (planned : Planned) (refusal : Refusal) → IsPlanned old setup paused range (Ok planned)
      → IsPlanned old setup paused range (Err refusal) → refusal ≡ Memory
  plan_or_none planned refusal given (inl none) = grind arith
  plan_or_none planned refusal given (inr that) =
      let is = given.1 in
      let film = film_at_once old.films setup.film given.0 that.stored is.at that.at in
      let wanted = asked_run_once is.asked (rw film at that.asked) in
      that.refusal_is ∙ accepted_once _ _ that.refused is.plan_is.accepted
      (subst (λ (r : Run). IsRefused (rest_sizes (stored_sizes given.0) r)
      (timing_of (playback_of given.0.film old.settings setup) r) that.refused)
      (ap run_of wanted ∙ sym is.run_is) (rw film at that.no_curves))

  refused_once : (one other : Refusal) → IsPlanned old setup paused range (Err one)
      → IsPlanned old setup paused range (Err other) → Once (Err one) (Err other)
  refused_once one other (inl is) (inl its) = inl (ap (λ r. Err r) (its.refusal_is ∙ sym is.refusal_is))
  refused_once one other (inl is) (inr its) = search arith
  refused_once one other (inr is) (inl its) = search arith
  refused_once one other (inr is) (inr its) =
      let film = film_at_once old.films setup.film is.stored its.stored is.at its.at in
      let wanted = asked_run_once is.asked (rw film at its.asked) in
      rw (is.refusal_is, its.refusal_is)
      (curves_once _ _ is.refused its.refused is.no_curves (rw (film, wanted) at its.no_curves))

  -- one run with one plan, or one refusal, or out of memory
  pub planned_once : (one other : Result Planned Refusal) → IsPlanned old setup paused range one
      → IsPlanned old setup paused range other → Once one other
  planned_once (Ok one) (Ok other) is its = inl (ap (λ p. Ok p) (planned_run_once one other is its))
  planned_once (Ok one) (Err other) is its = inr (inr (ap (λ r. Err r) (plan_or_none one other is its)))
  planned_once (Err one) (Ok other) is its = inr (inl (ap (λ r. Err r) (plan_or_none other one its is)))
  planned_once (Err one) (Err other) is its = refused_once one other is its
