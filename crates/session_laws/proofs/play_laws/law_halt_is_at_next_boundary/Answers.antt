-- A halt cuts a play at its next boundary.
use Rattle.std.proofs.Common.{refl, ◌≡◌, ℕ, ◌+◌, ◌≤◌, length, subst, arith}
use Rattle.session.proofs.SharedTerms.{boundary-from, boundary_from, framed_bytes, IsBoundaryAfter, IsPacerState}
use Rattle.session.proofs.SharedTerms.{IsStateInvariant, next_boundary}
use Rattle.session.specs.declared.states.Play.{Play as Played}
use Rattle.session.specs.declared.states.State.{State}
use Rattle.session.specs.declared.commands.Ask.TheVariants.{Halt as AskHalt}
use Rattle.session_laws.specs.PlayLaws.{KeepsToBoundary}
use Rattle.session.proofs.InitialStateLemmas.{HeardMessage, heard_by, PlayInHand}
use Rattle.session.proofs.RequestCaseAnalysis.{Answer, HaltsPlay, StopsPlay, answer_to, asks_as}
use Rattle.session.specs.SessionInvariant.{context_of}
use Rattle.session_laws.proofs.play_laws.law_halt_is_at_next_boundary.Goals as goal

kept_at : (play : Played) → IsPacerState play.pacer → KeepsToBoundary play (next_boundary play.pacer)
kept_at play is =
    let p = play.pacer in
    let at = p.before + p.sent in
    let within : at ≤ length (framed_bytes p.pieces) = omega (arith, is.sent, is.due, is.most, is.whole) in
    let next = boundary-from p.pieces at within in
    let same : boundary_from p.pieces at ≡ p.before + next_boundary p = omega (arith, next.after) in
    subst (IsBoundaryAfter p.pieces at) same next

-- a halt that is asked for keeps a play up to its next boundary
answer_halts : {keep : ℕ} (h : HeardMessage) → h.ask ≡ AskHalt keep → (hand : PlayInHand h.old)
    → IsPacerState hand.play.pacer → Answer h → KeepsToBoundary hand.play keep
answer_halts h halt hand pacing (HaltsPlay taken own is) = grind (arith, kept_at hand.play pacing)
answer_halts h halt hand pacing (StopsPlay taken own is) = grind (arith, kept_at hand.play pacing)
answer_halts h halt hand pacing answer = absurd (let no : ⊥ = cc (asks_as answer, halt) in no)

pub returns : goal.returns
returns c = λ old new message keep setup play hears sound playing.
    let state = subst (λ (s : State). IsStateInvariant (context_of old) s) playing sound.state in
    answer_halts (heard_by hears) refl (record { setup = setup; play = play; playing = playing }) state.1.pacing
    (answer_to (heard_by hears))
