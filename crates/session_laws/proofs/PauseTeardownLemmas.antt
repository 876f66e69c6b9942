-- What a PAUSE and a TEARDOWN come to.
use Rattle.std.proofs.lemmas.Grind.{common_steps}
use Rattle.std.proofs.Common.{arith, ◌≡◌, ℕ, ◌⊎◌, Bool, true, false, List, [], ◌∷◌, Some, codes, refl, sym, ap, subst}
use Rattle.std.proofs.Common.{◌∙◌, inl, inr}
use Rattle.session.proofs.SharedTerms.{after_halt, field, Hears, Method, new_session_state, next_boundary, next_of}
use Rattle.session.proofs.SharedTerms.{option_of, Pauses, Request, sent_reply, session_text, SessionState, Settings}
use Rattle.session.proofs.SharedTerms.{Stored, TearsDown}
use Rattle.session.specs.declared.commands.Ask.{Ask}
use Rattle.session.specs.declared.states.Awaited.{Awaited}
use Rattle.session.specs.declared.states.State.{State}
use Rattle.rtsp_text.specs.Replies.{value_named}
use Rattle.session.specs.declared.commands.Ask.TheVariants.{Halt as AskHalt}
use Rattle.session.specs.declared.states.State.TheVariants.{Playing}
use Rattle.session_laws.specs.EndLaws.{CanBePaused, CanBeTornDown, EndsSession, HaltsPlay, HasTeardown, IsPausedPlay}
use Rattle.session_laws.specs.EndLaws.{IsPause, HasSessionInReply, IsTeardownHeard, IsTornDown}
use Rattle.session.specs.Laws.{IsTeardown, stage_of}
use Rattle.session.specs.RequestSteps.{is_torn}
use Rattle.rtsp_methods.specs.declared.methods.Method.TheVariants.{Pause, Teardown}
use Rattle.session.specs.LookLaws.{SessionEvent, Message, AreAfter, IsAfter}
use Rattle.session_laws.specs.PlayLaws.{IsDeclined}
use Rattle.session.proofs.InitialStateLemmas.{HeardMessage, heard_by}
use Rattle.session.proofs.RequestCaseAnalysis.{Answer, StopsPlay, EndsSession as EndsAlone, answer_to, by_answer}
use Rattle.session.proofs.RequestCaseAnalysis.{is_teardown, made_by}
use Rattle.session_laws.proofs.RequestReadings.{HeardMethod, IsStopped, IsTakenUp, TakenUp, heard_method, taken_up}
use Rattle.session_laws.proofs.RefusalLawLemmas.{refused}

-- ---- what each method comes to

pub session_told : (sequence : ℕ) (id : List ℕ) → HasSessionInReply sequence id (session_text sequence id)
unfolding value_named
session_told sequence id = record { fields = field (codes "Session") id ∷ []; text_is = refl; session = refl }

-- a halt that was asked for, or a reply of its own
tears_in : (h : HeardMessage) (sequence : ℕ) (state : State) → h.old.state ≡ state
    → TearsDown state h.old sequence h.ask h.new → IsTornDown h.old h.ask h.new
tears_in h sequence (Playing setup play) is asks = record {
  sequence = sequence;
  told = rw (ap (λ (s : SessionState). s.text) asks.state) (session_told sequence h.old.id);
  halts = subst (λ (s : State). HaltsPlay (stage_of s) h.ask) (sym is) (asks.keep, asks.command);
  ends = grind arith;
}
tears_in h sequence _ is ends = record {
  sequence = sequence;
  told = rw (ap (λ (s : SessionState). s.text) ends.1) (session_told sequence h.old.id);
  halts = subst (λ (s : State). HaltsPlay (stage_of s) h.ask) (sym is) ends.0;
  ends = subst (λ a. EndsSession a h.new) (sym ends.0) (ap (λ (s : SessionState). (sent_reply s).torn) ends.1);
}

pauses_in : (h : HeardMessage) (sequence : ℕ) (state : State) → h.old.state ≡ state
    → Pauses state h.old sequence h.ask h.new → IsPausedPlay h.old h.ask h.new
pauses_in h sequence (Playing setup play) is pauses = record {
  setup = setup;
  play = play;
  stored = pauses.stored;
  keep = next_boundary play.pacer;
  last = pauses.last;
  left = pauses.left;
  sequence = sequence;
  playing = is;
  command = pauses.asks.command ∙ ap AskHalt pauses.asks.keep_is;
  told = rw (ap (λ (s : SessionState). s.text) pauses.asks.state) (session_told sequence h.old.id);
  at = pauses.at;
  last_is = pauses.last_is;
  left_is = pauses.left_is;
  state = λ place. ap (λ (s : SessionState). (sent_reply (after_halt s place)).state) pauses.asks.state;
}
pauses_in h sequence _ is pauses = absurd pauses

-- a message of a method is declined, or comes to what its request does
declined_or : {h : HeardMessage} {request : Request} {m : Method} {P : Type 0} → HeardMethod h request m
    → (TakenUp h request m → P) → IsDeclined h.old h.ask h.new ⊎ P
declined_or {h} {request} heard does = elim heard [
  | IsStopped refusal place judged done ↦
      inl (refused h (Some request.sequence) refusal (option_of request.head.now) done)
  | IsTakenUp up ↦ inr (does up)
]

pub teardown_ends : (old new : SessionState) (message : List ℕ) (ask : Ask) → IsTeardown message
    → Hears old message ask new → IsDeclined old ask new ⊎ IsTornDown old ask new
teardown_ends old new message ask is hears =
    let h : HeardMessage = heard_by hears in
    declined_or (heard_method h is.request Teardown is.is_request is.method_is)
    (λ (up : TakenUp h is.request Teardown). tears_in h is.request.sequence old.state refl up.does)

pub pause_leaves : (old new : SessionState) (message : List ℕ) (ask : Ask) → IsPause message → Hears old message ask new
    → IsDeclined old ask new ⊎ IsPausedPlay old ask new
pause_leaves old new message ask is hears =
    let h : HeardMessage = heard_by hears in
    declined_or (heard_method h is.request Pause is.is_request is.method_is)
    (λ (up : TakenUp h is.request Pause). pauses_in h is.request.sequence old.state refl up.does)

pub teardown_taken : (old new : SessionState) (message : List ℕ) (ask : Ask) → CanBeTornDown old message
    → Hears old message ask new → IsTornDown old ask new
teardown_taken old new message ask can hears =
    let h : HeardMessage = heard_by hears in
    tears_in h can.request.sequence old.state refl (taken_up h can.request Teardown can.is_request (search arith)).does

pub pause_taken : (old new : SessionState) (message : List ℕ) (ask : Ask) → CanBePaused old message
    → Hears old message ask new → IsPausedPlay old ask new
pause_taken old new message ask can hears =
    let h : HeardMessage = heard_by hears in
    pauses_in h can.request.sequence old.state refl
    (taken_up h can.request Pause can.is_request (search arith)).does

-- ---- only a TEARDOWN ends the session

-- a halt that was asked for leads to the session's end
abbrev is_ending : Awaited → Bool
is_ending awaited = is_torn (next_of awaited)

record IsCalm (standing : SessionState) : Type 0 where
  tearing : standing.tearing ≡ false
  torn : standing.torn ≡ false
  awaited : is_ending standing.awaited ≡ false

answer_calm : {h : HeardMessage} (answer : Answer h) → IsCalm h.old → IsTeardown h.message ⊎ IsCalm (made_by answer)
answer_calm (StopsPlay taken hand is) calm = inl (is_teardown taken)
answer_calm (EndsAlone taken is) calm = inl (is_teardown taken)
answer_calm answer calm = grind arith

happening_calm : (old : SessionState) (happening : SessionEvent) (new : SessionState) → IsAfter old happening new
    → IsCalm old → IsTeardownHeard happening ⊎ IsCalm new
happening_calm old (Message message ask) new is calm =
    let answer = answer_to (heard_by is) in
    by_answer (λ a s. IsTeardown message ⊎ IsCalm s) answer (answer_calm answer calm)
happening_calm old happening new is calm = grind (arith, common_steps)

all_calm : (happenings : List SessionEvent) (old new : SessionState) → AreAfter old happenings new → IsCalm old
    → HasTeardown happenings ⊎ IsCalm new
all_calm [] old new is calm = inr (subst IsCalm (sym is) calm)
all_calm (happening ∷ rest) old new is calm =
    grind (arith, happening_calm old happening is.0 is.1.0 calm, all_calm rest is.0 new is.1.1)

pub torn_by_teardown : (films : List Stored) (settings : Settings) (words : List ℕ) (happenings : List SessionEvent)
    (now : SessionState) → AreAfter (new_session_state films settings words) happenings now → now.torn ≡ true
    → HasTeardown happenings
torn_by_teardown films settings words happenings now are torn = grind (arith, all_calm)
