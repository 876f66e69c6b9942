-- A message has one answer, if memory is found for it.
use Rattle.std.proofs.Common.{◌≡◌, ℕ, List, [], Some, None, Result, Ok, Err, codes, sym, subst, ◌∙◌, inl, inr, arith}
use Rattle.session.proofs.SharedTerms.{AsksHalt, AsksOfferOr, AsksPlayOr, Describes, first_sequence, Gets, GetsOffer}
use Rattle.session.proofs.SharedTerms.{header_value, Hears, IsJudged, IsReadAs, IsRefused, IsSetUp, Method, method_of}
use Rattle.session.proofs.SharedTerms.{no_fault, Pauses, play_call, Plays, Refusal, Request, SessionState, SetsUp}
use Rattle.session.proofs.SharedTerms.{Setup, Takes, TearsDown, Topic}
use Rattle.session.specs.declared.commands.Ask.{Ask}
use Rattle.session.specs.declared.plans.Planned.{Planned}
use Rattle.session.specs.declared.refusals.Task.{Task}
use Rattle.session.specs.declared.states.AfterHalt.{AfterHalt}
use Rattle.session.specs.declared.states.Play.{Play as Played}
use Rattle.session.specs.declared.states.State.{State}
use Rattle.film_run.proofs.RemainingRunLemmas.{left-one}
use Rattle.rtsp_text.proofs.MessageUniqueness.{fault_once}
use Rattle.rtsp_methods.specs.declared.methods.Method.TheVariants.{Options, Describe, Setup as SetupMethod}
use Rattle.rtsp_methods.specs.declared.methods.Method.TheVariants.{Play as PlayMethod, Pause, Teardown, GetParameter}
use Rattle.rtsp_methods.specs.declared.topics.Topic.TheVariants.{Booked, Offer as OfferTopic}
use Rattle.rtsp_methods.specs.declared.refusals.Refusal.TheVariants.{Memory}
use Rattle.session.specs.declared.states.AfterHalt.TheVariants.{Paused}
use Rattle.session.specs.declared.states.State.TheVariants.{Init, Ready, Playing}
use Rattle.session.specs.Laws.{IsOneAnswer}
use Rattle.session.specs.SessionStates.{AreFilms}
use Rattle.session.proofs.InitialStateLemmas.{HeardMessage, heard_by}
use Rattle.session_laws.proofs.RequestReadings.{Does, as_read, does_task, passes_of, refused_in, taken_up}
use Rattle.session.proofs.RequestUniqueness.{first_sequence_is, names_once, read_once, topic_once, wait_once}
use Rattle.session_laws.proofs.PlanUniqueness.{film_at_once, planned_once}

-- a message that the same session received twice
module _ (old one other : SessionState) (message : List ℕ) (ask again : Ask) where
  abbrev Agree : Type 0
  Agree = IsOneAnswer old message ask one again other

  -- it came to the same each time
  both_do : {command : Ask} {made : SessionState} → (ask ≡ command) × (one ≡ made)
      → (again ≡ command) × (other ≡ made) → Agree
  both_do is its = inl (record { ask_is = its.0 ∙ sym is.0; session_is = its.1 ∙ sym is.1 })

  describes_once : {sequence film : ℕ} {authority : List ℕ} → Describes old sequence film authority ask one
      → Describes old sequence film authority again other → Agree
  describes_once {film = film} is its =
      both_do is.reply (rw (film_at_once old.films film is.stored its.stored is.at its.at) at its.reply)

  set_up_once : (sequence : ℕ) (read : Result Setup Refusal) → IsSetUp old sequence read ask one
      → IsSetUp old sequence read again other → Agree
  set_up_once sequence (Ok setup) is its = both_do is its
  set_up_once sequence (Err refusal) is its = both_do is its

  -- a play of which a halt is asked
  halts_once : {sequence : ℕ} {setup : Setup} {play : Played} {next : AfterHalt}
      → AsksHalt old sequence setup play next ask one → AsksHalt old sequence setup play next again other → Agree
  halts_once is its = grind arith

  tears_once : (state : State) (sequence : ℕ) → TearsDown state old sequence ask one
      → TearsDown state old sequence again other → Agree
  tears_once (Playing setup play) sequence is its = halts_once is its
  tears_once _ sequence is its = both_do is its

  pauses_once : (state : State) (sequence : ℕ) → Pauses state old sequence ask one
      → Pauses state old sequence again other → Agree
  pauses_once (Playing setup play) sequence is its =
      let film = film_at_once old.films setup.film is.stored its.stored is.at its.at in
      let last : its.last ≡ is.last = grind (arith, its.last_is, is.last_is) in
      let left = left-one is.left_is (rw (film, last) at its.left_is) in
      halts_once is.asks (subst (λ r. AsksHalt old sequence setup play (Paused r) again other) left its.asks)
  pauses_once _ sequence is its = absurd is

  -- it was a request, that the session read at another place the second time
  module _ (request place : Request) (number : first_sequence message ≡ Some request.sequence) where
    abbrev reread : Request
    reread = as_read place request

    -- memory ran out for it, the one time or the other
    first_wants : IsRefused old (Some request.sequence) Memory [] ask one → Agree
    first_wants is = inr (inl (subst (λ s. IsRefused old s Memory [] ask one) (sym number) is))

    second_wants : IsRefused old (Some request.sequence) Memory [] again other → Agree
    second_wants is = inr (inr (subst (λ s. IsRefused old s Memory [] again other) (sym number) is))

    play_or_once : (authority : List ℕ) (setup : Setup) (planned : Result Planned Refusal)
        → AsksPlayOr old (play_call request.sequence authority setup) planned ask one
        → AsksPlayOr old (play_call request.sequence authority setup) planned again other → Agree
    play_or_once authority setup (Ok planned) (inl is) (inl its) =
        let film = film_at_once old.films setup.film is.stored its.stored is.at its.at in
        both_do (is.command, is.state) (its.command, rw film at its.state)
    play_or_once authority setup (Ok planned) (inl is) (inr its) = second_wants its
    play_or_once authority setup (Ok planned) (inr is) its = first_wants is
    play_or_once authority setup (Err refusal) is its = both_do is its

    offer_or_once : (wait : ℕ) (planned : Result Planned Refusal)
        → AsksOfferOr old request.sequence wait planned ask one
        → AsksOfferOr old request.sequence wait planned again other → Agree
    offer_or_once wait (Ok planned) (inl is) (inl its) = grind arith
    offer_or_once wait (Ok planned) (inl is) (inr its) = second_wants its
    offer_or_once wait (Ok planned) (inr is) its = first_wants is
    offer_or_once wait (Err refusal) is its = both_do is its

    sets_up_once : (film : ℕ) → SetsUp old request film ask one → SetsUp old reread film again other → Agree
    sets_up_once film is its =
        let read = read_once (record { settings = old.settings; head = request.head.now; film = film }) is.read
        its.read is.is_read its.is_read in
        set_up_once request.sequence is.read is.done (rw read at its.done)

    plays_once : (state : State) (authority : List ℕ) → Plays state old request authority ask one
        → Plays state old reread authority again other → Agree
    plays_once Init authority is its = absurd is
    plays_once (Ready setup paused) authority is its =
        elim (planned_once old setup paused (header_value request.head.now (codes "Range")) is.planned its.planned
        is.is_planned its.is_planned) [
          | inl alike ↦ play_or_once authority setup is.planned is.asks (rw alike at its.asks)
          | inr (inl lacks) ↦ first_wants (rw lacks at is.asks)
          | inr (inr lacks) ↦ second_wants (rw lacks at its.asks)
        ]
    plays_once _ authority is its = both_do is its

    gets_offer_once : (state : State) → GetsOffer state old request ask one
        → GetsOffer state old reread again other → Agree
    gets_offer_once Init is its = both_do is its
    gets_offer_once (Ready setup paused) (inl is) (inl its) = both_do is.refused its.refused
    gets_offer_once (Ready setup paused) (inl is) (inr its) = absurd (is.none its.wait its.has_wait)
    gets_offer_once (Ready setup paused) (inr is) (inl its) = absurd (its.none is.wait is.has_wait)
    gets_offer_once (Ready setup paused) (inr is) (inr its) =
        let wait = wait_once (header_value request.head.now (codes "x-Wait")) is.wait its.wait is.has_wait its.has_wait
        in let offers = rw wait at its.offers in
        elim (planned_once old setup paused None is.offers.planned offers.planned is.offers.is_planned
        offers.is_planned) [
          | inl alike ↦ offer_or_once is.wait is.offers.planned is.offers.asks (rw alike at offers.asks)
          | inr (inl lacks) ↦ first_wants (rw lacks at is.offers.asks)
          | inr (inr lacks) ↦ second_wants (rw lacks at offers.asks)
        ]
    gets_offer_once _ is its = both_do is its

    gets_once : (topic : Topic) → Gets old request topic ask one → Gets old reread topic again other → Agree
    gets_once Booked is its = grind arith
    gets_once OfferTopic is its = gets_offer_once old.state is its
    gets_once _ is its = both_do is its

    does_once : (method : Method) → AreFilms old.films
        → Does (record { old = old; new = one; request = request; ask = ask }) method
        → Does (record { old = old; new = other; request = reread; ask = again }) method → Agree
    does_once Options films is its = both_do is its
    does_once Describe films is its =
        let names = names_once films is.1.1.0.named its.1.1.0.named in
        describes_once is.1.1.1 (rw (names.authority, names.film_is) at its.1.1.1)
    does_once SetupMethod films is its =
        sets_up_once is.1.0 is.1.1.1 (rw (names_once films is.1.1.0.named its.1.1.0.named).film_is at its.1.1.1)
    does_once PlayMethod films is its =
        plays_once old.state is.0 is.1.1.1
        (rw (names_once films is.1.1.0.named its.1.1.0.named).authority at its.1.1.1)
    does_once Pause films is its = pauses_once old.state request.sequence is its
    does_once Teardown films is its = tears_once old.state request.sequence is its
    does_once GetParameter films is its =
        let topic = topic_once request.body.now is.topic its.topic is.is_topic its.is_topic in
        gets_once is.topic is.gets (rw topic at its.gets)

  takes_once : (request : Request) (judgement : Result Task Refusal) → AreFilms old.films → IsReadAs message request
      → IsJudged old.films old.id old.state request judgement → Takes old request judgement ask one
      → Hears old message again other → Agree
  takes_once request (Ok task) films read judged takes its =
      let up = taken_up (heard_by its) request (method_of task) read (passes_of old judged) in
      does_once request up.place (first_sequence_is message request.sequence read.sequence_is) (method_of task) films
      (does_task (record { old = old; new = one; request = request; ask = ask }) task judged.film takes) up.does
  takes_once request (Err refusal) films read judged takes its =
      both_do takes (refused_in (heard_by its) request refusal read judged)

  both_once : AreFilms old.films → Hears old message ask one → Hears old message again other → Agree
  both_once films (inl is) (inl its) = search (arith, fault_once message its.fault is.fault its.is_fault is.is_fault)
  both_once films (inl is) (inr its) = absurd (no_fault is.fault its.is_request is.is_fault)
  both_once films (inr is) its =
      takes_once is.request is.hears.judgement films is.is_request is.hears.judged is.hears.takes its

-- a message has one answer, state, reply and command, or memory is wanting for it
pub hears_once : {again : Ask} {other : SessionState} (h : HeardMessage) → AreFilms h.old.films
    → Hears h.old h.message again other → IsOneAnswer h.old h.message h.ask h.new again other
hears_once {again} {other} h films its = both_once h.old h.new other h.message h.ask again films h.hears its
