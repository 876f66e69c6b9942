-- What a session answers to a message: the one analysis of it by cases, above which the laws stand.
use Rattle.std.proofs.Common.{◌≡◌, ◌≢◌, ℕ, ◌≤◌, false, List, [], length, Option, Some, None, Result, Ok, Err, ◌-◌, true}
use Rattle.std.proofs.Common.{codes, string_bytes, refl, inl, inr, arith}
use Rattle.std.proofs.lemmas.Option.{slice_get_within}
use Rattle.session.proofs.SharedTerms.{AfterHalt, AreSettings, Ask, AsksForSetup, AsksHalt, AsksLook, AsksOffer}
use Rattle.session.proofs.SharedTerms.{AsksOfferOr, AsksPlay, AsksPlayOr, describe_text, Ends, fault_refusal}
use Rattle.session.proofs.SharedTerms.{first_sequence, Gets, GetsOffer, Halt, has_session_in, HasWait, header_value}
use Rattle.session.proofs.SharedTerms.{Init, IsChosen, IsFilmAt, IsJudged, IsPlanned, IsPlannedRun, IsReadAs, IsReplied}
use Rattle.session.proofs.SharedTerms.{IsSetUp, IsSetup, IsSetupRead, IsTaken, IsTeardown, IsTopic, IsWord, length_ms}
use Rattle.session.proofs.SharedTerms.{Look, MayRunOutOfMemory, Memory, NotNow, Offer, option_of, Parameter, Paused}
use Rattle.session.proofs.SharedTerms.{Pauses, PausesPlay, plain_text, Planned, Play, play_call, play_front, Playing}
use Rattle.session.proofs.SharedTerms.{Plays, prepared_of, public_text, Ready, Refusal, refusal_text, Request, Run}
use Rattle.session.proofs.SharedTerms.{Session, session_text, SessionState, Setup, setup_text, State, Stored, Takes}
use Rattle.session.proofs.SharedTerms.{Task, TearsDown, Topic, Torn, with_reply}
use Rattle.rtsp_text.specs.Requests.{IsFault}
use Rattle.rtsp_text.specs.declared.requests.RequestFault.{RequestFault}
use Rattle.rtsp_methods.specs.declared.topics.Topic.TheVariants.{Nothing as NoTopic, Booked, Offer as OfferTopic}
use Rattle.rtsp_methods.specs.declared.topics.Topic.TheVariants.{Unknown}
use Rattle.film_streams.specs.declared.films.Asked.{Asked}
use Rattle.session.specs.declared.commands.Ask.TheVariants.{Reply, Play as AskPlay, Halt as AskHalt, Look as AskLook}
use Rattle.session.specs.declared.commands.Ask.TheVariants.{Offer as AskOffer}
use Rattle.session.specs.declared.refusals.Task.TheVariants.{Options as ToOptions, Describe as ToDescribe}
use Rattle.session.specs.declared.refusals.Task.TheVariants.{Setup as ToSetup, Play as ToPlay, Pause as ToPause}
use Rattle.session.specs.declared.refusals.Task.TheVariants.{Teardown as ToTeardown, GetParameter as ToGetParameter}
use Rattle.session.proofs.InitialStateLemmas.{HeardMessage, PlayInHand}
use Rattle.session.proofs.ResumedPlayLemmas.{of_film}

-- a request that is processed, with the task that it is judged to ask for
pub record TakenTask (h : HeardMessage) (task : Task) : Type 0 where
  pub request : Request
  pub is_request : IsReadAs h.message request
  pub judged : IsTaken h.old.films h.old.id h.old.state request task

-- a session in Ready
pub record InReady (old : SessionState) : Type 0 where
  pub setup : Setup
  pub paused : Option Run
  pub ready : old.state ≡ Ready setup paused

-- a PLAY that is received in Ready
pub record ReadyPlay (h : HeardMessage) : Type 0 where
  pub asked : Asked
  pub taken : TakenTask h (ToPlay asked)
  pub film : InReady h.old
  pub open film use *

-- a request for an offer, with the wait that it names, that is received in Ready
pub record ReadyOffer (h : HeardMessage) : Type 0 where
  pub taken : TakenTask h ToGetParameter
  pub body : IsWord (codes "x-Offer") taken.request.body.now
  pub film : InReady h.old
  pub open film use *
  pub wait : ℕ
  pub has_wait : HasWait taken.request.head.now wait

-- why a method refuses a request by itself
pub data OwnCause (h : HeardMessage) (request : Request) (refusal : Refusal) : Type 0 where
  NoSetup : (film : ℕ) → IsSetupRead h.old.settings request.head.now film (Err refusal) → OwnCause h request refusal
  NoPlan : (setup : Setup) (paused : Option Run) (range : Option (List ℕ))
      → IsPlanned h.old setup paused range (Err refusal) → MayRunOutOfMemory h.old h.message
      → OwnCause h request refusal
  NoMemory : refusal ≡ Memory → MayRunOutOfMemory h.old h.message → OwnCause h request refusal
  NoSession : refusal ≡ Session → h.old.state ≡ Init → OwnCause h request refusal
  NotInPlaying : refusal ≡ NotNow → OwnCause h request refusal
  NoParameter : refusal ≡ Parameter → OwnCause h request refusal

-- what a session replies by itself, where nothing else changes
pub data OwnReply (h : HeardMessage) : Type 0 where
  ToFault : (fault : RequestFault) → IsFault h.message fault → OwnReply h
  ToRefused : (request : Request) (refusal : Refusal) → IsReadAs h.message request
      → IsJudged h.old.films h.old.id h.old.state request (Err refusal) → OwnReply h
  ToDeclined : (request : Request) (refusal : Refusal) → IsReadAs h.message request → OwnCause h request refusal
      → OwnReply h
  ToAsked : TakenTask h ToOptions → OwnReply h
  ToDescribed : (asked : Asked) → TakenTask h (ToDescribe asked) → (stored : Stored)
      → IsFilmAt h.old.films asked.film stored → OwnReply h
  ToConfirmed : (asked : Asked) → TakenTask h (ToPlay asked) → OwnReply h
  ToEmpty : TakenTask h ToGetParameter → OwnReply h

abbrev pub reply_of : (h : HeardMessage) → OwnReply h → List ℕ
reply_of h (ToFault fault is) = refusal_text (first_sequence h.message) (fault_refusal fault) []
reply_of h (ToRefused request refusal read judged) =
    refusal_text (Some request.sequence) refusal (option_of request.head.now)
reply_of h (ToDeclined request refusal read cause) = refusal_text (Some request.sequence) refusal []
reply_of h (ToAsked taken) = public_text taken.request.sequence
reply_of h (ToDescribed asked taken stored at) =
    describe_text taken.request.sequence asked.authority.now (string_bytes stored.name) (length_ms stored.film)
reply_of h (ToConfirmed asked taken) = session_text taken.request.sequence h.old.id
reply_of h (ToEmpty taken) = plain_text taken.request.sequence

pub data Answer (h : HeardMessage) : Type 0 where
  Replies : (reply : OwnReply h) → IsReplied h.old (reply_of h reply) h.ask h.new → Answer h
  SetsUp : (film : ℕ) (taken : TakenTask h (ToSetup film)) (setup : Setup)
      → AsksForSetup h.old.settings taken.request.head.now film setup
      → IsSetUp h.old taken.request.sequence (Ok setup) h.ask h.new → Answer h
  StartsPlay : (play : ReadyPlay h) (planned : Planned)
      (asks : AsksPlay h.old play.taken.request.sequence play.asked.authority.now play.setup planned h.ask h.new)
      → IsPlannedRun h.old asks.stored play.setup play.paused
      (header_value play.taken.request.head.now (codes "Range")) planned → Answer h
  HaltsPlay : (taken : TakenTask h ToPause) (hand : PlayInHand h.old)
      → PausesPlay h.old taken.request.sequence hand.setup hand.play h.ask h.new → Answer h
  StopsPlay : (taken : TakenTask h ToTeardown) (hand : PlayInHand h.old)
      → AsksHalt h.old taken.request.sequence hand.setup hand.play Torn h.ask h.new → Answer h
  EndsSession : (taken : TakenTask h ToTeardown) → Ends h.old taken.request.sequence h.ask h.new → Answer h
  TakesLook : (taken : TakenTask h ToGetParameter) → AsksLook h.old taken.request.sequence h.ask h.new → Answer h
  SeeksOffer : (offer : ReadyOffer h) (planned : Planned) → IsPlanned h.old offer.setup offer.paused None (Ok planned)
      → AsksOffer h.old offer.taken.request.sequence offer.wait planned h.ask h.new → Answer h

may_offer : (h : HeardMessage) → ReadyOffer h → MayRunOutOfMemory h.old h.message
may_offer h offer =
    let t = offer.taken in
    inr (inl (record {
      setup = offer.setup;
      request = t.request;
      ready = grind arith;
      offer = record { is_request = t.is_request; method = t.judged.talk.spoken.named; body = offer.body };
    }))

sets_up : (h : HeardMessage) (film : ℕ) (taken : TakenTask h (ToSetup film)) (read : Result Setup Refusal)
    → IsSetupRead h.old.settings taken.request.head.now film read
    → IsSetUp h.old taken.request.sequence read h.ask h.new → Answer h
sets_up h film taken (Ok setup) is done = SetsUp film taken setup is done
sets_up h film taken (Err refusal) is done =
    Replies (ToDeclined taken.request refusal taken.is_request (NoSetup film is)) done

starts_play : (h : HeardMessage) (play : ReadyPlay h) (planned : Result Planned Refusal)
    → IsPlanned h.old play.setup play.paused (header_value play.taken.request.head.now (codes "Range")) planned
    → AsksPlayOr h.old (play_call play.taken.request.sequence play.asked.authority.now play.setup) planned h.ask h.new
    → Answer h
starts_play h play (Ok planned) is (inl asks) =
    let range = header_value play.taken.request.head.now (codes "Range") in
    StartsPlay play planned asks (of_film h.old.films play.setup.film is.0
    (λ s. IsPlannedRun h.old s play.setup play.paused range planned) is.1.at is.1 asks.stored asks.at)
starts_play h play (Ok planned) is (inr refused) =
    Replies (ToDeclined play.taken.request Memory play.taken.is_request (NoMemory refl (grind arith))) refused
starts_play h play (Err refusal) is refused =
    Replies (ToDeclined play.taken.request refusal play.taken.is_request
    (NoPlan play.setup play.paused _ is (grind arith))) refused

plays : (h : HeardMessage) (asked : Asked) (taken : TakenTask h (ToPlay asked)) (state : State) → h.old.state ≡ state
    → Plays state h.old taken.request asked.authority.now h.ask h.new → Answer h
plays h asked taken Init same is = absurd is
plays h asked taken (Ready setup paused) same is =
    let film : InReady h.old = record { setup = setup; paused = paused; ready = same } in
    starts_play h (record { asked = asked; taken = taken; film = film }) is.planned is.is_planned is.asks
plays h asked taken _ same is = Replies (ToConfirmed asked taken) is

pauses : (h : HeardMessage) (taken : TakenTask h ToPause) (state : State) → h.old.state ≡ state
    → Pauses state h.old taken.request.sequence h.ask h.new → Answer h
pauses h taken (Playing setup play) same is = HaltsPlay taken (record { setup = setup; play = play; playing = same }) is
pauses h taken _ same is = absurd is

tears : (h : HeardMessage) (taken : TakenTask h ToTeardown) (state : State) → h.old.state ≡ state
    → TearsDown state h.old taken.request.sequence h.ask h.new → Answer h
tears h taken (Playing setup play) same is = StopsPlay taken (record { setup = setup; play = play; playing = same }) is
tears h taken _ same is = EndsSession taken is

seeks_offer : (h : HeardMessage) (offer : ReadyOffer h) (planned : Result Planned Refusal)
    → IsPlanned h.old offer.setup offer.paused None planned
    → AsksOfferOr h.old offer.taken.request.sequence offer.wait planned h.ask h.new → Answer h
seeks_offer h offer (Ok planned) is (inl asks) = SeeksOffer offer planned is asks
seeks_offer h offer (Ok planned) is (inr refused) =
    Replies (ToDeclined offer.taken.request Memory offer.taken.is_request (NoMemory refl (may_offer h offer))) refused
seeks_offer h offer (Err refusal) is refused =
    Replies (ToDeclined offer.taken.request refusal offer.taken.is_request
    (NoPlan offer.setup offer.paused None is (may_offer h offer))) refused

gets_offer : (h : HeardMessage) (taken : TakenTask h ToGetParameter) → IsWord (codes "x-Offer") taken.request.body.now
    → (state : State) → h.old.state ≡ state → GetsOffer state h.old taken.request h.ask h.new → Answer h
gets_offer h taken body Init same is =
    Replies (ToDeclined taken.request Session taken.is_request (NoSession refl same)) is
gets_offer h taken body (Ready setup paused) same (inl short) =
    Replies (ToDeclined taken.request Parameter taken.is_request (NoParameter refl)) short.refused
gets_offer h taken body (Ready setup paused) same (inr offers) =
    let film : InReady h.old = record { setup = setup; paused = paused; ready = same } in
    seeks_offer h
    (record { taken = taken; body = body; film = film; wait = offers.wait; has_wait = offers.has_wait })
    offers.offers.planned offers.offers.is_planned offers.offers.asks
gets_offer h taken body _ same is = Replies (ToDeclined taken.request NotNow taken.is_request (NotInPlaying refl)) is

gets : (h : HeardMessage) (taken : TakenTask h ToGetParameter) (topic : Topic) → IsTopic taken.request.body.now topic
    → Gets h.old taken.request topic h.ask h.new → Answer h
gets h taken NoTopic about is = Replies (ToEmpty taken) is
gets h taken Booked about (inl look) = TakesLook taken look
gets h taken Booked about (inr short) =
    Replies (ToDeclined taken.request Memory taken.is_request (NoMemory refl (inr (inr (search arith))))) short.refused
gets h taken OfferTopic about is = gets_offer h taken about h.old.state refl is
gets h taken Unknown about is = Replies (ToDeclined taken.request Parameter taken.is_request (NoParameter refl)) is

does : (h : HeardMessage) (task : Task) (taken : TakenTask h task) → Takes h.old taken.request (Ok task) h.ask h.new
    → Answer h
does h ToOptions taken is = Replies (ToAsked taken) is
does h (ToDescribe asked) taken is = Replies (ToDescribed asked taken is.stored is.at) is.reply
does h (ToSetup film) taken is = sets_up h film taken is.read is.is_read is.done
does h (ToPlay asked) taken is = plays h asked taken h.old.state refl is
does h ToPause taken is = pauses h taken h.old.state refl is
does h ToTeardown taken is = tears h taken h.old.state refl is
does h ToGetParameter taken is = gets h taken is.topic is.is_topic is.gets

takes : (h : HeardMessage) (request : Request) (judgement : Result Task Refusal) → IsReadAs h.message request
    → IsJudged h.old.films h.old.id h.old.state request judgement → Takes h.old request judgement h.ask h.new → Answer h
takes h request (Ok task) read judged is =
    does h task (record { request = request; is_request = read; judged = judged }) is
takes h request (Err refusal) read judged is = Replies (ToRefused request refusal read judged) is

-- every answer to a message is one of the ways of `Answer`
pub answer_to : (h : HeardMessage) → Answer h
answer_to h = elim h.hears [
  | inl fault ↦ Replies (ToFault fault.fault fault.is_fault) fault.refused
  | inr whole ↦ takes h whole.request whole.hears.judgement whole.is_request whole.hears.judged whole.hears.takes
]

-- ---- what an answer says

-- what it asks of the station
abbrev pub asked_by : {h : HeardMessage} → Answer h → Ask
asked_by (StartsPlay play planned asks planned_is) = AskPlay planned.plan
asked_by (HaltsPlay taken hand is) = AskHalt is.asks.keep
asked_by (StopsPlay taken hand is) = AskHalt is.keep
asked_by {h} (TakesLook taken look) = AskLook h.old.heard
asked_by (SeeksOffer offer planned is asks) = AskOffer planned.plan asks.offers
asked_by _ = Reply

-- a play that is halted: no more of it becomes due than what is kept
abbrev pub halting : {old : SessionState} → PlayInHand old → ℕ → AfterHalt → ℕ → SessionState
halting {old} hand keep next sequence = record old {
  state = Playing hand.setup (record hand.play { pacer = record hand.play.pacer { keep = keep } });
  awaited = Halt keep next;
  text = session_text sequence old.id;
}

-- the session that it leaves
abbrev pub made_by : {h : HeardMessage} → Answer h → SessionState
made_by {h} (Replies reply is) = with_reply h.old (reply_of h reply)
made_by {h} (SetsUp film taken setup asks is) =
    record (with_reply h.old
    (setup_text taken.request.sequence setup.media setup.control h.old.source.ssrc h.old.id)) {
      state = Ready setup None;
    }
made_by {h} (StartsPlay play planned asks planned_is) = record h.old {
  awaited = Play (prepared_of h.old asks.stored play.setup planned play.taken.request.sequence);
  text = play_front h.old asks.stored play.setup planned play.taken.request.sequence play.asked.authority.now;
}
made_by (HaltsPlay taken hand is) = halting hand is.asks.keep (Paused is.left) taken.request.sequence
made_by (StopsPlay taken hand is) = halting hand is.keep Torn taken.request.sequence
made_by {h} (EndsSession taken is) =
    record (with_reply h.old (session_text taken.request.sequence h.old.id)) { tearing = true }
made_by {h} (TakesLook taken look) =
    record h.old { looks_left = h.old.looks_left - 1; awaited = Look taken.request.sequence }
made_by {h} (SeeksOffer offer planned is asks) = record h.old { awaited = Offer offer.taken.request.sequence }

answer_is : {h : HeardMessage} (answer : Answer h) → (h.ask ≡ asked_by answer) × (h.new ≡ made_by answer)
answer_is (Replies reply is) = is
answer_is (SetsUp film taken setup asks is) = is
answer_is (StartsPlay play planned asks planned_is) = (asks.command, asks.state)
answer_is (HaltsPlay taken hand is) = (is.asks.command, is.asks.state)
answer_is (StopsPlay taken hand is) = (is.command, is.state)
answer_is (EndsSession taken is) = is
answer_is (TakesLook taken look) = (look.command, look.state)
answer_is (SeeksOffer offer planned is asks) = (asks.command, asks.state)

pub asks_as : {h : HeardMessage} (answer : Answer h) → h.ask ≡ asked_by answer
asks_as answer = (answer_is answer).0

-- what is true for what an answer asks for and leaves, is true for the message
pub by_answer : {h : HeardMessage} (P : Ask → SessionState → Type 0) (answer : Answer h)
    → P (asked_by answer) (made_by answer) → P h.ask h.new
by_answer {h} P answer is = grind (arith, answer_is answer)

pub fault_refuses : (fault : RequestFault) → fault_refusal fault ≢ Memory
fault_refuses fault = grind arith

init_of : (state : State) → has_session_in state ≡ false → state ≡ Init
init_of state given = grind arith

pub is_teardown : {h : HeardMessage} → TakenTask h ToTeardown → IsTeardown h.message
is_teardown taken = grind arith

-- what a SETUP settles, in Init, is in its ranges
pub settled_init : {h : HeardMessage} {film : ℕ} → TakenTask h (ToSetup film) → h.old.state ≡ Init
settled_init {h} taken = init_of h.old.state taken.judged.state

chosen : {own least most n : ℕ} (value : Option (List ℕ)) → IsChosen value own least most n → least ≤ own
    → own ≤ most → (least ≤ n) × (n ≤ most)
chosen value given given' given'' = grind arith

pub settled_ranges : {h : HeardMessage} {film : ℕ} {setup : Setup} (taken : TakenTask h (ToSetup film))
    → AsksForSetup h.old.settings taken.request.head.now film setup → AreSettings h.old.settings
    → IsSetup (length h.old.films) setup
settled_ranges {h} {film} taken asks good =
    let named = taken.judged.film.1.named.film in
    let buffer = chosen _ asks.buffer good.some_buffer good.most_buffer in
    let delay = chosen _ asks.delay (omega arith) good.most_delay in
    search (arith, slice_get_within)

-- memory may run out for a request that a method refuses for it
pub may_lack : {h : HeardMessage} {request : Request} {refusal : Refusal} → OwnCause h request refusal
    → refusal ≡ Memory → MayRunOutOfMemory h.old h.message
may_lack {h} {request} (NoSetup film read) memory = grind arith
may_lack (NoPlan setup paused range is may) memory = may
may_lack (NoMemory same may) memory = may
may_lack (NoSession same init) memory = absurd (let no : ⊥ = cc in no)
may_lack (NotInPlaying same) memory = absurd (let no : ⊥ = cc in no)
may_lack (NoParameter same) memory = absurd (let no : ⊥ = cc in no)
