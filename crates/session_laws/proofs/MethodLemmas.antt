-- What each method does for a request that nothing refuses.
use Rattle.std.specs.Prelude.{⊤}
use Rattle.std.proofs.Common.{◌≡◌, ◌≢◌, ℕ, ◌⊎◌, Bool, true, List, [], codes, string_bytes, Option, Some, None, is_some}
use Rattle.std.proofs.Common.{Result, Ok, Err, refl, sym, ap, subst, ◌∙◌, inl, inr, arith}
use Rattle.session.proofs.SharedTerms.{AreChannelsOf, AreFilms, AsksOfferOr, AsksPlayOr, Channels, IsPlannedRun}
use Rattle.session.proofs.SharedTerms.{curve_refusal, CurveRefused, FitsSession, Gets, GetsOffer, good_name}
use Rattle.session.proofs.SharedTerms.{has_session_in, HasNoPlan, header_value, IsChosen, IsOwnFilm, IsOwnSession}
use Rattle.session.proofs.SharedTerms.{IsPlanned, IsRefused, IsReplied, IsSetUp, IsSetupRead, IsTimely, IsTopic, IsWord}
use Rattle.session.proofs.SharedTerms.{Hears, Method, name_of, Names, play_call, Refusal, code_of, reply_text, Request}
use Rattle.session.proofs.SharedTerms.{Run, session_text, SessionState, Setup, Stored, Topic}
use Rattle.session.specs.declared.commands.Ask.{Ask}
use Rattle.session.specs.declared.plans.Planned.{Planned}
use Rattle.session.specs.declared.states.Play.{Play as Played}
use Rattle.session.specs.declared.states.State.{State}
use Rattle.vod_base.specs.declared.limits.TheConstants.{MAX_BYTES, MAX_DELAY}
use Rattle.wire_curve.specs.declared.film.CurveRefused.TheVariants.{Fault, NoMemory as CurveMemory}
use Rattle.wire_curve.specs.declared.film.CurveFault.TheVariants.{BufferTooSmall}
use Rattle.rtsp_methods.specs.declared.methods.Method.TheVariants.{Options, Describe, Play as PlayMethod, Pause}
use Rattle.rtsp_methods.specs.declared.methods.Method.TheVariants.{Teardown, Setup as SetupMethod, GetParameter}
use Rattle.rtsp_methods.specs.declared.topics.Topic.TheVariants.{Nothing, Booked, Offer as OfferTopic}
use Rattle.rtsp_methods.specs.declared.topics.Topic.TheVariants.{Unknown as OtherTopic}
use Rattle.rtsp_methods.specs.declared.refusals.Refusal.TheVariants.{Session, Film, State as NotNow, Transport}
use Rattle.rtsp_methods.specs.declared.refusals.Refusal.TheVariants.{Parameter, Buffer, Range, Memory}
use Rattle.session.specs.declared.states.State.TheVariants.{Init, Ready, Playing}
use Rattle.session_laws.specs.MethodLaws.{AnswersAlone, GivesChannels, GivesNumber, HasBadNumber, IsDescribeRequest}
use Rattle.session_laws.specs.MethodLaws.{IsFilmDescribed, IsFilmMethod, IsLookAsked, IsOfferAskedOf, IsOptionsAnswered}
use Rattle.session_laws.specs.MethodLaws.{IsParameterRequest, IsPlainMessage, IsPlayAskedOf, IsPlayConfirmed}
use Rattle.session_laws.specs.MethodLaws.{IsPlayRequest, IsRefusedFor, IsSetupAnswered, IsSetupRequest, IsUnknownBody}
use Rattle.session_laws.specs.MethodLaws.{MayNameSession, NamesOtherFilm, NamesSession, PlanRefusal, NoMeaning}
use Rattle.session_laws.specs.MethodLaws.{NoCurves, SmallBuffer, NoMemory, SettlesSetup, setup_in}
use Rattle.session.specs.Methods.{PlaysReady}
use Rattle.session.specs.OfferLaws.{IsWaitIn}
use Rattle.session_laws.specs.RefusalLaws.{IsRefusedBy}
use Rattle.session.specs.RefusalOrder.{FitsFilm, IsSpoken}
use Rattle.film_streams.specs.Setups.{HasChannels}
use Rattle.session.proofs.InitialStateLemmas.{HeardMessage, heard_by}
use Rattle.session_laws.proofs.RequestReadings.{TakenUp, as_read, taken_up}
use Rattle.session_laws.proofs.OfferLemmas.{least_told, offer_asked, wait_in}
use Rattle.session_laws.proofs.PauseTeardownLemmas.{session_told}
use Rattle.session_laws.proofs.PlanUniqueness.{film_at_once, plan_or_none}
use Rattle.session_laws.proofs.RefusalLawLemmas.{refused_as, refused_by}
use Rattle.session_laws.proofs.ReplyContentLemmas.{film_told, setup_told}
use Rattle.rtsp_replies.proofs.ReplyPhrases.{public_told}
use Rattle.session.proofs.RequestUniqueness.{names_once, read_once, topic_once}

-- ---- what a request says

spoken_of : {message : List ℕ} {request : Request} (m : Method) → IsPlainMessage message (name_of m) request
    → IsSpoken request m
spoken_of {request} m plain = grind arith

pub exists_in : (s : State) (setup : Setup) → setup_in s ≡ Some setup → has_session_in s ≡ true
exists_in s setup given = grind arith

pub own_film : (s : State) (film : ℕ) → ((setup : Setup) → setup_in s ≡ Some setup → film ≡ setup.film)
    → IsOwnFilm s film
own_film Init film own = tt
own_film _ film own = own _ refl

-- the session's film is its own
pub its_film : {setup : Setup} (s : State) → setup_in s ≡ Some setup → IsOwnFilm s setup.film
its_film {setup} s set = grind arith

film_of : (s : State) (setup : Setup) (film : ℕ) → setup_in s ≡ Some setup → IsOwnFilm s film → film ≡ setup.film
film_of s setup film given given' = grind arith

pub own_session : {id head : List ℕ} (exists : Bool) (otherwise : Type 0) → exists ≡ true → NamesSession id head
    → IsOwnSession exists id (header_value head (codes "Session")) otherwise
own_session {id} {head} exists otherwise is names = grind arith

-- ---- SETUP

given_channels : {head : List ℕ} {channels : Channels} (value : Option (List ℕ))
    → header_value head (codes "Transport") ≡ value → AreChannelsOf value channels → GivesChannels head channels
given_channels None named is = absurd is
given_channels (Some value) named is = record { value = value; named = named; taken = is }

has_channels : {head : List ℕ} {channels : Channels} → GivesChannels head channels → HasChannels head channels
has_channels {channels} is = subst (λ (v : Option (List ℕ)). AreChannelsOf v channels) (sym is.named) is.taken

chosen : (own least most number : ℕ) (value : Option (List ℕ)) → GivesNumber value own least most number
    → IsChosen value own least most number
chosen own least most number value given = grind arith

unchosen : (own least most number : ℕ) (value : Option (List ℕ)) → IsChosen value own least most number
    → GivesNumber value own least most number
unchosen own least most number value given = grind arith

-- ---- GET_PARAMETER

may_name : {head : List ℕ} (old : SessionState) → MayNameSession old head
    → IsOwnSession (has_session_in old.state) old.id (header_value head (codes "Session")) ⊤
may_name old given = grind arith

-- ---- another film

pub fits_session : {id head : List ℕ} (m : Method) (exists : Bool) → exists ≡ true → NamesSession id head
    → FitsSession m exists id (header_value head (codes "Session"))
fits_session m exists given given' = grind arith

-- a method that is asked of the session's film
film_method : (method : List ℕ) → IsFilmMethod method → (m : Method) × ((m ≢ Options) × ((method ≡ name_of m)
    × ((s : State) (film : ℕ) → FitsFilm m s film → IsOwnFilm s film)))
film_method method (inl is) = (SetupMethod, ((λ same. cc), (is, λ s film fits. fits)))
film_method method (inr (inl is)) = (PlayMethod, ((λ same. cc), (is, λ s film fits. fits)))
film_method method (inr (inr (inl is))) = (Pause, ((λ same. cc), (is, λ s film fits. fits)))
film_method method (inr (inr (inr (inl is)))) = (Teardown, ((λ same. cc), (is, λ s film fits. fits)))
film_method method (inr (inr (inr (inr is)))) = (GetParameter, ((λ same. cc), (is, λ s film fits. fits)))

-- a request that was heard
module _ {old new : SessionState} {message : List ℕ} {ask : Ask} (request : Request) (hears : Hears old message ask new)
  where
    abbrev h : HeardMessage
    h = heard_by hears

    abbrev range : Option (List ℕ)
    range = header_value request.head.now (codes "Range")

    alone_by : {text : List ℕ} → IsReplied old text ask new → AnswersAlone old ask new
    alone_by is = grind arith

    text_by : {text : List ℕ} → IsReplied old text ask new → new.text ≡ text
    text_by is = ap (λ (s : SessionState). s.text) is.1

    declined : (refusal : Refusal) → IsRefused old (Some request.sequence) refusal [] ask new
        → IsRefusedBy old (code_of refusal) request.sequence ask new
    declined refusal is = refused_as h request.sequence refusal [] is

    pub options_answered : IsPlainMessage message (codes "OPTIONS") request
        → IsOptionsAnswered old request.sequence ask new
    options_answered plain =
        let t : TakenUp h request Options = taken_up h request Options plain.is_request
        (search (arith, spoken_of Options plain, spoken_of)) in
        record { alone = alone_by t.does; told = rw (text_by t.does) (public_told request.sequence) }

    pub film_described : IsDescribeRequest old message request → IsFilmDescribed old request ask new
    film_described is =
        let t : TakenUp h request Describe = taken_up h request Describe is.plain.is_request
        (search (arith, spoken_of Describe is.plain, spoken_of)) in
        let named = t.does.1.1.0.named in
        let describes = t.does.1.1.1 in
        let name : string_bytes describes.stored.name ≡ named.name = search in
        record {
          alone = alone_by describes.reply;
          authority = t.does.0;
          film = t.does.1.0;
          stored = describes.stored;
          named = named;
          at = describes.at;
          told = film_told describes named.read (ap good_name name ∙ named.read.name_is.good);
        }

    -- ---- SETUP

    module _ (film : ℕ) (asked : IsSetupRequest old message request film) where
      setup_taken : TakenUp h request SetupMethod
      setup_taken = search (arith, taken_up)

      -- what is read of a SETUP is done
      setup_read : (read : Result Setup Refusal)
          → IsSetupRead old.settings request.head.now setup_taken.does.1.0 read
          → IsSetUp old request.sequence read ask new
      setup_read read is =
          let film = setup_taken.does.1.0 in
          let sets = setup_taken.does.1.1.1 in
          rw (read_once (record { settings = old.settings; head = request.head.now; film = film }) sets.read read
          sets.is_read is) sets.done

      pub setup_answered : (setup : Setup) → AreFilms old.films → SettlesSetup old.settings request.head.now film setup
          → IsSetupAnswered old request.sequence setup ask new
      setup_answered setup films settles =
          let same = names_once films setup_taken.does.1.1.0.named asked.named in
          let is : IsSetUp old request.sequence (Ok setup) ask new = setup_read (Ok setup)
          (search (arith, has_channels settles.channels, has_channels, chosen)) in
          record {
            command = is.0;
            ready = search arith;
            told = setup_told old new request.sequence setup old.counts is;
          }

      pub setup_transport : ((channels : Channels) → ¬ GivesChannels request.head.now channels)
          → IsRefusedBy old 461 request.sequence ask new
      setup_transport none = declined Transport (setup_read (Err Transport) (λ channels has. none channels
          (given_channels (header_value request.head.now (codes "Transport")) refl has)))

      pub setup_number : HasBadNumber old.settings request.head.now → IsRefusedBy old 451 request.sequence ask new
      setup_number bad =
          declined Parameter (setup_read (Err Parameter) (record {
            channels = (bad.channels, has_channels bad.given);
            none = elim bad.bad [
              | inl buffer ↦ inl (λ n has. buffer n (unchosen old.settings.buffer 1 MAX_BYTES n
                  (header_value request.head.now (codes "x-Buffer")) has))
              | inr delay ↦ inr (λ n has. delay n (unchosen old.settings.startup 0 MAX_DELAY n
                  (header_value request.head.now (codes "x-Startup")) has))
            ];
          }))

    -- ---- PLAY

    by_cause : {setup : Setup} {paused : Option Run} {asked : Option (List ℕ)} (refused : CurveRefused)
        → HasNoPlan old setup paused asked (curve_refusal refused)
        → IsRefused old (Some request.sequence) (curve_refusal refused) [] ask new
        → PlanRefusal old setup paused asked request.sequence ask new
    by_cause (Fault (BufferTooSmall slot used least)) none is = SmallBuffer (record {
      least = least;
      why = none;
      alone = alone_by is;
      told = rw (text_by is) (least_told (Some request.sequence) least []);
    })
    by_cause CurveMemory none is = NoMemory (declined Memory is)
    by_cause _ none is = NoCurves (record { why = none; refused = declined Range is })

    plan_refusal : {setup : Setup} {paused : Option Run} {asked : Option (List ℕ)} (refusal : Refusal)
        → IsPlanned old setup paused asked (Err refusal) → IsRefused old (Some request.sequence) refusal [] ask new
        → PlanRefusal old setup paused asked request.sequence ask new
    plan_refusal refusal (inl none) is = NoMeaning (record {
      why = record { stored = none.stored; at = none.at; none = none.none };
      refused = declined Range (rw none.refusal_is at is);
    })
    plan_refusal {setup} {paused} {asked} refusal (inr none) is =
        by_cause none.refused (subst (HasNoPlan old setup paused asked) none.refusal_is none)
        (subst (λ (r : Refusal). IsRefused old (Some request.sequence) r [] ask new) none.refusal_is is)

    module _ (setup : Setup) (is : IsPlayRequest old message request setup) where
      play_taken : setup_in old.state ≡ Some setup → IsTimely old.state request PlayMethod → TakenUp h request PlayMethod
      play_taken set timely =
          taken_up h request PlayMethod is.plain.is_request (search (
            arith,
            spoken_of PlayMethod is.plain,
            exists_in old.state setup set,
            its_film old.state set,
            own_session,
          ))

      pub play_confirmed : {play : Played} → old.state ≡ Playing setup play → range ≡ None
          → IsPlayConfirmed old request.sequence ask new
      play_confirmed playing no_range =
          let t = play_taken (ap setup_in playing) (λ now. ap is_some no_range) in
          let done : IsReplied old (session_text request.sequence old.id) ask new = grind arith in
          record { alone = alone_by done; told = rw (text_by done) (session_told request.sequence old.id) }

      -- in Ready the station is asked for what is planned
      play_planned : (paused : Option Run) (authority : List ℕ) → Names old.films request.url.now authority setup.film
          → (found : Result Planned Refusal) → IsPlanned old setup paused range found
          → AsksPlayOr old (play_call request.sequence authority setup) found ask new
          → IsPlayAskedOf old request setup paused ask new
          ⊎ PlanRefusal old setup paused range request.sequence ask new
      play_planned paused authority named (Ok planned) its (inl asks) = inl
          (search (film_at_once old.films setup.film its.0 asks.stored its.1.at asks.at))
      play_planned paused authority named (Ok planned) its (inr refused) = inr (NoMemory (declined Memory refused))
      play_planned paused authority named (Err refusal) its refused = inr (plan_refusal refusal its refused)

      pub play_ready : (paused : Option Run) → old.state ≡ Ready setup paused
          → IsPlayAskedOf old request setup paused ask new
          ⊎ PlanRefusal old setup paused range request.sequence ask new
      play_ready paused ready =
          let t = play_taken (ap setup_in ready) (λ now. absurd (let no : ⊥ = cc (ready, now) in no)) in
          let done : PlaysReady old (as_read t.place request) t.does.0 setup paused ask new = grind arith in
          play_planned paused t.does.0 (grind arith) done.planned done.is_planned done.asks

      -- one that can be planned asks the station for the play, or memory runs out
      pub play_asked : (paused : Option Run) (stored : Stored) (planned : Planned) → old.state ≡ Ready setup paused
          → IsPlannedRun old stored setup paused range planned
          → IsPlayAskedOf old request setup paused ask new ⊎ IsRefusedBy old 500 request.sequence ask new
      play_asked paused stored planned ready run =
          let none = plan_or_none old setup paused range planned in
          elim (play_ready paused ready) [
            | inl asks ↦ inl asks
            | inr (NoMeaning no_run) ↦ absurd (let same = none Range (stored, run) (inl (search arith)) in cc)
            | inr (NoCurves curves) ↦ absurd (let same = none Range (stored, run) (inr curves.why) in cc)
            | inr (SmallBuffer small) ↦ absurd (let same = none (Buffer small.least) (stored, run) (inr small.why) in cc)
            | inr (NoMemory refused) ↦ inr refused
          ]

    -- ---- GET_PARAMETER

    topic_taken : (topic : Topic) → IsParameterRequest old message request → IsTopic request.body.now topic
        → (place : Request) × Gets old (as_read place request) topic ask new
    topic_taken topic is about =
        let up : TakenUp h request GetParameter = taken_up h request GetParameter is.plain.is_request (search (
          arith,
          spoken_of GetParameter is.plain,
          may_name old is.session,
          own_film old.state is.film.film is.film.own,
          spoken_of,
          may_name,
          own_film,
        )) in
        (up.place, search (arith, topic_once))

    -- a GET_PARAMETER
    module _ (is : IsParameterRequest old message request) where
      pub parameter_alone : request.body.now ≡ [] → AnswersAlone old ask new
      parameter_alone empty = alone_by (topic_taken Nothing is empty).1

      pub parameter_empty : request.body.now ≡ [] → new.text ≡ reply_text 200 (Some request.sequence) [] []
      parameter_empty empty = text_by (topic_taken Nothing is empty).1

      pub parameter_unknown : IsUnknownBody request.body.now → IsRefusedBy old 451 request.sequence ask new
      parameter_unknown body =
          declined Parameter (topic_taken OtherTopic is (body.some, body.no_look, body.no_offer)).1

      pub parameter_look : IsWord (codes "x-Booked") request.body.now → IsLookAsked old request.sequence ask new
          ⊎ IsRefusedFor (old.looks_left ≡ 0) old 500 request.sequence ask new
      parameter_look body = elim (topic_taken Booked is body).1 [
        | inl look ↦ inl (record { command = look.command; leaves = look.state })
        | inr short ↦ inr (record { why = short.later; refused = declined Memory short.refused })
      ]

      -- a request for an offer is processed by the state
      module _ (body : IsWord (codes "x-Offer") request.body.now) where
        offer_taken : {state : State} → old.state ≡ state
            → (place : Request) × GetsOffer state old (as_read place request) ask new
        offer_taken same = grind (arith, topic_taken OfferTopic is body)

        pub offer_no_session : old.state ≡ Init → IsRefusedBy old 454 request.sequence ask new
        offer_no_session init = declined Session (offer_taken init).1

        pub offer_playing : {setup : Setup} {play : Played} → old.state ≡ Playing setup play
            → IsRefusedBy old 455 request.sequence ask new
        offer_playing playing = declined NotNow (offer_taken playing).1

        pub offer_no_wait : {setup : Setup} {paused : Option Run} → old.state ≡ Ready setup paused
            → ((wait : ℕ) → ¬ IsWaitIn request.head.now wait) → IsRefusedBy old 451 request.sequence ask new
        offer_no_wait ready none = elim (offer_taken ready).1 [
          | inl short ↦ declined Parameter short.refused
          | inr offers ↦ absurd (none offers.wait (wait_in request.head.now
              (header_value request.head.now (codes "x-Wait")) offers.wait refl offers.has_wait))
        ]

        offer_planned : (wait : ℕ) {setup : Setup} {paused : Option Run} (found : Result Planned Refusal)
            → IsPlanned old setup paused None found → AsksOfferOr old request.sequence wait found ask new
            → IsOfferAskedOf old message ask new ⊎ PlanRefusal old setup paused None request.sequence ask new
        offer_planned wait (Ok planned) is (inl asks) =
            inl (search (planned.plan, asks.offers, asks.command, offer_asked h asks.command))
        offer_planned wait (Ok planned) is (inr refused) = inr (NoMemory (declined Memory refused))
        offer_planned wait (Err refusal) is refused = inr (plan_refusal refusal is refused)

        pub offer_ready : {setup : Setup} {paused : Option Run} {wait : ℕ} → old.state ≡ Ready setup paused
            → IsWaitIn request.head.now wait
            → IsOfferAskedOf old message ask new ⊎ PlanRefusal old setup paused None request.sequence ask new
        offer_ready {wait = wait} ready waits = elim (offer_taken ready).1 [
          | inl short ↦ absurd (short.none wait (grind arith))
          | inr given ↦ offer_planned _ given.offers.planned given.offers.is_planned given.offers.asks
        ]

    -- ---- another film

    pub film_not_found : {method : List ℕ} {setup : Setup} → IsPlainMessage message method request
        → IsFilmMethod method → setup_in old.state ≡ Some setup → NamesSession old.id request.head.now
        → NamesOtherFilm old.films request.url.now setup.film → IsRefusedBy old 404 request.sequence ask new
    film_not_found {method} {setup} plain is set session other =
        let of = film_method method is in
        refused_by old new message ask request hears plain.is_request Film (record {
          method = of.0;
          talk = search (exists_in old.state setup set, fits_session);
          asked = of.1.0;
          none = λ has. other has.0 has.1.0 has.1.1.named
              (film_of old.state setup has.1.0 set (of.1.1.1 old.state has.1.0 has.1.1.own));
        })
