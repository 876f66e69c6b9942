-- What a client that wishes for a film asks of a connection is played and answered as it wished. The replies to two
-- requests before a play stand before its film, and those to requests once it was due after it.
use Rattle.std.specs.Prelude.{⊤}
use Rattle.std.proofs.Common.{true, None, is_some, inl, inr, ◌+◌, ◌≤◌, ◌≡◌, ℕ, zero, suc, ◌<◌, ◌^◌, List, [], ◌∷◌, ◌++◌}
use Rattle.std.proofs.Common.{length, refl, sym, ap, subst, ◌∙◌, arith, drop, sum, slice_index, map}
use Rattle.connection_laws.proofs.Terms.{play_text, setup_text, setup_in, SessionState, has_session_in, State}
use Rattle.connection_laws.proofs.Terms.{HasValidIds, IsAskAnswered, Stage, Entered, Course, FilmPlay, play_by}
use Rattle.connection_laws.proofs.Terms.{plays_of, AreAnswers, framed_bytes, IsAskedFor, AreInRange, AreSentAt}
use Rattle.connection_laws.proofs.Terms.{IsSentAt, IsUnsentAt, slots_from, AreAfter, HasPlayedWhole, IsWholePlay}
use Rattle.connection_laws.proofs.Terms.{film_blocks, playback_of, whole_run, PlacedText, placed_text, course_replies}
use Rattle.connection_laws.proofs.Terms.{course_texts, waiting_reply, text_of, Stored, stored_sizes, Identity}
use Rattle.connection_laws.proofs.Terms.{teardown_text, Wish, course_plays, greatest_slot, AreGoodReplies}
use Rattle.rtsp_text.proofs.MessageUniqueness.{request_once}
use Rattle.session.specs.declared.commands.Ask.TheVariants.{Reply}
use Rattle.session_laws.proofs.CompleteReplyLemmas.{replies_whole, begins_named}
use Rattle.connection_laws.proofs.CourseSteps.{request_stands, replies_sent}
use Rattle.conn.proofs.StationAnswers.{answers_as}
use Rattle.connection_laws.proofs.KeptParts.{LastingPart, taken_keeps, replied_setup, comes_setup}
use Rattle.connection_laws.proofs.CourseInduction.{comes_heard, AnsweredRequest, Piece, joined, request_piece}
use Rattle.connection_laws.proofs.CourseInduction.{asking_of, GoesBack, course_back, begin_of, piece_of}
use Rattle.connection_laws.proofs.CourseInduction.{rounds_requests}
use Rattle.connection_laws.proofs.SetupOnly.{reply_same, AreNoPlays, IsNoPlay, no_play_begins, IsWaiting}
use Rattle.connection_laws.proofs.SetupOnly.{answered_waits, setup_asked, NonePlayed, none_back, event_waits}
use Rattle.connection_laws.proofs.SetupOnly.{none_played}
use Rattle.session_laws.proofs.PlayInReadyLemmas.{play_heard}
use Rattle.session.proofs.InitialStateLemmas.{heard_by}
use Rattle.connection_laws.proofs.ClientSetups.{setup_is, Beginning}
use Rattle.connection_laws.proofs.RequestEffects.{Begins, TurnsAs, turns_as}
use Rattle.connection_laws.proofs.CompleteReplies.{AreTeardowns, AreWhole, admitted_from, answered_named, id_printed}
use Rattle.connection_laws.proofs.CompleteReplies.{play_room, setup_room, TornFrom, torn_back, named_as, own_reply}
use Rattle.connection_laws.proofs.CompleteReplies.{IsTeardownOf}
use Rattle.connection_laws.proofs.FirstPlays.{IsWished, wished_play, WishedFilm}
use Rattle.connection_laws.proofs.FilmReplies.{IsFilmAnswer, IsPlayBegun as IsPlayBegunAt, play_begun as play_begun_at}
use Rattle.connection_laws.proofs.ReplyReadings.{IsSetupRead, setup_read}
use Rattle.connection_laws.proofs.RequestReplies.{IsNamed, named_still, setup_replied}
use Rattle.connection_laws.proofs.BookedPlays.{comes_none}
use Rattle.connection_laws.proofs.Lists.{each_front, each_weaker}
use Rattle.std.proofs.lemmas.List.{append-nil}
use Rattle.connection_laws.specs.ClientRequests.{IsDueBy}
use Rattle.film_run.proofs.PlanLemmas.{sending-keeps}
use Rattle.rtsp_client.proofs.RequestGrammar.{play-asked, setup-asked, teardown-asked}
use Rattle.connection_laws.proofs.Requests.{AreFound, requests_front}
use Rattle.connection_laws.proofs.FilmReading.{run_total}
use Rattle.connection_laws.proofs.ReplyOrder.{replies_in_order}
use Rattle.connection_laws.proofs.EndToEndMeter.{rest_all}
use Rattle.connection_laws.proofs.WatchedFilms.{IsServed}
use Rattle.connection_laws.proofs.AcceptedMoments.{FilmClauses}

-- so many slots at the beginning are before another one
abbrev pub AreBefore : ℕ → ℕ → List ℕ → Type 0
AreBefore zero start slots = ⊤
AreBefore (suc n) start [] = ⊥
AreBefore (suc n) start (slot ∷ slots) = (slot < start) × AreBefore n start slots

-- what comes of a course: its plays
pub record Outlook : Type 0 where
  pub last : List (List ℕ)
  pub last_are : AreNoPlays last
  pub play : FilmPlay
  pub others : List FilmPlay

-- the one play, and the slots in which so many requests and PLAY were processed
pub record IsOnePlay (b : Beginning) (out : Outlook) (slot ahead : ℕ) (slots : List ℕ) : Type 0 where
  pub wished : IsWished b out.play
  pub alone : out.others ≡ []
  pub late : slot < out.play.start
  pub before : AreBefore (suc ahead) out.play.start slots

-- the replies to so many SETUPs, to PLAY and to TEARDOWN, as the client reads them
abbrev pub AreRead : Beginning → ℕ → List (List ℕ) → Type 0
AreRead b zero (reply ∷ replies) = IsFilmAnswer b reply × AreAnswers replies
AreRead b (suc n) (reply ∷ replies) = IsSetupRead reply × AreRead b n replies
AreRead b _ [] = ⊥

-- where no SETUP is to come, there is a session
abbrev pub IsReadyFor : ℕ → SessionState → Type 0
IsReadyFor zero s = has_session_in s.state ≡ true
IsReadyFor (suc n) s = ⊤

-- so it is, and all replies are complete, and read as they are awaited
pub record IsPlayedWhole (b : Beginning) (out : Outlook) (s : SessionState) (ahead : ℕ) (later : Piece) : Type 0 where
  pub one : IsOnePlay b out s.heard ahead later.slots
  pub whole : AreWhole later.replies
  pub ready : IsReadyFor ahead s
  pub read : out.play.start ≤ 2 ^ 62 + 1 → AreRead b ahead later.replies

-- a session that is asked for at most one SETUP, and where it is, has none yet
abbrev pub IsFresh : Wish → List (List ℕ) → SessionState → Type 0
IsFresh wish [] s = ⊤
IsFresh wish (one ∷ []) s = (one ≡ setup_text wish) × (setup_in s.state ≡ None)
IsFresh wish (one ∷ two ∷ ahead) s = ⊥

has_setup : (state : State) → has_session_in state ≡ is_some (setup_in state)
has_setup state = grind arith

-- PLAY is to come in what is processed
pub record IsAhead (b : Beginning) (out : Outlook) (s : SessionState) (ahead : List (List ℕ)) (later : Piece) : Type 0
  where
    pub waits : IsWaiting b s
    pub named : HasValidIds s
    pub fresh : IsFresh b.wish ahead s
    pub requests_are : later.requests ≡ ahead ++ (play_text b.wish b.session ∷ out.last)
    pub teardowns : AreTeardowns b out.last
    pub plays : plays_of later.askings ≡ out.play ∷ out.others

-- so a session leads to it by what comes later
pub record Leads (b : Beginning) (out : Outlook) (s : SessionState) (later : Piece) : Type 0 where
  walk : (ahead : List (List ℕ)) → IsAhead b out s ahead later → IsPlayedWhole b out s (length ahead) later
  torn : TornFrom b s later
  none : NonePlayed s later

-- SETUP asks for no play
pub setup_no_play : (b : Beginning) {message : List ℕ} → message ≡ setup_text b.wish → IsNoPlay message
setup_no_play b {message} is = grind (arith, setup_is b, request_once)

-- a request that is processed, and what comes after it
module _ {b : Beginning} {out : Outlook} {old new : Stage} (request : AnsweredRequest old new) (later : Piece)
    (leads : Leads b out new.session later) where
  open request use {message, outcome, replied}
  open replied use {heard}

  abbrev ArePlays : Type 0
  ArePlays = plays_of (asking_of request ∷ later.askings) ≡ out.play ∷ out.others

  abbrev PlayBegins : Type 0
  PlayBegins = Begins old.session heard.asking.awaited outcome replied.answered

  -- a play that begins is the one that is to come, with those after it
  begun_same : ArePlays → (begins : PlayBegins)
      → (play_by begins.prepared begins.admitted.start later.askings ≡ out.play) × (plays_of later.askings ≡ out.others)
  begun_same plays begins = grind arith

  -- no play begins after PLAY, and one is to come
  turn_begins : ArePlays → plays_of later.askings ≡ []
      → TurnsAs old.session heard.asking.awaited outcome replied.answered → PlayBegins
  turn_begins given given' given'' = search arith

  taken_walk : (ahead : List (List ℕ)) → IsAhead b out old.session ahead (joined (request_piece request) later)
      → IsPlayedWhole b out old.session (length ahead) (joined (request_piece request) later)
  -- where all SETUPs were processed, PLAY is processed
  taken_walk [] is =
      let at : message ≡ play_text b.wish b.session = cc is.requests_are in
      let rest : later.requests ≡ out.last = cc is.requests_are in
      let none = leads.none (request_stands request is.waits.stands) (rw rest out.last_are) in
      let begins = turn_begins is.plays none (turns_as heard) in
      let same = begun_same is.plays begins in
      let late = subst (λ (p : FilmPlay). old.session.heard < p.start) same.0 begins.admitted.later in
      let hears = play_heard (heard_by heard.hears)
      (record { rest = is.waits.stands.rest; asks = begins.asked_is }) in
      let admitted = admitted_from begins.admitted.answer (answers_as heard.ask (Entered begins.placed)
      (subst (λ o. IsAskAnswered heard.asking heard.ask o replied.answered) begins.outcome_is heard.answered)) in
      let whole = admitted.whole (replies_whole old.session message heard.ask heard.asking is.named
      (play_room b at) heard.hears) begins.admitted.small in
      let begun = subst (λ (p : FilmPlay). IsPlayBegunAt b p.start old.session replied.answered) same.0
      (play_begun_at is.waits is.named heard at begins whole) in
      let own : IsNamed b new.session = rw replied.new_is (named_still (replied_setup replied.answered) begun.own) in
      let after = leads.torn (answered_named request is.named) own (rw rest is.teardowns) in
      record {
        one = record {
          wished = subst (IsWished b) same.0 (wished_play is.waits at hears refl refl refl);
          alone = sym same.1 ∙ none;
          late = late;
          before = (late, tt);
        };
        whole = (whole, after.0);
        ready = begun.ready;
        read = λ few. (begun.answer few, after.1);
      }
  -- SETUP is processed before PLAY, and its reply is complete, and read where there is a session after it
  taken_walk (one ∷ []) is =
      let at : message ≡ setup_text b.wish = cc (is.requests_are, is.fresh.0) in
      let none = no_play_begins request is.waits.stands (setup_no_play b at) later.askings in
      let next = leads.walk [] (search (arith, answered_named request is.named, answered_waits)) in
      let slot = ap (λ (part : LastingPart). part.heard) (taken_keeps replied) in
      let late : old.session.heard < out.play.start = omega (arith, slot, next.one.late) in
      let reply : heard.ask ≡ Reply = (setup_asked request at is.waits).0 in
      let same = reply_same heard.asking heard.ask outcome replied.answered reply heard.answered in
      let own = own_reply (answers_as heard.ask outcome heard.answered) (rw reply tt) in
      let whole = own.whole (replies_whole old.session message heard.ask heard.asking is.named
      (setup_room b at) heard.hears) in
      let fresh : setup_in old.session.state ≡ None = is.fresh.1 in
      let ready : has_session_in new.session.state ≡ true = next.ready in
      let read : IsSetupRead replied.answered.text = elim (setup_replied b request at) [
        | inl still ↦ search (arith, replied_setup replied.answered, has_setup new.session.state)
        | inr text ↦ setup_read old.session.source.ssrc old.session.id whole (id_printed is.named)
            (ap (λ (s : SessionState). s.text) same ∙ text)
      ] in
      record { one = assumption; whole = (whole, next.whole); ready = tt; read = λ few. (read, next.read few) }
  taken_walk (one ∷ two ∷ ahead) is = absurd is.fresh

leads_back : (b : Beginning) (out : Outlook) → GoesBack (Leads b out)
leads_back b out = record {
  request = λ old new request later leads. record {
    walk = taken_walk request later leads;
    torn = (torn_back b).request old new request later leads.torn;
    none = none_back.request old new request later leads.none;
  };
  event = λ old opened round comes later leads. record {
    walk = λ ahead is.
        let same = comes_setup comes in
        let heard = comes_heard comes in
        let rest = leads.walk ahead (record {
          waits = event_waits comes is.waits;
          named = named_as same.names is.named;
          fresh = grind arith;
          requests_are = is.requests_are;
          teardowns = is.teardowns;
          plays = cc (comes_none comes later.askings, is.plays);
        }) in
        let one = rest.one in
        record {
          one = search arith;
          whole = rest.whole;
          ready = grind arith;
          read = rest.read;
        };
    torn = (torn_back b).event old opened round comes later leads.torn;
    none = none_back.event old opened round comes later leads.none;
  };
}

ahead_some : (ahead : List (List ℕ)) (x : List ℕ) (xs : List (List ℕ)) → [] ≡ ahead ++ (x ∷ xs) → ⊥
ahead_some [] x xs is = cc
ahead_some (y ∷ ahead) x xs is = cc

-- from the beginning of a course
pub course_walk : {b : Beginning} {out : Outlook} (course : Course) (ahead : List (List ℕ))
    → IsAhead b out (begin_of course).session ahead (piece_of course)
    → IsPlayedWhole b out (begin_of course).session (length ahead) (piece_of course)
course_walk {b} {out} course ahead is =
    (course_back (leads_back b out) course (search (arith, ahead_some))).walk ahead is

-- a reply before the play is sent, at the film's first place
sent_first : {play : FilmPlay} {now slot : ℕ} {placed : PlacedText} → play.before ≡ 0 → slot < play.start
    → IsSentAt now (play ∷ []) slot placed → placed ≡ placed_text 0 placed.text
sent_first {play} {now} {slot} {placed} before late sent = grind arith

never_unsent : {slot : ℕ} (play : FilmPlay) (now : ℕ) → play.before ≡ 0 → slot < play.start
    → IsUnsentAt now (play ∷ []) slot → ⊥
never_unsent {slot} play now before late unsent = grind arith

-- replies to requests that were processed once the film was due stand after it
after_film : (play : FilmPlay) (now : ℕ) (slots : List ℕ) (texts : List PlacedText) → IsDueBy play slots
    → AreSentAt now (play ∷ []) slots texts → AreWhole (map text_of texts) → AreAfter play.keep texts
after_film play now slots [] due sent whole = tt
after_film play now [] (placed ∷ texts) due sent whole = absurd sent
after_film play now (slot ∷ slots) (placed ∷ texts) due sent whole =
    (omega (arith, sent.0.next.after, due.0), whole.0, after_film play now slots texts due.1 sent.1 whole.1)

-- two first replies, and the others after the film
pub record AreTwoFirst (total : ℕ) (texts : List PlacedText) : Type 0 where
  pub first : List ℕ
  pub second : List ℕ
  pub later : List PlacedText
  pub texts_are : texts ≡ placed_text 0 first ∷ placed_text 0 second ∷ later
  pub after : AreAfter total later

-- replies of a course with one play, two of them to requests before it
pub record AreReplies (play : FilmPlay) (now total : ℕ) (slots : List ℕ) (texts : List PlacedText) : Type 0 where
  pub begins : play.before ≡ 0
  pub total_is : total ≡ play.keep
  pub before : AreBefore 2 play.start slots
  pub due : IsDueBy play (drop 2 slots)
  pub sent : AreSentAt now (play ∷ []) slots texts
  pub messages : AreWhole (map text_of texts)

pub two_first : {play : FilmPlay} {now total : ℕ} (slots : List ℕ) (texts : List PlacedText)
    → AreReplies play now total slots texts → AreTwoFirst total texts
two_first [] texts replies = absurd replies.before
two_first (one ∷ []) texts replies = absurd replies.before.1
two_first {play} {now} (one ∷ two ∷ slots) [] replies = search never_unsent
two_first {play} {now} (one ∷ two ∷ slots) (first ∷ []) replies = search never_unsent
two_first {play} {now} (one ∷ two ∷ slots) (first ∷ second ∷ later) replies = search (
  arith,
  sent_first replies.begins replies.before.0 replies.sent.0,
  sent_first replies.begins replies.before.1.0 replies.sent.1.0,
  after_film play now slots later replies.due replies.sent.1.1 replies.messages.1.1,
)

-- TEARDOWN asks for no play
pub teardown_no_play : (b : Beginning) {message : List ℕ} → message ≡ teardown_text b.wish b.session → IsNoPlay message
teardown_no_play b {message} is =
    grind (arith, teardown-asked b.wish b.session b.wished b.port b.session_is, request_once)

-- the requests of a client, and those of them that a connection processed
pub record AreAsked (b : Beginning) (requests : List (List ℕ)) : Type 0 where
  pub last : List (List ℕ)
  pub requests_are : requests ≡ setup_text b.wish ∷ play_text b.wish b.session ∷ last
  pub teardowns : AreTeardowns b last

abbrev all_texts : Beginning → List (List ℕ)
all_texts b = setup_text b.wish ∷ play_text b.wish b.session ∷ teardown_text b.wish b.session ∷ []

requests_asked : (b : Beginning) (requests more : List (List ℕ)) → all_texts b ≡ requests ++ more
    → (AreNoPlays requests → ⊥) → AreAsked b requests
requests_asked b [] more is some = absurd (some tt)
requests_asked b (one ∷ []) more is some = absurd (some (setup_no_play b (cc), tt))
requests_asked b (one ∷ two ∷ []) more is some = record { last = []; requests_are = cc; teardowns = tt }
requests_asked b (one ∷ two ∷ three ∷ []) more is some = search arith
requests_asked b (one ∷ two ∷ three ∷ four ∷ last) more is some = cc

whole_total : {wish : Wish} {stored : Stored} {identity : Identity} {play : FilmPlay}
    → IsWholePlay wish stored identity play → length (framed_bytes (film_blocks stored identity)) ≡ play.keep
whole_total {wish} {stored} {identity} {play} whole =
    let keeps = sending-keeps (stored_sizes stored) (playback_of wish stored) (whole_run stored) play.plan
    whole.sending in
    omega (arith, keeps.bytes, ap sum (rest_all stored), run_total stored.film identity, whole.keep)

answers_front : (front rest : List (List ℕ)) → AreAnswers (front ++ rest) → AreAnswers front
answers_front [] rest are = tt
answers_front (message ∷ front) rest are = (are.0, answers_front front rest are.1)

module _ {wish : Wish} {stored : Stored} {course : Course} (asked : IsAskedFor wish stored course) where
  abbrev pub beginning_of : Beginning
  beginning_of = record {
    wish = wish;
    start = (begin_of course).session;
    session = asked.session;
    wished = asked.wished;
    port = asked.port;
    session_is = asked.session_is;
    slot_units = asked.slot_units;
  }

  -- the film of the wished name
  asked_film : (film : WishedFilm beginning_of) → film.stored ≡ stored
  asked_film film = asked.named film.number film.stored film.at film.name_is

  first_waits : IsWaiting beginning_of (begin_of course).session
  first_waits = grind arith

  pub requests_of : AreAsked beginning_of (rounds_requests course.rounds)
  requests_of =
      let session = asked.session in
      let found : AreFound (all_texts beginning_of) = (
        (setup-asked wish asked.wished asked.port).found,
        (
          (play-asked wish session asked.wished asked.port asked.session_is).found,
          ((teardown-asked wish session asked.wished asked.port asked.session_is).found, tt),
        ),
      ) in
      let its = requests_front course (all_texts beginning_of) found
      (rw (append-nil (teardown_text wish session)) asked.heard) in
      requests_asked beginning_of (rounds_requests course.rounds) its.0 its.1
      (λ none. cc (none_played course none, asked.plays))

  abbrev pub outlook_of : AreAsked beginning_of (rounds_requests course.rounds) → Outlook
  outlook_of its = record {
    last = its.last;
    last_are = each_weaker (IsTeardownOf beginning_of) IsNoPlay
        (λ message is. teardown_no_play beginning_of is) its.last its.teardowns;
    play = asked.play;
    others = asked.others;
  }

  pub one_play : IsPlayedWhole beginning_of (outlook_of requests_of) (begin_of course).session 1 (piece_of course)
  one_play =
      course_walk course (setup_text wish ∷ [])
      (search (arith, begins_named course.films course.settings course.words asked.films, first_waits))

  pub asked_played : (played : HasPlayedWhole wish stored course) × (played.play ≡ asked.play)
  asked_played =
      let played = one_play in
      let one = played.one in
      let play = asked.play in
      let plays : course_plays course ≡ play ∷ [] = asked.plays ∙ ap (λ l. play ∷ l) one.alone in
      let whole : IsWholePlay wish stored one.wished.identity play = grind (arith, asked_film one.wished.film) in
      let slots = slots_from 0 course.rounds in
      let texts = course_texts course in
      let total = length (framed_bytes (film_blocks stored one.wished.identity)) in
      let replies : AreReplies play (greatest_slot course.rounds) total slots texts =
      search (arith, whole_total whole, replies_sent course, replies_in_order course, each_front) in
      let two = two_first slots texts replies in
      let messages = rw two.texts_are at replies.messages in (
        record {
          identity = one.wished.identity;
          play = play;
          plays = plays;
          whole = whole;
          setup = two.first;
          played = two.second;
          later = two.later;
          texts = two.texts_are;
          setup_is = messages.0;
          played_is = messages.1.0;
          after = two.after;
        },
        refl,
      )

  -- its source is the connection's random word
  pub asked_source : asked_played.0.identity.ssrc ≡ slice_index course.words 2
  unfolding asked_played
  asked_source = one_play.one.wished.ssrc

  pub good_replies : asked.play.start ≤ 2 ^ 62 + 1 → (played : HasPlayedWhole wish stored course)
      → AreGoodReplies stored.film played.setup played.played (map text_of played.later)
  good_replies few played =
      let waiting = waiting_reply course.last.session in
      let texts : course_replies course
      ≡ played.setup ∷ played.played ∷ (map text_of played.later ++ waiting) = search
      (arith, replies_in_order course) in
      let its = rw texts at (one_play.read few) in
      let answer : IsFilmAnswer beginning_of played.played = its.1.0 in
      let play = rw (asked_film answer.film) at answer.answer in
      record {
        setup_is = its.0.answer;
        session = its.0.named;
        played_is = play.answer;
        range = play.range;
        start = play.start;
        later_are = answers_front (map text_of played.later) waiting its.1.1;
      }

  -- a film that was asked for is served to a client, whose clauses on frames these are
  pub asked_served : AreInRange course asked.play → FilmClauses → IsServed wish stored course
  asked_served range clauses = record {
    played = asked_played.0;
    small = let small = range.ssrc in omega (arith, small, asked_source);
    replies = good_replies range.start asked_played.0;
    clauses = clauses;
  }

  -- its play is the one that was admitted
  pub asked_play : (range : AreInRange course asked.play) (clauses : FilmClauses)
      → asked.play ≡ (asked_served range clauses).played.play
  unfolding asked_served
  asked_play range clauses = sym asked_played.1
