-- What a reply comes to.
use Rattle.std.proofs.Common.{◌≡◌, ℕ, ◌+◌, ◌==◌, ◌&&◌, ◌||◌, Bool, true, false, nat_lt, List, []}
use Rattle.std.proofs.Common.{◌∷◌, ◌++◌, take, Option, Some, None, is_some, unwrap_or}
use Rattle.std.proofs.Common.{if◌then◌else◌, refl, sym, ap, subst, ◌∙◌, arith, inl, inr}
use Rattle.std.specs.Prelude.{MatchOption}
use Rattle.std.proofs.lemmas.Bool.{cond-true, cond-false, eq-eqb, ne_eqb}
use Rattle.std.proofs.lemmas.List.{append-nil}
use Rattle.rtsp_client.specs.declared.clients.Client.{Client}
use Rattle.rtsp_client.specs.declared.watch_request.Wish.{Wish}
use Rattle.rtsp_client.specs.declared.watch_request.Watched.{Watched}
use Rattle.rtsp_client.specs.declared.watch_request.WatchEnd.{WatchEnd}
use Rattle.rtsp_client.specs.declared.watch_request.WatchEnd.TheVariants.{Done, Fault, LinkFault, NoMemory}
use Rattle.rtsp_client.specs.declared.watch_request.WatchFault.TheVariants.{BadReply}
use Rattle.rtsp_client.specs.Replies.{IsAnswer, play_range, play_start, setup_session}
use Rattle.rtsp_client.specs.Requests.{play_text}
use Rattle.rtsp_client.specs.ClientHistory.{History, ClientEvent, Reply, replies, session}
use Rattle.rtsp_client.specs.Answers.{Gives, GoesOn, IsOrderly, is_awaited, payload_of, request_after}
use Rattle.rtsp_client.specs.WatchCourses.{IsPrefixOf}
use Rattle.rtsp_client.specs.HistoryInvariant.{HistoryInvariant, StateInvariant}
use Rattle.rtsp_client.specs.ClientState.{IsAwaited, replies_in, session_of}
use Rattle.rtsp_client.specs.States.{State, after_play, has_all}
use Rattle.rtsp_client.specs.ClientSteps.{HasEndedAt, HasTakenEvents, Observed, observed_more}
use Rattle.rtsp_client.proofs.HistorySteps.{PlayRead, complete-is, keeps-first, keeps-play}
use Rattle.rtsp_client.proofs.ObservedSteps.{HasSentPart, ObservedChange, Watcher, no-front, observed-none}

awaited-is : {w : Watcher} → HistoryInvariant w.wish w.history w.client
    → (nat_lt (replies_in w.client) 2 || has_all w.client.watching) ≡ is_awaited w.history
awaited-is {w} k =
    ap (λ n. nat_lt n 2 || has_all w.client.watching) k.replies_are
    ∙ ap (λ b. nat_lt (replies w.history) 2 || b) (complete-is w.wish w.history w.client.watching k.state)

pub orderly : {w : Watcher} {m : List ℕ} {code : ℕ} → HistoryInvariant w.wish w.history w.client
    → IsAwaited w.client m code → IsOrderly w.history m code
orderly {w} {m} {code} k is = record {
  awaited = sym (awaited-is {w = w} k) ∙ is.awaited;
  answer = subst (λ n. IsAnswer m (n + 1) code) k.replies_are is.answer;
}

awaited-from : {w : Watcher} {m : List ℕ} {code : ℕ} → HistoryInvariant w.wish w.history w.client
    → IsOrderly w.history m code → IsAwaited w.client m code
awaited-from {w} {m} {code} k is = record {
  awaited = awaited-is {w = w} k ∙ is.awaited;
  answer = subst (λ n. IsAnswer m (n + 1) code) (sym k.replies_are) is.answer;
}

-- a moment gives the answer: nothing was sent or handed on
pub gives : {wish : Wish} {h : History} {end : WatchEnd} {s : Observed} (m : ClientEvent) → Gives wish h m end
    → HasEndedAt wish h m end s s
gives {s} m is = record { sent = []; out = []; comes = inl (is, refl, refl); sight_is = observed-none s }

-- the reply isn't awaited, or isn't as it should be
pub bad-reply : {w : Watcher} {m : List ℕ} {s : Observed} → HistoryInvariant w.wish w.history w.client
    → ((code : ℕ) → ¬ IsAwaited w.client m code)
    → HasEndedAt w.wish w.history (Reply m) (Fault (BadReply (replies_in w.client + 1))) s s
bad-reply {w} {m} k none =
    gives (Reply m)
    (inl (inl (λ code o. none code (awaited-from {w = w} k o)), ap (λ n. Fault (BadReply (n + 1))) k.replies_are))

-- the reply that is awaited after so many, with code 200
pub record GoodReply (count : ℕ) (c : Client) (m : List ℕ) : Type 0 where
  pub count_is : replies_in c ≡ count
  pub awaited : IsAwaited c m 200

-- whether a reply has its fields that is the next one after so many
abbrev fields_after : List ℕ → ℕ → Bool
fields_after m count =
    if count == 0 then is_some (setup_session m)
    else (if count == 1 then is_some (play_range m) && is_some (play_start m) else true)

-- ---- the reply to SETUP

pub setup-lacks : {w : Watcher} {m : List ℕ} {s : Observed} → HistoryInvariant w.wish w.history w.client
    → GoodReply 0 w.client m → setup_session m ≡ None
    → HasEndedAt w.wish w.history (Reply m) (Fault (BadReply 1)) s s
setup-lacks {w} {m} k reply none =
    let zero_ : replies w.history ≡ 0 = sym k.replies_are ∙ reply.count_is in
    gives (Reply m)
    (inl (
      inr (orderly {w = w} k reply.awaited, ap (fields_after m) zero_ ∙ ap is_some none),
      ap (λ n. Fault (BadReply (n + 1))) (sym zero_),
    ))

-- the reply that is awaited first, with the id of a session
pub record SetupReply (w : Watcher) (m : List ℕ) : Type 0 where
  pub id : List ℕ
  pub keeps : HistoryInvariant w.wish w.history w.client
  pub reply : GoodReply 0 w.client m
  pub session_is : setup_session m ≡ Some id

none-before : {w : Watcher} {m : List ℕ} → SetupReply w m → replies w.history ≡ 0
none-before setup = sym setup.keeps.replies_are ∙ setup.reply.count_is

setup-good : {w : Watcher} {m : List ℕ} → SetupReply w m → GoesOn w.history (Reply m)
setup-good {w} {m} setup = (
  (
    orderly {w = w} setup.keeps setup.reply.awaited,
    ap (fields_after m) (none-before setup) ∙ ap is_some setup.session_is,
  ),
  omega (arith, none-before setup),
)

setup-request : {w : Watcher} {m : List ℕ} (setup : SetupReply w m)
    → request_after w.wish w.history (Reply m) ≡ play_text w.wish setup.id
setup-request {w} setup =
    cond-true (replies w.history == 0) _ _ (eq-eqb (replies w.history) 0 (none-before setup))
    ∙ ap (λ o. play_text w.wish (unwrap_or o [])) setup.session_is

pub setup-starved : {w : Watcher} {m : List ℕ} {s : Observed} → SetupReply w m
    → HasEndedAt w.wish w.history (Reply m) NoMemory s s
setup-starved {s} setup = record {
  sent = [];
  out = [];
  comes = inr (setup-good setup, (refl, no-front []));
  sight_is = observed-none s;
}

pub setup-cut : {w : Watcher} {m : List ℕ} {e : ObservedChange} (setup : SetupReply w m)
    → HasSentPart e (play_text w.wish setup.id) [] → HasEndedAt w.wish w.history (Reply m) LinkFault e.before e.after
setup-cut {w} setup part =
    let front = take part.sent (play_text w.wish setup.id) in
    record {
      sent = front;
      out = [];
      comes = inr (
        setup-good setup,
        (subst (IsPrefixOf front) (sym (setup-request setup)) (part.sent, (part.within, refl)), refl),
      );
      sight_is = part.sight_is;
    }

-- one moment was processed
pub passed-one : {w : Watcher} {m : ClientEvent} {e : ObservedChange} → GoesOn w.history m
    → HistoryInvariant w.wish (m ∷ w.history) w.client
    → e.after ≡ observed_more e.before (request_after w.wish w.history m) (payload_of m)
    → HasTakenEvents w.wish w.history (m ∷ []) w.client e.before e.after
passed-one {w} {m} {e} good keeps is = record {
  good = (good, tt);
  keeps = keeps;
  sight_is = is
      ∙ (ap (λ a. observed_more e.before a (payload_of m)) (sym (append-nil (request_after w.wish w.history m)))
      ∙ ap (observed_more e.before (request_after w.wish w.history m ++ [])) (sym (append-nil (payload_of m))));
}

not-played : (plays : Bool) (n : ℕ) → ◌≡◌ {A = ℕ} (if plays then 2 else n) 0 → plays ≡ false
not-played true n none = absurd (omega (arith, none))
not-played false n none = refl

-- the first reply begins the session
pub first-reply : (c : Client) → replies_in c ≡ 0 → ◌≡◌ {A = ℕ} (if is_some c.watching.play then 2 else 1) 1
first-reply c none =
    cond-false (is_some c.watching.play) 2 1
    (not-played (is_some c.watching.play) (if is_some c.session then 1 else 0) none)

-- the client after it
pub record InSession (c : Client) (id : List ℕ) : Type 0 where
  pub client : Client
  pub replies : replies_in client ≡ 1
  pub session : session_of client ≡ id
  pub watching : client.watching ≡ c.watching

pub setup-done : {w : Watcher} {m : List ℕ} {e : ObservedChange} (setup : SetupReply w m)
    (later : InSession w.client setup.id) → e.after ≡ observed_more e.before (play_text w.wish setup.id) []
    → HasTakenEvents w.wish w.history (Reply m ∷ []) later.client e.before e.after
setup-done {w} {m} {e} setup later sent =
    let zero_ = none-before setup in
    passed-one {w = record w { client = later.client }} {e = e} (setup-good setup)
    (record {
      replies_are = later.replies ∙ ap (λ n. n + 1) (sym zero_);
      session_is =
          later.session
          ∙ sym (cond-true (replies w.history == 0) _ _ (eq-eqb (replies w.history) 0 zero_)
          ∙ ap (λ o. unwrap_or o []) setup.session_is);
      state = keeps-first m (subst (StateInvariant w.wish w.history) (sym later.watching) setup.keeps.state) zero_;
    })
    (sent ∙ ap (λ a. observed_more e.before a []) (sym (setup-request setup)))

-- ---- the reply to PLAY

pub play-lacks : {w : Watcher} {m : List ℕ} {s : Observed} → HistoryInvariant w.wish w.history w.client
    → GoodReply 1 w.client m → (is_some (play_range m) && is_some (play_start m)) ≡ false
    → HasEndedAt w.wish w.history (Reply m) (Fault (BadReply 2)) s s
play-lacks {w} {m} k reply none =
    let one : replies w.history ≡ 1 = sym k.replies_are ∙ reply.count_is in
    gives (Reply m)
    (inl (
      inr (orderly {w = w} k reply.awaited, ap (fields_after m) one ∙ none),
      ap (λ n. Fault (BadReply (n + 1))) (sym one),
    ))

-- the reply that is awaited second, with the play's beginning and end
pub record PlayReply (w : Watcher) (m : List ℕ) : Type 0 where
  pub keeps : HistoryInvariant w.wish w.history w.client
  pub reply : GoodReply 1 w.client m
  pub read : PlayRead m

pub play-done : {w : Watcher} {m : List ℕ} {state : State} {s : Observed} (play : PlayReply w m)
    → state ≡ after_play w.client.watching play.read.start play.read.end_ms
    → HasTakenEvents w.wish w.history (Reply m ∷ []) (record w.client { watching = state }) s s
play-done {w} {m} {state} {s} play state_is =
    let k = play.keeps in
    let h = w.history in
    let one : replies h ≡ 1 = sym k.replies_are ∙ play.reply.count_is in
    let later : (replies h == 0) ≡ false = ne_eqb (replies h) 0 (λ none. absurd (omega (arith, none, one))) in
    passed-one {w = record w { client = record w.client { watching = state } }} {e = record { before = s; after = s }} (
      (
        orderly {w = w} k play.reply.awaited,
        ap (fields_after m) one ∙ (ap (λ o. is_some o && is_some (play_start m)) play.read.end_is
            ∙ ap is_some play.read.start_is),
      ),
      omega (arith, one),
    )
    (record {
      replies_are = ap (λ (s : State). if is_some s.play then 2 else (if is_some w.client.session then 1 else 0))
          state_is
          ∙ ap (λ n. n + 1) (sym one);
      session_is = k.session_is ∙ sym (cond-false (replies h == 0) (unwrap_or (setup_session m) []) (session h) later);
      state = subst (StateInvariant w.wish (Reply m ∷ h)) (sym state_is) (keeps-play k.state one play.read);
    })
    (observed-none s
    ∙ ap (λ a. observed_more s a [])
    (sym (cond-false (replies h == 0) (play_text w.wish (unwrap_or (setup_session m) [])) [] later)))

-- ---- the reply to TEARDOWN

pub watch-done : {w : Watcher} {m : List ℕ} {s : Observed} → HistoryInvariant w.wish w.history w.client
    → GoodReply 2 w.client m → HasEndedAt w.wish w.history (Reply m) (Done w.client.watching.watched) s s
watch-done {w} {m} k reply =
    let two : replies w.history ≡ 2 = sym k.replies_are ∙ reply.count_is in
    gives (Reply m)
    (inr (inr (
      (orderly {w = w} k reply.awaited, ap (fields_after m) two),
      two,
      ap (λ (w : Watched). Done w) k.state.watched_is,
    )))

pub awaited-of : (o : Option ℕ) (c : Client) (m : List ℕ) → (nat_lt (replies_in c) 2 || has_all c.watching) ≡ true
    → MatchOption o ((code : ℕ) → ¬ IsAnswer m (replies_in c + 1) code) (IsAnswer m (replies_in c + 1))
    → MatchOption o ((code : ℕ) → ¬ IsAwaited c m code) (IsAwaited c m)
awaited-of None c m awaited none = λ code is. none code is.answer
awaited-of (Some code) c m awaited is = record { awaited = awaited; answer = is }
