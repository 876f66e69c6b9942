-- What a frame, a report and a slot come to.
use Rattle.std.proofs.Common.{◌≡◌, ℕ, ◌≤◌, ◌-◌, ◌==◌, true, false, List, [], ◌∷◌, length, take}
use Rattle.std.proofs.Common.{drop, Option, Some, None, is_some, refl, sym, ap, subst, ◌∙◌, inr}
use Rattle.std.proofs.lemmas.Bool.{cond-true, cond-false, ne_eqb}
use Rattle.vod_base.specs.IoState.{IsWrittenPrefix}
use Rattle.rtsp_client.specs.declared.clients.Client.{Client}
use Rattle.rtsp_client.specs.declared.frames.RtpSource.{RtpSource}
use Rattle.rtsp_client.specs.declared.watch_request.Watched.{Watched}
use Rattle.rtsp_client.specs.declared.watch_request.WatchEnd.TheVariants.{Fault, LinkFault, SinkFault, NoMemory}
use Rattle.rtsp_client.specs.declared.watch_request.WatchFault.TheVariants.{BadFrame}
use Rattle.rtsp_client.specs.Requests.{teardown_text}
use Rattle.rtsp_client.specs.ClientHistory.{Frame, Report, session}
use Rattle.rtsp_client.specs.Films.{is_complete}
use Rattle.rtsp_client.specs.Answers.{GoesOn, block_events, request_after}
use Rattle.rtsp_client.specs.WatchCourses.{IsPrefixOf}
use Rattle.rtsp_client.specs.HistoryInvariant.{HistoryInvariant, StateInvariant}
use Rattle.rtsp_client.specs.ClientState.{session_of}
use Rattle.rtsp_client.specs.States.{State, after_frame, after_report, has_all, source_with}
use Rattle.rtsp_client.specs.ClientSteps.{HasEndedAt, HasTakenEvents, Observed, observed, observed_more}
use Rattle.rtsp_client.proofs.HistorySteps.{complete-is, good-is, keeps-frame, keeps-report, replies-same, report-play}
use Rattle.rtsp_client.proofs.ReplyResults.{gives, passed-one}
use Rattle.rtsp_client.proofs.Sources.{rest-whole}
use Rattle.rtsp_client.proofs.ObservedSteps.{HasSentPart, ObservedChange, Watcher, all-front, no-front, observed-handed}
use Rattle.rtsp_client.proofs.ObservedSteps.{observed-none}

-- it isn't the next frame
pub bad-frame : {w : Watcher} {b : List ℕ} {s : Observed} → HistoryInvariant w.wish w.history w.client
    → source_with w.client.watching b ≡ None
    → HasEndedAt w.wish w.history (Frame b) (Fault (BadFrame w.client.watching.watched.frames)) s s
bad-frame {w} {b} k none =
    gives (Frame b) (
      good-is w.wish w.history w.client.watching b k.state ∙ ap is_some none,
      ap (λ (w : Watched). Fault (BadFrame w.frames)) k.state.watched_is,
    )

-- what the frames say with the first block, and the block's payload, where `w` is the input
pub source-here : {w : List ℕ} {found : Option RtpSource} (c : Client) (n : ℕ) → w ≡ c.input
    → found ≡ source_with c.watching (take n w) → found ≡ source_with c.watching (take n c.input)
source-here c n same found = found ∙ ap (λ i. source_with c.watching (take n i)) same

pub payload-here : {w : List ℕ} (c : Client) (n : ℕ) → w ≡ c.input
    → take (length (take n w) - 20) (drop 20 (take n w)) ≡ drop 20 (take n c.input)
payload-here {w} c n same = rest-whole 20 (take n w) ∙ ap (λ i. drop 20 (take n i)) same

-- a block is the film's next frame
pub record FoundFrame (w : Watcher) (b : List ℕ) : Type 0 where
  pub source : RtpSource
  pub keeps : HistoryInvariant w.wish w.history w.client
  pub next_is : source_with w.client.watching b ≡ Some source

frame-good : {w : Watcher} {b : List ℕ} → FoundFrame w b → GoesOn w.history (Frame b)
frame-good {w} {b} found = good-is w.wish w.history w.client.watching b found.keeps.state ∙ ap is_some found.next_is

-- there was no memory, before the payload was handed on or after it
pub frame-starved : {w : Watcher} {b : List ℕ} {s : Observed} → FoundFrame w b
    → HasEndedAt w.wish w.history (Frame b) NoMemory s s
frame-starved {b} {s} found = record {
  sent = [];
  out = [];
  comes = inr (frame-good found, (refl, no-front (drop 20 b)));
  sight_is = observed-none s;
}

pub teardown-starved : {w : Watcher} {b : List ℕ} {e : ObservedChange} → FoundFrame w b
    → e.after ≡ observed_more e.before [] (drop 20 b)
    → HasEndedAt w.wish w.history (Frame b) NoMemory e.before e.after
teardown-starved {b} found handed = record {
  sent = [];
  out = drop 20 b;
  comes = inr (frame-good found, (refl, all-front (drop 20 b)));
  sight_is = handed;
}

-- the output failed
pub frame-cut : {w : Watcher} {b : List ℕ} {s : Observed} {new : Option (List ℕ)} → FoundFrame w b
    → IsWrittenPrefix s.out new (drop 20 b)
    → HasEndedAt w.wish w.history (Frame b) SinkFault s (observed s.told new)
frame-cut {b} found front = record {
  sent = [];
  out = take front.0 (drop 20 b);
  comes = inr (frame-good found, (refl, (front.0, (front.1.0, refl))));
  sight_is = observed-handed _ _ (take front.0 (drop 20 b)) front.1.1;
}

-- the film's next frame was counted
pub record TakenFrame (w : Watcher) (b : List ℕ) : Type 0 where
  pub found : FoundFrame w b
  pub long : 20 ≤ length b
  pub state : State
  pub state_is : state ≡ after_frame w.client.watching found.source (length b)

-- the client after the frame
keeps-taken : {w : Watcher} {b : List ℕ} (taken : TakenFrame w b)
    → HistoryInvariant w.wish (Frame b ∷ w.history) (record w.client { watching = taken.state })
keeps-taken {w} {b} taken =
    let k = taken.found.keeps in
    record {
      replies_are = replies-same w.client taken.state (ap (λ (s : State). s.play) taken.state_is) ∙ k.replies_are;
      session_is = k.session_is;
      state = subst (StateInvariant w.wish (Frame b ∷ w.history)) (sym taken.state_is)
          (keeps-frame k.state taken.found.next_is taken.long);
    }

complete-now : {w : Watcher} {b : List ℕ} (taken : TakenFrame w b)
    → has_all taken.state ≡ is_complete (Frame b ∷ w.history)
complete-now {w} {b} taken = complete-is w.wish (Frame b ∷ w.history) taken.state (keeps-taken taken).state

-- it goes on, and no request is sent
pub frame-done : {w : Watcher} {b : List ℕ} {e : ObservedChange} (taken : TakenFrame w b)
    → has_all taken.state ≡ false → e.after ≡ observed_more e.before [] (drop 20 b)
    → HasTakenEvents w.wish w.history (Frame b ∷ []) (record w.client { watching = taken.state }) e.before e.after
frame-done {w} {b} {e} taken open_ handed =
    passed-one {w = record w { client = record w.client { watching = taken.state } }} {e = e}
    (frame-good taken.found) (keeps-taken taken)
    (handed ∙ ap (λ a. observed_more e.before a (drop 20 b)) (sym (cond-false (is_complete (Frame b ∷ w.history))
    (teardown_text w.wish (session w.history)) [] (sym (complete-now taken) ∙ open_))))

request-last : {w : Watcher} {b : List ℕ} (taken : TakenFrame w b) → has_all taken.state ≡ true
    → request_after w.wish w.history (Frame b) ≡ teardown_text w.wish (session_of w.client)
request-last {w} {b} taken all =
    cond-true (is_complete (Frame b ∷ w.history)) (teardown_text w.wish (session w.history)) []
    (sym (complete-now taken) ∙ all)
    ∙ ap (teardown_text w.wish) (sym taken.found.keeps.session_is)

-- all units are complete, and TEARDOWN was sent
pub last-done : {w : Watcher} {b : List ℕ} {e : ObservedChange} (taken : TakenFrame w b)
    → has_all taken.state ≡ true
    → e.after ≡ observed_more e.before (teardown_text w.wish (session_of w.client)) (drop 20 b)
    → HasTakenEvents w.wish w.history (Frame b ∷ []) (record w.client { watching = taken.state }) e.before e.after
last-done {w} {b} {e} taken all sent =
    passed-one {w = record w { client = record w.client { watching = taken.state } }} {e = e}
    (frame-good taken.found) (keeps-taken taken)
    (sent ∙ ap (λ a. observed_more e.before a (drop 20 b)) (sym (request-last taken all)))

-- or TEARDOWN was sent in part
pub last-cut : {w : Watcher} {b : List ℕ} {e : ObservedChange} (taken : TakenFrame w b) → has_all taken.state ≡ true
    → HasSentPart e (teardown_text w.wish (session_of w.client)) (drop 20 b)
    → HasEndedAt w.wish w.history (Frame b) LinkFault e.before e.after
last-cut {w} {b} taken all part =
    let front = take part.sent (teardown_text w.wish (session_of w.client)) in
    record {
      sent = front;
      out = drop 20 b;
      comes = inr (
        frame-good taken.found,
        (subst (IsPrefixOf front) (sym (request-last taken all)) (part.sent, (part.within, refl)), refl),
      );
      sight_is = part.sight_is;
    }

-- ---- a report

pub report-done : {w : Watcher} {b : List ℕ} {state : State} {s : Observed} → HistoryInvariant w.wish w.history w.client
    → state ≡ after_report w.client.watching (length b)
    → HasTakenEvents w.wish w.history (Report b ∷ []) (record w.client { watching = state }) s s
report-done {w} {b} {state} {s} k is =
    passed-one {w = record w {
      client = record w.client { watching = state };
    }} {e = record { before = s; after = s }} tt
    (record {
      replies_are = replies-same w.client state (ap (λ (s : State). s.play) is
          ∙ report-play w.client.watching (length b))
          ∙ k.replies_are;
      session_is = k.session_is;
      state = subst (StateInvariant w.wish (Report b ∷ w.history)) (sym is)
          (keeps-report w.wish w.history w.client.watching b k.state);
    })
    (observed-none s)

-- a block on another channel is no moment
pub other-moments : (channel : ℕ) (b : List ℕ) → (channel ≡ 0 → ⊥) → (channel ≡ 1 → ⊥) → block_events channel b ≡ []
other-moments channel b not_frame not_report =
    cond-false (channel == 0) _ _ (ne_eqb channel 0 not_frame)
    ∙ cond-false (channel == 1) _ _ (ne_eqb channel 1 not_report)
