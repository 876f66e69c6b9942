use Rattle.std.proofs.Common.{◌≡◌, ◌≤◌, ℕ, List, true, false, length, take, drop, rules, ap, sym, subst, ◌∙◌}
use Rattle.std.proofs.lemmas.List.{length-take-le}
use Rattle.std.proofs.lemmas.Result.{err_from_is_err_and}
use Rattle.vod_base.specs.Links.{IsSentPrefix, sends, told_more}
use Rattle.vod_base.specs.IoState.{IsWrittenPrefix}
use Rattle.rtsp_client.specs.HistoryInvariant.{HistoryInvariant}
use Rattle.rtsp_client.specs.ClientHistory.{History}
use Rattle.rtsp_client.specs.Requests.{teardown_text}
use Rattle.rtsp_client.specs.ClientState.{session_of}
use Rattle.rtsp_client.specs.States.{after_frame, has_all}
use Rattle.rtsp_client.proofs.FrameResults.{bad-frame, frame-cut, frame-done, frame-starved, last-cut, last-done}
use Rattle.rtsp_client.proofs.FrameResults.{FoundFrame, TakenFrame, payload-here, source-here, teardown-starved}
use Rattle.rtsp_client.proofs.ObservedSteps.{Watcher, observed-both, observed-handed, sent-part}
use Rattle.rtsp_client.proofs.clients.Client.take_frame.Goals as goal
use Rattle.rtsp_client.proofs.clients.Client.take_frame.Goals.{After-add_frame, After-is_complete}

abbrev watcher : (g : _) (c : After-add_frame g) → History → Watcher
watcher g c h = record { wish = c.args.wish.now; history = h; client = c.args.self.now }

-- the first block is the film's next frame
abbrev found : (g : _) (c : After-add_frame g) (h : History) → HistoryInvariant c.args.wish.now h c.args.self.now
    → FoundFrame (watcher g c h) (take c.args.length c.args.self.now.input)
found g c h k = record {
  source = c.in-Some.source;
  keeps = k;
  next_is = sym (source-here c.args.self.now c.args.length c.waiting.ensures c.source_with.ensures.source)
      ∙ c.in-Some.is;
}

-- it was counted, and its payload was handed on
abbrev taken : (g : _) (c : After-is_complete g) (h : History) → HistoryInvariant c.args.wish.now h c.args.self.now
    → TakenFrame (record { wish = c.args.wish.now; history = h; client = c.args.self.now })
    (take c.args.length c.args.self.now.input)
taken g c h k = record {
  found = record {
    source = c.in-Some.source;
    keeps = k;
    next_is = sym (source-here c.args.self.now c.args.length c.waiting.ensures c.source_with.ensures.source)
        ∙ c.in-Some.is;
  };
  long = subst (λ (i : List ℕ). 20 ≤ length (take c.args.length i)) c.waiting.ensures c.in-Some.ensures.long;
  state = c.add_frame.new.self;
  state_is = c.in_ok-add_frame.ensures
      ∙ ap (after_frame c.args.self.now.watching c.in-Some.source)
      (sym (length-take-le c.args.length c.args.self.now.input c.requires.within));
}

handed : (g : _) (c : After-is_complete g) → g.O.Sink.written c.write_all.new.self
    ≡ told_more (g.O.Sink.written c.args.out.now) (drop 20 (take c.args.length c.args.self.now.input))
handed g c =
    c.in_ok-write_all.ensures.whole
    ∙ ap (told_more (g.O.Sink.written c.args.out.now))
    (payload-here c.args.self.now c.args.length c.waiting.ensures)

pub returns-in_default-clause-ended : goal.returns-in_default-clause-ended
returns-in_default-clause-ended g c = λ h k.
    rw c.tally-number.ensures
    (bad-frame k
    (sym (source-here c.args.self.now c.args.length c.waiting.ensures c.source_with.ensures.source) ∙ c.in_default.is))

pub returns-in_err-add_frame-clause-ended : goal.returns-in_err-add_frame-clause-ended
returns-in_err-add_frame-clause-ended g c =
    let p = err_from_is_err_and c.from_residual.result c.from_residual.ensures.1 in
    rw (p.1, p.2) (λ h k.
    frame-starved (found g (goal.at.returns-in_err-add_frame-clause-ended g c).After-add_frame h k))

pub returns-in_err-write_all-clause-ended : goal.returns-in_err-write_all-clause-ended
returns-in_err-write_all-clause-ended g c =
    let p = err_from_is_err_and c.from_residual-in_err-write_all.result c.from_residual-in_err-write_all.ensures.1 in
    rw (p.1, p.2) (λ h k.
    frame-cut (found g (goal.at.returns-in_err-write_all-clause-ended g c).After-add_frame h k)
    (subst (IsWrittenPrefix (g.O.Sink.written c.args.out.now) (g.O.Sink.written c.write_all.new.self))
    (payload-here c.args.self.now c.args.length c.waiting.ensures) c.in_err-write_all.ensures.front))

pub returns-then-not-is_complete-clause-passed : goal.returns-then-not-is_complete-clause-passed
returns-then-not-is_complete-clause-passed g c = λ h k.
    let at = (goal.at.returns-then-not-is_complete-clause-passed g c).After-is_complete in
    let open_ : has_all c.add_frame.new.self ≡ false = search rules in
    frame-done (taken g at h k) open_ (observed-handed _ _ _ (handed g at))

pub returns-in_err-request-clause-ended : goal.returns-in_err-request-clause-ended
returns-in_err-request-clause-ended g c =
    let p = err_from_is_err_and c.from_residual-in_err-request.result c.from_residual-in_err-request.ensures.1 in
    rw (p.1, p.2) (λ h k.
    teardown-starved (found g (goal.at.returns-in_err-request-clause-ended g c).After-add_frame h k)
    (observed-handed _ _ _ (handed g (goal.at.returns-in_err-request-clause-ended g c).After-is_complete)))

pub returns-in_err-send-clause-ended : goal.returns-in_err-send-clause-ended
returns-in_err-send-clause-ended g c =
    let p = err_from_is_err_and c.from_residual-in_err-send.result c.from_residual-in_err-send.ensures.1 in
    rw (p.1, p.2) (λ h k.
    let at = (goal.at.returns-in_err-send-clause-ended g c).After-is_complete in
    let all : has_all c.add_frame.new.self ≡ true = search rules in
    let text : c.as_slice.result.now ≡ teardown_text c.args.wish.now (session_of c.args.self.now) = search rules in
    last-cut (taken g at h k) all
    (sent-part _
    (subst (IsSentPrefix (g.K.Link.told c.args.link.now) (g.K.Link.told c.send.new.self)) text
    c.in_err-send.ensures.front) (handed g at)))

pub returns-clause-passed : goal.returns-clause-passed
returns-clause-passed g c = λ h k.
    let at = (goal.at.returns-clause-passed g c).After-is_complete in
    let all : has_all c.add_frame.new.self ≡ true = search rules in
    let text : c.as_slice.result.now ≡ teardown_text c.args.wish.now (session_of c.args.self.now) = search rules in
    last-done (taken g at h k) all
    (observed-both _ (teardown_text c.args.wish.now (session_of c.args.self.now)) _ (c.in_ok-send.ensures.whole
    ∙ ap (λ x. told_more (g.K.Link.told c.args.link.now) (sends x)) text) (handed g at))
