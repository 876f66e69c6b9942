use Rattle.std.proofs.Common.{◌≡◌, [], None, Some, take, rules, refl, sym, ap, subst, ◌∙◌}
use Rattle.std.specs.Prelude.{option_map}
use Rattle.std.specs.Result.{result_ok}
use Rattle.std.proofs.lemmas.Result.{err_from_is_err_and}
use Rattle.vod_base.specs.Links.{IsSentPrefix, sends, told_more}
use Rattle.rtsp_client.specs.declared.watch_request.WatchFault.TheVariants.{BadReply}
use Rattle.rtsp_client.specs.HistoryInvariant.{HistoryInvariant}
use Rattle.rtsp_client.specs.ClientHistory.{History}
use Rattle.rtsp_client.specs.Replies.{setup_session}
use Rattle.rtsp_client.specs.Requests.{play_text}
use Rattle.vod_base.proofs.HistoryLemmas.{told_more-nil}
use Rattle.rtsp_client.proofs.ObservedSteps.{observed-sent, sent-part}
use Rattle.rtsp_client.proofs.Outcomes.{ok-or-err}
use Rattle.rtsp_client.proofs.ReplyResults.{SetupReply, first-reply, setup-cut, setup-done, setup-lacks, setup-starved}
use Rattle.rtsp_client.proofs.clients.Client.take_setup.Goals as goal
use Rattle.rtsp_client.proofs.clients.Client.take_setup.Goals.{After-play_request}

-- the reply is awaited, and names a session
abbrev reply : (g : _) (c : After-play_request g) (h : History) → HistoryInvariant c.args.wish.now h c.args.self.now
    → SetupReply (record { wish = c.args.wish.now; history = h; client = c.args.self.now })
    (take c.args.length c.args.self.now.input)
reply g c h k = record {
  id = c.in_ok-session.session.now;
  keeps = k;
  reply = record { count_is = c.requires.first; awaited = c.requires.good };
  session_is = ap (λ i. setup_session (take c.args.length i)) (sym c.waiting.ensures)
      ∙ sym c.setup_session.ensures
      ∙ ap (option_map (λ s. s.now)) (c.ok_or.ensures.ok_part ∙ ap result_ok (c.in_ok-session.was {u = tt}));
}

pub returns-in_err-session-clause-ended : goal.returns-in_err-session-clause-ended
returns-in_err-session-clause-ended g c =
    let p = err_from_is_err_and c.from_residual.result c.from_residual.ensures.1 in
    let lacks = ok-or-err _ (BadReply 1) (sym (c.in_err-session.was {u = tt}) ∙ c.ok_or.ensures.value) in
    rw (p.1, p.2, lacks.1)
    (λ out h k.
    let here : setup_session (take c.args.length c.waiting.result.now) ≡ None =
    sym c.setup_session.ensures ∙ ap (option_map (λ s. s.now)) lacks.0 in
    setup-lacks k (record { count_is = c.requires.first; awaited = c.requires.good })
    (ap (λ i. setup_session (take c.args.length i)) (sym c.waiting.ensures) ∙ here))

pub returns-in_err-request-clause-ended : goal.returns-in_err-request-clause-ended
returns-in_err-request-clause-ended g c =
    let p = err_from_is_err_and c.from_residual-in_err-request.result c.from_residual-in_err-request.ensures.1 in
    rw (p.1, p.2) (λ out h k.
    setup-starved (reply g (goal.at.returns-in_err-request-clause-ended g c).After-play_request h k))

pub returns-in_err-kept-clause-ended : goal.returns-in_err-kept-clause-ended
returns-in_err-kept-clause-ended g c =
    let p = err_from_is_err_and c.from_residual-in_err-kept.result c.from_residual-in_err-kept.ensures.1 in
    rw (p.1, p.2) (λ out h k.
    setup-starved (reply g (goal.at.returns-in_err-kept-clause-ended g c).After-play_request h k))

pub returns-in_err-send-clause-ended : goal.returns-in_err-send-clause-ended
returns-in_err-send-clause-ended g c =
    let p = err_from_is_err_and c.from_residual-in_err-send.result c.from_residual-in_err-send.ensures.1 in
    rw (p.1, p.2) (λ out h k.
    let text : c.as_slice.result.now ≡ play_text c.args.wish.now c.in_ok-session.session.now =
    c.as_slice.ensures.value ∙ c.in_ok-request.ensures in
    let front : IsSentPrefix (g.K.Link.told c.args.link.now) (g.K.Link.told c.send.new.self)
    c.as_slice.result.now = c.in_err-send.ensures.front in
    setup-cut (reply g (goal.at.returns-in_err-send-clause-ended g c).After-play_request h k)
    (sent-part [] (subst (IsSentPrefix (g.K.Link.told c.args.link.now) (g.K.Link.told c.send.new.self)) text front)
    (sym (told_more-nil out))))

pub returns-clause-passed : goal.returns-clause-passed
returns-clause-passed g c = λ out h k.
    let text : c.as_slice.result.now ≡ play_text c.args.wish.now c.in_ok-session.session.now =
    c.as_slice.ensures.value ∙ c.in_ok-request.ensures in
    let sent : g.K.Link.told c.send.new.self
    ≡ told_more (g.K.Link.told c.args.link.now) (sends c.as_slice.result.now) = c.in_ok-send.ensures.whole in
    setup-done (reply g (goal.at.returns-clause-passed g c).After-play_request h k)
    (record {
      client = record c.args.self.now { session = Some c.in_ok-kept.kept };
      replies = first-reply c.args.self.now c.requires.first;
      session = search rules;
      watching = refl;
    })
    (observed-sent _ _ (play_text c.args.wish.now c.in_ok-session.session.now)
    (sent ∙ ap (λ x. told_more (g.K.Link.told c.args.link.now) (sends x)) text))
