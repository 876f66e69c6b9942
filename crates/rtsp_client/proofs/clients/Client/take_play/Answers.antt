use Rattle.std.proofs.Common.{◌≡◌, ◌&&◌, Some, None, is_some, take, sym, ap, ◌∙◌}
use Rattle.std.specs.Result.{result_ok}
use Rattle.std.proofs.lemmas.Result.{err_from_is_err_and}
use Rattle.rtsp_client.specs.declared.watch_request.WatchFault.TheVariants.{BadReply}
use Rattle.rtsp_client.specs.Replies.{play_range, play_start}
use Rattle.rtsp_client.proofs.Outcomes.{ok-or-err}
use Rattle.rtsp_client.proofs.ReplyResults.{play-done, play-lacks}
use Rattle.rtsp_client.proofs.clients.Client.take_play.Goals as goal

pub returns-in_err-end_ms-clause-ended : goal.returns-in_err-end_ms-clause-ended
returns-in_err-end_ms-clause-ended c =
    let p = err_from_is_err_and c.from_residual.result c.from_residual.ensures.1 in
    let lacks = ok-or-err _ (BadReply 2) (sym (c.in_err-end_ms.was {u = tt}) ∙ c.ok_or.ensures.value) in
    rw (p.1, p.2, lacks.1)
    (λ told out h k.
    let range : play_range (take c.args.length c.args.self.now.input) ≡ None =
    ap (λ i. play_range (take c.args.length i)) (sym c.waiting.ensures)
    ∙ (sym c.play_range.ensures.range ∙ lacks.0) in
    play-lacks k (record { count_is = c.requires.second; awaited = c.requires.good })
    (ap (λ o. is_some o && is_some (play_start (take c.args.length c.args.self.now.input))) range))

pub returns-in_err-start-clause-ended : goal.returns-in_err-start-clause-ended
returns-in_err-start-clause-ended c =
    let p = err_from_is_err_and c.from_residual-in_err-start.result c.from_residual-in_err-start.ensures.1 in
    let lacks = ok-or-err _ (BadReply 2) (sym (c.in_err-start.was {u = tt}) ∙ c.ok_or-2.ensures.value) in
    rw (p.1, p.2, lacks.1)
    (λ told out h k.
    let range : play_range (take c.args.length c.args.self.now.input) ≡ Some c.in_ok-end_ms.end_ms =
    ap (λ i. play_range (take c.args.length i)) (sym c.waiting.ensures)
    ∙ (sym c.play_range.ensures.range ∙ (c.ok_or.ensures.ok_part ∙ ap result_ok (c.in_ok-end_ms.was {u = tt}))) in
    let start : play_start (take c.args.length c.args.self.now.input) ≡ None =
    ap (λ i. play_start (take c.args.length i)) (sym c.waiting.ensures) ∙ (sym c.play_start.ensures ∙ lacks.0) in
    play-lacks k (record { count_is = c.requires.second; awaited = c.requires.good })
    (ap (λ o. is_some o && is_some (play_start (take c.args.length c.args.self.now.input))) range ∙ ap is_some start))

pub returns-clause-passed : goal.returns-clause-passed
returns-clause-passed c = λ told out h k.
    let range : play_range (take c.args.length c.args.self.now.input) ≡ Some c.in_ok-end_ms.end_ms =
    ap (λ i. play_range (take c.args.length i)) (sym c.waiting.ensures)
    ∙ (sym c.play_range.ensures.range ∙ (c.ok_or.ensures.ok_part ∙ ap result_ok (c.in_ok-end_ms.was {u = tt}))) in
    let start : play_start (take c.args.length c.args.self.now.input) ≡ Some c.in_ok-start.start =
    ap (λ i. play_start (take c.args.length i)) (sym c.waiting.ensures)
    ∙ (sym c.play_start.ensures ∙ (c.ok_or-2.ensures.ok_part ∙ ap result_ok (c.in_ok-start.was {u = tt}))) in
    play-done (record {
      keeps = k;
      reply = record { count_is = c.requires.second; awaited = c.requires.good };
      read = record { start = _; end_ms = _; start_is = start; end_is = range };
    }) c.begin.ensures
