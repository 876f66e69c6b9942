use Rattle.std.proofs.Common.{◌≡◌, refl, ap, subst, ◌∙◌, inr}
use Rattle.std.proofs.lemmas.Result.{err_from_is_err_and}
use Rattle.vod_base.specs.Links.{IsSentPrefix, sends, told_more}
use Rattle.rtsp_client.specs.Requests.{setup_text}
use Rattle.rtsp_client.proofs.clients.Client.start.Goals as goal

pub returns-in_err-send-clause-front : goal.returns-in_err-send-clause-front
returns-in_err-send-clause-front g c =
    let text : c.as_slice.result.now ≡ setup_text c.args.wish.now = c.as_slice.ensures.value
    ∙ c.in_ok-request.ensures in
    let p = err_from_is_err_and c.from_residual-in_err-send.result c.from_residual-in_err-send.ensures.1 in
    rw (p.1, p.2)
    (inr (
      refl,
      subst (IsSentPrefix (g.K.Link.told c.args.link.now) (g.K.Link.told c.send.new.self))
          text c.in_err-send.ensures.front,
    ))

pub returns-clause-sent : goal.returns-clause-sent
returns-clause-sent g c =
    let text : c.as_slice.result.now ≡ setup_text c.args.wish.now = c.as_slice.ensures.value
    ∙ c.in_ok-request.ensures in
    c.in_ok-send.ensures.whole ∙ ap (λ x. told_more (g.K.Link.told c.args.link.now) (sends x)) text
