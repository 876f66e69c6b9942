use Rattle.std.proofs.Common.{◌≡◌, append_assoc, refl, rules, sym, ◌∙◌}
use Rattle.std.specs.Prelude.{codes, decimal}
use Rattle.rtsp_client.specs.Requests.{film_url}
use Rattle.rtsp_client.proofs.Texts.{then-put}
use Rattle.rtsp_client.proofs.requests.setup_request.Goals as goal

pub returns : goal.returns
returns c =
    let e1 : c.push.new.out.items ≡ codes "SETUP " = search rules in
    let url = then-put (film_url c.args.wish.now) e1 c.in_ok-push_url.ensures in
    let version = then-put (codes "/video RTSP/1.0\r\nCSeq: 1\r\n") url c.in_ok-push-2.ensures.whole in
    let transport =
    then-put (codes "Transport: RTP/AVP/TCP;unicast;interleaved=0-1\r\n") version c.in_ok-push-3.ensures.whole in
    let buffer = then-put (decimal c.args.wish.now.buffer) (then-put (codes "x-Buffer: ") transport refl)
    (c.in_ok-push_field.ensures.whole ∙ sym (append_assoc _ (codes "x-Buffer: ") _)) in
    let startup = then-put (decimal c.args.wish.now.startup) (then-put (codes "\r\nx-Startup: ") buffer refl)
    (c.in_ok-push_field-2.ensures.whole ∙ sym (append_assoc _ (codes "\r\nx-Startup: ") _)) in
    then-put (codes "\r\n\r\n") startup c.in_ok-push-4.ensures.whole
