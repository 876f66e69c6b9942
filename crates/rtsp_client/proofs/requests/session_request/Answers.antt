use Rattle.std.proofs.Common.{◌≡◌, ◌++◌, rules}
use Rattle.rtsp_client.specs.Requests.{film_url}
use Rattle.rtsp_client.proofs.Texts.{then-put}
use Rattle.rtsp_client.proofs.requests.session_request.Goals as goal

pub returns : goal.returns
returns c =
    let e1 : c.push.new.out.items ≡ c.args.method.now = search rules in
    let e2 : c.push_url.new.text.items ≡ c.push.new.out.items ++ film_url c.args.wish.now = c.in_ok-push_url.ensures in
    let e3 : c.push-2.new.out.items ≡ c.push_url.new.text.items ++ c.args.fields.now = c.in_ok-push-2.ensures.whole in
    let e4 : c.push-3.new.out.items ≡ c.push-2.new.out.items ++ c.args.session.now = c.in_ok-push-3.ensures.whole in
    let e5 : c.push-4.new.out.items ≡ c.push-3.new.out.items ++ c.args.end.now = c.in_ok-push-4.ensures.whole in
    then-put c.args.end.now
    (then-put c.args.session.now (then-put c.args.fields.now (then-put (film_url c.args.wish.now) e1 e2) e3) e4) e5
