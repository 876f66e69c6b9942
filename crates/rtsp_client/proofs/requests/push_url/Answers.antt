use Rattle.std.proofs.Common.{◌≡◌, ◌++◌, [], ◌∷◌, sym, ap, ◌∙◌, append_assoc}
use Rattle.std.specs.Prelude.{codes, decimal, string_bytes}
use Rattle.rtsp_client.proofs.Texts.{put-in-row, then-put}
use Rattle.rtsp_client.proofs.requests.push_url.Goals as goal

pub returns : goal.returns
returns c =
    let e1 : c.push_field.new.out.items
    ≡ c.args.text.now.items ++ codes "rtsp://127.0.0.1:" ++ decimal c.args.wish.now.port =
    c.in_ok-push_field.ensures.whole
    ∙ sym (append_assoc c.args.text.now.items (codes "rtsp://127.0.0.1:") (decimal c.from.result))
    ∙ ap (λ n. c.args.text.now.items ++ codes "rtsp://127.0.0.1:" ++ decimal n) c.from.ensures in
    let e2 : c.push.new.out.items ≡ c.push_field.new.out.items ++ codes "/" = c.in_ok-push.ensures.whole in
    let e3 : c.push-2.new.out.items ≡ c.push.new.out.items ++ string_bytes c.args.wish.now.name =
    c.in_ok-push-2.ensures.whole ∙ ap (λ b. c.push.new.out.items ++ b) c.as_bytes.ensures.value in
    let old = c.args.text.now.items in
    let port = decimal c.args.wish.now.port in
    let name = string_bytes c.args.wish.now.name in
    then-put name (then-put (codes "/") e1 e2) e3
    ∙ put-in-row old (codes "rtsp://127.0.0.1:" ∷ port ∷ codes "/" ∷ name ∷ [])
