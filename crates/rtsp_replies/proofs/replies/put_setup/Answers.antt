use Rattle.std.proofs.Common.{◌≡◌, ℕ, List, [], ◌∷◌, Some, codes, decimal, refl, ap, ◌∙◌}
use Rattle.rtsp_text.specs.Replies.{reply_text}
use Rattle.rtsp_replies.specs.Replies.{field, joined_parts}
use Rattle.std.specs.Int.{w32, to_be_bytes}
use Rattle.hex.specs.Hex.{encode_lower}
use Rattle.rtsp_replies.proofs.replies.put_setup.Goals as goal

pub returns : goal.returns
returns c =
    let parts : List (List ℕ) =
    c.as_slice.result.now ∷ c.digits.result.now ∷ c.as_slice-2.result.now ∷ c.digits-2.result.now
    ∷ c.as_slice-3.result.now
    ∷ c.as_slice-4.result.now ∷ [] in
    let media : c.digits.result.now ≡ decimal c.args.channels.media = c.digits.ensures.text
    ∙ ap decimal c.from.ensures in
    let control : c.digits-2.result.now ≡ decimal c.args.channels.control =
    c.digits-2.ensures.text ∙ ap decimal c.from-2.ensures in
    let ssrc : c.as_slice-4.result.now ≡ encode_lower (to_be_bytes w32 c.args.ssrc) =
    c.as_slice-4.ensures ∙ c.ssrc_text-ssrc.ensures.text in
    let same : parts ≡ (codes "RTP/AVP/TCP;unicast;interleaved=" ∷ decimal c.args.channels.media ∷ codes "-"
    ∷ decimal c.args.channels.control ∷ codes ";ssrc=" ∷ encode_lower (to_be_bytes w32 c.args.ssrc) ∷ []) =
    rw (c.as_slice.ensures, media, c.as_slice-2.ensures, control, c.as_slice-3.ensures, ssrc) refl in
    let session = field (codes "Session") c.args.id.now in
    c.finish.ensures.whole 200 (Some c.args.sequence) (field (codes "Transport") (joined_parts parts) ∷ session ∷ [])
    (c.field.ensures.front 200 (Some c.args.sequence) (field (codes "Transport") (joined_parts parts) ∷ [])
    (c.field_from_parts.ensures.front 200 (Some c.args.sequence) [] (c.start.ensures.front c.clear.ensures)))
    ∙ ap (λ (ps : List (List ℕ)). reply_text 200 (Some c.args.sequence)
    (field (codes "Transport") (joined_parts ps) ∷ session ∷ []) []) same
