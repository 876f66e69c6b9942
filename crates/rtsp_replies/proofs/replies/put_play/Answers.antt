use Rattle.std.proofs.Common.{◌≡◌, ℕ, List, [], ◌∷◌, Some, codes, decimal, refl, ap, ◌∙◌}
use Rattle.rtsp_text.specs.Replies.{reply_front}
use Rattle.rtsp_replies.specs.Replies.{field, joined_parts}
use Rattle.rtsp_fields.specs.Sdp.{seconds_text}
use Rattle.rtsp_replies.proofs.replies.put_play.Goals as goal

pub returns-clause-text : goal.returns-clause-text
returns-clause-text c =
    let range : List (List ℕ) =
    c.as_slice.result.now ∷ c.seconds_text.result.now ∷ c.as_slice-2.result.now ∷ c.seconds_text-2.result.now ∷ [] in
    let info : List (List ℕ) =
    c.as_slice-3.result.now ∷ c.args.info.now.authority.now ∷ c.as_slice-4.result.now ∷ c.args.info.now.name.now
    ∷ c.as_slice-5.result.now ∷ c.digits.result.now ∷ c.as_slice-6.result.now ∷ c.digits-2.result.now ∷ [] in
    let number : c.digits.result.now ≡ decimal c.args.info.now.sequence = c.digits.ensures.text
    ∙ ap decimal c.from.ensures in
    let time : c.digits-2.result.now ≡ decimal c.args.info.now.timestamp =
    c.digits-2.ensures.text ∙ ap decimal c.from-2.ensures in
    let same_range : range ≡ (codes "npt=" ∷ seconds_text c.args.info.now.first_ms ∷ codes "-"
    ∷ seconds_text c.args.info.now.end_ms ∷ []) =
    rw (c.as_slice.ensures, c.seconds_text.ensures.text, c.as_slice-2.ensures, c.seconds_text-2.ensures.text) refl in
    let same_info : info ≡ (codes "url=rtsp://" ∷ c.args.info.now.authority.now ∷ codes "/" ∷ c.args.info.now.name.now
    ∷ codes "/video;seq=" ∷ decimal c.args.info.now.sequence ∷ codes ";rtptime="
    ∷ decimal c.args.info.now.timestamp ∷ []) =
    rw (c.as_slice-3.ensures, c.as_slice-4.ensures, c.as_slice-5.ensures, number, c.as_slice-6.ensures, time) refl in
    let session = field (codes "Session") c.args.id.now in
    c.field_from_parts-2.ensures.front 200 (Some c.args.sequence)
    (session ∷ field (codes "Range") (joined_parts range) ∷ [])
    (c.field_from_parts.ensures.front 200 (Some c.args.sequence) (session ∷ [])
    (c.field.ensures.front 200 (Some c.args.sequence) [] (c.start.ensures.front c.clear.ensures)))
    ∙ ap (λ (ps : List (List ℕ)). reply_front 200 (Some c.args.sequence)
    (session ∷ field (codes "Range") (joined_parts ps) ∷ field (codes "RTP-Info") (joined_parts info) ∷ [])) same_range
    ∙ ap (λ (ps : List (List ℕ)). reply_front 200 (Some c.args.sequence)
    (session ∷ field (codes "Range") (joined_parts (codes "npt=" ∷ seconds_text c.args.info.now.first_ms ∷ codes "-"
    ∷ seconds_text c.args.info.now.end_ms ∷ [])) ∷ field (codes "RTP-Info") (joined_parts ps) ∷ [])) same_info
