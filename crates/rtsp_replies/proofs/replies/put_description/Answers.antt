use Rattle.std.proofs.Common.{◌≡◌, ℕ, true, List, [], ◌∷◌, Some, ◌≤◌, length, take, codes, decimal, refl, sym, ap, ◌∙◌}
use Rattle.std.proofs.Common.{arith}
use Rattle.rtsp_text.specs.Replies.{reply_text}
use Rattle.rtsp_replies.specs.Replies.{field, joined_parts}
use Rattle.std.proofs.lemmas.List.{length-take-le}
use Rattle.rtsp_fields.specs.Sdp.{description_text}
use Rattle.rtsp_text.specs.Lines.{is_one_line}
use Rattle.rtsp_text.proofs.SingleLineTexts.{one_line-name}
use Rattle.rtsp_replies.proofs.replies.put_description.Goals as goal

pub field_from_parts-requires-clause-one_line : goal.field_from_parts-requires-clause-one_line
field_from_parts-requires-clause-one_line c =
    let first : is_one_line c.as_slice.result.now ≡ true = ap is_one_line c.as_slice.ensures in
    let second : is_one_line c.as_slice-2.result.now ≡ true = ap is_one_line c.as_slice-2.ensures in
    let third : is_one_line c.as_slice-3.result.now ≡ true = ap is_one_line c.as_slice-3.ensures in
    let name : is_one_line c.as_bytes.result.now ≡ true =
    ap is_one_line c.as_bytes.ensures.value ∙ one_line-name c.args.name.now c.requires.name in
    rw (first, c.requires.authority_line, second, name, third) refl

pub returns : goal.returns
returns c =
    let parts : List (List ℕ) =
    c.as_slice.result.now ∷ c.args.authority.now ∷ c.as_slice-2.result.now ∷ c.as_bytes.result.now
    ∷ c.as_slice-3.result.now ∷ [] in
    let same : parts ≡ (codes "rtsp://" ∷ c.args.authority.now ∷ codes "/" ∷ c.args.name.now ∷ codes "/" ∷ []) =
    rw (c.as_slice.ensures, c.as_slice-2.ensures, c.as_bytes.ensures.value, c.as_slice-3.ensures) refl in
    let text = description_text c.args.name.now c.args.end_ms in
    let written : take c.description-length.result c.description-length.new.into ≡ text =
    c.description-length.ensures.text in
    let within : c.description-length.result ≤ length c.description-length.new.into = omega arith in
    let count : c.description-length.result ≡ length text =
    sym (length-take-le c.description-length.result c.description-length.new.into within) ∙ ap length written in
    let kind = field (codes "Content-Type") (codes "application/sdp") in
    let base = λ (ps : List (List ℕ)). field (codes "Content-Base") (joined_parts ps) in
    let long = λ (n : ℕ). field (codes "Content-Length") (decimal n) in
    c.finish.ensures.whole 200 (Some c.args.sequence) (base parts ∷ kind ∷ long c.description-length.result ∷ [])
    (c.number_field.ensures.front 200 (Some c.args.sequence) (base parts ∷ kind ∷ [])
    (c.field.ensures.front 200 (Some c.args.sequence) (base parts ∷ [])
    (c.field_from_parts.ensures.front 200 (Some c.args.sequence) [] (c.start.ensures.front c.clear.ensures))))
    ∙ ap (λ (ps : List (List ℕ)). reply_text 200 (Some c.args.sequence)
    (base ps ∷ kind ∷ long c.description-length.result ∷ [])
    (take c.description-length.result c.description-length.new.into)) same
    ∙ ap (λ (body : List ℕ). reply_text 200 (Some c.args.sequence)
    (base (codes "rtsp://" ∷ c.args.authority.now ∷ codes "/"
    ∷ c.args.name.now ∷ codes "/" ∷ []) ∷ kind ∷ long c.description-length.result ∷ []) body) written
    ∙ ap (λ (n : ℕ). reply_text 200 (Some c.args.sequence) (base (codes "rtsp://" ∷ c.args.authority.now ∷ codes "/"
    ∷ c.args.name.now ∷ codes "/" ∷ []) ∷ kind ∷ long n ∷ []) text) count
