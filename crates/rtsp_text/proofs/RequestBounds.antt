-- The bounds of a request's parts.
use Rattle.std.proofs.Common.{◌≡◌, ℕ, ◌<◌, ◌≤◌, List, [], ◌∷◌, ◌++◌, codes, length, take, Result, Ok, Err, refl, ap}
use Rattle.std.proofs.Common.{subst, ◌∙◌, arith}
use Rattle.std.specs.Prelude.{IfOk}
use Rattle.std.proofs.lemmas.List.{length-append, take_at}
use Rattle.interleave.specs.declared.content_lengths.TheConstants.{MAX_BODY_BYTES}
use Rattle.interleave.specs.declared.message_heads.TheConstants.{MAX_HEAD_BYTES}
use Rattle.interleave.specs.Lengths.{IsBodyLength}
use Rattle.interleave.specs.Elements.{IsMessageLength}
use Rattle.interleave.proofs.ElementUniqueness.{head_once}
use Rattle.rtsp_text.specs.Lines.{first_line, header_lines, IsSplit}
use Rattle.rtsp_text.specs.Requests.{IsRequest}
use Rattle.rtsp_text.specs.declared.requests.Request.{Request}
use Rattle.rtsp_text.proofs.LineBounds.{first_line_inside}

-- the head and the body of a complete request, by its length
pub record AreLengths (head body : List ℕ) : Type 0 where
  pub head_short : length head ≤ MAX_HEAD_BYTES
  pub body_is : IsBodyLength head (length body)
  pub body_short : length body ≤ MAX_BODY_BYTES

pub lengths_of : {message head body : List ℕ} → IsMessageLength message (length message)
    → IsSplit message head body → AreLengths head body
lengths_of {message} {head} {body} whole split =
    let same : whole.head ≡ length head = head_once message whole.head (length head) whole.is_head split.is_head in
    let front : take whole.head message ≡ head =
    ap (λ n. take n message) same ∙ ap (take (length head)) split.parts ∙ take_at head body (length head) refl in
    let long : whole.body ≡ length body =
    omega (arith, same, whole.total_is, ap length split.parts, length-append head body) in
    record {
      head_short = omega (arith, same, whole.fits);
      body_is = subst (λ n. IsBodyLength head n) long (subst (λ h. IsBodyLength h whole.body) front whole.is_body);
      body_short = omega (arith, long, whole.small);
    }

-- how a value gives the parts of a request
pub record RequestParts (X : Type 0) : Type 0 where
  pub head : X → List ℕ
  pub body : X → List ℕ
  pub method : X → List ℕ
  pub url : X → List ℕ
  pub sequence : X → ℕ

-- a request that was read gives its parts
abbrev pub request_parts : RequestParts Request
request_parts = record {
  head = λ r. r.head.now;
  body = λ r. r.body.now;
  method = λ r. r.method.now;
  url = λ r. r.url.now;
  sequence = λ r. r.sequence;
}

abbrev pub IsRequestOf : {X : Type 0} → RequestParts X → List ℕ → X → Type 0
IsRequestOf parts message x =
    IsRequest message (parts.method x) (parts.url x) (parts.sequence x) (parts.head x) (parts.body x)

-- a request's URL is shorter than its head
pub read_url : {X E : Type 0} (message : List ℕ) (parts : RequestParts X) (r : Result X E)
    → IfOk r (IsRequestOf parts message) →
    IfOk r (λ x. length (parts.url x) < length (parts.head x))
read_url message parts (Ok x) read =
    let i = first_line_inside (parts.head x) (first_line message) (header_lines message ++ [] ∷ [])
    read.split.lines_are in
    omega (
      arith,
      i.short,
      ap length read.line.parts,
      length-append (parts.method x) (32 ∷ (parts.url x ++ 32 ∷ codes "RTSP/1.0")),
      length-append (parts.url x) (32 ∷ codes "RTSP/1.0"),
    )
read_url message parts (Err e) read = tt
