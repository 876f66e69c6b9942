-- Bytes that are sent in several sends.
use Rattle.std.proofs.Common.{◌≡◌, ℕ, ◌+◌, ◌-◌, ◌<◌, ◌≤◌, List, ◌++◌, ◌⊎◌, length, take, drop, min, Option}
use Rattle.std.proofs.Common.{refl, sym, ap, ◌∙◌, arith, inl, inr}
use Rattle.std.proofs.lemmas.List.{append-nil, take-append-le, take-take, take_all, length-take}
use Rattle.std.proofs.lemmas.List.{length-append, length-drop, drop-drop, map-append}
use Rattle.std.proofs.Math.Seq.{take-append-add, take-add}
use Rattle.std.proofs.lemmas.Bool.{cases_lt}
use Rattle.film_frames.specs.Tracks.{framed_bytes, IsNext, IsSplit}
use Rattle.vod_base.specs.Links.{IoEvent, Sent, told_more, sends, IsSentPrefix}
use Rattle.vod_base.proofs.HistoryLemmas.{told_more-append}
use Rattle.pacer.specs.Boundaries.{IsSeam, bytes_between}
use Rattle.pacer.specs.PartialSends.{HasStopped}

-- bytes, and further ones
pub sends-more : (old : Option (List IoEvent)) (a b : List ℕ)
    → told_more (told_more old (sends a)) (sends b) ≡ told_more old (sends (a ++ b))
sends-more old a b =
    told_more-append old (sends a) (sends b) ∙ ap (λ (l : List IoEvent). told_more old l) (sym (map-append Sent a b))

-- the first bytes of a head and of the payload after it, so many in all
pub record FirstBytes : Type 0 where
  pub most : ℕ
  pub head : List ℕ
  pub payload : List ℕ
  pub first : List ℕ
  pub then : List ℕ
  pub of_head : first ≡ take most head
  pub of_payload : then ≡ take (most - length first) payload

abbrev pub first_of : FirstBytes → List ℕ
first_of f = take f.most (f.head ++ f.payload)

pub take-both : (f : FirstBytes) → first_of f ≡ f.first ++ f.then
take-both f =
    elim (cases_lt (length head) most) [
      | inl l ↦
          let same : first ≡ head = f.of_head ∙ take_all most head (omega arith) in
          let count : most ≡ length head + (most - length first) = omega (arith, ap length same, l) in
          ap (λ n. take n (head ++ payload)) count ∙ take-append-add head payload (most - length first)
          ∙ ap (λ (l : List ℕ). l ++ take (most - length first) payload) (sym same)
          ∙ ap (λ (l : List ℕ). first ++ l) (sym f.of_payload)
      | inr g ↦
          let count : most - length first ≡ 0 = omega (arith, ap length f.of_head, length-take most head, g) in
          take-append-le most head payload g ∙ sym f.of_head ∙ sym (append-nil first)
          ∙ ap (λ n. first ++ take n payload) (sym count) ∙ ap (λ (l : List ℕ). first ++ l) (sym f.of_payload)
    ]
  where
    open f use {most, head, payload, first}

take-size : (f : FirstBytes) → length (first_of f) ≡ length f.first + length f.then
take-size f = ap length (take-both f) ∙ length-append f.first f.then

-- the head's send failed
pub head-stopped : {old new : Option (List IoEvent)} (f : FirstBytes) → IsSentPrefix old new f.first
    → 0 < length f.first → HasStopped (λ place. place ≡ length f.head) (first_of f) old new 0
head-stopped {old} f front some =
    let out = front.0 in
    let size = take-size f in
    let within : length f.first ≤ length f.head = omega (arith, ap length f.of_head, length-take f.most f.head) in
    record {
      before_end = omega (arith, size, some);
      out = out;
      out_least = omega arith;
      out_most = omega (arith, front.1.0, size);
      one_send = λ seam is less. omega (arith, is, front.1.0, within);
      told = front.1.1
          ∙ ap (λ (l : List ℕ). told_more old (sends l))
          (sym (take-append-le out f.first f.then front.1.0) ∙ ap (λ (l : List ℕ). take out l) (sym (take-both f)));
    }

-- the payload's send failed: then the head was sent to its end
pub payload-stopped : {old new : Option (List IoEvent)} (f : FirstBytes)
    → IsSentPrefix (told_more old (sends f.first)) new f.then → 0 < length f.then
    → HasStopped (λ place. place ≡ length f.head) (first_of f) old new (length f.first)
payload-stopped {old} f front some =
    let out = front.0 in
    let size = take-size f in
    let all : length f.head ≤ length f.first =
    omega (
      arith,
      some,
      ap length f.of_head,
      length-take f.most f.head,
      ap length f.of_payload,
      length-take (f.most - length f.first) f.payload,
    ) in
    record {
      before_end = omega (arith, size, some);
      out = length f.first + out;
      out_least = omega arith;
      out_most = omega (arith, front.1.0, size);
      one_send = λ seam is less. absurd (omega (arith, is, less, all));
      told = front.1.1 ∙ sends-more old f.first (take out f.then)
          ∙ ap (λ (l : List ℕ). told_more old (sends l))
          (sym (take-append-add f.first f.then out)
          ∙ ap (λ (l : List ℕ). take (length f.first + out) l) (sym (take-both f)));
    }

-- ---- bytes of a track

pub between-join : (pieces : List (List ℕ)) (from at to : ℕ) → from ≤ at → at ≤ to
    → bytes_between pieces from at ++ bytes_between pieces at to ≡ bytes_between pieces from to
between-join pieces from at to first then =
    let all = framed_bytes pieces in
    let place : from + (at - from) ≡ at = omega (arith, first) in
    let moved : drop (at - from) (drop from all) ≡ drop at all =
    drop-drop (at - from) from all ∙ ap (λ n. drop n all) place in
    let count : at - from + (to - at) ≡ to - from = omega (arith, first, then) in
    sym (ap (λ n. take n (drop from all)) (sym count) ∙ take-add (at - from) (to - at) (drop from all)
    ∙ ap (λ (l : List ℕ). take (at - from) (drop from all) ++ take (to - at) l) moved)

pub between-length : (pieces : List (List ℕ)) (from to : ℕ) → from ≤ to → to ≤ length (framed_bytes pieces)
    → length (bytes_between pieces from to) ≡ to - from
between-length pieces from to order within =
    omega (
      arith,
      length-take (to - from) (drop from (framed_bytes pieces)),
      length-drop from (framed_bytes pieces),
      order,
      within,
    )

-- the first of the next bytes
pub next-are : (pieces : List (List ℕ)) (at most : ℕ) (next : List ℕ) → IsNext pieces at next
    → take most next ≡ bytes_between pieces at (at + min (length next) most)
next-are pieces at most next is =
    let rest = drop at (framed_bytes pieces) in
    let span : at + min (length next) most - at ≡ min (length next) most = omega arith in
    let same : take most next ≡ take most (take (length next) rest) = ap (λ (l : List ℕ). take most l) is.bytes_are in
    elim (cases_lt (length next) most) [
      | inl l ↦
          let least : min (length next) most ≡ length next = omega (arith, l) in
          take_all most next (omega (arith, l)) ∙ is.bytes_are ∙ ap (λ n. take n rest) (sym (span ∙ least))
      | inr g ↦
          let least : min (length next) most ≡ most = omega (arith, g) in
          same ∙ take-take most (length next) rest g ∙ ap (λ n. take n rest) (sym (span ∙ least))
    ]

-- where a track's bytes go out from one place to another, and were sent up to `at`, its part there: the
-- head and the payload that come next
pub record TrackPart : Type 0 where
  pub pieces : List (List ℕ)
  pub from : ℕ
  pub to : ℕ
  pub at : ℕ
  pub head : List ℕ
  pub payload : List ℕ

pub record IsPartAt (p : TrackPart) : Type 0 where
  pub order : p.from ≤ p.at
  pub before_end : p.at ≤ p.to
  pub within : p.to ≤ length (framed_bytes p.pieces)
  pub next : IsNext p.pieces p.at (p.head ++ p.payload)
  pub split : IsSplit p.pieces p.at (length p.head) (length p.payload)

-- what is to go out of it
abbrev pub part_bytes : TrackPart → List ℕ
part_bytes p = take (p.to - p.at) (p.head ++ p.payload)

-- what went out of a part that failed, after the bytes before it
part-out : (p : TrackPart) (out : ℕ) → IsPartAt p → out ≤ length (part_bytes p)
    → bytes_between p.pieces p.from p.at ++ take out (part_bytes p)
    ≡ take (p.at - p.from + out) (bytes_between p.pieces p.from p.to)
part-out p out part within =
    let next = p.head ++ p.payload in
    let most = to - at in
    let end = at + min (length next) most in
    let order : from ≤ at = part.order in
    let then : at ≤ to = part.before_end in
    let size : out ≤ most = omega (arith, within, length-take most next) in
    let cut : take out (take most next) ≡ bytes_between pieces at (at + out) =
    ap (λ (l : List ℕ). take out l) (next-are pieces at most next part.next)
    ∙ take-take out (end - at) (drop at (framed_bytes pieces)) (omega (arith, within, length-take most next))
    ∙ ap (λ n. take n (drop at (framed_bytes pieces))) (omega arith) in
    ap (λ (l : List ℕ). bytes_between pieces from at ++ l) cut
    ∙ between-join pieces from at (at + out) order (omega arith)
    ∙ ap (λ n. take n (drop from (framed_bytes pieces))) (omega (arith, order))
    ∙ sym (take-take (at - from + out) (to - from) (drop from (framed_bytes pieces)) (omega (arith, order, then, size)))
  where
    open p use {pieces, from, to, at}

-- a seam past the part's place is where its head ends, or is past all that is to go out of it
part-seam : (p : TrackPart) (place : ℕ) → IsPartAt p → IsSeam p.pieces place → p.at < place
    → (place ≡ p.at + length p.head) ⊎ (p.at + length (part_bytes p) ≤ place)
part-seam p place part (inl boundary) less =
    let size = length-take (p.to - p.at) (p.head ++ p.payload) in
    inr (omega (arith, size, part.next.one_piece place boundary less))
part-seam p place part (inr end) less =
    let size = length-take (p.to - p.at) (p.head ++ p.payload) in
    elim (cases_lt place (p.at + length p.head + length p.payload)) [
      | inl l ↦ inl (part.split.only place end less l)
      | inr g ↦ inr (omega (arith, g, size, length-append p.head p.payload))
    ]

-- a part failed
pub part-stopped : {p : TrackPart} {old new : Option (List IoEvent)} {whole : ℕ} → IsPartAt p
    → HasStopped (λ place. place ≡ length p.head) (part_bytes p)
    (told_more old (sends (bytes_between p.pieces p.from p.at))) new whole
    → HasStopped (λ place. IsSeam p.pieces (p.from + place)) (bytes_between p.pieces p.from p.to) old new
    (p.at - p.from + whole)
part-stopped {p} {old} {new} {whole} part stopped =
    let size : length (part_bytes p) ≤ to - at = omega (arith, length-take (to - at) (head ++ payload)) in
    let order : from ≤ at = part.order in
    let then : at ≤ to = part.before_end in
    let all = between-length pieces from to (omega (arith, order, then)) part.within in
    record {
      before_end = omega (arith, stopped.before_end, size, all, order, then);
      out = at - from + stopped.out;
      out_least = omega (arith, stopped.out_least);
      out_most = omega (arith, stopped.out_most, size, all, order, then);
      one_send = λ place seam less. elim (part-seam p (from + place) part seam (omega (arith, order, less))) [
        | inl here ↦ omega (arith, here, order, stopped.one_send (length head) refl (omega (arith, here, order, less)))
        | inr past ↦ omega (arith, past, order, stopped.out_most)
      ];
      told = stopped.told ∙ sends-more old (bytes_between pieces from at) (take stopped.out (part_bytes p))
          ∙ ap (λ (l : List ℕ). told_more old (sends l)) (part-out p stopped.out part stopped.out_most);
    }
  where
    open p use {pieces, from, to, at, head, payload}
