-- A made system stream in the fields of the standard: a pack header and a packet of video for each
-- 2,000 bytes.
use Rattle.std.proofs.Common.{ℕ, zero, suc, ◌+◌, ◌*◌, ◌/◌, ◌%◌, ◌^◌, ◌≤◌, ◌≡◌, List, [], ◌∷◌, ◌++◌, length, take, drop}
use Rattle.std.proofs.Common.{None, refl, sym, ap, subst, ◌∙◌, arith, inr}
use Rattle.std.specs.List.{flat_map, range_with_len}
use Rattle.std.proofs.lemmas.List.{append_assoc, drop-drop, drop-take, length-take, take_all}
use Rattle.std.proofs.lemmas.List.{take-append-drop, take-take}
use Rattle.sys_demux.specs.StandardFields.{Element, element_bytes, stream_bytes, AreElements, first_video}
use Rattle.sys_demux.specs.StandardFields.{video_of_stream}
use Rattle.sys_demux.specs.StandardFields.Element.{PackHeader, VideoPacket}
use Rattle.sys_demux.specs.StandardFields.Stamps.{NoStamp}
use Rattle.sys_demux.specs.SystemStreams.{IsSystem}
use Rattle.sys_demux.proofs.StandardStreamLemmas.{stream_read}
use Rattle.film_make.specs.Generator.{end_to_end}
use Rattle.film_make.specs.SystemStream.{pack_header, pack_of, system_of}

-- the packet of some video
abbrev packet : List ℕ → Element
packet bytes = VideoPacket 0 0 0 None NoStamp bytes

-- the bytes from part i on, at most 2,000
abbrev part : List ℕ → ℕ → List ℕ
part video i = take 2000 (drop (2000 * i) video)

-- so many packs from part i on
abbrev elements : List ℕ → ℕ → ℕ → List Element
elements video i zero = []
elements video i (suc n) = PackHeader 0 0 1 ∷ packet (part video i) ∷ elements video (i + 1) n

pack-bytes : (bytes : List ℕ) → length bytes ≤ 2000
    → pack_of bytes ≡ element_bytes (PackHeader 0 0 1) ++ element_bytes (packet bytes)
pack-bytes bytes few =
    let high : (length bytes + 1) / 256 ^ 1 % 256 ≡ length (15 ∷ bytes) / 256 = omega (arith, few) in
    let low : (length bytes + 1) % 256 ≡ length (15 ∷ bytes) % 256 = omega arith in
    ap (λ h. pack_header ++ (0 ∷ 0 ∷ 1 ∷ 0xe0 ∷ h ∷ (length bytes + 1) % 256 ∷ []) ++ 15 ∷ bytes) high
    ∙ ap (λ l. pack_header ++ (0 ∷ 0 ∷ 1 ∷ 0xe0 ∷ length (15 ∷ bytes) / 256 ∷ l ∷ []) ++ 15 ∷ bytes) low

part-few : (video : List ℕ) (i : ℕ) → length (part video i) ≤ 2000
part-few video i = omega (arith, length-take 2000 (drop (2000 * i) video))

packs-bytes : (video : List ℕ) (i n : ℕ)
    → flat_map (λ k. pack_of (part video k)) (range_with_len i n) ≡ stream_bytes (elements video i n)
packs-bytes video i zero = refl
packs-bytes video i (suc n) =
    let pack = element_bytes (PackHeader 0 0 1) in
    let own = element_bytes (packet (part video i)) in
    ap (λ (l : List ℕ). l ++ flat_map (λ k. pack_of (part video k)) (range_with_len (i + 1) n))
    (pack-bytes (part video i) (part-few video i))
    ∙ ap (λ (l : List ℕ). (pack ++ own) ++ l) (packs-bytes video (i + 1) n)
    ∙ append_assoc pack own (stream_bytes (elements video (i + 1) n))

are-elements : (video : List ℕ) (i n : ℕ) → AreElements (elements video i n)
are-elements video i zero = tt
are-elements video i (suc n) = (
  (omega arith, omega arith),
  (
    record {
      stream_fits = omega arith;
      few = omega arith;
      buffer_fits = tt;
      stamps_fit = tt;
      long = omega (arith, part-few video i);
    },
    are-elements video (i + 1) n,
  ),
)

-- the front of a list in two parts
take-parts : (a b : ℕ) (l : List ℕ) → take a l ++ take b (drop a l) ≡ take (a + b) l
take-parts a b l =
    ap (λ (k : List ℕ). k ++ take b (drop a l)) (sym (take-take a (a + b) l (omega arith)))
    ∙ ap (λ (k : List ℕ). take a (take (a + b) l) ++ k) (sym (drop-take a b l))
    ∙ take-append-drop a (take (a + b) l)

videos : (video : List ℕ) (i n : ℕ) → video_of_stream 0 (elements video i n) ≡ take (2000 * n) (drop (2000 * i) video)
videos video i zero = refl
videos video i (suc n) =
    let further : drop (2000 * (i + 1)) video ≡ drop 2000 (drop (2000 * i) video) =
    ap (λ m. drop m video) (let same : 2000 * (i + 1) ≡ 2000 * i + 2000 = omega arith in same)
    ∙ sym (drop-drop 2000 (2000 * i) video) in
    ap (λ (l : List ℕ). part video i ++ l) (videos video (i + 1) n ∙ ap (take (2000 * n)) further)
    ∙ take-parts 2000 (2000 * n) (drop (2000 * i) video)
    ∙ ap (λ m. take m (drop (2000 * i) video)) (let same : 2000 + 2000 * n ≡ 2000 * suc n = omega arith in same)

first-videos : (video : List ℕ) (n : ℕ) → first_video (elements video 0 n) ≡ video_of_stream 0 (elements video 0 n)
first-videos video zero = refl
first-videos video (suc n) = refl

all-video : (video : List ℕ) → first_video (elements video 0 ((length video + 1999) / 2000)) ≡ video
all-video video =
    let n = (length video + 1999) / 2000 in
    first-videos video n ∙ videos video 0 n
    ∙ take_all (2000 * n) video (omega arith)

pub unwraps : (video : List ℕ) → IsSystem (system_of video) video
unfolding end_to_end
unwraps video =
    let n = (length video + 1999) / 2000 in
    let tail : List ℕ = 0 ∷ 0 ∷ 1 ∷ 0xb9 ∷ [] in
    let is = stream_read (elements video 0 n) tail (are-elements video 0 n) (inr ([], refl)) in
    subst (λ (v : List ℕ). IsSystem (system_of video) v) (all-video video)
    (subst (λ (b : List ℕ). IsSystem b (first_video (elements video 0 n)))
    (ap (λ (l : List ℕ). l ++ tail) (sym (packs-bytes video 0 n))) is)
