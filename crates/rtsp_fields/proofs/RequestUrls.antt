-- Where the path of an RTSP URL begins, and that the URLs which a request line may have are those that are read.
use Rattle.std.proofs.Common.{◌≡◌, ◌≢◌, ℕ, ◌+◌, ◌-◌, ◌<◌, ◌≤◌, ◌==◌, not, List, ◌++◌, length, take, drop, get_or}
use Rattle.std.proofs.Common.{refl, sym, ◌∙◌, ap, subst, arith, true, false, codes, inl, inr, ◌⊎◌}
use Rattle.std.specs.List.{list_all}
use Rattle.std.specs.Char.{to_ascii_lowercase}
use Rattle.std.proofs.lemmas.List.{take_at, take-map, take-append-drop, length-append, length-drop, length-map}
use Rattle.std.proofs.lemmas.List.{get_or-drop, get_or_append_left, get_or-append_right}
use Rattle.std.proofs.lemmas.List.Folds.{list_all_at}
use Rattle.rtsp_text.specs.Grammar.{is_url_byte, IsRtspUrl, IsUrl}
use Rattle.rtsp_text.proofs.LineWords.{rtsp_url}
use Rattle.rtsp_fields.specs.SeparatedParts.{Begins, IsPartEnd, in_lower_case}
use Rattle.rtsp_fields.specs.Urls.{IsAbsoluteUrl}
use Rattle.rtsp_fields.proofs.PartPlaces.{end_once}

-- an authority has no `/`
authority_byte : (authority : List ℕ) (k : ℕ) → list_all (λ byte. not (byte == 47)) authority ≡ true
    → k < length authority → get_or authority k 0 ≢ 47
authority_byte authority k all inside = λ slash.
    let P : ℕ → Type 0 = λ n. not (n == 47) ≡ false in
    let other : not (get_or authority k 0 == 47) ≡ false = subst P (sym slash) refl in
    let wrong : true ≡ false = sym all ∙ list_all_at (λ byte. not (byte == 47)) authority k 0 inside other in
    cc

-- the byte at place k of a URL, after its scheme
byte_after : {url : List ℕ} (u : IsRtspUrl url) (k : ℕ) → length u.scheme ≡ 7 → 7 ≤ k
    → get_or url k 0 ≡ get_or (u.authority ++ u.path) (k - 7) 0
byte_after u k size after =
    ap (λ l. get_or l k 0) u.parts ∙ get_or-append_right u.scheme (u.authority ++ u.path) 7 k 0 size after

-- an RTSP URL by its places: the authority has one or more bytes from place 7 on, and ends at `path`
pub record IsCutAt (url : List ℕ) (path : ℕ) : Type 0 where
  pub scheme : Begins (codes "rtsp://") (in_lower_case url)
  pub authority : 7 < path
  pub end : IsPartEnd 47 url 7 path

cut_of : (url : List ℕ) → IsRtspUrl url → (path : ℕ) × IsCutAt url path
cut_of url u =
    let seven : length u.scheme ≡ 7 = sym (length-map u.scheme to_ascii_lowercase) ∙ ap length u.scheme_is in
    let front : take 7 url ≡ u.scheme = ap (take 7) u.parts ∙ take_at u.scheme (u.authority ++ u.path) 7 seven in
    let size : length url ≡ 7 + length u.authority + length u.path =
    omega (
      arith,
      ap length u.parts,
      length-append u.scheme (u.authority ++ u.path),
      length-append u.authority u.path,
      seven,
    ) in (
      7 + length u.authority,
      record {
        scheme = take-map to_ascii_lowercase 7 url ∙ ap in_lower_case front ∙ u.scheme_is;
        authority = omega (arith, u.some);
        end = record {
          after = omega arith;
          within = omega (arith, size);
          none = λ k from below.
              let inside : k - 7 < length u.authority = omega (arith, from, below) in
              let here : get_or url k 0 ≡ get_or u.authority (k - 7) 0 =
              byte_after u k seven from
              ∙ get_or_append_left u.authority u.path 0 (k - 7) inside in
              λ slash. authority_byte u.authority (k - 7) u.no_slash inside (sym here ∙ slash);
          ends = λ inside.
              let some : 0 < length u.path = omega (arith, inside, size) in
              let left : 7 + length u.authority - 7 ≡ length u.authority = omega arith in
              let none : 7 + length u.authority - 7 - length u.authority ≡ 0 = omega arith in
              byte_after u (7 + length u.authority) seven (omega arith) ∙
              get_or-append_right u.authority u.path (length u.authority) (7 + length u.authority - 7) 0 refl
              (omega arith) ∙ ap (λ n. get_or u.path n 0) none ∙ u.path_begins some;
        };
      },
    )

-- an RTSP URL is cut at one place
pub absolute_cut : {url : List ℕ} {path : ℕ} → IsAbsoluteUrl url path → IsCutAt url path
absolute_cut {url} u =
    let cut = cut_of url u.is_rtsp in
    subst (IsCutAt url) (end_once cut.1.end u.end) cut.1

pub cut_is_rtsp : (url : List ℕ) (path : ℕ) → IsCutAt url path → IsRtspUrl url
cut_is_rtsp url path u =
    let rest : length (drop 7 url) ≡ length url - 7 = length-drop 7 url in
    rtsp_url url (take 7 url) (drop 7 url) (sym (take-append-drop 7 url))
    (record {
      scheme_is = sym (take-map to_ascii_lowercase 7 url)
          ∙ u.scheme;
      some = omega (arith, rest, u.authority, u.end.within);
      no_slash = λ slash. u.end.none 7 (omega arith) u.authority
          (sym (get_or-drop 7 url 0 0) ∙ slash);
    })

pub absolute_url : {url : List ℕ} {path : ℕ} → list_all is_url_byte url ≡ true → IsCutAt url path
    → IsAbsoluteUrl url path
absolute_url {url} {path} bytes cut = record { bytes = bytes; is_rtsp = cut_is_rtsp url path cut; end = cut.end }

pub asked_is_read : (url : List ℕ) → IsUrl url → url ≢ codes "*" → (path : ℕ) × IsAbsoluteUrl url path
asked_is_read url asked other = go asked.form
  where
    go : ((url ≡ codes "*") ⊎ IsRtspUrl url) → (path : ℕ) × IsAbsoluteUrl url path
    go (inl star) = absurd (other star)
    go (inr u) = let cut = cut_of url u in (cut.0, record { bytes = asked.bytes; is_rtsp = u; end = cut.1.end })

-- `*` is no RTSP URL
pub read_is_asked : (url : List ℕ) (path : ℕ) → IsAbsoluteUrl url path → IsUrl url × (url ≢ codes "*")
read_is_asked url path u =
    let cut = absolute_cut u in (
      record { bytes = u.bytes; form = inr u.is_rtsp },
      λ star. omega (arith, ap length star, cut.authority, cut.end.within),
    )
