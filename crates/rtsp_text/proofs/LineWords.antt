-- The words of a request line and of a header line, from where the line is cut.
use Rattle.std.proofs.Common.{◌≡◌, ◌≢◌, ℕ, ◌<◌, ◌==◌, true, false, not, nat_lt, List, [], ◌∷◌, ◌++◌, codes, map}
use Rattle.std.proofs.Common.{length, get_or, take, drop, refl, sym, ap, subst, ◌∙◌, arith, inl, inr}
use Rattle.std.specs.List.{list_all}
use Rattle.std.specs.Char.{is_ascii_digit, to_ascii_lowercase}
use Rattle.std.proofs.lemmas.Bool.{cases_eq, and_from, and_parts}
use Rattle.std.proofs.lemmas.List.{take_at, drop_at, length-map, length-append}
use Rattle.vod_base.specs.Numbers.{is_decimal}
use Rattle.vod_base.specs.Splits.{IsSplitAtFirst}
use Rattle.rtsp_text.specs.Grammar.{is_token_byte, is_token, is_url_byte, is_value_byte, IsRtspUrl, AreVersionNumbers}
use Rattle.rtsp_text.specs.Grammar.{IsRequestLine, IsHeaderLine}
use Rattle.rtsp_text.proofs.CutUniqueness.{is_other, other_is, cut_once, all_other}

-- a token has no byte that isn't a token's
pub token_without : (c : ℕ) → is_token_byte c ≡ false → (text : List ℕ) → is_token text ≡ true
    → list_all (λ b. not (b == c)) text ≡ true
token_without c fails text token =
    all_other is_token_byte c fails text (and_parts (nat_lt 0 (length text)) (list_all is_token_byte text) token).1

pub record AreHeaderParts (name value : List ℕ) : Type 0 where
  pub name_is : is_token name ≡ true
  pub value_is : list_all is_value_byte value ≡ true

pub header_parts : (text name value : List ℕ) → IsSplitAtFirst 58 text name value → IsHeaderLine text
    → AreHeaderParts name value
header_parts text name value cut line =
    let same = cut_once cut line.parts (token_without 58 refl line.name line.name_is) in
    record {
      name_is = ap is_token same.front ∙ line.name_is;
      value_is = ap (list_all is_value_byte) same.after
          ∙ line.value_is;
    }

pub header_line : (text name value : List ℕ) → IsSplitAtFirst 58 text name value → is_token name ≡ true
    → list_all is_value_byte value ≡ true → IsHeaderLine text
header_line text name value cut name_is value_is =
    record { name = name; value = value; parts = cut.parts; name_is = name_is; value_is = value_is }

pub record AreNumberParts (major minor : List ℕ) : Type 0 where
  pub major_is : is_decimal major ≡ true
  pub minor_is : is_decimal minor ≡ true

pub number_parts : (text major minor : List ℕ) → IsSplitAtFirst 46 text major minor → AreVersionNumbers text
    → AreNumberParts major minor
number_parts text major minor cut numbers =
    let none = all_other is_ascii_digit 46 refl numbers.major
    (and_parts (nat_lt 0 (length numbers.major)) (list_all is_ascii_digit numbers.major) numbers.major_is).1 in
    let same = cut_once cut numbers.parts none in
    record {
      major_is = ap is_decimal same.front ∙ numbers.major_is;
      minor_is = ap is_decimal same.after
          ∙ numbers.minor_is;
    }

-- the words of a request line are the parts at its first two spaces
pub record AreLineParts (method url version m u v : List ℕ) : Type 0 where
  pub method_is : method ≡ m
  pub url_is : url ≡ u
  pub version_is : version ≡ v

pub line_parts : {text method rest url version m u v : List ℕ} → IsSplitAtFirst 32 text method rest
    → IsSplitAtFirst 32 rest url version → IsRequestLine text m u v → AreLineParts method url version m u v
line_parts {text} {method} {url} {version} {m} {u} first second line =
    let one = cut_once first line.parts (token_without 32 refl m line.method_is) in
    let two = cut_once second one.after (all_other is_url_byte 32 refl u line.url_is.bytes) in
    record { method_is = one.front; url_is = two.front; version_is = two.after }

-- what stands after the scheme
record IsSlashSplit (rest authority path : List ℕ) : Type 0 where
  parts : rest ≡ authority ++ path
  no_slash : list_all (λ byte. not (byte == 47)) authority ≡ true
  path_begins : 0 < length path → get_or path 0 0 ≡ 47

slash_split : (rest : List ℕ) → (authority : List ℕ) × ((path : List ℕ) × IsSlashSplit rest authority path)
slash_split [] =
    ([], ([], record { parts = refl; no_slash = refl; path_begins = λ some. absurd (omega (arith, some)) }))
slash_split (x ∷ rest) =
    elim (cases_eq x 47) [
      | inl slash ↦ ([], (x ∷ rest, record { parts = refl; no_slash = refl; path_begins = λ some. slash }))
      | inr other ↦ (
          let more = slash_split rest in (
            x ∷ more.0,
            (
              more.1.0,
              record {
                parts = ap (λ l. x ∷ l) more.1.1.parts;
                no_slash = and_from (not (x == 47)) (list_all (λ byte. not (byte == 47)) more.0)
                    (other_is x 47 other) more.1.1.no_slash;
                path_begins = more.1.1.path_begins;
              },
            ),
          )
          )
    ]

some_authority : (authority path rest : List ℕ) → IsSlashSplit rest authority path → 0 < length rest
    → get_or rest 0 0 ≢ 47 → 0 < length authority
some_authority [] path rest split some other =
    absurd (other (ap (λ l. get_or l 0 0) split.parts ∙ split.path_begins (subst (λ l. 0 < length l) split.parts some)))
some_authority (x ∷ authority) path rest split some other = omega arith

pub record AreUrlParts (scheme rest : List ℕ) : Type 0 where
  pub scheme_is : map to_ascii_lowercase scheme ≡ map to_ascii_lowercase (codes "rtsp://")
  pub some : 0 < length rest
  pub no_slash : get_or rest 0 0 ≢ 47

pub rtsp_url : (url scheme rest : List ℕ) → url ≡ scheme ++ rest → AreUrlParts scheme rest → IsRtspUrl url
rtsp_url url scheme rest parts are =
    let split = slash_split rest in
    record {
      scheme = scheme;
      authority = split.0;
      path = split.1.0;
      parts = parts ∙ ap (λ l. scheme ++ l) split.1.1.parts;
      scheme_is = are.scheme_is;
      some = some_authority split.0 split.1.0 rest split.1.1 are.some are.no_slash;
      no_slash = split.1.1.no_slash;
      path_begins = split.1.1.path_begins;
    }

first_other : (authority path : List ℕ) → 0 < length authority
    → list_all (λ byte. not (byte == 47)) authority ≡ true → get_or (authority ++ path) 0 0 ≢ 47
first_other [] path some none = absurd (omega (arith, some))
first_other (x ∷ authority) path some none =
    is_other x 47 (and_parts (not (x == 47)) (list_all (λ byte. not (byte == 47)) authority) none).0

-- a URL's scheme has seven bytes
pub url_parts : (url : List ℕ) → IsRtspUrl url → AreUrlParts (take 7 url) (drop 7 url)
url_parts url u =
    let seven : length u.scheme ≡ 7 = sym (length-map u.scheme to_ascii_lowercase) ∙ ap length u.scheme_is in
    let front : take 7 url ≡ u.scheme = ap (take 7) u.parts ∙ take_at u.scheme (u.authority ++ u.path) 7 seven in
    let rest : drop 7 url ≡ u.authority ++ u.path = ap (drop 7) u.parts
    ∙ drop_at u.scheme (u.authority ++ u.path) 7 seven in
    let P : List ℕ → Type 0 = λ l. get_or l 0 0 ≢ 47 in
    record {
      scheme_is = ap (map to_ascii_lowercase) front ∙ u.scheme_is;
      some = omega (arith, ap length rest, length-append u.authority u.path, u.some);
      no_slash = subst P (sym rest) (first_other u.authority u.path u.some u.no_slash);
    }

pub numbers : (text major minor : List ℕ) → IsSplitAtFirst 46 text major minor → is_decimal major ≡ true
    → is_decimal minor ≡ true → AreVersionNumbers text
numbers text major minor cut major_is minor_is =
    record { major = major; minor = minor; parts = cut.parts; major_is = major_is; minor_is = minor_is }

-- a request line's cuts
pub method_cut : {text m u v : List ℕ} → IsRequestLine text m u v → IsSplitAtFirst 32 text m (u ++ 32 ∷ v)
method_cut {m} line = record { parts = line.parts; first = token_without 32 refl m line.method_is }

pub url_cut : {text m u v : List ℕ} → IsRequestLine text m u v → IsSplitAtFirst 32 (u ++ 32 ∷ v) u v
url_cut {u} line = record { parts = refl; first = all_other is_url_byte 32 refl u line.url_is.bytes }
