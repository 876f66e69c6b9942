-- The grammar of a request's head (RFC 2326 sections 4, 6 and 15.1), line by line.
use Rattle.std.specs.Prelude.{◌≡◌, ℕ, ◌<◌, ◌⊎◌, ◌++◌, ◌&&◌, ◌||◌, ◌==◌, Bool, true, not, List, ◌∷◌}
use Rattle.std.specs.Prelude.{length, map, nat_lt, nat_le, codes, slice_index}
use Rattle.std.specs.List.{list_all}
use Rattle.std.specs.Char.{is_ascii_alphanumeric, to_ascii_lowercase}
use Rattle.vod_base.specs.Numbers.{is_decimal}

-- a letter, a digit, '_' or '-'
abbrev pub is_token_byte : ℕ → Bool
is_token_byte byte = is_ascii_alphanumeric byte || (byte == 95) || (byte == 45)

-- one or more such bytes: a method, or the name of a header field
abbrev pub is_token : List ℕ → Bool
is_token text = nat_lt 0 (length text) && list_all is_token_byte text

-- a printable byte other than the space
abbrev pub is_url_byte : ℕ → Bool
is_url_byte byte = nat_le 33 byte && nat_le byte 126

-- a byte that a header field's value may have: tab, or any from the space on but DEL
abbrev pub is_value_byte : ℕ → Bool
is_value_byte byte = (nat_le 32 byte || (byte == 9)) && not (byte == 127)

-- `rtsp://` in any case, an authority without `/`, and no path or one that begins with `/`
pub record IsRtspUrl (url : List ℕ) : Type 0 where
  pub scheme : List ℕ
  pub authority : List ℕ
  pub path : List ℕ
  pub parts : url ≡ scheme ++ (authority ++ path)
  pub scheme_is : map to_ascii_lowercase scheme ≡ map to_ascii_lowercase (codes "rtsp://")
  pub some : 0 < length authority
  pub no_slash : list_all (λ byte. not (byte == 47)) authority ≡ true
  pub path_begins : 0 < length path → slice_index path 0 ≡ 47

-- what a request may ask for: `*`, or an absolute URL; one or more printable bytes
pub record IsUrl (url : List ℕ) : Type 0 where
  pub bytes : list_all is_url_byte url ≡ true
  pub form : (url ≡ codes "*") ⊎ IsRtspUrl url

-- digits, `.` and digits
pub record AreVersionNumbers (text : List ℕ) : Type 0 where
  pub major : List ℕ
  pub minor : List ℕ
  pub parts : text ≡ major ++ 46 ∷ minor
  pub major_is : is_decimal major ≡ true
  pub minor_is : is_decimal minor ≡ true

-- `RTSP/`, digits, `.` and digits
pub record IsVersion (version : List ℕ) : Type 0 where
  pub numbers : List ℕ
  pub parts : version ≡ codes "RTSP/" ++ numbers
  pub numbers_are : AreVersionNumbers numbers

-- a method, a URL and a version, with one space between them
pub record IsRequestLine (text method url version : List ℕ) : Type 0 where
  pub parts : text ≡ method ++ 32 ∷ (url ++ 32 ∷ version)
  pub method_is : is_token method ≡ true
  pub url_is : IsUrl url
  pub version_is : IsVersion version

-- a name, `:` and a value
pub record IsHeaderLine (text : List ℕ) : Type 0 where
  pub name : List ℕ
  pub value : List ℕ
  pub parts : text ≡ name ++ 58 ∷ value
  pub name_is : is_token name ≡ true
  pub value_is : list_all is_value_byte value ≡ true
