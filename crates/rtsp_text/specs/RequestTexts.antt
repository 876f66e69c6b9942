-- A request that is spelled from its parts (RFC 2326 section 6): a request line, header fields, an
-- empty line and a body. Lines end with CR LF.
use Rattle.std.specs.Prelude.{◌≡◌, ◌≢◌, ℕ, ◌<◌, ◌≤◌, ◌⊎◌, ◌++◌, ◌∷◌, true, List, [], length}
use Rattle.std.specs.Prelude.{All, Some, MatchOption, codes, flat_map, option_and_then}
use Rattle.std.specs.Char.{is_ascii_alphanumeric}
use Rattle.std.specs.Str.Lines.{lines}
use Rattle.std.specs.Str.Parse.{digits_value}
use Rattle.interleave.specs.declared.content_lengths.TheConstants.{MAX_BODY_BYTES}
use Rattle.interleave.specs.declared.message_heads.TheConstants.{MAX_HEAD_BYTES}
use Rattle.vod_base.specs.Numbers.{is_decimal, number_of}
use Rattle.vod_base.specs.Blanks.{without_blanks}
use Rattle.rtsp_text.specs.Grammar.{IsUrl}
use Rattle.rtsp_text.specs.Replies.{Field, field_line, value_named}

-- what a request is put together from
pub record RequestPieces : Type 0 where
  pub method : List ℕ
  pub url : List ℕ
  pub fields : List Field
  pub body : List ℕ

-- the request line (section 6.1): a method, a URL and the version, with one space between them
abbrev pub request_line : RequestPieces → List ℕ
request_line parts = parts.method ++ codes " " ++ parts.url ++ codes " RTSP/1.0"

-- the lines before the empty one
unfoldable pub request_front : RequestPieces → List ℕ
request_front parts = request_line parts ++ codes "\r\n" ++ flat_map field_line parts.fields

-- its head
abbrev pub request_head : RequestPieces → List ℕ
request_head parts = request_front parts ++ codes "\r\n"

-- the complete request
abbrev pub request_text : RequestPieces → List ℕ
request_text parts = request_head parts ++ parts.body

-- a letter, a digit, `_` or `-`
abbrev pub IsWordByte : ℕ → Type 0
IsWordByte byte = (is_ascii_alphanumeric byte ≡ true) ⊎ ((byte ≡ 95) ⊎ (byte ≡ 45))

-- a method's or a field's name: one or more such bytes, which are among those of a token (section
-- 15.1)
pub record IsWord (text : List ℕ) : Type 0 where
  pub some : 0 < length text
  pub bytes : All IsWordByte text

-- any byte but the control ones, among which tab is allowed (TEXT and LWS in section 15.1)
abbrev pub IsTextByte : ℕ → Type 0
IsTextByte byte = (byte ≡ 9) ⊎ ((32 ≤ byte) × (byte ≢ 127))

-- a header field (section 12): its name is a word, and its value is text without blanks around it
pub record IsHeaderField (field : Field) : Type 0 where
  pub name_is : IsWord field.name
  pub value_is : All IsTextByte field.value
  pub bare : without_blanks field.value ≡ field.value

-- a body has the length that the first Content-Length writes, and is empty where there is none
-- (section 12.14)
abbrev pub HasGivenLength : List Field → List ℕ → Type 0
HasGivenLength fields body = MatchOption (value_named (codes "Content-Length") fields) (body ≡ [])
    (λ value. number_of value ≡ Some (length body))

-- the first Content-Length writes a length above 65,536
pub record GivesLongBody (fields : List Field) : Type 0 where
  pub value : List ℕ
  pub given : value_named (codes "Content-Length") fields ≡ Some value
  pub decimal : is_decimal value ≡ true
  pub long : MAX_BODY_BYTES < digits_value 10 value

-- a method, a URL and header fields
pub record AreFront (parts : RequestPieces) : Type 0 where
  pub method_is : IsWord parts.method
  pub url_is : IsUrl parts.url
  pub fields_are : All IsHeaderField parts.fields

-- these parts are a request with this sequence number, which the first CSeq writes (section 12.17)
pub record AreRequest (parts : RequestPieces) (sequence : ℕ) : Type 0 where
  pub front : AreFront parts
  pub sequence_is :
      option_and_then number_of (value_named (codes "CSeq") parts.fields) ≡ Some sequence
  pub length_is : HasGivenLength parts.fields parts.body

-- a head and a body no longer than is taken
pub record AreShort (parts : RequestPieces) : Type 0 where
  pub head_is : length (request_head parts) ≤ MAX_HEAD_BYTES
  pub body_is : length parts.body ≤ MAX_BODY_BYTES

-- a printable byte other than the space, as a URL has (section 15.1)
abbrev pub IsVisibleByte : ℕ → Type 0
IsVisibleByte byte = (33 ≤ byte) × (byte ≤ 126)

-- a name, `:` and a value
pub record IsNamedText (text : List ℕ) : Type 0 where
  pub name : List ℕ
  pub value : List ℕ
  pub parts : text ≡ name ++ codes ":" ++ value
  pub name_is : IsWord name
  pub value_is : All IsTextByte value

-- the form of a request: its head's lines are the request line, header lines, and an empty line;
-- its body is the rest
pub record HasForm (message method url head body : List ℕ) : Type 0 where
  pub texts : List (List ℕ)
  pub parts : message ≡ head ++ body
  pub lines_are : lines head ≡
      (method ++ codes " " ++ url ++ codes " RTSP/1.0") ∷ (texts ++ [] ∷ [])
  pub method_is : IsWord method
  pub url_is : All IsVisibleByte url
  pub texts_are : All IsNamedText texts
