-- What a message says as a reply (RFC 2326 section 7).
use Rattle.std.specs.Prelude.{◌≡◌, ◌≢◌, ℕ, ◌<◌, ◌++◌, true, List, ◌∷◌, length, codes, slice_index}
use Rattle.std.specs.Str.Parse.{digits_value}
use Rattle.vod_base.specs.Numbers.{is_decimal}
use Rattle.interleave.specs.Lengths.{IsBodyLength}
use Rattle.rtsp_text.specs.Lines.{first_line, IsSplit}

-- three digits, which write this code
pub record IsCode (text : List ℕ) (code : ℕ) : Type 0 where
  pub three : length text ≡ 3
  pub decimal : is_decimal text ≡ true
  pub code_is : code ≡ digits_value 10 text

-- `RTSP/1.0`, a code and a phrase of one or more bytes, with one space between them
pub record IsStatusLine (text : List ℕ) (code : ℕ) (phrase : List ℕ) : Type 0 where
  pub digits : List ℕ
  pub parts : text ≡ codes "RTSP/1.0" ++ 32 ∷ (digits ++ 32 ∷ phrase)
  pub is_code : IsCode digits code
  pub some : 0 < length phrase
  pub no_space : slice_index phrase 0 ≢ 32

-- a message is a reply of RTSP 1.0 with these parts; its body is the rest after its head, and has
-- the length that the head gives
pub record IsReply (message : List ℕ) (code : ℕ) (phrase head body : List ℕ) : Type 0 where
  pub split : IsSplit message head body
  pub line : IsStatusLine (first_line message) code phrase
  pub body_is : IsBodyLength head (length body)
