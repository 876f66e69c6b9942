-- The text of a reply (RFC 2326 section 7): a status line, CSeq, fields, an empty line and a body.
-- Lines end with CR LF.
use Rattle.std.specs.Prelude.{◌≡◌, ℕ, ◌++◌, ◌==◌, ◌||◌, Bool, true, false, if◌then◌else◌, List, []}
use Rattle.std.specs.Prelude.{◌∷◌, Option, Some, None, codes, decimal, flat_map}
use Rattle.std.specs.Str.{str_eq_ignore_ascii_case}
use Rattle.vod_base.specs.Blanks.{without_blanks}
use Rattle.rtsp_text.specs.Grammar.{is_token}
use Rattle.rtsp_text.specs.Lines.{is_one_line}
use Rattle.rtsp_text.specs.Fields.{header_value}
use Rattle.rtsp_text.specs.StatusLines.{IsReply}

-- the statuses that a reply may have: each code, and the phrase that RFC 2326 section 7.1.1
-- recommends for it
abbrev pub statuses : List (ℕ × List ℕ)
statuses =
    (200, codes "OK")
    ∷ (400, codes "Bad Request")
    ∷ (404, codes "Not Found")
    ∷ (451, codes "Parameter Not Understood")
    ∷ (453, codes "Not Enough Bandwidth")
    ∷ (454, codes "Session Not Found")
    ∷ (455, codes "Method Not Valid In This State")
    ∷ (457, codes "Invalid Range")
    ∷ (461, codes "Unsupported Transport")
    ∷ (500, codes "Internal Server Error")
    ∷ (501, codes "Not Implemented")
    ∷ (503, codes "Service Unavailable")
    ∷ (505, codes "RTSP Version Not Supported")
    ∷ (551, codes "Option Not Supported")
    ∷ []

-- whether a code is among these
abbrev pub has_code : List (ℕ × List ℕ) → ℕ → Bool
has_code [] code = false
has_code (status ∷ others) code = (code == status.0) || has_code others code

-- the phrase that these give a code
abbrev pub phrase_among : List (ℕ × List ℕ) → ℕ → List ℕ
phrase_among [] code = []
phrase_among (status ∷ others) code =
    if code == status.0 then status.1 else phrase_among others code

-- whether a reply may have this code
abbrev pub is_code : ℕ → Bool
is_code code = has_code statuses code

-- the phrase of a code
abbrev pub phrase : ℕ → List ℕ
phrase code = phrase_among statuses code

-- a field: its name and its value
pub record Field : Type 0 where
  pub name : List ℕ
  pub value : List ℕ

-- its line
abbrev pub field_line : Field → List ℕ
field_line field = field.name ++ codes ": " ++ field.value ++ codes "\r\n"

-- the line of the sequence number, where there is one
unfoldable pub sequence_line : Option ℕ → List ℕ
sequence_line None = []
sequence_line (Some sequence) =
    field_line (record { name = codes "CSeq"; value = decimal sequence })

-- the status line
unfoldable pub status_line : ℕ → List ℕ
status_line code = codes "RTSP/1.0 " ++ decimal code ++ codes " " ++ phrase code ++ codes "\r\n"

-- a reply up to its last field
unfoldable pub reply_front : ℕ → Option ℕ → List Field → List ℕ
reply_front code sequence fields =
    status_line code ++ sequence_line sequence ++ flat_map field_line fields

-- a text that is a reply up to its last field has one field more
abbrev pub AddsField : List ℕ → List ℕ → Field → Type 0
AddsField before after field = (code : ℕ) (sequence : Option ℕ) (fields : List Field) →
    before ≡ reply_front code sequence fields →
    after ≡ reply_front code sequence (fields ++ field ∷ [])

-- a complete reply
unfoldable pub reply_text : ℕ → Option ℕ → List Field → List ℕ → List ℕ
reply_text code sequence fields body = reply_front code sequence fields ++ codes "\r\n" ++ body

-- all fields of a reply: the sequence number's, where there is one, and the others
abbrev pub all_fields : Option ℕ → List Field → List Field
all_fields None fields = fields
all_fields (Some sequence) fields =
    record { name = codes "CSeq"; value = decimal sequence } ∷ fields

-- a field that is read as it was written: its name is a word, and its value has no LF and no blanks
-- around it
pub record IsPlain (field : Field) : Type 0 where
  pub name_is : is_token field.name ≡ true
  pub one_line : is_one_line field.value ≡ true
  pub bare : without_blanks field.value ≡ field.value

-- the value of the first field of that name, in any case
unfoldable pub value_named : List ℕ → List Field → Option (List ℕ)
value_named name [] = None
value_named name (field ∷ fields) =
    if str_eq_ignore_ascii_case field.name name then Some field.value else value_named name fields

-- a message is read as this reply: its code and phrase, its head up to the empty line, its body,
-- and for each name the first value
pub record IsReadBack (message : List ℕ) (code : ℕ) (sequence : Option ℕ) (fields : List Field)
    (body : List ℕ) : Type 0 where
  pub reply : IsReply message code (phrase code) (reply_front code sequence fields
      ++ codes "\r\n") body
  pub values : (name : List ℕ) →
      header_value (reply_front code sequence fields ++ codes "\r\n") name ≡
      value_named name (all_fields sequence fields)
