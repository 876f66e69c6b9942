-- Why a message is no request, as its lines say it (RFC 2326 section 6): a request line, header
-- lines and an empty line.
use Rattle.std.specs.Prelude.{◌≡◌, ◌≢◌, ℕ, ◌+◌, ◌<◌, ◌++◌, false, List, [], ◌∷◌, length, All}
use Rattle.std.specs.Prelude.{Some, codes, slice_index_or}
use Rattle.std.specs.Str.Lines.{lines}
use Rattle.vod_base.specs.Numbers.{is_decimal, number_of}
use Rattle.rtsp_text.specs.Grammar.{IsUrl, IsVersion}
use Rattle.rtsp_text.specs.Fields.{IsFirstField}
use Rattle.rtsp_text.specs.RequestTexts.{IsNamedText, IsWord}
use Rattle.rtsp_text.specs.declared.requests.RequestFault.{RequestFault}
use Rattle.rtsp_text.specs.declared.requests.RequestFault.TheVariants.{BadLine, BadVersion}
use Rattle.rtsp_text.specs.declared.requests.RequestFault.TheVariants.{BadHeader, NoSequenceNumber}
use Rattle.rtsp_text.specs.declared.requests.RequestFault.TheVariants.{BadLength}

-- a message's lines are a first one, header lines, of which none is empty, an empty one, and others
pub record HasLines (message first : List ℕ) (texts : List (List ℕ)) : Type 0 where
  pub others : List (List ℕ)
  pub lines_are : lines message ≡ first ∷ (texts ++ [] ∷ others)
  pub some : All (λ text. 0 < length text) texts

-- a request line of this version (section 6.1): a method, a URL and the version, with one space
-- between them
pub record IsLineOf (version first : List ℕ) : Type 0 where
  pub method : List ℕ
  pub url : List ℕ
  pub parts : first ≡ method ++ codes " " ++ url ++ codes " " ++ version
  pub method_is : IsWord method
  pub url_is : IsUrl url
  pub version_is : IsVersion version

-- the first field of that name writes this number
pub record Writes (name : List ℕ) (texts : List (List ℕ)) (number : ℕ) : Type 0 where
  pub value : List ℕ
  pub field : IsFirstField name texts value
  pub number_is : number_of value ≡ Some number

-- the first field of that name isn't all digits
pub record WritesNoDigits (name : List ℕ) (texts : List (List ℕ)) : Type 0 where
  pub value : List ℕ
  pub field : IsFirstField name texts value
  pub no_digits : is_decimal value ≡ false

-- line `number`, from 1, is the first of these that isn't a name, `:` and a value
pub record IsFirstUnnamed (texts : List (List ℕ)) (number : ℕ) : Type 0 where
  pub index : ℕ
  pub number_is : number ≡ index + 1
  pub inside : index < length texts
  pub before : (k : ℕ) → k < index → IsNamedText (slice_index_or texts k [])
  pub unnamed : ¬ IsNamedText (slice_index_or texts index [])

-- a request line of RTSP 1.0, and header lines
pub record HaveForm (first : List ℕ) (texts : List (List ℕ)) : Type 0 where
  pub line : IsLineOf (codes "RTSP/1.0") first
  pub named : All IsNamedText texts

-- what is wrong with a first line and header lines
abbrev pub IsWrong : List ℕ → List (List ℕ) → RequestFault → Type 0
IsWrong first texts BadLine = (version : List ℕ) → ¬ IsLineOf version first
IsWrong first texts BadVersion = (version : List ℕ)
    × (IsLineOf version first × (version ≢ codes "RTSP/1.0"))
IsWrong first texts (BadHeader number) = IsLineOf (codes "RTSP/1.0") first
    × IsFirstUnnamed texts number
IsWrong first texts NoSequenceNumber = HaveForm first texts
    × ((number : ℕ) → ¬ Writes (codes "CSeq") texts number)
IsWrong first texts BadLength = HaveForm first texts
    × (((number : ℕ) × Writes (codes "CSeq") texts number)
    × WritesNoDigits (codes "Content-Length") texts)
