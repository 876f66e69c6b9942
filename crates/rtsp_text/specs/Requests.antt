-- What a message asks for, and why it is refused (RFC 2326 section 6).
use Rattle.std.specs.Prelude.{◌≡◌, ◌≢◌, ℕ, ◌+◌, ◌<◌, List, [], length, All, true, Some, None}
use Rattle.std.specs.Prelude.{IfSome, codes, slice_index_or}
use Rattle.vod_base.specs.Numbers.{is_decimal}
use Rattle.interleave.specs.Lengths.{IsBodyLength}
use Rattle.rtsp_text.specs.Lines.{first_line, header_lines, IsSplit}
use Rattle.rtsp_text.specs.Grammar.{IsRequestLine, IsHeaderLine}
use Rattle.rtsp_text.specs.Fields.{header_value, sequence_number}
use Rattle.rtsp_text.specs.declared.requests.RequestFault.{RequestFault}
use Rattle.rtsp_text.specs.declared.requests.RequestFault.TheVariants.{BadLine, BadVersion}
use Rattle.rtsp_text.specs.declared.requests.RequestFault.TheVariants.{BadHeader, NoSequenceNumber}
use Rattle.rtsp_text.specs.declared.requests.RequestFault.TheVariants.{BadLength}

-- the first Content-Length, where there is one, is all digits
abbrev pub HasLength : List ℕ → Type 0
HasLength message = IfSome (header_value message (codes "Content-Length")) (λ value.
    is_decimal value ≡ true)

-- a message is a request of RTSP 1.0 with these parts; its body is the rest after its head, and has
-- the length that the head gives
pub record IsRequest (message method url : List ℕ) (sequence : ℕ) (head body : List ℕ)
    : Type 0 where
  pub split : IsSplit message head body
  pub line : IsRequestLine (first_line message) method url (codes "RTSP/1.0")
  pub headers : All IsHeaderLine (header_lines message)
  pub sequence_is : sequence_number message ≡ Some sequence
  pub length_is : HasLength message
  pub body_is : IsBodyLength head (length body)

-- the first line is a request line of this version
abbrev pub HasVersion : List ℕ → List ℕ → Type 0
HasVersion message version = (method : List ℕ)
    × ((url : List ℕ) × IsRequestLine (first_line message) method url version)

-- line `number`, from 1, is the first of these that is no header line
pub record IsFirstBad (lines : List (List ℕ)) (number : ℕ) : Type 0 where
  pub index : ℕ
  pub number_is : number ≡ index + 1
  pub inside : index < length lines
  pub before : (k : ℕ) → k < index → IsHeaderLine (slice_index_or lines k [])
  pub bad : ¬ IsHeaderLine (slice_index_or lines index [])

-- why a message is no request, in the order in which the rules are tried
abbrev pub IsFault : List ℕ → RequestFault → Type 0
IsFault message BadLine = (version : List ℕ) → ¬ HasVersion message version
IsFault message BadVersion = (version : List ℕ)
    × (HasVersion message version × (version ≢ codes "RTSP/1.0"))
IsFault message (BadHeader number) = HasVersion message (codes "RTSP/1.0")
    × IsFirstBad (header_lines message) number
IsFault message NoSequenceNumber =
    HasVersion message (codes "RTSP/1.0") × All IsHeaderLine (header_lines message)
    × (sequence_number message ≡ None)
IsFault message BadLength =
    HasVersion message (codes "RTSP/1.0") × All IsHeaderLine (header_lines message)
    × ((sequence : ℕ) × (sequence_number message ≡ Some sequence)) × (¬ HasLength message)
