-- A message that is written from its parts is split off completely, and read as these parts.
use Rattle.std.proofs.Common.{◌≡◌, ℕ, ◌<◌, ◌≤◌, ◌==◌, true, false, nat_lt, List, [], ◌∷◌, ◌++◌, All, codes, decimal}
use Rattle.std.proofs.Common.{map, flat_map, length, take, Option, Some, None, Ok, Err, MatchOption, refl, sym, ap}
use Rattle.std.proofs.Common.{subst, ◌∙◌, arith, ne_eqb}
use Rattle.std.specs.Prelude.{IfSome, option_and_then}
use Rattle.std.specs.List.{list_all}
use Rattle.std.specs.Str.Parse.{digits_value}
use Rattle.std.proofs.lemmas.Bool.{and_parts, both_ways, cond-true}
use Rattle.std.proofs.lemmas.List.{append_assoc, append-nil, length-append, take_at}
use Rattle.std.proofs.lemmas.List.Elements.{All-nil, All-cons, All-head, All-tail}
use Rattle.interleave.specs.declared.content_lengths.TheConstants.{MAX_BODY_BYTES}
use Rattle.interleave.specs.declared.elements.TheConstants.{BLOCK_START}
use Rattle.interleave.specs.declared.message_heads.TheConstants.{MAX_HEAD_BYTES}
use Rattle.vod_base.specs.Numbers.{is_decimal, number_of}
use Rattle.interleave.specs.Heads.{is_line_end, IsHead}
use Rattle.interleave.specs.Lengths.{IsBodyLength, written_length}
use Rattle.interleave.specs.Elements.{StartsMessage, IsMessageLength, IsFirst}
use Rattle.interleave.specs.declared.elements.Step.TheVariants.{Request}
use Rattle.interleave.specs.declared.elements.DemuxFault.TheVariants.{HeadTooLong, BodyTooLong}
use Rattle.interleave.proofs.LaterBytes.{IsHead-append, IsMessageLength-append}
use Rattle.rtsp_text.specs.Lines.{first_line, header_lines, IsSplit}
use Rattle.rtsp_text.specs.Grammar.{is_token, is_token_byte, is_value_byte, IsRequestLine, IsHeaderLine, IsVersion}
use Rattle.rtsp_text.specs.Fields.{header_value, first_value}
use Rattle.rtsp_text.specs.Requests.{IsRequest}
use Rattle.rtsp_text.specs.Replies.{Field, field_line, IsPlain, value_named, is_code, reply_front, reply_text}
use Rattle.rtsp_text.specs.Replies.{all_fields}
use Rattle.rtsp_text.specs.RequestTexts.{RequestPieces, request_line, request_front, request_head, request_text}
use Rattle.rtsp_text.specs.RequestTexts.{IsHeaderField}
use Rattle.rtsp_text.specs.RequestTexts.{HasGivenLength, GivesLongBody, HasForm, AreFront, AreRequest, AreShort}
use Rattle.rtsp_text.proofs.SingleLineTexts.{one_line_from, one_line-append, one_line-url}
use Rattle.rtsp_text.proofs.LineTexts.{IsLineText, core, flat}
use Rattle.rtsp_text.proofs.StatusTable.{status_of, status_text-line}
use Rattle.rtsp_text.proofs.ReplyRoundTrip.{ReplyParts, flat-fields, text_of, texts_lines, values_named, front_lines}
use Rattle.rtsp_text.proofs.LineWords.{token_without}
use Rattle.rtsp_text.proofs.NumberTexts.{number_read}
use Rattle.rtsp_text.proofs.GrammarBytes.{word_is, word_of, value_is, named_texts, visible_of}
use Rattle.rtsp_text.proofs.BodyLengths.{length_given, body_length_of}

-- the length that a Content-Length gives
written_is : (value : List ℕ) → is_decimal value ≡ true → written_length value ≡ digits_value 10 value
written_is value decimal = cond-true (is_decimal value) (digits_value 10 value) 0 decimal

given_is : (o : Option (List ℕ)) (body : List ℕ)
    → MatchOption o (body ≡ []) (λ value. number_of value ≡ Some (length body)) → length_given o ≡ length body
given_is None body none = sym (ap length none)
given_is (Some value) body read = let is = number_read value (length body) read in written_is value is.0 ∙ sym is.1

-- a message of these lines and this body, which has the length that the fields give, is complete
record IsFitting (s : List ℕ) (fields : List Field) (body : List ℕ) : Type 0 where
  given : HasGivenLength fields body
  head_is : length (flat (s ∷ map text_of fields) ++ codes "\r\n") ≤ MAX_HEAD_BYTES
  body_is : length body ≤ MAX_BODY_BYTES

whole_message : {s : List ℕ} (fields : List Field) (body : List ℕ) → IsLineText s → All IsPlain fields →
    IsFitting s fields body →
    IsMessageLength ((flat (s ∷ map text_of fields) ++ codes "\r\n") ++ body)
    (length ((flat (s ∷ map text_of fields) ++ codes "\r\n") ++ body))
whole_message {s} fields body one all fits =
    let head = flat (s ∷ map text_of fields) ++ codes "\r\n" in
    let is_body : IsBodyLength head (length body) =
    subst (λ n. IsBodyLength head n) (given_is (value_named (codes "Content-Length") fields) body fits.given)
    (body_length_of s fields one all) in
    record {
      head = length head;
      body = length body;
      is_head = (core s (map text_of fields) body one (texts_lines fields all)).split.is_head;
      fits = fits.head_is;
      is_body =
          subst (λ (h : List ℕ). IsBodyLength h (length body)) (sym (take_at head body (length head) refl)) is_body;
      small = fits.body_is;
      total_is = length-append head body;
    }

given_digits : (o : Option (List ℕ)) (body : List ℕ)
    → MatchOption o (body ≡ []) (λ value. number_of value ≡ Some (length body))
    → IfSome o (λ value. is_decimal value ≡ true)
given_digits None body none = tt
given_digits (Some value) body read = (number_read value (length body) read).0

-- header fields are read as they were written
plain_field : (field : Field) → IsHeaderField field → IsPlain field
plain_field field h =
    record {
      name_is = word_is field.name h.name_is;
      one_line = one_line_from is_value_byte refl field.value (value_is field.value h.value_is);
      bare = h.bare;
    }

plain_fields : (fields : List Field) → All IsHeaderField fields → All IsPlain fields
plain_fields [] all = All-nil IsPlain
plain_fields (f ∷ fs) all =
    All-cons IsPlain f fs (plain_field f (All-head IsHeaderField f fs all))
    (plain_fields fs (All-tail IsHeaderField f fs all))

header_line_of : (field : Field) → IsHeaderField field → IsHeaderLine (text_of field)
header_line_of field h = record {
  name = field.name;
  value = 32 ∷ field.value;
  parts = append_assoc field.name (codes ": ") field.value;
  name_is = word_is field.name h.name_is;
  value_is = value_is field.value h.value_is;
}

header_lines_of : (fields : List Field) → All IsHeaderField fields → All IsHeaderLine (map text_of fields)
header_lines_of [] all = All-nil IsHeaderLine
header_lines_of (f ∷ fs) all =
    All-cons IsHeaderLine (text_of f) (map text_of fs) (header_line_of f (All-head IsHeaderField f fs all))
    (header_lines_of fs (All-tail IsHeaderField f fs all))

-- the request line
line_text : (parts : RequestPieces) → AreFront parts → IsLineText (request_line parts)
line_text parts front = record {
  some = omega (arith, length-append (parts.method ++ codes " " ++ parts.url) (codes " RTSP/1.0"));
  one_line = one_line-append (parts.method ++ codes " " ++ parts.url) (codes " RTSP/1.0")
      (one_line-append (parts.method ++ codes " ") parts.url
      (one_line-append parts.method (codes " ")
      (token_without 10 refl parts.method (word_is parts.method front.method_is)) refl)
      (one_line-url parts.url front.url_is.bytes)) refl;
}

version_1_0 : IsVersion (codes "RTSP/1.0")
version_1_0 = record {
  numbers = codes "1.0";
  parts = refl;
  numbers_are = record { major = codes "1"; minor = codes "0"; parts = refl; major_is = refl; minor_is = refl };
}

line_of : (parts : RequestPieces) → AreFront parts
    → IsRequestLine (request_line parts) parts.method parts.url (codes "RTSP/1.0")
line_of parts front = record {
  parts = append_assoc (parts.method ++ codes " ") parts.url (codes " RTSP/1.0")
      ∙ append_assoc parts.method (codes " ") (parts.url ++ codes " RTSP/1.0");
  method_is = word_is parts.method front.method_is;
  url_is = front.url_is;
  version_is = version_1_0;
}

-- a request up to its last field, by its lines
front_of : (parts : RequestPieces) → request_front parts ≡ flat (request_line parts ∷ map text_of parts.fields)
unfolding request_front
front_of parts = ap (λ l. (request_line parts ++ codes "\r\n") ++ l) (sym (flat-fields parts.fields))

-- what is read of a request's lines
record IsSpelled (parts : RequestPieces) : Type 0 where
  split : IsSplit (request_text parts) (request_head parts) parts.body
  first : first_line (request_text parts) ≡ request_line parts
  headers : header_lines (request_head parts) ≡ map text_of parts.fields

spelled : (parts : RequestPieces) → AreFront parts → IsSpelled parts
spelled parts front =
    let c = core (request_line parts) (map text_of parts.fields) parts.body (line_text parts front)
    (texts_lines parts.fields (plain_fields parts.fields front.fields_are)) in
    let same = sym (front_of parts) in
    record {
      split = subst (λ (f : List ℕ). IsSplit ((f ++ codes "\r\n") ++ parts.body)
          (f ++ codes "\r\n") parts.body) same c.split;
      first = ap (λ (f : List ℕ). first_line ((f ++ codes "\r\n") ++ parts.body)) (front_of parts) ∙ c.first;
      headers = ap (λ (f : List ℕ). header_lines (f ++ codes "\r\n")) (front_of parts) ∙ c.headers;
    }

pub values_of : (parts : RequestPieces) → AreFront parts → (name : List ℕ)
    → header_value (request_head parts) name ≡ value_named name parts.fields
values_of parts front name =
    ap (first_value name) (spelled parts front).headers
    ∙ values_named name parts.fields (plain_fields parts.fields front.fields_are)

-- it is a request with these parts
pub request_of : (parts : RequestPieces) (sequence : ℕ) → AreRequest parts sequence
    → IsRequest (request_text parts) parts.method parts.url sequence (request_head parts) parts.body
request_of parts sequence request =
    let front = request.front in
    let s = spelled parts front in
    let headers : header_lines (request_text parts) ≡ map text_of parts.fields = sym s.split.same_lines ∙ s.headers in
    let values : (name : List ℕ) → header_value (request_text parts) name ≡ value_named name parts.fields =
    λ name. ap (first_value name) headers
    ∙ values_named name parts.fields (plain_fields parts.fields front.fields_are) in
    let digits : Option (List ℕ) → Type 0 = λ o. IfSome o (λ value. is_decimal value ≡ true) in
    let body : IsBodyLength (flat (request_line parts ∷ map text_of parts.fields) ++ codes "\r\n") (length parts.body) =
    subst (λ n. IsBodyLength (flat (request_line parts ∷ map text_of parts.fields) ++ codes "\r\n") n)
    (given_is (value_named (codes "Content-Length") parts.fields) parts.body request.length_is)
    (body_length_of (request_line parts) parts.fields (line_text parts front)
    (plain_fields parts.fields front.fields_are)) in
    record {
      split = s.split;
      line = subst (λ (t : List ℕ). IsRequestLine t parts.method parts.url (codes "RTSP/1.0")) (sym s.first)
          (line_of parts front);
      headers = subst (All IsHeaderLine) (sym headers) (header_lines_of parts.fields front.fields_are);
      sequence_is = ap (option_and_then number_of) (values (codes "CSeq")) ∙ request.sequence_is;
      length_is = subst digits (sym (values (codes "Content-Length")))
          (given_digits (value_named (codes "Content-Length") parts.fields) parts.body request.length_is);
      body_is =
          subst (λ (f : List ℕ). IsBodyLength (f ++ codes "\r\n") (length parts.body)) (sym (front_of parts)) body;
    }

-- it is complete by itself
pub request_whole : (parts : RequestPieces) (sequence : ℕ) → AreRequest parts sequence → AreShort parts
    → IsMessageLength (request_text parts) (length (request_text parts))
request_whole parts sequence request short =
    let front = request.front in
    let long : List ℕ → Type 0 = λ f. length (f ++ codes "\r\n") ≤ MAX_HEAD_BYTES in
    subst (λ (f : List ℕ). IsMessageLength ((f ++ codes "\r\n") ++ parts.body)
    (length ((f ++ codes "\r\n") ++ parts.body))) (sym (front_of parts))
    (whole_message parts.fields parts.body (line_text parts front) (plain_fields parts.fields front.fields_are)
    (record {
      given = request.length_is;
      head_is = subst long (front_of parts) short.head_is;
      body_is = short.body_is;
    }))

-- a method begins a request
byte_begins : (c : ℕ) → is_token_byte c ≡ true → (is_line_end c ≡ false) × ((c == BLOCK_START) ≡ false)
byte_begins c token =
    let other : (d : ℕ) → is_token_byte d ≡ false → (c == d) ≡ false =
    λ d fails. ne_eqb c d (λ e. both_ways (is_token_byte c) (ap is_token_byte e ∙ fails) token) in
    (rw (other 13 refl, other 10 refl) refl, other BLOCK_START refl)

token_begins : (method rest : List ℕ) → is_token method ≡ true → StartsMessage (method ++ rest)
token_begins [] rest token = let bad : false ≡ true = token in absurd (let no : ⊥ = cc in no)
token_begins (c ∷ method) rest token =
    let here = byte_begins c
    (and_parts (is_token_byte c) (list_all is_token_byte method)
    (and_parts (nat_lt 0 (length (c ∷ method))) (list_all is_token_byte (c ∷ method)) token).1).0 in
    (omega arith, here.0, here.1)

-- the bytes after a request's method
head_begins : (parts : RequestPieces) (later : List ℕ) → is_token parts.method ≡ true
    → StartsMessage (request_head parts ++ later)
unfolding request_front
head_begins parts later token =
    let tail = (codes " "
    ++ (parts.url
    ++ (codes " RTSP/1.0" ++ (codes "\r\n" ++ (flat_map field_line parts.fields ++ (codes "\r\n" ++ later)))))) in
    let shape : request_head parts ++ later ≡ parts.method ++ tail = simp append_assoc in
    subst StartsMessage (sym shape) (token_begins parts.method tail token)

-- it is found before whatever comes later
pub request_found : (parts : RequestPieces) (sequence : ℕ) (later : List ℕ) → AreRequest parts sequence → AreShort parts
    →
    IsFirst (request_text parts ++ later) (Ok (Request (length (request_text parts))))
request_found parts sequence later request short = (
  subst StartsMessage (sym (append_assoc (request_head parts) parts.body later))
      (head_begins parts (parts.body ++ later) (word_is parts.method request.front.method_is)),
  IsMessageLength-append (request_text parts) later (length (request_text parts))
      (request_whole parts sequence request short),
  omega (arith, length-append (request_text parts) later),
)

-- its head is a head
head_of : (parts : RequestPieces) → AreFront parts → IsHead (request_head parts) (length (request_head parts))
unfolding request_front
head_of parts front =
    let empty : RequestPieces = record { method = parts.method; url = parts.url; fields = parts.fields; body = [] } in
    let bodiless : AreFront empty =
    record { method_is = front.method_is; url_is = front.url_is; fields_are = front.fields_are } in
    subst (λ (w : List ℕ). IsHead w (length (request_head parts))) (append-nil (request_head parts))
    (spelled empty bodiless).split.is_head

-- a head that is too long is refused
pub head_refused : (parts : RequestPieces) (later : List ℕ) → AreFront parts
    → MAX_HEAD_BYTES < length (request_head parts)
    → IsFirst (request_head parts ++ later) (Err HeadTooLong)
head_refused parts later front long =
    let head = head_of parts front in (
      head_begins parts later (word_is parts.method front.method_is),
      omega (arith, long, length-append (request_head parts) later),
      (λ k below. (IsHead-append (request_head parts) later (length (request_head parts)) head).first k
          (omega (arith, below, long))),
    )

-- a body that is given too long is refused
pub body_refused : (parts : RequestPieces) (later : List ℕ) → AreFront parts → GivesLongBody parts.fields
    → length (request_head parts) ≤ MAX_HEAD_BYTES → IsFirst (request_head parts ++ later) (Err BodyTooLong)
body_refused parts later front long short =
    let head = head_of parts front in
    let n = digits_value 10 long.value in
    let given : length_given (value_named (codes "Content-Length") parts.fields) ≡ n =
    ap length_given long.given ∙ written_is long.value long.decimal in
    let body : IsBodyLength (request_head parts) n =
    subst (λ (f : List ℕ). IsBodyLength (f ++ codes "\r\n") n) (sym (front_of parts))
    (subst (λ m. IsBodyLength (flat (request_line parts ∷ map text_of parts.fields) ++ codes "\r\n") m) given
    (body_length_of (request_line parts) parts.fields (line_text parts front)
    (plain_fields parts.fields front.fields_are))) in
    let w = request_head parts ++ later in
    let taken : take (length (request_head parts)) w ≡ request_head parts =
    take_at (request_head parts) later (length (request_head parts)) refl in (
      head_begins parts later (word_is parts.method front.method_is),
      record {
        head = length (request_head parts);
        is_head = IsHead-append (request_head parts) later (length (request_head parts)) head;
        fits = short;
        long = (n, (long.long, subst (λ (h : List ℕ). IsBodyLength h n) (sym taken) body));
      },
    )

-- a reply whose Content-Length gives its body's length is complete by itself
pub reply_whole : (parts : ReplyParts) → is_code parts.code ≡ true
    → All IsPlain (all_fields parts.sequence parts.fields) →
    HasGivenLength (all_fields parts.sequence parts.fields) parts.body →
    length (reply_front parts.code parts.sequence parts.fields ++ codes "\r\n") ≤ MAX_HEAD_BYTES →
    length parts.body ≤ MAX_BODY_BYTES
    → IsMessageLength (reply_text parts.code parts.sequence parts.fields parts.body)
    (length (reply_text parts.code parts.sequence parts.fields parts.body))
unfolding reply_text
reply_whole parts is plain given short small =
    let lines_are = front_lines code sequence fields in
    let long : List ℕ → Type 0 = λ f. length (f ++ codes "\r\n") ≤ MAX_HEAD_BYTES in
    subst (λ (f : List ℕ). IsMessageLength ((f ++ codes "\r\n") ++ body) (length ((f ++ codes "\r\n") ++ body)))
    (sym lines_are)
    (whole_message (all_fields sequence fields) body (status_text-line code (status_of code is)) plain
    (record { given = given; head_is = subst long lines_are short; body_is = small }))
  where
    open parts use {code, sequence, fields, body}

-- what is read as a request has a request's form
pub form_of : {message method url : List ℕ} {sequence : ℕ} {head body : List ℕ} →
    IsRequest message method url sequence head body →
    HasForm message method url head body
form_of {message} {method} {url} request =
    let line : first_line message ≡ method ++ codes " " ++ url ++ codes " RTSP/1.0" =
    request.line.parts
    ∙ sym (append_assoc (method ++ codes " ") url (codes " RTSP/1.0")
    ∙ append_assoc method (codes " ") (url ++ codes " RTSP/1.0")) in
    record {
      texts = header_lines message;
      parts = request.split.parts;
      lines_are = request.split.lines_are ∙ ap (λ l. l ∷ (header_lines message ++ [] ∷ [])) line;
      method_is = word_of method request.line.method_is;
      url_is = visible_of url request.line.url_is.bytes;
      texts_are = named_texts (header_lines message) request.headers;
    }
