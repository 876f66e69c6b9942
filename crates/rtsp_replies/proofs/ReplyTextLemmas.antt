-- Replies of fields that are read as they were written are whole messages.
use Rattle.std.proofs.Common.{◌≡◌, ℕ, ◌+◌, ◌-◌, ◌*◌, ◌/◌, ◌%◌, ◌^◌, ◌<◌, ◌≤◌, Bool, true, false, List, [], ◌∷◌, ◌++◌}
use Rattle.std.proofs.Common.{All, codes, decimal, flat_map, get_or, length, reverse, Option, Some, None, refl, sym, ap}
use Rattle.std.proofs.Common.{◌∙◌, arith, inl, inr}
use Rattle.std.specs.Prelude.{IfSome, ⊤}
use Rattle.std.specs.List.{list_all}
use Rattle.std.specs.Char.{is_ascii_digit}
use Rattle.std.specs.Int.{w32, w64, to_be_bytes}
use Rattle.std.proofs.lemmas.Bool.{and_from, cases_Bool, cond-false}
use Rattle.std.proofs.lemmas.Fmt.{digits_decimal, length-decimal-le}
use Rattle.std.proofs.lemmas.List.{get_or-reverse, length-append, length-reverse, reverse-reverse}
use Rattle.std.proofs.lemmas.List.Elements.{All-cons, All-nil}
use Rattle.std.proofs.lemmas.List.Folds.{list_all_at}
use Rattle.hex.specs.Hex.{encode_lower, encode_with, lower_digits}
use Rattle.interleave.specs.declared.content_lengths.TheConstants.{MAX_BODY_BYTES}
use Rattle.interleave.specs.declared.message_heads.TheConstants.{MAX_HEAD_BYTES}
use Rattle.vod_base.specs.Blanks.{is_blank, without_blanks, without_leading_blanks}
use Rattle.vod_base.proofs.DigitLemmas.{decimal_numerals}
use Rattle.rtsp_text.specs.Grammar.{is_token, is_url_byte}
use Rattle.rtsp_text.specs.Replies.{Field, IsPlain, all_fields, field_line, is_code, phrase, reply_front, reply_text}
use Rattle.rtsp_text.specs.Replies.{sequence_line, status_line, value_named}
use Rattle.rtsp_text.specs.RequestTexts.{HasGivenLength}
use Rattle.rtsp_text.proofs.LineBounds.{all-append}
use Rattle.rtsp_text.proofs.SingleLineTexts.{one_line-url}
use Rattle.rtsp_text.proofs.ReplyRoundTrip.{ReplyParts}
use Rattle.rtsp_text.proofs.RequestTextLemmas.{reply_whole}
use Rattle.rtsp_text.proofs.StatusTable.{status_of}
use Rattle.rtsp_text.proofs.UrlBytes.{all_of}
use Rattle.rtsp_fields.specs.Sdp.{seconds_text}
use Rattle.rtsp_replies.specs.Replies.{field}
use Rattle.rtsp_replies.specs.Messages.{IsMessage}

-- printable bytes other than the space, at most so many
pub record IsPrinted (most : ℕ) (text : List ℕ) : Type 0 where
  pub short : length text ≤ most
  pub prints : list_all is_url_byte text ≡ true

pub printed-nil : IsPrinted 0 []
printed-nil = record { short = omega arith; prints = refl }

pub printed-append : {m n : ℕ} {a b : List ℕ} → IsPrinted m a → IsPrinted n b → IsPrinted (m + n) (a ++ b)
printed-append {m} {n} {a} {b} one other = record {
  short = omega (arith, length-append a b, one.short, other.short);
  prints = all-append is_url_byte a b one.prints other.prints;
}

-- each byte of a text whose bytes all pass
all_at : (p : ℕ → Bool) (text : List ℕ) (k : ℕ) → list_all p text ≡ true → k < length text → p (get_or text k 0) ≡ true
all_at p text k all inside =
    elim (cases_Bool (p (get_or text k 0))) [
      | inl good ↦ good
      | inr bad ↦ absurd (let wrong : true ≡ false = sym all ∙ list_all_at p text k 0 inside bad in cc)
    ]

digit_in_url : (c : ℕ) → is_ascii_digit c ≡ true → is_url_byte c ≡ true
digit_in_url c digit = grind arith

pub printed-decimal : (n : ℕ) → n < 2 ^ 64 → IsPrinted 20 (decimal n)
printed-decimal n small = record {
  short = length-decimal-le 20 n (omega arith) (omega (arith, small)) small;
  prints = all_of is_ascii_digit is_url_byte digit_in_url (decimal n) (digits_decimal decimal_numerals n small);
}

pub printed-seconds : (ms : ℕ) → ms < 2 ^ 64 → IsPrinted 81 (seconds_text ms)
printed-seconds ms small =
    let point : IsPrinted 1 (codes ".") = record { short = omega arith; prints = refl } in
    printed-append (printed-append (printed-append
    (printed-append (printed-decimal (ms / 1000) (omega (arith, small))) point)
    (printed-decimal (ms / 100 % 10) (omega arith)))
    (printed-decimal (ms / 10 % 10) (omega arith)))
    (printed-decimal (ms % 10) (omega arith))

-- hexadecimal digits
abbrev pub AreBytes : List ℕ → Type 0
AreBytes [] = ⊤
AreBytes (byte ∷ bytes) = (byte < 256) × AreBytes bytes

pub printed-hex : (bytes : List ℕ) → AreBytes bytes → IsPrinted (2 * length bytes) (encode_lower bytes)
unfolding encode_with
printed-hex [] are = record { short = omega arith; prints = refl }
printed-hex (byte ∷ bytes) are =
    let rest = printed-hex bytes are.1 in
    let high : is_url_byte (get_or lower_digits (byte / 16) 0) ≡ true =
    all_at is_url_byte lower_digits (byte / 16) refl (omega (arith, are.0)) in
    let low : is_url_byte (get_or lower_digits (byte % 16) 0) ≡ true =
    all_at is_url_byte lower_digits (byte % 16) refl (omega arith) in
    record {
      short = omega (arith, rest.short);
      prints = and_from (is_url_byte (get_or lower_digits (byte / 16) 0))
          (list_all is_url_byte (get_or lower_digits (byte % 16) 0 ∷ encode_lower bytes)) high
          (and_from (is_url_byte (get_or lower_digits (byte % 16) 0))
          (list_all is_url_byte (encode_lower bytes)) low rest.prints);
    }

pub printed-w32 : (n : ℕ) → IsPrinted 8 (encode_lower (to_be_bytes w32 n))
printed-w32 n = printed-hex (to_be_bytes w32 n) (omega arith, (omega arith, (omega arith, (omega arith, tt))))

pub printed-w64 : (n : ℕ) → IsPrinted 16 (encode_lower (to_be_bytes w64 n))
printed-w64 n =
    printed-hex (to_be_bytes w64 n) (
      omega arith,
      (omega arith, (omega arith, (omega arith, (omega arith, (omega arith, (omega arith, (omega arith, tt))))))),
    )

-- a text that neither begins nor ends with a blank has none around it
bare_front : (text : List ℕ) → (0 < length text → is_blank (get_or text 0 0) ≡ false) → without_leading_blanks text ≡
    text
bare_front [] begins = refl
bare_front (c ∷ text) begins = cond-false (is_blank c) (without_leading_blanks text) (c ∷ text) (begins (omega arith))

pub bare_between : (text : List ℕ) → (0 < length text → is_blank (get_or text 0 0) ≡ false)
    → (0 < length text → is_blank (get_or text (length text - 1) 0) ≡ false) → without_blanks text ≡ text
bare_between text begins ends =
    let back : 0 < length (reverse text) → is_blank (get_or (reverse text) 0 0) ≡ false = λ some.
    let long : 0 < length text = omega (arith, some, length-reverse text) in
    let last : length text - 1 - 0 ≡ length text - 1 = omega arith in
    ap is_blank (get_or-reverse text 0 0 long) ∙ ap (λ k. is_blank (get_or text k 0)) last ∙ ends long in
    ap (λ l. reverse (without_leading_blanks (reverse l))) (bare_front text begins)
    ∙ ap reverse (bare_front (reverse text) back) ∙ reverse-reverse text

not_blank : (c : ℕ) → is_url_byte c ≡ true → is_blank c ≡ false
not_blank c is = grind arith

bare_printed : (text : List ℕ) → list_all is_url_byte text ≡ true → without_blanks text ≡ text
bare_printed text all =
    bare_between text
    (λ some. not_blank (get_or text 0 0) (all_at is_url_byte text 0 all some))
    (λ some. not_blank (get_or text (length text - 1) 0)
    (all_at is_url_byte text (length text - 1) all (omega (arith, some))))

-- fields that are read as they were written, of at most so many bytes
pub record AreWritten (most : ℕ) (fields : List Field) : Type 0 where
  pub plain : All IsPlain fields
  pub short : length (flat_map field_line fields) ≤ most

pub written-nil : AreWritten 0 []
written-nil = record { plain = All-nil IsPlain; short = omega arith }

-- one field more
pub plain-more : {m n : ℕ} {name value : List ℕ} {fields : List Field} → IsPlain (field name value) → length value ≤ m
    → AreWritten n fields → AreWritten (length name + 4 + m + n) (field name value ∷ fields)
plain-more {m} {n} {name} {value} {fields} plain short rest = record {
  plain = All-cons IsPlain (field name value) fields plain rest.plain;
  short = omega (
    arith,
    length-append (field_line (field name value)) (flat_map field_line fields),
    length-append (name ++ codes ": " ++ value) (codes "\r\n"),
    length-append (name ++ codes ": ") value,
    length-append name (codes ": "),
    short,
    rest.short,
  );
}

pub written-more : {m n : ℕ} {value : List ℕ} {fields : List Field} (name : List ℕ) → is_token name ≡ true
    → IsPrinted m value → AreWritten n fields → AreWritten (length name + 4 + m + n) (field name value ∷ fields)
written-more {value} name token printed rest =
    plain-more (record {
      name_is = token;
      one_line = one_line-url value printed.prints;
      bare = bare_printed value printed.prints;
    }) printed.short rest

pub written-within : {m n : ℕ} {fields : List Field} → m ≤ n → AreWritten m fields → AreWritten n fields
written-within few written = record { plain = written.plain; short = omega (arith, few, written.short) }

-- a reply's parts, of which it is a whole message
pub record AreWhole (parts : ReplyParts) : Type 0 where
  pub known : is_code parts.code ≡ true
  pub phrase_short : length (phrase parts.code) ≤ 30
  pub number : IfSome parts.sequence (λ n. n < 2 ^ 64)
  pub written : AreWritten 16256 parts.fields
  pub given : HasGivenLength parts.fields parts.body
  pub small : length parts.body ≤ MAX_BODY_BYTES

status_short : (code : ℕ) → is_code code ≡ true → length (phrase code) ≤ 30 → length (status_line code) ≤ 62
unfolding status_line
status_short code known short =
    let status = status_of code known in
    let digits = (printed-decimal code (omega (arith, status.small))).short in
    omega (
      arith,
      digits,
      short,
      length-append (codes "RTSP/1.0 " ++ decimal code ++ codes " " ++ phrase code) (codes "\r\n"),
      length-append (codes "RTSP/1.0 " ++ decimal code ++ codes " ") (phrase code),
      length-append (codes "RTSP/1.0 " ++ decimal code) (codes " "),
      length-append (codes "RTSP/1.0 ") (decimal code),
    )

sequence_short : (sequence : Option ℕ) → IfSome sequence (λ n. n < 2 ^ 64) → length (sequence_line sequence) ≤ 28
unfolding sequence_line
sequence_short None number = omega arith
sequence_short (Some n) number =
    omega (
      arith,
      (printed-decimal n number).short,
      length-append (codes "CSeq: " ++ decimal n) (codes "\r\n"),
      length-append (codes "CSeq: ") (decimal n),
    )

front_short : (parts : ReplyParts) → AreWhole parts
    → length (reply_front parts.code parts.sequence parts.fields ++ codes "\r\n") ≤ MAX_HEAD_BYTES
unfolding reply_front
front_short parts are =
    let front = status_line parts.code ++ sequence_line parts.sequence in
    let same : reply_front parts.code parts.sequence parts.fields ≡ front ++ flat_map field_line parts.fields = refl in
    omega (
      arith,
      ap length same,
      length-append (reply_front parts.code parts.sequence parts.fields) (codes "\r\n"),
      length-append front (flat_map field_line parts.fields),
      length-append (status_line parts.code) (sequence_line parts.sequence),
      status_short parts.code are.known are.phrase_short,
      sequence_short parts.sequence are.number,
      are.written.short,
    )

all_plain : (sequence : Option ℕ) (fields : List Field) → IfSome sequence (λ n. n < 2 ^ 64) → All IsPlain fields
    → All IsPlain (all_fields sequence fields)
all_plain None fields number plain = plain
all_plain (Some n) fields number plain =
    let digits = printed-decimal n number in
    All-cons IsPlain (field (codes "CSeq") (decimal n)) fields (record {
      name_is = refl;
      one_line = one_line-url (decimal n) digits.prints;
      bare = bare_printed (decimal n) digits.prints;
    }) plain

all_given : (sequence : Option ℕ) (fields : List Field) (body : List ℕ) → HasGivenLength fields body
    → HasGivenLength (all_fields sequence fields) body
unfolding value_named
all_given None fields body given = given
all_given (Some n) fields body given = given

first_byte : (code : ℕ) (sequence : Option ℕ) (fields : List Field) (body : List ℕ)
    → get_or (reply_text code sequence fields body) 0 0 ≡ 82
unfolding reply_text reply_front status_line
first_byte code sequence fields body = refl

pub whole_of : (parts : ReplyParts) → AreWhole parts
    → IsMessage (reply_text parts.code parts.sequence parts.fields parts.body)
whole_of parts are =
    let size = reply_whole parts are.known (all_plain parts.sequence parts.fields are.number are.written.plain)
    (all_given parts.sequence parts.fields parts.body are.given) (front_short parts are) are.small in
    let first = first_byte parts.code parts.sequence parts.fields parts.body in
    record {
      starts = (omega (arith, size.is_head.some, size.is_head.within), rw first refl, rw first refl);
      size = size;
    }
