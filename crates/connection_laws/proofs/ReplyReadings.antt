-- What a client reads in the replies to its requests, as a server writes them: values of printable bytes are read as
-- they were written.
use Rattle.std.proofs.Common.{◌≡◌, ℕ, ◌/◌, ◌%◌, ◌^◌, ◌<◌, true, List, [], ◌∷◌, ◌++◌, codes, decimal, get_or, refl, ap}
use Rattle.std.proofs.Common.{arith, ◌+◌, ◌≤◌, All, Option, Some, is_some}
use Rattle.std.specs.List.{list_all}
use Rattle.std.specs.Char.{is_ascii_digit}
use Rattle.std.specs.Int.{w32, w64, to_be_bytes}
use Rattle.std.proofs.lemmas.Fmt.{digits_decimal}
use Rattle.std.proofs.lemmas.List.{reverse-reverse}
use Rattle.std.proofs.lemmas.List.Elements.{All-cons, All-nil}
use Rattle.connection_laws.proofs.Terms.{is_url_byte, IsPlain, all_fields, seconds_text, field, play_fields}
use Rattle.connection_laws.proofs.Terms.{session_text, IsMessage, IsAnswer, play_range, play_start, session_id}
use Rattle.connection_laws.proofs.Terms.{setup_session, IsPlayRead}
use Rattle.hex.specs.Hex.{encode_lower, encode_with, lower_digits}
use Rattle.vod_base.specs.Blanks.{without_blanks, without_leading_blanks}
use Rattle.vod_base.proofs.DigitLemmas.{decimal_numerals}
use Rattle.vod_base.proofs.TextLemmas.{all-reverse}
use Rattle.rtsp_text.specs.Grammar.{is_token, is_value_byte}
use Rattle.rtsp_text.specs.Replies.{value_named}
use Rattle.rtsp_text.proofs.LineBounds.{all-append, all-take}
use Rattle.rtsp_text.proofs.SingleLineTexts.{one_line-url}
use Rattle.rtsp_text.proofs.UrlBytes.{all_of}
use Rattle.rtsp_replies.specs.Replies.{play_text, setup_text, transport_value}
use Rattle.connection_laws.proofs.Lists.{Each}
use Rattle.connection_laws.proofs.PlayReplyReading.{IsReplyRead, play_read, read_reply}

-- a text of printable bytes other than the space
abbrev pub IsPrinted : List ℕ → Type 0
IsPrinted text = list_all is_url_byte text ≡ true

-- ---- no blanks are around it

no_leading : (text : List ℕ) → IsPrinted text → without_leading_blanks text ≡ text
no_leading [] prints = refl
no_leading (c ∷ text) prints = grind arith

pub bare_printed : (text : List ℕ) → IsPrinted text → without_blanks text ≡ text
bare_printed text prints = search (no_leading, all-reverse, reverse-reverse)

pub plain_field : {value : List ℕ} (name : List ℕ) → is_token name ≡ true → IsPrinted value → IsPlain (field name value)
plain_field {value} name token prints = search (one_line-url, bare_printed)

-- ---- numbers

pub printed_decimal : (n : ℕ) → n < 2 ^ 64 → IsPrinted (decimal n)
printed_decimal n small =
    all_of is_ascii_digit is_url_byte (λ c digit. grind arith) (decimal n) (digits_decimal decimal_numerals n small)

pub printed_seconds : (ms : ℕ) → ms < 2 ^ 64 → IsPrinted (seconds_text ms)
printed_seconds ms small = grind (arith, all-append, printed_decimal)

-- ---- hexadecimal digits

digit_printed : (k : ℕ) → k < 16 → is_url_byte (get_or lower_digits k 0) ≡ true
digit_printed k inside = grind arith

printed_hex : (bytes : List ℕ) → Each (λ byte. byte < 256) bytes → IsPrinted (encode_lower bytes)
unfolding encode_with
printed_hex [] are = refl
printed_hex (byte ∷ bytes) are =
    rw (digit_printed (byte / 16) (omega (arith, are.0)), digit_printed (byte % 16) (omega arith))
    (printed_hex bytes are.1)

pub printed_w32 : (n : ℕ) → IsPrinted (encode_lower (to_be_bytes w32 n))
printed_w32 n = printed_hex (to_be_bytes w32 n) (omega arith, (omega arith, (omega arith, (omega arith, tt))))

pub printed_w64 : (n : ℕ) → IsPrinted (encode_lower (to_be_bytes w64 n))
printed_w64 n = grind (arith, printed_hex)

-- ---- a session's id

id_usable : (id : List ℕ) → IsPrinted id → list_all is_value_byte (session_id id) ≡ true
id_usable id prints = search (arith, all-take, bare_printed, all_of)

-- ---- SETUP

-- the reply to SETUP, as the client reads it
pub record IsSetupRead (message : List ℕ) : Type 0 where
  pub answer : IsAnswer message 1 200
  pub named : is_some (setup_session message) ≡ true

pub setup_read : {message : List ℕ} (ssrc : ℕ) (id : List ℕ) → IsMessage message → IsPrinted id
    → message ≡ setup_text 1 0 1 ssrc id → IsSetupRead message
unfolding value_named
setup_read {message} ssrc id whole printed is =
    let fields =
    field (codes "Transport") (transport_value 0 1 ssrc) ∷ field (codes "Session") id ∷ [] in
    let plain : All IsPlain (all_fields (Some 1) fields) =
    search (
      All-nil,
      All-cons,
      plain_field,
      all-append,
      printed_decimal 0 (omega arith),
      printed_decimal 1 (omega arith),
      printed_w32,
    ) depth 12 in
    let read : IsReplyRead message 1 fields = read_reply 1 fields (omega arith) whole.size plain is in
    record { answer = read.answer; named = grind (arith, id_usable id printed, read.values (codes "Session")) }

-- ---- TEARDOWN

pub teardown_read : {message : List ℕ} (id : List ℕ) → IsMessage message → IsPrinted id → message ≡ session_text 3 id
    → IsAnswer message 3 200
teardown_read {message} id whole printed is =
    let fields = field (codes "Session") id ∷ [] in
    (read_reply 3 fields (omega arith) whole.size
    (search (All-nil, All-cons, plain_field, printed_decimal 3 (omega arith))) is).answer

-- ---- PLAY

-- the reply to PLAY, as the client reads it: it has the end of the film and a start
pub record IsPlayAnswer (end_ms : ℕ) (message : List ℕ) : Type 0 where
  pub answer : IsAnswer message 2 200
  pub range : play_range message ≡ Some end_ms
  pub start : is_some (play_start message) ≡ true

-- what a reply to PLAY is written from, in its ranges
pub record PlayText : Type 0 where
  pub id : List ℕ
  pub end_ms : ℕ
  pub authority : List ℕ
  pub name : List ℕ
  pub number : ℕ
  pub time : ℕ
  pub slots : ℕ
  pub id_prints : IsPrinted id
  pub end_fits : end_ms < 2 ^ 64
  pub authority_prints : IsPrinted authority
  pub name_prints : IsPrinted name
  pub number_fits : number < 2 ^ 64
  pub time_fits : time < 2 ^ 64
  pub some : 1 ≤ slots
  pub few : slots ≤ 2 ^ 62 + 1

abbrev pub text_of : PlayText → List ℕ
text_of p = play_text 2 (play_fields p.id 0 p.end_ms p.authority p.name p.number p.time) p.slots

pub play_answer : {message : List ℕ} (p : PlayText) → IsMessage message → message ≡ text_of p
    → IsPlayAnswer p.end_ms message
play_answer {message} p whole is =
    let fields =
    play_fields p.id 0 p.end_ms p.authority p.name p.number p.time ++ field (codes "x-Start") (decimal p.slots) ∷ [] in
    let slots : IsPrinted (decimal p.slots) = printed_decimal p.slots (omega (arith, p.few)) in
    let plain : All IsPlain (all_fields (Some 2) fields) =
    search (
      All-nil,
      All-cons,
      plain_field,
      all-append,
      printed_decimal,
      printed_decimal 2 (omega arith),
      printed_seconds,
      printed_seconds 0 (omega arith),
    ) depth 14 in
    let read : IsPlayRead message p.id 2 p.end_ms p.slots =
    play_read (record { authority = p.authority; name = p.name; number = p.number; time = p.time }) (record {
      id = p.id;
      sequence = 2;
      end_ms = p.end_ms;
      slots = p.slots;
      small = omega arith;
      short = p.end_fits;
      some = p.some;
      few = p.few;
    }) whole.size is plain in
    record { answer = read.answer; range = read.range; start = ap (λ (o : Option ℕ). is_some o) read.start }
