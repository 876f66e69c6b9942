-- What a client reads in the reply to PLAY that a server writes.
use Rattle.std.proofs.lemmas.Grind.{common_steps}
use Rattle.std.proofs.Common.{◌≡◌, ℕ, ◌+◌, ◌-◌, ◌*◌, ◌/◌, ◌%◌, ◌^◌, ◌<◌, ◌≤◌, ◌&&◌, ◌==◌, true, not, nat_lt, List, []}
use Rattle.std.proofs.Common.{◌∷◌, ◌++◌, All, codes, decimal, length, get_or, take, drop, Some, None, refl, ap, ◌∙◌}
use Rattle.std.proofs.Common.{append_assoc, arith, rules}
use Rattle.std.specs.Prelude.{option_and_then}
use Rattle.std.proofs.lemmas.Bool.{cond-true, eq-eqb, le-leb}
use Rattle.std.proofs.lemmas.Fmt.{decimal_digit, decimal_nonempty}
use Rattle.std.proofs.lemmas.List.{append-nil, length-append, get_or_append_left, get_or-append_right, drop_at}
use Rattle.connection_laws.proofs.Terms.{Film, picture_time, length_ms, field, joined_parts, play_fields, IsPlayRead}
use Rattle.connection_laws.proofs.Terms.{seconds_text, units_until, IsMessageLength, header_value, Field, IsPlain}
use Rattle.connection_laws.proofs.Terms.{all_fields, IsAnswer}
use Rattle.rtsp_replies.specs.Replies.{play_text}
use Rattle.plan_cert.proofs.DecimalLemmas.{no_leading_zero}
use Rattle.vod_base.specs.Numbers.{number_of}
use Rattle.vod_base.proofs.TextLemmas.{decimal_read}
use Rattle.rtsp_text.specs.Replies.{phrase, reply_front, reply_text, value_named}
use Rattle.rtsp_text.proofs.ReplyRoundTrip.{read_back}
use Rattle.rtsp_client.specs.Replies.{has_point, milliseconds, start_within, time_in}

three : (a b c : ℕ) → a < 10 → b < 10 → c < 10 → number_of ((48 + a) ∷ (48 + b) ∷ (48 + c) ∷ [])
    ≡ Some (a * 100 + b * 10 + c)
three a b c la lb lc = search rules

abbrev digits_of : ℕ → List ℕ
digits_of ms = (48 + ms / 100 % 10) ∷ (48 + ms / 10 % 10) ∷ (48 + ms % 10) ∷ []

-- seconds, a point and three digits
abbrev point_text : ℕ → List ℕ
point_text ms = decimal (ms / 1000) ++ 46 ∷ digits_of ms

seconds_is : (ms : ℕ) → seconds_text ms ≡ point_text ms
seconds_is ms = grind (arith, decimal_digit, append_assoc)

time_read : (ms : ℕ) → ms < 2 ^ 64 → time_in (seconds_text ms) ≡ Some ms
time_read ms small =
    let s = decimal (ms / 1000) in
    let text = point_text ms in
    let last = digits_of ms in
    let size : length text ≡ length s + 4 = length-append s (46 ∷ last) in
    let few : ms / 1000 < 2 ^ 64 = omega (arith, small) in
    let some : 0 < length s = grind (arith, decimal_nonempty (ms / 1000) few) in
    let at3 : length text - 3 ≡ length s + 1 = omega (arith, size) in
    let dot : get_or text (length text - 4) 0 ≡ 46 = grind (arith, get_or-append_right) in
    let front : get_or text 0 0 ≡ get_or s 0 0 = get_or_append_left s (46 ∷ last) 0 0 some in
    let bare : not (nat_lt 5 (length text) && (get_or text 0 0 == 48)) ≡ true = search (arith, no_leading_zero) in
    let there : has_point text ≡ true =
    rw (le-leb 4 (length text) (omega (arith, size)), eq-eqb (get_or text (length text - 4) 0) 46 dot, bare) in
    let seconds : take (length text - 4) text ≡ s = grind (arith, common_steps) in
    let after : drop (length text - 3) text ≡ last =
    cc (at3, append_assoc s (46 ∷ []) last, drop_at (s ++ 46 ∷ []) last (length s + 1) (length-append s (46 ∷ []))) in
    let whole : ms / 1000 * 1000 + (ms / 100 % 10 * 100 + ms / 10 % 10 * 10 + ms % 10) ≡ ms = omega arith in
    let read : milliseconds s last
    ≡ Some ms = search (
      decimal_read (ms / 1000) few,
      three (ms / 100 % 10) (ms / 10 % 10) (ms % 10) (omega arith) (omega arith) (omega arith),
    ) in
    ap time_in (seconds_is ms)
    ∙ (cond-true (has_point text) (milliseconds (take (length text - 4) text) (drop (length text - 3) text)) None there
    ∙ cc (seconds, after, read))

-- ---- the reply to PLAY

start_read : (slots : ℕ) → 1 ≤ slots → slots ≤ 2 ^ 62 + 1
    → option_and_then start_within (number_of (decimal slots)) ≡ Some slots
start_read slots some few = grind (arith, decimal_read slots (omega (arith, few)))

-- the session and the numbers of a PLAY's reply, in their ranges
pub record PlayNumbers : Type 0 where
  pub id : List ℕ
  pub sequence : ℕ
  pub end_ms : ℕ
  pub slots : ℕ
  pub small : sequence < 2 ^ 64
  pub short : end_ms < 2 ^ 64
  pub some : 1 ≤ slots
  pub few : slots ≤ 2 ^ 62 + 1

-- a reply of 200 answers the request of its number, and each name has the value of its first field of that name
pub record IsReplyRead (message : List ℕ) (number : ℕ) (fields : List Field) : Type 0 where
  pub answer : IsAnswer message number 200
  pub values : (name : List ℕ) → header_value message name ≡ value_named name (all_fields (Some number) fields)

pub read_reply : {message : List ℕ} (number : ℕ) (fields : List Field) → number < 2 ^ 64
    → IsMessageLength message (length message) → All IsPlain (all_fields (Some number) fields)
    → message ≡ reply_text 200 (Some number) fields [] → IsReplyRead message number fields
unfolding reply_text value_named
read_reply {message} number fields small size plain is =
    let head = reply_front 200 (Some number) fields ++ codes "\r\n" in
    let back = read_back (record { code = 200; sequence = Some number; fields = fields; body = [] }) size
    refl plain is in
    let same : message ≡ head = is ∙ append-nil head in
    let value : (name : List ℕ) → header_value message name ≡ value_named name (all_fields (Some number) fields) =
    grind arith in
    record {
      answer = record {
        phrase = phrase 200;
        line = back.reply.line;
        sequence = cc (value (codes "CSeq"), decimal_read number small);
      };
      values = value;
    }

range_text : (end_ms : ℕ) → joined_parts (codes "npt=" ∷ seconds_text 0 ∷ codes "-" ∷ seconds_text end_ms ∷ [])
    ≡ codes "npt=0.000-" ++ seconds_text end_ms
range_text end_ms = rw (decimal_digit 0 (omega arith), append-nil (seconds_text end_ms))

-- what a reply states of its stream: where it is asked for, and its first packet
pub record StreamInfo : Type 0 where
  pub authority : List ℕ
  pub name : List ℕ
  pub number : ℕ
  pub time : ℕ

pub play_read : {message : List ℕ} (stream_info : StreamInfo) (numbers : PlayNumbers) →
    IsMessageLength message (length message) → message ≡ play_text numbers.sequence
    (play_fields numbers.id 0 numbers.end_ms stream_info.authority stream_info.name stream_info.number
    stream_info.time) numbers.slots →
    All IsPlain (all_fields (Some numbers.sequence)
    (play_fields numbers.id 0 numbers.end_ms stream_info.authority stream_info.name
    stream_info.number stream_info.time ++ field (codes "x-Start") (decimal numbers.slots) ∷ [])) →
    IsPlayRead message numbers.id numbers.sequence numbers.end_ms numbers.slots
unfolding value_named
play_read stream_info numbers size is plain =
    let fields =
    play_fields id 0 end_ms stream_info.authority stream_info.name stream_info.number stream_info.time
    ++ field (codes "x-Start") (decimal slots) ∷ [] in
    let read = read_reply sequence fields small size plain is in
    record {
      answer = read.answer;
      session = cc (read.values (codes "Session"));
      range = cc (read.values (codes "Range"), range_text end_ms, time_read end_ms short);
      start = rw (read.values (codes "x-Start"), start_read slots some few);
    }
  where
    open numbers use {id, sequence, end_ms, slots, small, short, some, few}

-- ---- the number of a film's units

pub film_counted : (film : Film) → units_until (length_ms film) (picture_time film.rate) ≡ length film.units.items
film_counted film = grind arith
