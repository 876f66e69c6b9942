-- Each reply is a complete message, where what it repeats is short and what it counts is a number of
-- 64 bits.
use Rattle.std.proofs.Common.{◌≡◌, ℕ, ◌+◌, ◌*◌, ◌^◌, ◌<◌, ◌≤◌, ◌&&◌, ◌==◌, true, not, nat_lt, nat_le, List, [], ◌∷◌}
use Rattle.std.proofs.Common.{◌++◌, All, codes, decimal, flat_map, get_or, length, Option, Some, None, refl, sym, subst}
use Rattle.std.proofs.Common.{arith}
use Rattle.std.specs.Prelude.{IfSome}
use Rattle.std.specs.List.{list_all}
use Rattle.std.proofs.lemmas.Bool.{and_parts}
use Rattle.std.proofs.lemmas.Bool.Decides.{nat_tests}
use Rattle.std.proofs.lemmas.List.{length-append}
use Rattle.std.proofs.lemmas.List.Elements.{All-head, All-tail}
use Rattle.interleave.specs.declared.content_lengths.TheConstants.{MAX_BODY_BYTES}
use Rattle.vod_base.specs.Blanks.{without_blanks}
use Rattle.vod_base.specs.Names.{good_name, is_name_byte}
use Rattle.vod_base.proofs.TextLemmas.{decimal_read}
use Rattle.early_start.specs.declared.Tried.{Tried}
use Rattle.rtsp_text.specs.Lines.{is_one_line}
use Rattle.rtsp_text.specs.Replies.{Field, field_line, is_code, phrase, reply_front, reply_text, value_named}
use Rattle.rtsp_text.specs.RequestTexts.{HasGivenLength}
use Rattle.rtsp_text.proofs.ReplyTexts.{front_field, whole_reply}
use Rattle.rtsp_text.proofs.UrlBytes.{name_in_url}
use Rattle.rtsp_fields.specs.Sdp.{description_text, seconds_text}
use Rattle.rtsp_fields.specs.declared.transports.Channels.{Channels}
use Rattle.rtsp_methods.specs.declared.refusals.Refusal.{Refusal}
use Rattle.rtsp_methods.specs.declared.refusals.Refusal.TheVariants.{BadRequest, Version, Method, Option as Required}
use Rattle.rtsp_methods.specs.declared.refusals.Refusal.TheVariants.{Session, Film as NoFilm, State as NotNow}
use Rattle.rtsp_methods.specs.declared.refusals.Refusal.TheVariants.{Transport, Parameter, Buffer, Range, Memory}
use Rattle.rtsp_methods.specs.Methods.{name_list}
use Rattle.rtsp_replies.specs.Replies.{started_text, code_of, describe_text, field, full_text, joined_parts, look_body}
use Rattle.rtsp_replies.specs.Replies.{offer_body, over_line, overflow_text, parameters_text, plain_text, play_fields}
use Rattle.rtsp_replies.specs.Replies.{public_text, refusal_fields, refusal_text, session_text, setup_text, start_line}
use Rattle.rtsp_replies.specs.Replies.{start_text, transport_value}
use Rattle.rtsp_replies.specs.Messages.{AreOffersInWords, IsMessage, IsTriedInWords}
use Rattle.rtsp_replies.proofs.ReplyTextLemmas.{AreWritten, IsPrinted, plain-more, printed-append, printed-decimal}
use Rattle.rtsp_replies.proofs.ReplyTextLemmas.{printed-nil, printed-seconds, printed-w32, whole_of, written-more}
use Rattle.rtsp_replies.proofs.ReplyTextLemmas.{written-nil, written-within}
use Rattle.early_start.specs.StartSearch.{Offers}

-- how long parts are in all
abbrev parts_long : List (List ℕ) → ℕ
parts_long [] = 0
parts_long (part ∷ parts) = length part + parts_long parts

length-joined : (parts : List (List ℕ)) → length (joined_parts parts) ≡ parts_long parts
length-joined [] = refl
length-joined (part ∷ parts) = omega (arith, length-append part (joined_parts parts), length-joined parts)

pub short-decimal : (n : ℕ) → n < 2 ^ 64 → length (decimal n) ≤ 20
short-decimal n small = (printed-decimal n small).short

-- a code that a status line may tell, and whose phrase is short
record IsStatus (code : ℕ) : Type 0 where
  known : is_code code ≡ true
  phrase_short : length (phrase code) ≤ 30

ok : IsStatus 200
ok = record { known = refl; phrase_short = omega arith }

not_enough_bandwidth : IsStatus 453
not_enough_bandwidth = record { known = refl; phrase_short = omega arith }

unavailable : IsStatus 503
unavailable = record { known = refl; phrase_short = omega arith }

-- a reply of this code
coded_whole : {code sequence : ℕ} {fields : List Field} (body : List ℕ) → IsStatus code → sequence < 2 ^ 64
    → AreWritten 16256 fields → HasGivenLength fields body → length body ≤ MAX_BODY_BYTES
    → IsMessage (reply_text code (Some sequence) fields body)
coded_whole {code} {sequence} {fields} body status number written given small =
    whole_of (record { code = code; sequence = Some sequence; fields = fields; body = body }) assumption

says_whole : {sequence : ℕ} {fields : List Field} (body : List ℕ) → sequence < 2 ^ 64 → AreWritten 16256 fields
    → HasGivenLength fields body → length body ≤ MAX_BODY_BYTES → IsMessage (reply_text 200 (Some sequence) fields body)
says_whole body number written given small = coded_whole body ok number written given small

pub public_whole : (sequence : ℕ) → sequence < 2 ^ 64 → IsMessage (public_text sequence)
unfolding value_named
public_whole sequence number =
    let most : length name_list ≤ 100 = omega arith in
    says_whole [] number (written-within (omega arith)
    (plain-more (record { name_is = refl; one_line = refl; bare = refl }) most written-nil)) refl (omega arith)

pub session_whole : (sequence : ℕ) (id : List ℕ) → sequence < 2 ^ 64 → IsPrinted 16 id → IsMessage
    (session_text sequence id)
unfolding value_named
session_whole sequence id number printed =
    says_whole [] number (written-within (omega arith) (written-more (codes "Session") refl printed written-nil)) refl
    (omega arith)

pub plain_whole : (sequence : ℕ) → sequence < 2 ^ 64 → IsMessage (plain_text sequence)
unfolding value_named
plain_whole sequence number = says_whole [] number (written-within (omega arith) written-nil) refl (omega arith)

pub parameters_whole : (sequence : ℕ) (body : List ℕ) → sequence < 2 ^ 64 → length body ≤ MAX_BODY_BYTES
    → IsMessage (parameters_text sequence body)
unfolding value_named
parameters_whole sequence body number small =
    let kind : IsPrinted 15 (codes "text/parameters") = record { short = omega arith; prints = refl } in
    let fits : length body < 2 ^ 64 = omega (arith, small) in
    says_whole body number (written-within (omega arith) (written-more (codes "Content-Type") refl kind
    (written-more (codes "Content-Length") refl (printed-decimal (length body) fits) written-nil)))
    (decimal_read (length body) fits) small

-- channels in numbers of 64 bits
pub record AreSmall (channels : Channels) : Type 0 where
  pub media : channels.media < 2 ^ 64
  pub control : channels.control < 2 ^ 64

-- the reply to a SETUP
pub setup_whole : {channels : Channels} {id : List ℕ} (sequence ssrc : ℕ) → sequence < 2 ^ 64 → AreSmall channels
    → IsPrinted 16 id → IsMessage (setup_text sequence channels.media channels.control ssrc id)
unfolding value_named
setup_whole {channels} sequence ssrc number are printed =
    let front : IsPrinted 32 (codes "RTP/AVP/TCP;unicast;interleaved=") =
    record { short = omega arith; prints = refl } in
    let dash : IsPrinted 1 (codes "-") = record { short = omega arith; prints = refl } in
    let source : IsPrinted 6 (codes ";ssrc=") = record { short = omega arith; prints = refl } in
    let transport : IsPrinted 87 (transport_value channels.media channels.control ssrc) =
    printed-append front (printed-append (printed-decimal channels.media are.media) (printed-append dash
    (printed-append (printed-decimal channels.control are.control)
    (printed-append source (printed-append (printed-w32 ssrc) printed-nil))))) in
    says_whole [] number (written-within (omega arith) (written-more (codes "Transport") refl transport
    (written-more (codes "Session") refl printed written-nil))) refl (omega arith)

-- a film's good name, and how long the film is
pub name_printed : (name : List ℕ) → good_name name ≡ true → IsPrinted 64 name
name_printed name good =
    let all = and_parts (nat_lt 0 (length name) && nat_le (length name) 64 && not (get_or name 0 0 == 46))
    (list_all is_name_byte name) good in
    let fits : nat_le (length name) 64 ≡ true =
    (and_parts (nat_lt 0 (length name)) (nat_le (length name) 64)
    (and_parts (nat_lt 0 (length name) && nat_le (length name) 64) (not (get_or name 0 0 == 46)) all.0).0).1 in
    record { short = grind (arith, nat_tests); prints = name_in_url name all.1 }

-- the reply to a DESCRIBE
description_short : (name : List ℕ) (ms : ℕ) → length name ≤ 64 → ms < 2 ^ 64 → length (description_text name ms) ≤ 512
description_short name ms short small =
    let a = codes "v=0\r\no=- 0 0 IN IP4 127.0.0.1\r\ns=" in
    let b = codes "\r\nc=IN IP4 0.0.0.0\r\nt=0 0\r\na=control:*\r\na=range:npt=0-" in
    let e = codes "\r\nm=video 0 RTP/AVP 32\r\na=control:video\r\n" in
    omega (
      arith,
      length-append (a ++ name ++ b ++ seconds_text ms) e,
      length-append (a ++ name ++ b) (seconds_text ms),
      length-append (a ++ name) b,
      length-append a name,
      (printed-seconds ms small).short,
      short,
    )

pub describe_whole : {authority name : List ℕ} (sequence ms : ℕ) → sequence < 2 ^ 64 → IsPrinted 15872 authority
    → IsPrinted 64 name → ms < 2 ^ 64 → IsMessage (describe_text sequence authority name ms)
unfolding value_named
describe_whole {name} sequence ms number under named small =
    let body = description_text name ms in
    let short = description_short name ms named.short small in
    let fits : length body < 2 ^ 64 = omega (arith, short) in
    let scheme : IsPrinted 7 (codes "rtsp://") = record { short = omega arith; prints = refl } in
    let slash : IsPrinted 1 (codes "/") = record { short = omega arith; prints = refl } in
    let base = printed-append scheme (printed-append under (printed-append slash (printed-append named
    (printed-append slash printed-nil)))) in
    let kind : IsPrinted 15 (codes "application/sdp") = record { short = omega arith; prints = refl } in
    says_whole body number (written-within (omega arith) (written-more (codes "Content-Base") refl base
    (written-more (codes "Content-Type") refl kind
    (written-more (codes "Content-Length") refl (printed-decimal (length body) fits) written-nil))))
    (decimal_read (length body) fits) (omega (arith, short))

-- what a refusal repeats of its request
pub record IsRepeated (option : List ℕ) : Type 0 where
  pub short : length option ≤ 15872
  pub one_line : is_one_line option ≡ true
  pub bare : without_blanks option ≡ option

pub repeats_nothing : IsRepeated []
repeats_nothing = record { short = omega arith; one_line = refl; bare = refl }

abbrev pub HasFitLeast : Refusal → Type 0
HasFitLeast refusal = (least : ℕ) → refusal ≡ Buffer least → least < 2 ^ 64

refusal_status : (refusal : Refusal) → IsStatus (code_of refusal)
refusal_status BadRequest = record { known = refl; phrase_short = omega arith }
refusal_status _ = record { known = refl; phrase_short = omega arith }

record IsRefusing (refusal : Refusal) (option : List ℕ) : Type 0 where
  written : AreWritten 16256 (refusal_fields refusal option)
  given : HasGivenLength (refusal_fields refusal option) []

says_nothing : (refusal : Refusal) (option : List ℕ) → refusal_fields refusal option ≡ [] → IsRefusing refusal option
unfolding value_named
says_nothing refusal option none = record {
  written = subst (AreWritten 16256) (sym none) (written-within (omega arith) written-nil);
  given = subst (λ (fields : List Field). HasGivenLength fields []) (sym none) refl;
}

refusing : (refusal : Refusal) (option : List ℕ) → IsRepeated option → HasFitLeast refusal → IsRefusing refusal option
unfolding value_named
refusing BadRequest option repeats fits = says_nothing BadRequest option refl
refusing Version option repeats fits = says_nothing Version option refl
refusing Method option repeats fits = says_nothing Method option refl
refusing Required option repeats fits = record {
  written = written-within (omega arith)
      (plain-more (record {
        name_is = refl;
        one_line = repeats.one_line;
        bare = repeats.bare;
      }) repeats.short written-nil);
  given = refl;
}
refusing Session option repeats fits = says_nothing Session option refl
refusing NoFilm option repeats fits = says_nothing NoFilm option refl
refusing NotNow option repeats fits = says_nothing NotNow option refl
refusing Transport option repeats fits = says_nothing Transport option refl
refusing Parameter option repeats fits = says_nothing Parameter option refl
refusing (Buffer least) option repeats fits = record {
  written = written-within (omega arith)
      (written-more (codes "x-Least-Buffer") refl (printed-decimal least (fits least refl)) written-nil);
  given = refl;
}
refusing Range option repeats fits = says_nothing Range option refl
refusing Memory option repeats fits = says_nothing Memory option refl

pub refusal_whole : (sequence : Option ℕ) (refusal : Refusal) (option : List ℕ) → IfSome sequence (λ n. n < 2 ^ 64)
    → IsRepeated option → HasFitLeast refusal → IsMessage (refusal_text sequence refusal option)
refusal_whole sequence refusal option number repeats fits =
    let status = refusal_status refusal in
    let is = refusing refusal option repeats fits in
    whole_of (record { code = code_of refusal; sequence = sequence; fields = refusal_fields refusal option; body = [] })
    (record {
      known = status.known;
      phrase_short = status.phrase_short;
      number = number;
      written = is.written;
      given = is.given;
      small = omega arith;
    })

-- the answers to a PLAY: what a slot without room tells, in its ranges
pub record OverflowParts : Type 0 where
  pub slot : ℕ
  pub booked : ℕ
  pub asked : ℕ
  pub slot_fits : slot < 2 ^ 64
  pub booked_fits : booked < 2 ^ 64
  pub asked_fits : asked < 2 ^ 64

pub overflow_whole : (sequence : ℕ) (p : OverflowParts) → sequence < 2 ^ 64
    → IsMessage (overflow_text sequence p.slot p.booked p.asked)
unfolding value_named
overflow_whole sequence p number =
    let fields = written-more (codes "x-Slot") refl (printed-decimal p.slot p.slot_fits)
    (written-more (codes "x-Booked") refl (printed-decimal p.booked p.booked_fits)
    (written-more (codes "x-Asked") refl (printed-decimal p.asked p.asked_fits) written-nil)) in
    coded_whole [] not_enough_bandwidth number (written-within (omega arith) fields) refl (omega arith)

pub full_whole : (sequence entries live : ℕ) → sequence < 2 ^ 64 → entries < 2 ^ 64 → live < 2 ^ 64
    → IsMessage (full_text sequence entries live)
unfolding value_named
full_whole sequence entries live number one two =
    let fields = written-more (codes "x-Entries") refl (printed-decimal entries one)
    (written-more (codes "x-Open") refl (printed-decimal live two) written-nil) in
    coded_whole [] unavailable number (written-within (omega arith) fields) refl (omega arith)

-- what a play's reply tells, in its ranges
pub record PlayParts : Type 0 where
  pub sequence : ℕ
  pub id : List ℕ
  pub from_ms : ℕ
  pub to_ms : ℕ
  pub authority : List ℕ
  pub name : List ℕ
  pub number : ℕ
  pub time : ℕ
  pub sequence_fits : sequence < 2 ^ 64
  pub id_is : IsPrinted 16 id
  pub from_fits : from_ms < 2 ^ 64
  pub to_fits : to_ms < 2 ^ 64
  pub under : IsPrinted 15872 authority
  pub named : IsPrinted 64 name
  pub number_fits : number < 2 ^ 64
  pub time_fits : time < 2 ^ 64

abbrev pub front_fields : PlayParts → List Field
front_fields p = play_fields p.id p.from_ms p.to_ms p.authority p.name p.number p.time

pub play_whole : (p : PlayParts) (slots : ℕ) → slots < 2 ^ 64
    → IsMessage (started_text (reply_front 200 (Some p.sequence) (front_fields p)) slots)
unfolding value_named
play_whole p slots small =
    let own = field (codes "x-Start") (decimal slots) in
    let front = reply_front 200 (Some p.sequence) (front_fields p) in
    let more : front ++ field_line own ≡ reply_front 200 (Some p.sequence) (front_fields p ++ own ∷ []) =
    front_field {old = front} 200 (Some p.sequence) (front_fields p) own refl refl in
    let text : started_text front slots ≡ reply_text 200 (Some p.sequence) (front_fields p ++ own ∷ []) [] =
    whole_reply {old = front ++ field_line own} 200 (Some p.sequence) (front_fields p ++ own ∷ []) [] refl more in
    let npt : IsPrinted 4 (codes "npt=") = record { short = omega arith; prints = refl } in
    let dash : IsPrinted 1 (codes "-") = record { short = omega arith; prints = refl } in
    let scheme : IsPrinted 11 (codes "url=rtsp://") = record { short = omega arith; prints = refl } in
    let slash : IsPrinted 1 (codes "/") = record { short = omega arith; prints = refl } in
    let video : IsPrinted 11 (codes "/video;seq=") = record { short = omega arith; prints = refl } in
    let clock : IsPrinted 9 (codes ";rtptime=") = record { short = omega arith; prints = refl } in
    let range = printed-append npt (printed-append (printed-seconds p.from_ms p.from_fits) (printed-append dash
    (printed-append (printed-seconds p.to_ms p.to_fits) printed-nil))) in
    let info = printed-append scheme (printed-append p.under (printed-append slash (printed-append p.named
    (printed-append video (printed-append (printed-decimal p.number p.number_fits) (printed-append clock
    (printed-append (printed-decimal p.time p.time_fits) printed-nil))))))) in
    let fields = written-more (codes "Session") refl p.id_is (written-more (codes "Range") refl range
    (written-more (codes "RTP-Info") refl info
    (written-more (codes "x-Start") refl (printed-decimal slots small) written-nil))) in
    subst IsMessage (sym text) (says_whole [] p.sequence_fits (written-within (omega arith) fields) refl (omega arith))

-- the bodies of the replies to GET_PARAMETER
pub look_short : (now at booked : ℕ) → now < 2 ^ 64 → at < 2 ^ 64 → booked < 2 ^ 64 → length
    (look_body now at booked) ≤ MAX_BODY_BYTES
look_short now at booked one two three =
    omega (
      arith,
      length-joined (codes "x-Now: " ∷ decimal now ∷ codes "\r\nx-Slot: " ∷ decimal at ∷ codes "\r\nx-Booked: "
          ∷ decimal booked ∷ codes "\r\n" ∷ []),
      short-decimal now one,
      short-decimal at two,
      short-decimal booked three,
    )

start_short : (start : Option ℕ) → IfSome start (λ slot. slot < 2 ^ 64) → length (start_text start) ≤ 20
start_short None fits = omega arith
start_short (Some start) fits = short-decimal start fits

over_short : (tried : Tried) → IsTriedInWords tried → length (over_line tried) ≤ 93
over_short tried is =
    omega (
      arith,
      length-joined (codes "x-Over: " ∷ decimal tried.start ∷ codes " " ∷ decimal tried.over.slot ∷ codes " "
          ∷ decimal tried.over.booked ∷ codes " " ∷ decimal tried.over.asked ∷ codes "\r\n" ∷ []),
      short-decimal tried.start is.start,
      short-decimal tried.over.slot is.slot,
      short-decimal tried.over.booked is.booked,
      short-decimal tried.over.asked is.asked,
    )

overs_short : (tried : List Tried) → All IsTriedInWords tried → length (flat_map over_line tried) ≤ 93 * length tried
overs_short [] all = omega arith
overs_short (one ∷ tried) all =
    let first = over_short one (All-head IsTriedInWords one tried all) in
    let rest = overs_short tried (All-tail IsTriedInWords one tried all) in
    omega (arith, length-append (over_line one) (flat_map over_line tried), first, rest)

pub offer_short : (offers : Offers) → AreOffersInWords offers
    → length (offer_body offers.start offers.tried) ≤ MAX_BODY_BYTES
offer_short offers are =
    let start = offers.start in
    let tried = offers.tried in
    omega (
      arith,
      length-append (start_line start) (flat_map over_line tried),
      length-joined (codes "x-Start: " ∷ start_text start ∷ codes "\r\n" ∷ []),
      start_short start are.start,
      overs_short tried are.tried,
      are.few,
    )
