-- The entire replies of a session (RFC 2326 sections 7 and 10).
use Rattle.std.specs.Prelude.{ℕ, ◌++◌, List, [], ◌∷◌, Option, Some, None, length, codes, decimal}
use Rattle.std.specs.Prelude.{flat_map}
use Rattle.std.specs.Int.{w32, to_be_bytes}
use Rattle.hex.specs.Hex.{encode_lower}
use Rattle.rtsp_text.specs.Replies.{Field, field_line, reply_text}
use Rattle.rtsp_fields.specs.Sdp.{description_text, seconds_text}
use Rattle.early_start.specs.declared.Tried.{Tried}
use Rattle.rtsp_methods.specs.Methods.{name_list}
use Rattle.rtsp_methods.specs.declared.refusals.Refusal.{Refusal}
use Rattle.rtsp_methods.specs.declared.refusals.Refusal.TheVariants.{BadRequest, Version, Method}
use Rattle.rtsp_methods.specs.declared.refusals.Refusal.TheVariants.{Option as Required, Session}
use Rattle.rtsp_methods.specs.declared.refusals.Refusal.TheVariants.{Film, State, Transport}
use Rattle.rtsp_methods.specs.declared.refusals.Refusal.TheVariants.{Parameter, Buffer, Range}
use Rattle.rtsp_methods.specs.declared.refusals.Refusal.TheVariants.{Memory}

abbrev pub field : List ℕ → List ℕ → Field
field name value = record { name = name; value = value }

-- parts, one after another
abbrev pub joined_parts : List (List ℕ) → List ℕ
joined_parts parts = flat_map (λ part. part) parts

-- the code of each refusal
abbrev pub code_of : Refusal → ℕ
code_of BadRequest = 400
code_of Version = 505
code_of Method = 501
code_of Required = 551
code_of Session = 454
code_of Film = 404
code_of State = 455
code_of Transport = 461
code_of Parameter = 451
code_of (Buffer least) = 451
code_of Range = 457
code_of Memory = 500

-- what a refusal says in addition; the option is the one that its request requires
abbrev pub refusal_fields : Refusal → List ℕ → List Field
refusal_fields Required option = field (codes "Unsupported") option ∷ []
refusal_fields (Buffer least) option = field (codes "x-Least-Buffer") (decimal least) ∷ []
refusal_fields _ option = []

abbrev pub refusal_text : Option ℕ → Refusal → List ℕ → List ℕ
refusal_text sequence refusal option =
    reply_text (code_of refusal) sequence (refusal_fields refusal option) []

abbrev pub public_text : ℕ → List ℕ
public_text sequence = reply_text 200 (Some sequence)
    (field (codes "Public") name_list ∷ []) []

-- the description of a film that takes so many milliseconds, under the authority of the request's
-- URL
abbrev pub describe_text : ℕ → List ℕ → List ℕ → ℕ → List ℕ
describe_text sequence authority name end_ms = reply_text 200 (Some sequence)
    (field (codes "Content-Base")
    (joined_parts (codes "rtsp://" ∷ authority ∷ codes "/" ∷ name ∷ codes "/" ∷ []))
    ∷ field (codes "Content-Type") (codes "application/sdp")
    ∷ field (codes "Content-Length") (decimal (length (description_text name end_ms))) ∷ [])
    (description_text name end_ms)

-- the channels, and the SSRC in eight hexadecimal digits
abbrev pub transport_value : ℕ → ℕ → ℕ → List ℕ
transport_value media control ssrc = joined_parts
    (codes "RTP/AVP/TCP;unicast;interleaved=" ∷ decimal media ∷ codes "-" ∷ decimal control
    ∷ codes ";ssrc=" ∷ encode_lower (to_be_bytes w32 ssrc) ∷ [])

abbrev pub setup_text : ℕ → ℕ → ℕ → ℕ → List ℕ → List ℕ
setup_text sequence media control ssrc id = reply_text 200 (Some sequence)
    (field (codes "Transport") (transport_value media control ssrc) ∷ field
    (codes "Session") id ∷ []) []

abbrev pub session_text : ℕ → List ℕ → List ℕ
session_text sequence id = reply_text 200 (Some sequence) (field (codes "Session") id ∷ []) []

abbrev pub plain_text : ℕ → List ℕ
plain_text sequence = reply_text 200 (Some sequence) [] []

-- what a play's reply says of its run: from and to which time in milliseconds, and from which
-- frame, of which timestamp
abbrev pub play_fields : List ℕ → ℕ → ℕ → List ℕ → List ℕ → ℕ → ℕ → List Field
play_fields id first_ms end_ms authority name number time =
    field (codes "Session") id
    ∷ field (codes "Range")
    (joined_parts (codes "npt=" ∷ seconds_text first_ms ∷ codes "-" ∷ seconds_text end_ms ∷ []))
    ∷ field (codes "RTP-Info") (joined_parts (codes "url=rtsp://" ∷ authority ∷ codes "/" ∷ name
    ∷ codes "/video;seq=" ∷ decimal number ∷ codes ";rtptime=" ∷ decimal time ∷ []))
    ∷ []

-- a play's reply: it begins so many slots after the last one received
abbrev pub play_text : ℕ → List Field → ℕ → List ℕ
play_text sequence fields slots =
    reply_text 200 (Some sequence) (fields ++ field (codes "x-Start") (decimal slots) ∷ []) []

-- a reply's first part, ended by the slots from the last one received to the play's start
abbrev pub started_text : List ℕ → ℕ → List ℕ
started_text front slots =
    front ++ field_line (field (codes "x-Start") (decimal slots)) ++ codes "\r\n"

abbrev pub overflow_text : ℕ → ℕ → ℕ → ℕ → List ℕ
overflow_text sequence slot booked asked = reply_text 453 (Some sequence)
    (field (codes "x-Slot") (decimal slot) ∷ field (codes "x-Booked") (decimal booked) ∷ field
    (codes "x-Asked") (decimal asked) ∷ []) []

abbrev pub full_text : ℕ → ℕ → ℕ → List ℕ
full_text sequence entries live = reply_text 503 (Some sequence)
    (field (codes "x-Entries") (decimal entries) ∷ field (codes "x-Open") (decimal live) ∷ [])
    []

abbrev pub parameters_text : ℕ → List ℕ → List ℕ
parameters_text sequence body = reply_text 200 (Some sequence)
    (field (codes "Content-Type") (codes "text/parameters") ∷ field (codes "Content-Length")
    (decimal (length body)) ∷ []) body

-- the lines of a look's body
abbrev pub look_body : ℕ → ℕ → ℕ → List ℕ
look_body now at booked = joined_parts
    (codes "x-Now: " ∷ decimal now ∷ codes "\r\nx-Slot: " ∷ decimal at
    ∷ codes "\r\nx-Booked: " ∷ decimal booked ∷ codes "\r\n" ∷ [])

-- the lines of an offer's body
abbrev pub start_text : Option ℕ → List ℕ
start_text None = codes "none"
start_text (Some start) = decimal start

abbrev pub start_line : Option ℕ → List ℕ
start_line start = joined_parts (codes "x-Start: " ∷ start_text start ∷ codes "\r\n" ∷ [])

abbrev pub over_line : Tried → List ℕ
over_line tried = joined_parts
    (codes "x-Over: " ∷ decimal tried.start ∷ codes " " ∷ decimal tried.over.slot ∷ codes " "
    ∷ decimal tried.over.booked ∷ codes " " ∷ decimal tried.over.asked ∷ codes "\r\n" ∷ [])

abbrev pub offer_body : Option ℕ → List Tried → List ℕ
offer_body start tried = start_line start ++ flat_map over_line tried
