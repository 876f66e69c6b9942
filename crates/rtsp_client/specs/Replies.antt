-- What a client reads in a reply (RFC 2326 sections 7 and 12).
use Rattle.std.specs.Prelude.{◌≡◌, ℕ, ◌+◌, ◌-◌, ◌*◌, ◌==◌, ◌&&◌, Bool, not}
use Rattle.std.specs.Prelude.{if◌then◌else◌, nat_eq, nat_le, nat_lt, List, length, take, drop}
use Rattle.std.specs.Prelude.{slice_index, Option, Some, None, option_map, option_and_then, codes}
use Rattle.std.specs.List.{before_first, list_all, starts_with}
use Rattle.vod_base.specs.Blanks.{without_blanks}
use Rattle.vod_base.specs.declared.links.TheConstants.{LATEST_SLOT}
use Rattle.vod_base.specs.Numbers.{number_of}
use Rattle.rtsp_text.specs.Lines.{first_line}
use Rattle.rtsp_text.specs.Fields.{header_value}
use Rattle.rtsp_text.specs.Grammar.{is_value_byte}
use Rattle.rtsp_text.specs.StatusLines.{IsStatusLine}

-- the number that the first field of a name writes
abbrev pub number_in : List ℕ → List ℕ → Option ℕ
number_in message name = option_and_then number_of (header_value message name)

-- a reply to the request of this number has this code: its first line is a status line, and its
-- CSeq is the number
pub record IsAnswer (message : List ℕ) (number code : ℕ) : Type 0 where
  pub phrase : List ℕ
  pub line : IsStatusLine (first_line message) code phrase
  pub sequence : number_in message (codes "CSeq") ≡ Some number

-- the value of a Session field up to its first `;`, without the blanks around it
abbrev pub session_id : List ℕ → List ℕ
session_id value = without_blanks (before_first (λ byte. byte == 59) value)

-- the session that a reply names
abbrev pub session_in : List ℕ → Option (List ℕ)
session_in message = option_map session_id (header_value message (codes "Session"))

-- an id that a header field of a request may have: no control byte but the tab
abbrev pub usable_id : List ℕ → Option (List ℕ)
usable_id id = if list_all is_value_byte id then Some id else None

-- the session that the reply to SETUP begins, whose id stands in the requests that follow
abbrev pub setup_session : List ℕ → Option (List ℕ)
setup_session message = option_and_then usable_id (session_in message)

-- the milliseconds of seconds and a fraction of three digits
abbrev pub milliseconds : List ℕ → List ℕ → Option ℕ
milliseconds seconds fraction =
    option_and_then (λ s. option_map (λ f. s * 1000 + f) (number_of fraction)) (number_of seconds)

-- whether a text has a point before its last three bytes, and no needless leading zero
abbrev pub has_point : List ℕ → Bool
has_point text =
    nat_le 4 (length text) && (slice_index text (length text - 4) == 46)
    && not (nat_lt 5 (length text) && (slice_index text 0 == 48))

-- the time of a text that is seconds, a point and three digits
abbrev pub time_in : List ℕ → Option ℕ
time_in text =
    if has_point text then milliseconds (take (length text - 4) text) (drop (length text - 3) text)
    else None

-- the end, in milliseconds, of a range from the film's beginning: `npt=0.000-` and that time
abbrev pub range_end : List ℕ → Option ℕ
range_end value = if starts_with nat_eq value (codes "npt=0.000-")
    then time_in (drop 10 value) else None

-- the end of the range that a reply to PLAY gives
abbrev pub play_range : List ℕ → Option ℕ
play_range message = option_and_then range_end (header_value message (codes "Range"))

-- a number from 1 to the slot after the latest one
abbrev pub start_within : ℕ → Option ℕ
start_within start = if nat_le 1 start && nat_le start (LATEST_SLOT + 1) then Some start else None

-- in how many slots the play starts that a reply gives
abbrev pub play_start : List ℕ → Option ℕ
play_start message = option_and_then start_within (number_in message (codes "x-Start"))
