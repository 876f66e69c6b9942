-- What a moment comes to: the watching goes on, with what is then asked for and handed on; or it
-- gives the answer.
use Rattle.std.specs.Prelude.{◌≡◌, ◌≢◌, ℕ, ◌+◌, ◌<◌, ◌⊎◌, ◌==◌, ◌&&◌, ◌||◌, ⊤, Bool, true}
use Rattle.std.specs.Prelude.{false, if◌then◌else◌, nat_lt, List, [], ◌∷◌, ◌++◌, length}
use Rattle.std.specs.Prelude.{drop, flat_map, slice_index, is_some, unwrap_or}
use Rattle.interleave.specs.Heads.{is_line_end}
use Rattle.rtsp_client.specs.declared.watch_request.Wish.{Wish}
use Rattle.rtsp_client.specs.declared.watch_request.WatchEnd.{WatchEnd}
use Rattle.rtsp_client.specs.declared.watch_request.WatchEnd.TheVariants.{Done, Fault}
use Rattle.rtsp_client.specs.declared.watch_request.WatchFault.TheVariants.{Refused, BadReply}
use Rattle.rtsp_client.specs.declared.watch_request.WatchFault.TheVariants.{BadFrame}
use Rattle.rtsp_client.specs.Replies.{IsAnswer, play_range, play_start, setup_session}
use Rattle.rtsp_client.specs.Requests.{play_text, teardown_text}
use Rattle.rtsp_client.specs.ClientHistory.{History, ClientEvent, Frame, Reply, Report, Slot}
use Rattle.rtsp_client.specs.ClientHistory.{frames, replies, session}
use Rattle.rtsp_client.specs.Films.{is_complete, is_good_frame}
use Rattle.rtsp_client.specs.Meters.{watched_in}

-- a reply is awaited: to SETUP, then to PLAY, and to TEARDOWN once all units are complete
abbrev pub is_awaited : History → Bool
is_awaited h = nat_lt (replies h) 2 || is_complete h

-- an awaited reply has its first line and its CSeq, and this code
pub record IsOrderly (h : History) (message : List ℕ) (code : ℕ) : Type 0 where
  pub awaited : is_awaited h ≡ true
  pub answer : IsAnswer message (replies h + 1) code

-- what a reply with 200 has: a session; or a range from the film's beginning and a start
abbrev pub has_fields : History → List ℕ → Bool
has_fields h message =
    if replies h == 0 then is_some (setup_session message)
    else (if replies h == 1
    then is_some (play_range message) && is_some (play_start message) else true)

abbrev pub IsBadReply : History → List ℕ → Type 0
IsBadReply h message =
    ((code : ℕ) → ¬ IsOrderly h message code)
    ⊎ (IsOrderly h message 200 × (has_fields h message ≡ false))

abbrev pub IsRefused : History → List ℕ → ℕ → Type 0
IsRefused h message code = IsOrderly h message code × (code ≢ 200)

abbrev pub IsGoodReply : History → List ℕ → Type 0
IsGoodReply h message = IsOrderly h message 200 × (has_fields h message ≡ true)

-- the answer that a moment gives
abbrev pub Gives : Wish → History → ClientEvent → WatchEnd → Type 0
Gives wish h (Reply message) end =
    (IsBadReply h message × (end ≡ Fault (BadReply (replies h + 1))))
    ⊎ (((code : ℕ) × (IsRefused h message code × (end ≡ Fault (Refused code))))
    ⊎ (IsGoodReply h message × (replies h ≡ 2) × (end ≡ Done (watched_in wish h))))
Gives wish h (Frame block) end = (is_good_frame h block ≡ false)
    × (end ≡ Fault (BadFrame (frames h)))
Gives wish h (Report block) end = ⊥
Gives wish h (Slot slot cut) end = ⊥

-- or the watching goes on
abbrev pub GoesOn : History → ClientEvent → Type 0
GoesOn h (Reply message) = IsGoodReply h message × (replies h < 2)
GoesOn h (Frame block) = is_good_frame h block ≡ true
GoesOn h (Report block) = ⊤
GoesOn h (Slot slot cut) = ⊤

-- the request that a moment allows: PLAY after the first reply, TEARDOWN after the last frame of
-- the last unit
abbrev pub request_after : Wish → History → ClientEvent → List ℕ
request_after wish h (Reply message) = if replies h == 0
    then play_text wish (unwrap_or (setup_session message) []) else []
request_after wish h (Frame block) = if is_complete (Frame block ∷ h)
    then teardown_text wish (session h) else []
request_after wish h (Report block) = []
request_after wish h (Slot slot cut) = []

-- what is handed on of a moment: the payload of a frame, what follows its 20 bytes of heads
abbrev pub payload_of : ClientEvent → List ℕ
payload_of (Reply message) = []
payload_of (Frame block) = drop 20 block
payload_of (Report block) = []
payload_of (Slot slot cut) = []

-- the history after moments, the watching going on at each; the requests that they allow; what is
-- handed on of them
abbrev pub history_after : History → List ClientEvent → History
history_after h [] = h
history_after h (moment ∷ moments) = history_after (moment ∷ h) moments

abbrev pub GoOn : History → List ClientEvent → Type 0
GoOn h [] = ⊤
GoOn h (moment ∷ moments) = GoesOn h moment × GoOn (moment ∷ h) moments

abbrev pub requests_after : Wish → History → List ClientEvent → List ℕ
requests_after wish h [] = []
requests_after wish h (moment ∷ moments) =
    request_after wish h moment ++ requests_after wish (moment ∷ h) moments

abbrev pub payloads_of : List ClientEvent → List ℕ
payloads_of moments = flat_map payload_of moments

-- the moment of a block on a channel; on other channels than 0 and 1 there is none
abbrev pub block_events : ℕ → List ℕ → List ClientEvent
block_events channel block =
    if channel == 0 then Frame block ∷ [] else (if channel == 1 then Report block ∷ [] else [])

-- the moments of an element of the input: none of a line end, one of a reply
abbrev pub element_events : List ℕ → List ClientEvent
element_events element =
    if is_line_end (slice_index element 0) then []
    else (if slice_index element 0 == 36
    then block_events (slice_index element 1) element else Reply element ∷ [])

abbrev pub events_of_elements : List (List ℕ) → List ClientEvent
events_of_elements elements = flat_map element_events elements

-- the bytes that wait of a block on channel 0 or 1 that isn't complete; of a block whose channel
-- didn't come yet, one
abbrev pub cut_bytes : List ℕ → ℕ
cut_bytes rest =
    if (slice_index rest 0 == 36) && (nat_lt (length rest) 2 || nat_lt (slice_index rest 1) 2)
    then length rest else 0
