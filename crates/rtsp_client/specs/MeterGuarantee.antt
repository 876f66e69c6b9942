-- When the meter stays between empty and the buffer: when what came lies between a film's two
-- curves at each reading.
use Rattle.std.specs.Prelude.{◌≡◌, ℕ, ◌+◌, ◌<◌, ◌≤◌, ⊤, true, List, [], ◌∷◌, ◌++◌, length, sum}
use Rattle.std.specs.Prelude.{take}
use Rattle.rtsp_client.specs.declared.watch_request.Wish.{Wish}
use Rattle.rtsp_client.specs.ClientHistory.{History, ClientEvent, Frame, Reply, Report, Slot}
use Rattle.rtsp_client.specs.ClientHistory.{bytes_received, frames, sizes}
use Rattle.rtsp_client.specs.Films.{units}
use Rattle.rtsp_client.specs.Meters.{is_read, place_in, time, used_before}

-- a film of units of these sizes on the wire, each shown for this time: the complete units that
-- were received are its first ones, and of the next one not all bytes came
pub record IsFilmHeard (all : List ℕ) (picture_time : ℕ) (h : History) (cut : ℕ) : Type 0 where
  pub sizes_are : sizes h ≡ take (length (sizes h)) all
  pub among : length (sizes h) ≤ length all
  pub time_is : 0 < frames h → time h ≡ picture_time
  pub units_are : 0 < frames h → units h ≡ length all
  pub next : length (sizes h) < length all →
      bytes_received h + cut < sum (take (length (sizes h) + 1) all)

-- the bytes that came by a slot of the play are at least those that are used by its end, and at
-- most those that were used by the end of the slot before it, with the buffer (Salehi, Zhang,
-- Kurose and Towsley 1998)
pub record IsBetween (wish : Wish) (all : List ℕ) (picture_time slot came : ℕ) : Type 0 where
  pub low : used_before wish picture_time (slot + 1) 0 all ≤ came
  pub up : came ≤ used_before wish picture_time slot 0 all + wish.buffer

-- so it is at each reading
abbrev pub IsBetweenAlways : Wish → List ℕ → ℕ → History → Type 0
IsBetweenAlways wish all picture_time [] = ⊤
IsBetweenAlways wish all picture_time (Reply message ∷ h) = IsBetweenAlways wish all picture_time h
IsBetweenAlways wish all picture_time (Frame block ∷ h) = IsBetweenAlways wish all picture_time h
IsBetweenAlways wish all picture_time (Report block ∷ h) = IsBetweenAlways wish all picture_time h
IsBetweenAlways wish all picture_time (Slot slot cut ∷ h) =
    IsBetweenAlways wish all picture_time h
    × (is_read h slot ≡ true
    → IsFilmHeard all picture_time h cut
    × IsBetween wish all picture_time (place_in h slot) (bytes_received h + cut))

-- at each reading what was received is of such a film
abbrev pub IsFilmHeardAlways : Wish → List ℕ → ℕ → History → Type 0
IsFilmHeardAlways wish all picture_time [] = ⊤
IsFilmHeardAlways wish all picture_time (Reply message ∷ h) = IsFilmHeardAlways wish all
    picture_time h
IsFilmHeardAlways wish all picture_time (Frame block ∷ h) = IsFilmHeardAlways wish all picture_time
    h
IsFilmHeardAlways wish all picture_time (Report block ∷ h) = IsFilmHeardAlways wish all picture_time
    h
IsFilmHeardAlways wish all picture_time (Slot slot cut ∷ h) =
    IsFilmHeardAlways wish all picture_time h
    × (is_read h slot ≡ true → IsFilmHeard all picture_time h cut)

-- the frames among moments
abbrev pub frames_of : List ClientEvent → List (List ℕ)
frames_of [] = []
frames_of (Reply message ∷ moments) = frames_of moments
frames_of (Frame block ∷ moments) = block ∷ frames_of moments
frames_of (Report block ∷ moments) = frames_of moments
frames_of (Slot slot cut ∷ moments) = frames_of moments

-- the frames of a history, in order
abbrev pub frames_heard : History → List (List ℕ)
frames_heard [] = []
frames_heard (Reply message ∷ h) = frames_heard h
frames_heard (Frame block ∷ h) = frames_heard h ++ block ∷ []
frames_heard (Report block ∷ h) = frames_heard h
frames_heard (Slot slot cut ∷ h) = frames_heard h
