-- The film that is watched, as its frames and the reply to PLAY describe it.
use Rattle.std.specs.Prelude.{ℕ, ◌+◌, ◌*◌, ◌%◌, ◌^◌, ◌==◌, ◌&&◌, Bool, not, nat_le, nat_lt}
use Rattle.std.specs.Prelude.{if◌then◌else◌, List, length, drop, slice_index, is_ok}
use Rattle.std.specs.Int.{div_ceil}
use Rattle.mpeg_scan.specs.PictureRates.{picture_time}
use Rattle.rtp_pack.specs.Heads.{head_at, head_of}
use Rattle.rtsp_client.specs.ClientHistory.{History, end_ms, first_frame, frames, is_playing}
use Rattle.rtsp_client.specs.ClientHistory.{latest_frame, sizes}

-- the picture rate code of a sequence header (ISO/IEC 11172-2, 2.4.2.3)
abbrev pub rate_code : List ℕ → ℕ
rate_code payload = slice_index payload 7 % 16

-- a payload begins with a sequence header of 12 bytes whose rate code is 1 to 8
abbrev pub begins_film : List ℕ → Bool
begins_film payload =
    nat_le 12 (length payload)
    && ((slice_index payload 0 == 0) && (slice_index payload 1 == 0) && (slice_index payload 2 == 1)
    && (slice_index payload 3 == 179))
    && nat_le 1 (rate_code payload) && nat_le (rate_code payload) 8

-- the time of a picture in 1/360,000 second, by the first frame
abbrev pub time_in : List ℕ → ℕ
time_in block = picture_time (rate_code (drop 20 block))

-- how many pictures of this time last until a film's end: the least number of them that does
abbrev pub units_until : ℕ → ℕ → ℕ
units_until ms time = div_ceil (ms * 360) time

-- the number of the film's units; 0 before its first frame
abbrev pub units : History → ℕ
units h = if frames h == 0 then 0 else units_until (end_ms h) (time_in (first_frame h))

-- all units are complete
abbrev pub is_complete : History → Bool
is_complete h = nat_lt 0 (frames h) && (length (sizes h) == units h)

-- the first frame begins the film, whose units are 1 to 4,194,304
abbrev pub is_first_good : History → List ℕ → Bool
is_first_good h block =
    begins_film (drop 20 block)
    && (let units = units_until (end_ms h) (time_in block) in nat_le 1 units
    && nat_le units 4194304)

-- a later frame goes on: its sequence number is the next one, modulo 2^16, and its source the first
-- one's
abbrev pub is_next_good : History → List ℕ → Bool
is_next_good h block =
    let head = head_at (drop 4 block) in
    (head.ssrc == (head_at (drop 4 (first_frame h))).ssrc)
    && (head.sequence == ((head_at (drop 4 (latest_frame h))).sequence + 1) % 2 ^ 16)

-- a frame comes after the reply to PLAY and not after the last unit, its head is that of a packet
-- of video, and it is the film's next one
abbrev pub is_good_frame : History → List ℕ → Bool
is_good_frame h block =
    is_playing h
    && (not (is_complete h)
    && (is_ok (head_of (drop 4 block))
    && (if frames h == 0 then is_first_good h block else is_next_good h block)))
