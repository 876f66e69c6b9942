-- The numbers of a stream's packets and reports (RFC 3550).
use Rattle.std.specs.Prelude.{ℕ, ◌+◌, ◌/◌, ◌%◌, ◌^◌, List, slice_index}
use Rattle.mpeg_scan.specs.declared.films.Film.{Film}
use Rattle.rtp_pack.specs.declared.reports.Identity.{Identity}
use Rattle.film_frames.specs.FramedRuns.{FramedRun, frames_before, octets_before}
use Rattle.film_streams.specs.Films.{begins_at}
use Rattle.film_streams.specs.declared.setups.Setup.{Setup}
use Rattle.film_streams.specs.declared.stream_numbers.Counts.{Counts}
use Rattle.film_streams.specs.declared.stream_numbers.StreamSource.{StreamSource}

-- the stream of a new connection, from the connection's random words: after two for the session's
-- id the SSRC, the sequence number of the first frame in 16 bits, and the timestamp of the film's
-- beginning (RFC 3550 section 5.1)
abbrev pub source_of : List ℕ → StreamSource
source_of words = record {
  ssrc = slice_index words 2;
  sequence = slice_index words 3 % 65536;
  timestamp = slice_index words 4;
}

-- the identity of a run before which so many frames and octets were sent (RFC 3550 section 5.1)
abbrev pub identity_of : StreamSource → Setup → Counts → Identity
identity_of source setup counts = record {
  channel = setup.media;
  control = setup.control;
  ssrc = source.ssrc;
  sequence = (source.sequence + counts.frames) % 2 ^ 16;
  timestamp = source.timestamp;
  packets = counts.frames;
  octets = counts.octets;
}

-- what was sent in all, where so many bytes of a run were sent; both numbers count modulo 2^32 (RFC
-- 3550 section 6.4.1)
abbrev pub counts_after : Counts → FramedRun → ℕ → Counts
counts_after counts sending bytes = record {
  frames = (counts.frames + frames_before sending bytes) % 2 ^ 32;
  octets = (counts.octets + octets_before sending bytes) % 2 ^ 32;
}

-- the timestamp of a unit, in 1/90,000 second (RFC 2250 section 3.3)
abbrev pub timestamp_at : Film → StreamSource → ℕ → ℕ
timestamp_at film source unit = (source.timestamp + begins_at film unit / 4) % 2 ^ 32
