-- How the waiting bytes are stored.
use Rattle.std.specs.Prelude.{◌≤◌, drop, vec_len, vec_capacity}
use Rattle.interleave.specs.HeadSearch.{IsHeadSearch}
use Rattle.interleave.specs.declared.demux.TheConstants.{MAX_WAITING_BYTES}
use Rattle.interleave.specs.declared.demux.Demux.TheInside.{Inside}

-- what waits are the bytes from `start` on; with those before it there is room for them, all in
-- reserved memory
pub record IsBuffer (d : Inside) : Type 0 where
  pub start : d.start ≤ vec_len d.bytes
  pub most : vec_len d.bytes ≤ MAX_WAITING_BYTES
  pub room : MAX_WAITING_BYTES ≤ vec_capacity d.bytes
  pub known : IsHeadSearch (drop d.start d.bytes.items) d.known
