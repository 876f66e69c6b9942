-- What may be wished for.
use Rattle.std.specs.Prelude.{◌≡◌, ◌^◌, ◌≤◌, true, string_bytes}
use Rattle.vod_base.specs.Names.{good_name}
use Rattle.rtsp_client.specs.declared.watch_request.Wish.{Wish}

-- a good name, and numbers in their ranges
pub record IsWish (wish : Wish) : Type 0 where
  pub name : good_name (string_bytes wish.name) ≡ true
  pub port : 1 ≤ wish.port
  pub some_buffer : 1 ≤ wish.buffer
  pub most_buffer : wish.buffer ≤ 2 ^ 42
  pub startup : wish.startup ≤ 10000
  pub some_units : 360 ≤ wish.slot_units
  pub most_units : wish.slot_units ≤ 360000
