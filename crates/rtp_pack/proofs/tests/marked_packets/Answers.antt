use Rattle.std.proofs.Common.{arith, inl, inr}
use Rattle.std.proofs.lemmas.Option.{slice_get_cases}
use Rattle.rtp_pack.proofs.tests.marked_packets.Goals as goal

pub returns : goal.returns
returns c =
    let film = c.args.film.now in
    elim (slice_get_cases film.units.items 0).1 [
      | inl found ↦
          let packed = c.in_ok-packets.ensures found.0 found.2 in
          c.law_only_last_packet_has_marker.ensures found.0 film.slice_starts.items c.in_ok-packets.field-0.items
          packed.rules packed.cover
      | inr past ↦ absurd (omega (arith, past.0, c.requires))
    ]
