use Rattle.std.proofs.Common.{◌≡◌, ◌++◌, take, flat_map}
use Rattle.plan_cert.specs.PlanSlots.{total_slots, total_bytes}
use Rattle.plan_cert.specs.CertFormat.{cert_head, segment_line}
use Rattle.plan_cert.proofs.cert_writer.write_cert.Given as goal

abbrev pub invariant-loop-segment : goal.invariant-loop-segment
invariant-loop-segment l =
    l.text.items
    ≡ cert_head (total_slots l.segments) (total_bytes l.segments) ++ flat_map segment_line
    (take l.segment-index l.segments)
