use Rattle.rtsp_fields.specs.SeparatedParts.{HasNone}
use Rattle.rtsp_fields.proofs.separated_parts.part_end.Given as goal

abbrev pub invariant-loop-place : goal.invariant-loop-place
invariant-loop-place l = HasNone l.separator l.text l.from l.place
