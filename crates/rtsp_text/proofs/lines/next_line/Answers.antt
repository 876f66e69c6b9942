use Rattle.std.proofs.Common.{◌≢◌, [], length, arith, ap, ◌∙◌, eq-eqb}
use Rattle.std.proofs.lemmas.Bool.{both_ways}
use Rattle.std.proofs.lemmas.List.{take_rest, drop_all}
use Rattle.rtsp_text.proofs.LineIteration.{next_here, next_open}
use Rattle.rtsp_text.proofs.lines.next_line.Goals as goal

pub returns-in-Some : goal.returns-in-Some
returns-in-Some c =
    rw (take_rest c.args.bytes.now c.in-Some.line.next)
    (next_here c.args.bytes.now c.in-Some.line.text_end c.in-Some.line.next c.in-Some.ensures.found)

pub returns-in-None : goal.returns-in-None
returns-in-None c =
    let bytes = c.args.bytes.now in
    let some : bytes ≢ [] =
    λ e. both_ways c.is_empty.result c.if-is_empty.false (c.is_empty.ensures ∙ eq-eqb (length bytes) 0 (ap length e)) in
    rw (take_rest bytes (length bytes), drop_all (length bytes) bytes (omega arith))
    (next_open bytes some c.in-None.ensures.none)
