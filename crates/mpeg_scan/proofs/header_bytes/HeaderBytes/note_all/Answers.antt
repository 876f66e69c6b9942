use Rattle.std.proofs.Common.{◌≡◌, [], drop, take, sym, ap, arith, ◌∙◌}
use Rattle.mpeg_scan.specs.HeaderBytes.{header_with_all}
use Rattle.mpeg_scan.proofs.HeaderRunLemmas.{first-five, none-left}
use Rattle.mpeg_scan.proofs.header_bytes.HeaderBytes.note_all.Goals as goal

pub returns-else-not-is_full : goal.returns-else-not-is_full
returns-else-not-is_full c =
    none-left (drop c.loop-at.at c.args.bytes.now) (sym c.is_full.ensures.full ∙ c.if-not-is_full.false)
    c.loop-at.invariant.all

pub returns-then-bytes-from : goal.returns-then-bytes-from
returns-then-bytes-from c =
    let t = c.self.inside in
    let empty : c.args.self.now ≡ [] = sym c.self.view_is ∙ ap (λ n. take n t.bytes) c.if-self-eq0.true in
    sym (ap (λ h. header_with_all h c.args.bytes.now) empty
    ∙ first-five c.args.bytes.now (omega (arith, c.from.ensures, c.if-bytes-from.true)))
