use Rattle.std.proofs.Common.{◌∙◌, arith}
use Rattle.offline_commands.proofs.CommandOutputLemmas.{listed}
use Rattle.offline_commands.proofs.ScanTextLemmas.{written-if}
use Rattle.offline_commands.proofs.scans.write_units.Goals as goal

pub returns-then-write_scan-clause-listed : goal.returns-then-write_scan-clause-listed
returns-then-write_scan-clause-listed g c =
    listed (omega (arith, c.len.ensures, c.deref-2.ensures.len))
    (c.deref.ensures.value ∙ (c.in_ok-head.ensures {u = tt}).line) c.film_text.ensures.short
    c.write_scan.ensures.short
    (λ held told. rw c.deref-2.ensures.value ((c.in_ok-scanned.ensures {u = tt}).film held told))
    (written-if c.if-write_scan.true c.write_scan.ensures.written)

pub returns-clause-listed : goal.returns-clause-listed
returns-clause-listed g c =
    listed (omega (arith, c.len.ensures, c.deref-2.ensures.len))
    (c.deref.ensures.value ∙ (c.in_ok-head.ensures {u = tt}).line) c.film_text.ensures.short
    c.write_scan.ensures.short
    (λ held told. rw c.deref-2.ensures.value ((c.in_ok-scanned.ensures {u = tt}).film held told))
    (written-if c.if-write_scan.false c.write_scan.ensures.written)
