use Rattle.cli_errors.proofs.StreamWriteLemmas.{said_then}
use Rattle.offline_commands.proofs.ScanTextLemmas.{written-by, written-if}
use Rattle.offline_commands.proofs.scan_text.write_after.Goals as goal

pub returns-then-is_written : goal.returns-then-is_written
returns-then-is_written g c = λ faults told text said.
    said_then (written-if c.if-is_written.true said)
    (written-by c.write_all.result c.is_ok.ensures.value c.write_all.ensures.count c.write_all.ensures.fault
    c.write_all.ensures.whole c.write_all.ensures.front)
