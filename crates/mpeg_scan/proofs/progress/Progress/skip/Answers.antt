use Rattle.std.proofs.Common.{ap, ◌+◌}
use Rattle.std.proofs.lemmas.List.{take_rest}
use Rattle.mpeg_scan.specs.declared.progress.Progress.{Progress}
use Rattle.mpeg_scan.proofs.ByteReadLemmas.{skipped-more, skipped-run}
use Rattle.mpeg_scan.proofs.progress.Progress.skip.Goals as goal

pub returns-clause-skipped : goal.returns-clause-skipped
returns-clause-skipped c =
    let count = c.run_before_zero-count.result in
    let run = skipped-run c.in-Nothing.is c.run_before_zero-count.ensures.bound c.run_before_zero-count.ensures.run
    (ap (λ (s : Progress). record s { fed = s.fed + count }) c.note_header.ensures) in
    skipped-more run (take_rest c.args.rest.now count) c.take_prefix.ensures.skipped
