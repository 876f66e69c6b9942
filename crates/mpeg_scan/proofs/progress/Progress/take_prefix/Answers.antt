use Rattle.std.proofs.Common.{ap, ◌+◌}
use Rattle.mpeg_scan.specs.declared.codes.Prefix.TheVariants.{Whole}
use Rattle.mpeg_scan.specs.declared.progress.Progress.{Progress}
use Rattle.mpeg_scan.proofs.ByteReadLemmas.{skipped-prefix}
use Rattle.mpeg_scan.proofs.progress.Progress.take_prefix.Goals as goal

pub returns-clause-skipped : goal.returns-clause-skipped
returns-clause-skipped c =
    skipped-prefix c.args.rest.now c.requires.none c.if-rest-lt3.false c.if-rest-ne0.false c.if-rest-ne0-2.false
    c.if-rest-ne1.false
    (ap (λ (s : Progress). record s { fed = s.fed + 3; prefix = Whole }) c.note_header.ensures)
