use Rattle.std.proofs.Common.{refl}
use Rattle.mpeg_scan.specs.Calls.{slice_call}
use Rattle.inputs.proofs.SizeLemmas.{sized-more}
use Rattle.inputs.proofs.collectors.SizeListFound.slice.Goals as goal

pub returns-clause-heard : goal.returns-clause-heard
returns-clause-heard c = λ calls so_far.
    sized-more (slice_call c.args.from c.args.to) so_far c.slice.ensures.slice refl
