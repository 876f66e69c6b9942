use Rattle.std.proofs.Common.{refl}
use Rattle.mpeg_scan.specs.Calls.{head_call}
use Rattle.inputs.proofs.SizeLemmas.{sized-more}
use Rattle.inputs.proofs.collectors.SizeListFound.head.Goals as goal

pub returns-clause-heard : goal.returns-clause-heard
returns-clause-heard c = λ calls so_far.
    sized-more (head_call c.args.from c.args.to) so_far c.begin-self.ensures.begun refl
