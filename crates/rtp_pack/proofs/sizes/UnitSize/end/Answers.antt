use Rattle.std.proofs.Common.{ap, ◌∙◌}
use Rattle.rtp_pack.specs.Sizes.{Measure, frames_of}
use Rattle.rtp_pack.proofs.SizeLemmas.{size-unit}
use Rattle.rtp_pack.proofs.sizes.UnitSize.end.Goals as goal

pub returns-clause-frames : goal.returns-clause-frames
returns-clause-frames c =
    λ headers slices from cuts is cutting. ap (λ (m : Measure). frames_of m) (c.self.view_is ∙ is)
    ∙ size-unit headers slices from cuts cutting
