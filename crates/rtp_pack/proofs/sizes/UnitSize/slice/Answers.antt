use Rattle.std.proofs.Common.{ap, ◌∙◌, sym, subst, rules}
use Rattle.rtp_pack.specs.Sizes.{IsMeasure, Measure, measure_from_headers, with_slice}
use Rattle.rtp_pack.proofs.SizeLemmas.{keeps-measure, slices-append}
use Rattle.rtp_pack.proofs.sizes.UnitSize.slice.Goals as goal

pub returns-clause-slice : goal.returns-clause-slice
returns-clause-slice c = search rules

pub invariant_of-self : goal.invariant_of-self
invariant_of-self c =
    let P : Measure → Type 0 = λ m. IsMeasure m in
    subst P (sym (returns-clause-slice c))
    (keeps-measure c.args.self.now c.args.length (subst P c.self.view_is c.self.invariant)
    c.requires.least c.requires.most)

pub returns-clause-measured : goal.returns-clause-measured
returns-clause-measured c = λ headers slices is.
    returns-clause-slice c ∙ ap (λ (m : Measure). with_slice m c.args.length) is
    ∙ sym (slices-append slices (measure_from_headers headers) c.args.length)
