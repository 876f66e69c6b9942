use Rattle.std.proofs.Common.{Option, ap, sym, ◌∙◌}
use Rattle.mpeg_scan.specs.declared.codes.Code.{Code}
use Rattle.mpeg_scan.specs.CodeSteps.{code_judgement, tally_with}
use Rattle.mpeg_scan.proofs.ScanBoundLemmas.{slices-judged}
use Rattle.mpeg_scan.proofs.progress.Progress.judge.Goals as goal

pub returns-then-is_slice-2-clause-judged : goal.returns-then-is_slice-2-clause-judged
returns-then-is_slice-2-clause-judged c =
    let t = c.args.self.now.tally in
    let latest = sym c.is_slice.ensures ∙ c.if-is_slice.true in
    let slice = sym c.is_slice-then-is_slice.ensures ∙ c.if-is_slice-2.true in (
      ap (λ (l : Option Code). code_judgement l t c.args.place c.args.value) c.in-Some.is
          ∙ slices-judged c.in-Some.code t c.args.place c.args.value latest slice,
      c.add.ensures ∙ sym (ap (λ (l : Option Code). tally_with l t) c.in-Some.is),
    )
