use Rattle.std.proofs.Common.{◌≡◌, ◌∙◌, ◌+◌, ℕ, [], ◌∷◌, ◌++◌, if◌then◌else◌, ap, rules}
use Rattle.mpeg_scan.specs.Calls.{unit_call}
use Rattle.rtp_pack.specs.Sizes.{Measure, frames_of}
use Rattle.inputs.proofs.SizeLemmas.{sized-more}
use Rattle.inputs.proofs.collectors.SizeListFound.unit.Goals as goal

pub returns : goal.returns
returns c = λ calls so_far.
    let ended : c.end.result ≡ frames_of c.args.self.now.unit =
    c.end.ensures.size ∙ ap (λ (m : Measure). frames_of m) c.replace-ended.ensures.value in
    let report : c.if-unit.report ≡ (if c.args.unit.starts_group then 52 else 0) = search rules in
    let size : c.if-unit.report + c.end.result
    ≡ (if c.args.unit.starts_group then 52 else 0) + frames_of c.args.self.now.unit =
    ap (λ n. n + c.end.result) report ∙ ap (λ n. (if c.args.unit.starts_group then 52 else 0) + n) ended in
    sized-more (unit_call c.args.unit) so_far
    (c.replace-ended.ensures.after ∙ c.begin.ensures.begun)
    ((c.in_ok-push.ensures {u = tt}).items ∙ ap (λ (n : ℕ). c.args.self.now.sizes.items ++ n ∷ []) size)
