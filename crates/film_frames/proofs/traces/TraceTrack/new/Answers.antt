use Rattle.std.proofs.Common.{arith, sym, ap, ◌∙◌, subst, List, ℕ, Ok}
use Rattle.film_frames.specs.Tracks.{AreRunningSums, differences}
use Rattle.film_frames.proofs.TraceLemmas.{summed-more, running_sums-is, trace-is, differences-running_sums}
use Rattle.film_frames.proofs.traces.TraceTrack.new.Goals as goal

pub overflow_add-end : goal.overflow_add-end
overflow_add-end c =
    let is = c.loop-number.invariant in
    let more = summed-more (omega (arith, c.loop-number-test.true, c.len-number-end.ensures, c.args.sizes.ok))
    (record { len = is.len; end = is.end; done = is.done; left = is.left }) c.index.ensures in
    omega (arith, more.0, c.requires)

pub loop-number-preserved : goal.loop-number-preserved
loop-number-preserved c =
    let is = c.loop-number.invariant in
    let more = summed-more (omega (arith, c.loop-number-test.true, c.len-number-end.ensures, c.args.sizes.ok))
    (record { len = is.len; end = is.end; done = is.done; left = is.left }) c.index.ensures in
    record { len = more.1.len; end = more.1.end; done = more.1.done; left = more.1.left }

pub invariant_of-result : goal.invariant_of-result
invariant_of-result c =
    let now = running_sums-is c.args.sizes.items c.loop-number.sizes.items c.loop-number.invariant.len
    (λ k h. c.loop-number.invariant.done k
    (omega (arith, h, c.loop-number-test.false, c.len-number-end.ensures, c.args.sizes.ok))) in
    let P : List ℕ → Type 0 = λ l. AreRunningSums l in
    subst P (sym now) (trace-is c.args.sizes.items c.requires)

pub returns : goal.returns
returns c =
    let now = running_sums-is c.args.sizes.items c.loop-number.sizes.items c.loop-number.invariant.len
    (λ k h. c.loop-number.invariant.done k
    (omega (arith, h, c.loop-number-test.false, c.len-number-end.ensures, c.args.sizes.ok))) in
    ap (λ (l : List ℕ). Ok l) (ap (λ (l : List ℕ). differences 0 l) now ∙ differences-running_sums 0 c.args.sizes.items)
