use Rattle.std.proofs.Common.{◌≤◌, ◌+◌, ◌∷◌, ◌++◌, [], List, ℕ, length, ap, sym, subst, ◌∙◌, arith}
use Rattle.std.specs.Global.{Vec}
use Rattle.std.proofs.lemmas.List.{length-append, map-append}
use Rattle.std.proofs.lemmas.List.FromFn.{map-range_with_len_more}
use Rattle.day_run.specs.FairDays.{after_traces, trace_drawn, traces_drawn}
use Rattle.day_run.specs.FairProgress.{sizes_in}
use Rattle.film_run.specs.Units.{AreUnitSizes}
use Rattle.film_make.specs.Generator.{words_left}
use Rattle.day_run.proofs.FairLines.{trace-next, drawn-trace, traces-none, traces-push, left-none}
use Rattle.day_run.proofs.fairs.draw_traces.Goals as goal

pub loop-trace-init : goal.loop-trace-init
loop-trace-init c = grind (arith, traces-none, left-none (words_left c.args.draws.now))

pub loop-trace-preserved : goal.loop-trace-preserved
loop-trace-preserved c =
    let inv = c.loop-trace.invariant in
    let words = words_left c.args.draws.now in
    let trace = c.in_ok-draw_sizes.field-0 in
    let e = c.in_ok-push.ensures.items in
    let I : List ℕ → Type 0 = λ l. AreUnitSizes l in
    let few : 100 + c.draw-pictures.result ≤ 200 = omega (arith, c.draw-pictures.ensures.value) in
    let own = subst I (sym c.in_ok-draw_sizes.ensures.sizes) (drawn-trace _ (100 + c.draw-pictures.result) few) in
    let k = c.loop-trace.trace in
    let next =
    trace-next words k inv.left c.draw-pictures.ensures.left c.draw-pictures.ensures.value
    c.in_ok-draw_sizes.ensures.sizes in
    record {
      count = omega (arith, inv.count, ap length e, length-append c.loop-trace.traces.items (trace ∷ []));
      traces = traces-push c.loop-trace.traces.items c.push.new.self.items trace e own inv.traces;
      sizes = ap sizes_in e ∙ map-append (λ (v : Vec ℕ). v.items) c.loop-trace.traces.items (trace ∷ [])
          ∙ ap (λ ts. ts ++ trace.items ∷ []) inv.sizes ∙ ap (λ x. traces_drawn k words ++ x ∷ []) next.0
          ∙ sym (map-range_with_len_more (λ i. trace_drawn (after_traces i words)) 0 k k (omega arith));
      left = c.in_ok-draw_sizes.ensures.left ∙ next.1;
    }
