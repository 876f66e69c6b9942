use Rattle.std.proofs.Common.{◌-◌, length, arith, ◌∙◌}
use Rattle.film_frames.proofs.TraceLemmas.{got, trace-last-now, trace-track}
use Rattle.film_frames.proofs.traces.TraceTrackTrack.total.Goals as goal

pub returns-in-Some : goal.returns-in-Some
returns-in-Some c =
    let ends = c.deref.result.now in
    let last = got ends (length ends - 1) c.in-Some.end.now c.in-Some.ensures.value in
    let are = trace-track c.self.inside.ends.items ends c.args.self.now c.deref.ensures.value c.self.view_is
    c.self.invariant in
    last.1 ∙ trace-last-now ends c.args.self.now are (omega (arith, last.0))
