use Rattle.std.proofs.Common.{◌≡◌, ◌+◌, ◌-◌, arith, get_or, subst}
use Rattle.film_frames.specs.Tracks.{zero_frames, IsBoundaryAfter}
use Rattle.film_frames.proofs.TrackLemmas.{IsSearched, ends-rise, found, found-begins, boundary-found}
use Rattle.film_frames.proofs.TraceLemmas.{FrameFound, trace_ends, trace-track, trace-total}
use Rattle.film_frames.proofs.traces.TraceTrack.end_of_frame_at.Goals as goal
use Rattle.film_frames.proofs.traces.TraceTrack.end_of_frame_at.Goals.{After-ends_below}

-- the frame in which the byte lies
found-in : (c : After-ends_below)
    → FrameFound c.args.self.now c.deref-ends.result.now (c.args.at + 1) c.ends_below.result
found-in c =
    let are = trace-track c.self.inside.ends.items c.deref-ends.result.now c.args.self.now c.deref-ends.ensures.value
    c.self.view_is c.self.invariant in
    let searched : IsSearched (trace_ends c.args.self.now c.deref-ends.result.now are) (c.args.at + 1)
    c.ends_below.result = record {
      count = c.ends_below.ensures.count;
      below = λ j h. omega (arith, c.ends_below.ensures.below j h);
      from = λ h. omega (arith, c.ends_below.ensures.from c.ends_below.result (omega arith) h);
    } in
    record {
      are = are;
      searched = searched;
      within = found (trace_ends c.args.self.now c.deref-ends.result.now are) searched
          (omega arith) (omega (arith, c.requires));
    }

pub overflow_add-at : goal.overflow_add-at
overflow_add-at c =
    omega (arith, trace-total c.self.inside.ends.items c.args.self.now c.self.view_is c.self.invariant, c.requires)

pub ends_below-requires : goal.ends_below-requires
ends_below-requires c =
    ends-rise 0 (zero_frames c.args.self.now) c.deref-ends.result.now
    (trace-track c.self.inside.ends.items c.deref-ends.result.now c.args.self.now c.deref-ends.ensures.value
    c.self.view_is c.self.invariant)

pub bounds-ends-ends_below : goal.bounds-ends-ends_below
bounds-ends-ends_below c = (found-in (goal.at.bounds-ends-ends_below c).After-ends_below).within

pub returns : goal.returns
returns c =
    let at = found-in (goal.at.returns c).After-ends_below in
    let k = c.ends_below.result in
    let ends = trace_ends c.args.self.now c.deref-ends.result.now at.are in
    let place : get_or c.deref-ends.result.now k 0 - 0 ≡ get_or c.deref-ends.result.now k 0 = omega arith in record {
      boundary = subst (λ b. IsBoundaryAfter (zero_frames c.args.self.now) (c.args.at + 1) b) place
          (boundary-found ends at.searched (omega arith) at.within);
      frame = record {
        number = k;
        among = omega (arith, at.within, at.are.count);
        begins = found-begins ends at.searched at.within;
        ends = omega (arith, at.are.each k at.within);
        later = omega (arith, at.searched.from at.within);
      };
    }
