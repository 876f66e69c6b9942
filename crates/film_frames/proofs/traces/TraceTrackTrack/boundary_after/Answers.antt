use Rattle.std.proofs.Common.{◌≡◌, ◌+◌, ◌-◌, arith, subst}
use Rattle.film_frames.specs.Tracks.{zero_frames, IsBoundaryAfter}
use Rattle.film_frames.proofs.traces.TraceTrackTrack.boundary_after.Goals as goal

pub returns : goal.returns
returns c =
    let place : c.args.at - 1 + 1 ≡ c.args.at = omega (arith, c.if-at-eq0.false) in
    subst (λ n. IsBoundaryAfter (zero_frames c.args.self.now) n c.end_of_frame_at.result) place
    c.end_of_frame_at.ensures.boundary
