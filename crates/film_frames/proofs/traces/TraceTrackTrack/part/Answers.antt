use Rattle.std.proofs.Common.{◌≡◌, ℕ, List, ◌∙◌, ap, arith, length}
use Rattle.std.proofs.lemmas.List.{length-replicate}
use Rattle.film_frames.specs.Tracks.{zero_frames}
use Rattle.film_frames.proofs.HeadEndLemmas.{zeros-split}
use Rattle.film_frames.proofs.TrackLemmas.{IsPart}
use Rattle.film_frames.proofs.TraceLemmas.{zeros-next}
use Rattle.film_frames.proofs.traces.TraceTrackTrack.part.Goals as goal

pub returns-clause-bytes : goal.returns-clause-bytes
returns-clause-bytes c =
    let frame = c.end_of_frame_at-end.ensures.frame in
    let part : IsPart (zero_frames c.args.self.now) frame.number c.args.at c.min.result = record {
      among = frame.among;
      begins = omega (arith, frame.begins);
      ends = omega (arith, frame.ends, frame.later, c.min.ensures);
    } in
    rw c.zeros.ensures (zeros-next c.args.self.now part (omega (arith, c.min.ensures, frame.later)))

pub returns-clause-heads : goal.returns-clause-heads
returns-clause-heads c = zeros-split c.args.self.now _ _ _ (omega arith)

pub returns-clause-full : goal.returns-clause-full
returns-clause-full c = λ end is.
    let its_end = c.end_of_frame_at-end.ensures.boundary in
    let its = c.end_of_frame_at-end.result in
    let same : end ≡ its =
    omega (arith, is.least its its_end.boundary its_end.after, its_end.least end is.boundary is.after) in
    let long : length c.zeros.result.now ≡ c.min.result =
    ap (λ (l : List ℕ). length l) c.zeros.ensures ∙ length-replicate {A = ℕ} c.min.result 0 in
    omega (arith, long, c.min.ensures, same)
