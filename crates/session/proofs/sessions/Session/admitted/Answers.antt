use Rattle.std.proofs.Common.{arith, ◌≡◌, refl, ap}
use Rattle.session.proofs.SharedTerms.{Play, run_pieces, total_bytes}
use Rattle.session.proofs.StepInvariantLemmas.{step_kept}
use Rattle.session.proofs.sessions.Session.admitted.Goals as goal

pub invariant_of-self : goal.invariant_of-self
invariant_of-self c =
    let play = c.play_of-play.ensures in
    let kept = c.self.invariant in
    let ready = rw c.in-Ready.is at kept.state in
    let awaited : c.self.inside.awaited ≡ Play c.in-Play.prepared = grind arith in
    let asked = rw (awaited, c.in-Ready.is) at kept.awaited in
    rw (c.enter.ensures, play.play, c.replace.ensures.after) (step_kept kept refl (record {
      state = (
        ready.0,
        record { pacing = rw play.play at play.pacing; before = refl; plan = asked.0.paced },
        λ stored at. record {
          playable = (asked.1 stored at).playable;
          pieces = ap run_pieces (asked.1 stored at).frames_are;
        },
      );
      awaited = λ linked. record { even = refl; whole = ap total_bytes asked.0.paced; going = refl };
      stop = tt;
      rooms = grind arith;
      torn = λ tears waits. cc;
      slots = kept.slots;
      front = λ asks. cc;
    }))
