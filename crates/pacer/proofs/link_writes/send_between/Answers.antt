use Rattle.std.proofs.Common.{◌≡◌, ◌+◌, ◌-◌, ◌++◌, drop, take, length, min, arith, subst, sym, ap, ◌∙◌, ℕ, List, Option}
use Rattle.std.specs.Prelude.{slice_range}
use Rattle.std.proofs.lemmas.List.{length-drop, length-take-le}
use Rattle.vod_base.specs.Links.{IoEvent, told_more, sends}
use Rattle.film_frames.specs.Tracks.{IsSplit}
use Rattle.pacer.specs.Boundaries.{bytes_between}
use Rattle.pacer.proofs.SendLemmas.{TrackPart, IsPartAt, between-join, next-are, part-stopped, sends-more}
use Rattle.pacer.proofs.link_writes.send_between.Goals as goal

pub loop-at-preserved : goal.loop-at-preserved
loop-at-preserved g c =
    let pieces = g.T.Track.pieces c.args.track.now in
    let next = slice_range c.part-part.new.head c.part-part.result.head_from c.part-part.result.head_to
    ++ c.part-part.result.payload.now in
    let most = c.args.to - c.loop-at.at in
    record {
      least = omega arith;
      most = omega (arith, c.in-Ok.ensures.number);
      count = omega (arith, c.loop-at.invariant.count, c.send_part.ensures.count);
      told =
          let P : ℕ → Type 0 =
          λ n. g.K.Link.told c.send_part.new.link
          ≡ told_more (g.K.Link.told c.args.link.now)
          (sends (bytes_between pieces c.args.from (c.loop-at.at + n))) in
          subst P {x = min (length next) most} (sym c.in-Ok.ensures.number)
          (c.in-Ok.ensures.whole
          ∙ ap (λ (t : Option (List IoEvent)). told_more t (sends (take most next))) c.loop-at.invariant.told
          ∙ sends-more (g.K.Link.told c.args.link.now) (bytes_between pieces c.args.from c.loop-at.at) (take most next)
          ∙ ap (λ (l : List ℕ). told_more (g.K.Link.told c.args.link.now) (sends l))
          (ap (λ (l : List ℕ). bytes_between pieces c.args.from c.loop-at.at ++ l)
          (next-are pieces c.loop-at.at most next c.part-part.ensures.bytes)
          ∙ between-join pieces c.args.from c.loop-at.at (c.loop-at.at + min (length next) most)
          c.loop-at.invariant.least (omega arith)));
    }

pub returns-in-Err-clause-stopped : goal.returns-in-Err-clause-stopped
returns-in-Err-clause-stopped g c =
    let part = c.part-part.ensures in
    let its = c.part-part.result in
    let block = c.part-part.new.head in
    let rest = drop its.head_from block in
    let long = length-take-le (its.head_to - its.head_from) rest
    (omega (arith, length-drop its.head_from block, part.within, c.part-part.array_long)) in
    let pieces = g.T.Track.pieces c.args.track.now in
    let head = slice_range block its.head_from its.head_to in
    let part_at : TrackPart = record {
      pieces = pieces;
      from = c.args.from;
      to = c.args.to;
      at = c.loop-at.at;
      head = head;
      payload = its.payload.now;
    } in
    let at : IsPartAt part_at = record {
      order = c.loop-at.invariant.least;
      before_end = c.loop-at.invariant.most;
      within = c.requires.within;
      next = part.bytes;
      split = subst (λ n. IsSplit pieces c.loop-at.at n (length its.payload.now)) (sym long) part.heads;
    } in
    part-stopped at (rw c.loop-at.invariant.told at c.in-Err.ensures.stopped)
