use Rattle.std.proofs.Common.{◌≡◌, ◌+◌, length, get_or, refl, sym, subst, arith, rules, below_more, ◌++◌, ◌∷◌, []}
use Rattle.std.proofs.lemmas.List.Sums.{sum_by_more}
use Rattle.wire_curve.specs.FilmCurves.{low_at, up_at, used_before}
use Rattle.wire_curve.proofs.OwnSlotLemmas.{HasOwnSlots, slots_own, used_before-delay, used_before-own}
use Rattle.wire_curve.proofs.OwnSlotLemmas.{AreValues, values_pushed, all_fit}
use Rattle.wire_curve.proofs.film.picture_curves.Goals as goal

pub loop-preserved : goal.loop-preserved
loop-preserved c =
    let sizes = c.args.sizes.now in
    let timing = c.args.timing.now in
    let t = c.loop.counter in
    let own : HasOwnSlots timing = record { some = c.requires.limits.some_slot_units; same = c.requires.own_slots } in
    let so_far = c.loop.invariant in
    let low : c.push_reserved.new.self.items ≡ c.loop.low.items ++ timing.sent ∷ [] = search rules in
    let up : c.push_reserved-in-loop.new.self.items ≡ c.loop.up.items ++ c.min.result ∷ [] = search rules in
    let before = used_before-delay sizes own t (omega (arith, c.loop-test.true)) in
    let after = used_before-delay sizes own (t + 1) (omega (arith, c.loop-test.true)) in
    let low_here : timing.sent ≡ low_at sizes timing t = omega (arith, after, c.requires.limits.played_was_sent) in
    let up_here : c.min.result ≡ up_at sizes timing t =
    omega (arith, before, c.min.ensures, c.sum_sizes-total.ensures) in
    record {
      low_room = omega (arith, so_far.low_room);
      up_room = omega (arith, so_far.up_room);
      low = rw low (values_pushed _ so_far.low low_here);
      up = rw up (values_pushed _ so_far.up up_here);
    }

pub loop-size-init : goal.loop-size-init
loop-size-init c =
    let sizes = c.args.sizes.now in
    let timing = c.args.timing.now in
    let own : HasOwnSlots timing = record { some = c.requires.limits.some_slot_units; same = c.requires.own_slots } in
    let so_far = c.loop.invariant in
    let at_end : c.loop.counter ≡ timing.delay = omega (arith, c.loop-test.false, c.loop.auto.counter-end) in
    let before = used_before-delay sizes own (timing.delay + 0) (omega arith) in
    record {
      low_room = so_far.low_room;
      up_room = so_far.up_room;
      used = sym before;
      small = omega arith;
      fit = λ k lt. absurd (omega (arith, lt));
      low = subst (λ n. AreValues (low_at sizes timing) n c.loop.low.items) (omega (arith, at_end)) so_far.low;
      up = subst (λ n. AreValues (up_at sizes timing) n c.loop.up.items) (omega (arith, at_end)) so_far.up;
    }

pub loop-size-preserved : goal.loop-size-preserved
loop-size-preserved c =
    let sizes = c.args.sizes.now in
    let timing = c.args.timing.now in
    let k = c.loop-size.size-index in
    let own : HasOwnSlots timing = record { some = c.requires.limits.some_slot_units; same = c.requires.own_slots } in
    let so_far = c.loop-size.invariant in
    let inside = c.loop-size-test.true in
    let low : c.push_reserved-in-loop-size-2.new.self.items ≡ c.loop-size.low.items ++ c.max.result ∷ [] =
    search rules in
    let up : c.push_reserved-in-loop-size.new.self.items ≡ c.loop-size.up.items ++ c.min-in-loop-size.result ∷ [] =
    search rules in
    let grown = used_before-own sizes own k inside in
    let place : timing.delay + k + 1 ≡ timing.delay + (k + 1) = omega arith in
    let next : used_before sizes timing (timing.delay + (k + 1))
    ≡ used_before sizes timing (timing.delay + k) + get_or sizes k 0 =
    subst (λ t. used_before sizes timing t ≡ used_before sizes timing (timing.delay + k) + get_or sizes k 0)
    place grown in
    let more = sum_by_more (λ x. x) sizes k 0 inside in
    let low_here : c.max.result ≡ low_at sizes timing (timing.delay + k) =
    omega (arith, c.max.ensures, so_far.used, grown) in
    let up_here : c.min-in-loop-size.result ≡ up_at sizes timing (timing.delay + k) =
    omega (arith, c.min-in-loop-size.ensures, so_far.used, c.sum_sizes-total.ensures) in
    record {
      low_room = omega (arith, so_far.low_room);
      up_room = omega (arith, so_far.up_room);
      used = omega (arith, so_far.used, next);
      small = omega (arith, so_far.small, more);
      fit = below_more _ _ so_far.fit (omega (arith, c.if-size-timing.false));
      low = rw low (subst (λ n. AreValues (low_at sizes timing) n (c.loop-size.low.items ++ c.max.result ∷ [])) place
          (values_pushed _ so_far.low low_here));
      up = rw up (subst (λ n. AreValues (up_at sizes timing) n (c.loop-size.up.items ++ c.min-in-loop-size.result ∷ []))
          place (values_pushed _ so_far.up up_here));
    }

pub returns : goal.returns
returns c = record {
  curves =
      let sizes = c.args.sizes.now in
      let timing = c.args.timing.now in
      let own : HasOwnSlots timing = record { some = c.requires.limits.some_slot_units; same = c.requires.own_slots } in
      let so_far = c.loop-size.invariant in
      let at_end : c.loop-size.size-index ≡ length sizes =
      omega (arith, c.loop-size-test.false, c.loop-size.auto.size-index-end) in
      let slots = slots_own sizes own c.requires.some_picture in
      record {
        from_is = refl;
        low_slots = omega (arith, so_far.low.len, at_end, slots);
        up_slots = omega (arith, so_far.up.len, at_end, slots);
        low_is = λ t lt. so_far.low.each t (omega (arith, lt, at_end, slots));
        up_is = λ t lt. so_far.up.each t (omega (arith, lt, at_end, slots));
      };
  fits =
      let sizes = c.args.sizes.now in
      let at_end : length sizes ≡ c.loop-size.size-index =
      omega (arith, c.loop-size-test.false, c.loop-size.auto.size-index-end) in
      all_fit sizes c.args.timing.now.buffer c.loop-size.size-index at_end c.loop-size.invariant.fit;
}
