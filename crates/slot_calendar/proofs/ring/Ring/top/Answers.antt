use Rattle.std.proofs.Common.{◌≡◌, ◌<◌, ◌≤◌, ◌/◌, ◌%◌, get_or, arith, ap}
use Rattle.std.proofs.lemmas.List.{get_or_read}
use Rattle.std.proofs.lemmas.Nat.{mod_below}
use Rattle.slot_calendar.specs.Totals.{ring_slots, total_at}
use Rattle.slot_calendar.proofs.RingRotation.{total-bounded}
use Rattle.slot_calendar.proofs.BlockMaxima.{block-in}
use Rattle.slot_calendar.proofs.ring.Ring.top.Goals as goal

pub returns : goal.returns
returns c = λ t since same. (
    let d = c.self.inside in
    let p = c.args.slot % ring_slots in
    let inside : p < ring_slots = mod_below c.args.slot ring_slots (omega arith) in
    let first : d.first ≡ c.args.self.now.first = ap (λ s. s.first) c.self.view_is in
    let here : total_at d.first _ t ≡ total_at c.args.self.now.first c.args.self.now.totals t =
    ap (λ s. total_at s.first s.totals t) c.self.view_is in
    let top : c.index.result.now ≡ get_or d.tops.items (p / 1024) 0 =
    get_or_read d.tops.items (p / 1024) c.index.result.now
    (omega (arith, block-in p inside, c.self.invariant.maxima.tops_are)) c.index.ensures 0 in
    let from : d.first ≤ c.args.slot = omega (arith, first, c.requires) in
    let bound = total-bounded c.self.invariant.maxima from since same in
    omega (arith, here, top, bound)
    )
