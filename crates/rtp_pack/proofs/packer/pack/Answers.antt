use Rattle.std.proofs.Common.{ℕ, List, ◌+◌, ◌-◌, ◌∙◌, drop, take, arith, refl}
use Rattle.mpeg_scan.specs.declared.units.Unit.{Unit as PictureUnit}
use Rattle.rtp_pack.proofs.PackerLemmas.{Packing, SliceEnds, at-slice, put-last, put-slice}
use Rattle.rtp_pack.proofs.UnitPacketLemmas.{packed}
use Rattle.rtp_pack.proofs.packer.pack.Goals as goal

-- where a unit's slices begin, of those of all units
abbrev unit-starts : PictureUnit → List ℕ → List ℕ
unit-starts unit starts = take (unit.first_slice + unit.slices - unit.first_slice) (drop unit.first_slice starts)

pub put_slice-requires-clause-some : goal.put_slice-requires-clause-some
put_slice-requires-clause-some c =
    let unit = c.args.unit.now in
    let starts = unit-starts unit c.args.slice_starts.now in
    let here = at-slice unit.to starts c.loop-index.index c.loop-index.filling.at c.loop-index-test.true
    c.loop-index.invariant.in_order in
    omega (arith, here.least, c.slice_end-end.ensures)

pub loop-index-preserved : goal.loop-index-preserved
loop-index-preserved c =
    let unit = c.args.unit.now in
    let starts = unit-starts unit c.args.slice_starts.now in
    let at = c.loop-index in
    let old : Packing = record { index = at.index; filling = at.filling; out = at.packets.items } in
    let new : Packing = record {
      index = c.loop-index.index + 1;
      filling = c.in_ok-filling.filling;
      out = c.put_slice.new.packets.items;
    } in
    let ends : SliceEnds unit starts old new = record {
      end = c.slice_end-end.result;
      less = c.loop-index-test.true;
      at_end = c.slice_end-end.ensures;
      at_index = refl;
      at_next = c.in_ok-filling.ensures.filling;
      more = c.in_ok-filling.ensures.packets;
    } in
    let put = put-slice c.loop-index.invariant.in_order ends in
    record {
      order = c.in_ok-filling.ensures.order;
      in_order = put.in_order;
      packets = put.packets ∙ c.loop-index.invariant.packets;
    }

pub returns : goal.returns
returns c =
    let unit = c.args.unit.now in
    let starts = unit-starts unit c.args.slice_starts.now in
    let at = c.loop-index in
    let old : Packing = record { index = at.index; filling = at.filling; out = at.packets.items } in
    packed c.args.slice_starts.now unit c.close.new.packets.items c.requires
    (c.in_ok-close.ensures ∙ put-last unit starts old c.loop-index-test.false
    ∙ c.loop-index.invariant.packets)
