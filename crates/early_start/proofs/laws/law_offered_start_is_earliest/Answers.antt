use Rattle.std.proofs.Common.{arith}
use Rattle.early_start.proofs.RefusedStarts.{no_room_tried, request, start_as}
use Rattle.early_start.proofs.laws.law_offered_start_is_earliest.Goals as goal

pub returns : goal.returns
returns c = record {
  fits = λ from first start booked capacity segments found is same.
      (start_as (request from booked capacity segments first) is same).2;
  begun = λ from first start booked capacity segments found is same.
      let at = start_as (request from booked capacity segments first) is same in
      omega (arith, at.1);
  within = λ from first start booked capacity segments found is same.
      let at = start_as (request from booked capacity segments first) is same in
      omega (arith, at.0, at.1);
  least = λ from first start earlier booked capacity segments found is same begun before room.
      let at = start_as (request from booked capacity segments first) is same in
      no_room_tried is.refusals begun (omega (arith, at.1, before)) room;
  none = λ from first start booked capacity segments found is same begun within room.
      let all = start_as (request from booked capacity segments first) is same in
      no_room_tried is.refusals begun (omega (arith, all, within)) room;
}
