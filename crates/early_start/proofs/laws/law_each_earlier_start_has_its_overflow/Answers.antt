use Rattle.std.proofs.Common.{sym, arith}
use Rattle.early_start.proofs.RefusedStarts.{refusal-at, request, start_as}
use Rattle.early_start.proofs.laws.law_each_earlier_start_has_its_overflow.Goals as goal

pub returns : goal.returns
returns c = record {
  starts = λ from first i booked capacity segments found none is inside.
      is.refusals.starts i none inside;
  until = λ from first start booked capacity segments found is same.
      sym (start_as (request from booked capacity segments first) is same).1;
  all = λ from first booked capacity segments found is same.
      start_as (request from booked capacity segments first) is same;
  booked = λ from first i booked capacity segments found none is inside.
      (refusal-at (request from booked capacity segments first) i none is inside).booked_is;
  asked = λ from first i booked capacity segments found none is inside.
      (refusal-at (request from booked capacity segments first) i none is inside).asked_is;
  over = λ from first i booked capacity segments found none is inside.
      let over = refusal-at (request from booked capacity segments first) i none is inside in
      omega (arith, over.overflows, over.booked_is, over.asked_is);
  before = λ from first i t booked capacity segments found none is inside later earlier.
      (refusal-at (request from booked capacity segments first) i none is inside).least t later earlier;
}
