-- How an answer is kept: with room for all starts.
use Rattle.std.specs.Prelude.{◌+◌, ◌≤◌, length, vec_capacity}
use Rattle.early_start.specs.StartSearch.{Offers}
use Rattle.early_start.specs.declared.TheConstants.{MAX_WAIT}
use Rattle.early_start.specs.declared.Offers.TheInside.{Inside}

abbrev pub offers_state : Inside → Offers
offers_state offers = record {
  wait = offers.wait;
  start = offers.start;
  tried = offers.tried.items;
}

pub record AreOffersKept (offers : Inside) : Type 0 where
  pub few : offers.wait ≤ MAX_WAIT
  pub few_tried : length offers.tried.items ≤ offers.wait + 1
  pub room : offers.wait + 1 ≤ vec_capacity offers.tried
