use Rattle.slope_frac.proofs.CrossProducts.{SlopeChain, below_trans, level_trans}
use Rattle.slope_frac.proofs.laws.law_slope_order_is_transitive.Goals as goal

pub returns : goal.returns
returns c =
    let chain : SlopeChain = record { first = c.args.a; between = c.args.b; last = c.args.c; some_slot = c.requires } in
    record { below = below_trans chain; level = level_trans chain }
