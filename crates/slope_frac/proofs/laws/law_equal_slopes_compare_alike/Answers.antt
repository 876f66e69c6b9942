use Rattle.std.proofs.Common.{◌≤◌, sym}
use Rattle.std.proofs.Math.Nat.{le_of_eq}
use Rattle.slope_frac.specs.declared.Slope.{Slope}
use Rattle.slope_frac.proofs.CrossProducts.{SlopeChain, at_most_below, below_at_most}
use Rattle.slope_frac.proofs.laws.law_equal_slopes_compare_alike.Goals as goal

abbrev chain : (first between last : Slope) → 1 ≤ between.slots → SlopeChain
chain first between last some = record { first = first; between = between; last = last; some_slot = some }

pub returns-clause-same_below : goal.returns-clause-same_below
returns-clause-same_below c = λ level. (
  λ h. at_most_below (chain c.args.b c.args.a c.args.c c.requires.one) c.requires.other (le_of_eq (sym level)) h,
  λ h. at_most_below (chain c.args.a c.args.b c.args.c c.requires.other) c.requires.one (le_of_eq level) h,
)

pub returns-clause-same_above : goal.returns-clause-same_above
returns-clause-same_above c = λ level. (
  λ h. below_at_most (chain c.args.c c.args.a c.args.b c.requires.one) c.requires.other h (le_of_eq level),
  λ h. below_at_most (chain c.args.c c.args.b c.args.a c.requires.other) c.requires.one h (le_of_eq (sym level)),
)
