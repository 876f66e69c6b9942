use Rattle.std.proofs.Common.{◌≡◌, ap, sym, ◌∙◌, [], ◌∷◌, ◌++◌, List, Option, Some, subst}
use Rattle.atomic_table.specs.Table.{opening}
use Rattle.turnstile.specs.TurnRule.{IsRuled}
use Rattle.turnstile.specs.Steps.{first_view}
use Rattle.turnstile.proofs.StepRules.{kept_by}
use Rattle.turnstile.proofs.SplitsAndJoins.{starts}
use Rattle.turnstile.proofs.turnstile.Turnstile.new.Goals as goal

one_item : {A : Type 0} {old new : List A} (item : A) → new ≡ old ++ item ∷ [] → old ≡ [] → new ≡ item ∷ []
one_item {A} item pushed none = pushed ∙ ap (λ (xs : List A). xs ++ item ∷ []) none

pub new-requires : goal.new-requires
new-requires g c =
    let terms = g.B.Kept.terms c.of-about.result.value in
    let items : c.push_reserved.new.self.items ≡ Some c.args.kept ∷ [] =
    one_item {A = Option g.row.B.Denot} (Some c.args.kept) c.push_reserved.ensures.items c.in_ok-slots.ensures.items in
    subst (λ (xs : List (Option g.row.B.Denot)). IsRuled g.B.Kept.entries g.B.Kept.terms terms
    (opening (0 ∷ 0 ∷ 0 ∷ []) xs (first_view terms))) (sym items)
    (starts (kept_by g.B.Kept.entries g.B.Kept.terms c.of-about.result.value) c.args.kept c.requires
    (ap g.B.Kept.terms (sym c.of-about.ensures)))
