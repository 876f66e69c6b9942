use Rattle.std.proofs.Common.{◌∙◌, sym, ap, rules, ◌+◌, length}
use Rattle.std.proofs.lemmas.List.{length_push}
use Rattle.early_start.proofs.RefusedStarts.{refusals_more, request}
use Rattle.early_start.proofs.search.Goals as goal

pub loop-later-preserved : goal.loop-later-preserved
loop-later-preserved c = (
  ap length c.push_reserved.ensures.items ∙ length_push c.loop-later.tried.items _ ∙ ap
      (λ n. n + 1) c.loop-later.invariant.0,
  rw c.push_reserved.ensures.items (refusals_more (request _ _ _ _ _) c.loop-later.invariant.1
      (ap (λ n. c.args.first + n) (sym c.loop-later.invariant.0)) c.in-Some.ensures),
  search rules,
)
