use Rattle.std.proofs.Common.{ℕ, ◌≡◌, ◌*◌, ◌^◌, ◌∷◌, ◌++◌, Option, Some, refl, ap, ◌∙◌, unwrap_or}
use Rattle.socket_link.specs.declared.limits.Watch.{Watch}
use Rattle.socket_link.specs.declared.sockets.Purpose.TheVariants.{Patience}
use Rattle.socket_link.specs.Calls.{ReadClock, TookBytes}
use Rattle.socket_link.specs.Limits.{clocked, has_passed, is_overdue, no_watch, watched, watch_of}
use Rattle.socket_link.proofs.Appends.{watch_of-append}
use Rattle.socket_link.proofs.LimitTimes.{not_stuck_after, stuck_after}
use Rattle.socket_link.proofs.laws.law_patience_counts_from_first_write_that_took_nothing.Goals as goal

pub returns : goal.returns
returns c before between after taken first time none all =
    let was = watch_of no_watch before in
    let took = watched was (TookBytes taken) in
    let mid = watch_of took between in
    let read = clocked mid Patience first in
    let rest = ReadClock Patience first ∷ after in
    let begun : read.stuck ≡ Some first =
    ap (λ (o : Option ℕ). Some (unwrap_or o first)) (not_stuck_after took between none refl) in
    ap (λ (v : Watch). is_overdue v Patience time)
    (watch_of-append no_watch before ((TookBytes taken ∷ between) ++ rest)
    ∙ watch_of-append took between rest)
    ∙ ap (λ (o : Option ℕ). has_passed (60 * 10 ^ 9) o time) (stuck_after read after first all begun)
