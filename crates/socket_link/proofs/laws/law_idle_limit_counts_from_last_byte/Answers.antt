use Rattle.std.proofs.Common.{◌≡◌, [], ◌∷◌, ◌++◌, None, sym, ap, ◌∙◌}
use Rattle.socket_link.specs.declared.limits.Watch.{Watch}
use Rattle.socket_link.specs.declared.sockets.Purpose.TheVariants.{Idle}
use Rattle.socket_link.specs.Calls.{GaveBytes, ReadClock, TookBytes}
use Rattle.socket_link.specs.Limits.{clocked, is_overdue, no_watch, watched, watch_of}
use Rattle.socket_link.proofs.Appends.{watch_of-append}
use Rattle.socket_link.proofs.LimitTimes.{idle-early, idle-first-send, idle_is, latest_is, quiet_calls}
use Rattle.socket_link.proofs.LimitTimes.{unanswered_after}
use Rattle.socket_link.proofs.laws.law_idle_limit_counts_from_last_byte.Goals as goal

pub returns-clause-taken : goal.returns-clause-taken
returns-clause-taken c before quiet purpose bytes last time all =
    let was = watch_of no_watch before in
    let w = watched (clocked was purpose last) (TookBytes bytes) in
    let same = quiet_calls w quiet all in
    let latest : w.active ≡ last = latest_is was purpose last in
    ap (λ (v : Watch). is_overdue v Idle time)
    (watch_of-append no_watch before (ReadClock purpose last ∷ (TookBytes bytes ∷ quiet)))
    ∙ idle_is (watch_of w quiet) None last time same.unanswered (same.active ∙ latest)

pub returns-clause-came : goal.returns-clause-came
returns-clause-came c before between quiet purpose taken bytes last time none all =
    let was = watch_of no_watch before in
    let took = watched was (TookBytes taken) in
    let mid = watch_of took between in
    let read = clocked mid purpose last in
    let w = watched read (GaveBytes bytes) in
    let rest = ReadClock purpose last ∷ (GaveBytes bytes ∷ quiet) in
    let same = quiet_calls w quiet all in
    let silent : read.unanswered ≡ None =
    ap (λ (v : Watch). v.unanswered) (sym (watch_of-append took between (ReadClock purpose last ∷ [])))
    ∙ unanswered_after took (between ++ ReadClock purpose last ∷ []) none in
    ap (λ (v : Watch). is_overdue v Idle time)
    (watch_of-append no_watch before ((TookBytes taken ∷ between) ++ rest)
    ∙ watch_of-append took between rest)
    ∙ idle_is (watch_of w quiet) None last time (same.unanswered ∙ silent)
    (same.active ∙ latest_is mid purpose last)

pub returns-clause-first_send : goal.returns-clause-first_send
returns-clause-first_send c = idle-first-send

pub returns-clause-early : goal.returns-clause-early
returns-clause-early c = idle-early
