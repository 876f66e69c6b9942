-- Lemmas on what a failed sending of a slot leaves.
use Rattle.std.proofs.lemmas.Grind.{common_steps}
use Rattle.std.proofs.Common.{◌≡◌, ℕ, ◌+◌, ◌-◌, ◌≤◌, ◌++◌, Bool, List, take, Option, Result, OnErr, ap, arith}
use Rattle.std.proofs.lemmas.List.{length-append, map-append, take-take}
use Rattle.std.proofs.Math.Seq.{take-append-add}
use Rattle.vod_base.specs.Links.{IoEvent, Sent, IsSentPrefix, sends, told_more}
use Rattle.vod_base.proofs.HistoryLemmas.{told_more-append}
use Rattle.session.proofs.SharedTerms.{at_slot, due_by, PacerState, plan_bytes, step_end}
use Rattle.pacer.specs.Steps.{HasFailed}

-- a fact that holds, also where there is no fault
pub on_err : {T E P : Type 0} (r : Result T E) → P → OnErr r P
on_err r given = grind arith

pub front_of : (old new : Option (List IoEvent)) (bytes : List ℕ) (k : ℕ)
    → new ≡ told_more old (sends (take k bytes)) → IsSentPrefix old new bytes
front_of old new bytes k told = grind (arith, common_steps)

-- all of what comes first, and a prefix of the rest
pub front_right : {mid new : Option (List IoEvent)} (old : Option (List IoEvent)) (bytes more : List ℕ)
    → mid ≡ told_more old (sends bytes) → IsSentPrefix mid new more → IsSentPrefix old new (bytes ++ more)
front_right {new} old bytes more whole front = search (
  arith,
  length-append bytes more,
  told_more-append old (sends bytes) (sends (take front.0 more)),
  map-append Sent bytes (take front.0 more),
  take-append-add bytes more front.0,
)

-- a step that failed
pub failed_front : {stop : Bool} {slot : ℕ} {p new : PacerState} {told next : Option (List IoEvent)} →
    HasFailed stop slot p new told next →
    IsSentPrefix told next (plan_bytes p p.sent (step_end stop (at_slot slot p)))
failed_front {stop} {slot} {p} {new} {told} {next} failed =
    let end : ℕ = step_end stop (at_slot slot p) in
    let part : ℕ = (p.before + failed.out) - (p.before + p.sent) in
    let whole : ℕ = (p.before + end) - (p.before + p.sent) in
    let within : part ≤ whole = omega (arith, failed.out_most) in
    front_of told next (plan_bytes p p.sent end) part (rw take-take failed.told)

pub failed_due : {stop : Bool} {slot : ℕ} {p new : PacerState} {told next : Option (List IoEvent)}
    → HasFailed stop slot p new told next → new.due ≡ due_by p slot
failed_due {stop} {slot} {p} {new} {next} failed = ap (λ (q : PacerState). q.due) failed.state
