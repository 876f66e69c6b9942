-- Facts on what a call answered.
use Rattle.std.proofs.Common.{◌≡◌, refl, Option, Some, None, Result, Ok, Err, OnOk}
use Rattle.std.specs.Prelude.{ok_or}
use Rattle.rtsp_client.specs.declared.watch_request.WatchEnd.{WatchEnd}

-- two facts hold of an answer that is no end
pub both-ok : (P Q : Type 0) (r : Result (Unit {0}) WatchEnd) → OnOk r P → OnOk r Q → OnOk r (P × Q)
both-ok P Q (Ok a) p q = (p, q)
both-ok P Q (Err e) p q = tt

-- what `ok_or` made an error of was None, and the error is the one that was given
pub ok-or-err : {A E : Type 0} {e : E} (o : Option A) (given : E) → Err e ≡ ok_or o given → (o ≡ None) × (e ≡ given)
ok-or-err None given is = (refl, cc)
ok-or-err (Some a) given is = absurd (let no : ⊥ = cc in no)
