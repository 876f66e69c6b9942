-- The gate of a client, and how its watching ends.
use Rattle.std.proofs.Common.{ℕ, Option, subst}
use Rattle.vod_base.specs.Gates.{Content}
use Rattle.cli_args.specs.Invocations.{WatchArgs}
use Rattle.rtsp_client.specs.declared.watch_request.Wish.{Wish}
use Rattle.vodserve.specs.WatchSpec.{IsWishOf, opening_at}
use Rattle.vodserve.specs.WorkerResults.{IsOpenAs}

-- a gate that was opened as a wish says was opened as the words say
pub opened_for : (watching : WatchArgs) (wish : Wish) (gate : Option Content) → IsWishOf watching wish →
    IsOpenAs (opening_at wish.port wish.slot_units) gate →
    IsOpenAs (opening_at watching.port watching.planning.slot) gate
opened_for watching wish gate is open_as =
    subst (λ (n : ℕ). IsOpenAs (opening_at watching.port n) gate) is.slot
    (subst (λ (n : ℕ). IsOpenAs (opening_at n wish.slot_units) gate) is.port open_as)
