-- Which events are in order.
use Rattle.std.proofs.Common.{ℕ, List, Option}
use Rattle.vod_base.specs.declared.links.Heard.{Heard}
use Rattle.vod_base.specs.declared.links.Heard.TheVariants.{Slot}
use Rattle.socket_link.specs.Calls.{SocketCall}
use Rattle.socket_link.specs.Steps.{NoneIsDue, IsInOrder, IsNoSlot}

pub in_order : (units : ℕ) (last : Option ℕ) (heard : Heard) (calls : List SocketCall) → IsNoSlot heard →
    NoneIsDue units last calls → IsInOrder units last heard calls
in_order units last (Slot slot) calls other none = absurd other
in_order units last _ calls other none = none
