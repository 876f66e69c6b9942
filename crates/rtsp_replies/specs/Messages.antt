-- Replies as complete messages (RFC 2326 sections 4.4 and 7).
use Rattle.std.specs.Prelude.{ℕ, ◌<◌, ◌≤◌, ◌^◌, List, All, IfSome, length}
use Rattle.interleave.specs.Elements.{IsMessageLength, StartsMessage}
use Rattle.early_start.specs.StartSearch.{Offers}
use Rattle.early_start.specs.declared.Tried.{Tried}

-- a message whose own bytes show its end
pub record IsMessage (message : List ℕ) : Type 0 where
  pub starts : StartsMessage message
  pub size : IsMessageLength message (length message)

-- a start that was tried, and offers, in numbers of 64 bits
pub record IsTriedInWords (tried : Tried) : Type 0 where
  pub start : tried.start < 2 ^ 64
  pub slot : tried.over.slot < 2 ^ 64
  pub booked : tried.over.booked < 2 ^ 64
  pub asked : tried.over.asked < 2 ^ 64

pub record AreOffersInWords (offers : Offers) : Type 0 where
  pub few : length offers.tried ≤ 256
  pub start : IfSome offers.start (λ slot. slot < 2 ^ 64)
  pub tried : All IsTriedInWords offers.tried
