use Rattle.std.proofs.Common.{◌≡◌, ◌+◌, ◌-◌, ◌*◌, ℕ, take, drop, arith, subst}
use Rattle.slot_calendar.specs.Rings.{IsGreatest}
use Rattle.slot_calendar.proofs.BlockMaxima.{topped-settle}
use Rattle.slot_calendar.proofs.ring.settle_block.Goals as goal

pub returns-in-Some : goal.returns-in-Some
returns-in-Some c =
    let b = c.in-Some.block in
    let width : b * 1024 + 1024 - b * 1024 ≡ 1024 = omega arith in
    let P : ℕ → Type 0 = λ n. IsGreatest (take n (drop (b * 1024) c.args.places.now)) c.greatest_of.result in
    topped-settle (record { maxima = c.requires; is = c.in-Some.is; greatest = subst P width c.greatest_of.ensures })
