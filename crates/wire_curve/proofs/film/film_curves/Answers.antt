use Rattle.std.proofs.Common.{arith, rules}
use Rattle.std.proofs.lemmas.Grind.{common_steps}
use Rattle.wire_curve.specs.FilmCurves.{AreFilmCurves}
use Rattle.wire_curve.specs.CurveFaults.{IsAccepted}
use Rattle.wire_curve.proofs.OwnSlotLemmas.{HasOwnSlots, IsAccepted-own}
use Rattle.wire_curve.proofs.SoundCurveLemmas.{sum_of_uses, AreFilmCurves-of_uses, AreSound-of_film}
use Rattle.wire_curve.proofs.film.film_curves.Goals as goal

pub curves_of_uses-requires-clause-total : goal.curves_of_uses-requires-clause-total
curves_of_uses-requires-clause-total c =
    let all = sum_of_uses c.args.sizes.now c.args.timing.now c.in_ok-uses.uses.in_slot.items c.requires
    (omega arith) c.in_ok-uses.ensures.in_slot in
    omega (arith, all, c.requires.total_fits)

pub returns-clause-curves : goal.returns-clause-curves
returns-clause-curves c =
    AreFilmCurves-of_uses
    c.in_ok-uses.ensures.in_slot (rw c.in_ok-uses.ensures.total at c.in_ok-curves_of_uses.ensures)

pub returns-clause-sound : goal.returns-clause-sound
returns-clause-sound c =
    let are = AreFilmCurves-of_uses
    c.in_ok-uses.ensures.in_slot (rw c.in_ok-uses.ensures.total at c.in_ok-curves_of_uses.ensures) in
    let ok : IsAccepted c.args.sizes.now c.args.timing.now = grind (arith, common_steps) in
    AreSound-of_film c.args.sizes.now c.args.timing.now c.in_ok-curves_of_uses.field-0 c.requires ok are

pub returns-in-Some-2-clause-accepted : goal.returns-in-Some-2-clause-accepted
returns-in-Some-2-clause-accepted c =
    let own : HasOwnSlots c.args.timing.now = record { some = c.requires.some_slot_units; same = c.if-timing.true } in
    IsAccepted-own c.args.sizes.now own (grind (arith, common_steps)) (grind (arith, common_steps)) (search rules)

pub returns-in-Some-2-clause-sound : goal.returns-in-Some-2-clause-sound
returns-in-Some-2-clause-sound c =
    let sizes = c.args.sizes.now in
    let timing = c.args.timing.now in
    let own : HasOwnSlots timing = record { some = c.requires.some_slot_units; same = c.if-timing.true } in
    let are : AreFilmCurves sizes timing c.in-Some-2.curves = search rules in
    AreSound-of_film sizes timing c.in-Some-2.curves c.requires
    (IsAccepted-own sizes own (grind (arith, common_steps)) (grind (arith, common_steps)) (search rules)) are
