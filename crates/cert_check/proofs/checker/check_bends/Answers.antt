use Rattle.std.proofs.lemmas.Grind.{common_steps, moves}
use Rattle.std.proofs.Common.{◌≡◌, ◌<◌, arith, unwrap_or}
use Rattle.cert_check.specs.declared.CertFault.{CertFault}
use Rattle.cert_check.specs.declared.CertFault.TheVariants.{EmptySegment, WrongLength, WrongTotal, BelowLow, AboveUp}
use Rattle.cert_check.specs.declared.CertFault.TheVariants.{EqualSlopes, RiseOffUpper, FallOffLower}
use Rattle.cert_check.specs.CertFaults.{HasCertFault, kind_of, fault_number}
use Rattle.cert_check.proofs.checker.check_bends.Goals as goal

pub returns-in-Some-first_bend_off-2 : goal.returns-in-Some-first_bend_off-2
returns-in-Some-first_bend_off-2 c =
    let first = c.in-Some-first_bend_off-2.ensures in
    record { there = first.here; no_earlier_kind = earlier; no_lesser_number = lesser }
  where
    earlier : (other : CertFault) → kind_of other < 7
        → ¬ HasCertFault c.args.curves.now.from c.args.curves.now.low.items c.args.curves.now.up.items
        c.args.segments.now other
    earlier (EmptySegment i) less = λ empty. let some = c.requires.whole.some i empty.0 in omega (arith, some, empty.1)
    earlier WrongLength less = λ off. off c.requires.whole.slots
    earlier WrongTotal less = λ off. off c.requires.whole.bytes
    earlier (BelowLow t) less = c.requires.not_below t
    earlier (AboveUp t) less = c.requires.not_above t
    earlier (EqualSlopes i) less = c.in_default.ensures i
    earlier (RiseOffUpper i) less = c.in_default-first_bend_off.ensures i
    earlier (FallOffLower i) less = absurd (omega (arith, less))

    lesser : (other : CertFault) → kind_of other ≡ 7
        → unwrap_or (fault_number other) 0 < c.in-Some-first_bend_off-2.i
        → ¬ HasCertFault c.args.curves.now.from c.args.curves.now.low.items c.args.curves.now.up.items
        c.args.segments.now other
    lesser (FallOffLower i) same less = c.in-Some-first_bend_off-2.ensures.not_before i less
    lesser (EmptySegment i) same less = absurd (omega (arith, same))
    lesser WrongLength same less = absurd (omega (arith, same))
    lesser WrongTotal same less = absurd (omega (arith, same))
    lesser (BelowLow t) same less = absurd (omega (arith, same))
    lesser (AboveUp t) same less = absurd (omega (arith, same))
    lesser (EqualSlopes i) same less = absurd (omega (arith, same))
    lesser (RiseOffUpper i) same less = absurd (omega (arith, same))

pub returns-in-Some : goal.returns-in-Some
returns-in-Some c = grind (arith, common_steps)

pub returns-in-Some-first_bend_off : goal.returns-in-Some-first_bend_off
returns-in-Some-first_bend_off c = grind (arith, moves)
