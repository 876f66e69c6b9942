use Rattle.std.proofs.Common.{ap, arith}
use Rattle.sys_demux.specs.declared.faults.SystemFault.TheVariants.{NotPack, BadCode, BadPacket, Truncated}
use Rattle.inputs.specs.Videos.{place_of}
use Rattle.inputs.proofs.StreamLemmas.{fault_within}
use Rattle.inputs.proofs.streams.move_fault.Goals as goal

pub returns-in-NotPack : goal.returns-in-NotPack
returns-in-NotPack c = λ bytes refused room.
    let within = fault_within bytes c.args.fault refused in
    rw c.in-NotPack.is
    (ap NotPack (omega (arith, c.saturating_add.ensures, within, ap place_of c.in-NotPack.is, room)))

pub returns-in-BadCode : goal.returns-in-BadCode
returns-in-BadCode c = λ bytes refused room.
    let within = fault_within bytes c.args.fault refused in
    rw c.in-BadCode.is
    (ap BadCode (omega (arith, c.saturating_add-in-BadCode.ensures, within, ap place_of c.in-BadCode.is, room)))

pub returns-in-BadPacket : goal.returns-in-BadPacket
returns-in-BadPacket c = λ bytes refused room.
    let within = fault_within bytes c.args.fault refused in
    rw c.in-BadPacket.is
    (ap BadPacket (omega (arith, c.saturating_add-in-BadPacket.ensures, within, ap place_of c.in-BadPacket.is, room)))

pub returns-in-Truncated : goal.returns-in-Truncated
returns-in-Truncated c = λ bytes refused room.
    let within = fault_within bytes c.args.fault refused in
    rw c.in-Truncated.is
    (ap Truncated (omega (arith, c.saturating_add-in-Truncated.ensures, within, ap place_of c.in-Truncated.is, room)))
