use Rattle.std.proofs.Common.{arith}
use Rattle.std.proofs.lemmas.Grind.{common_steps, elements}
use Rattle.cert_check.proofs.checker.find_fault.Goals as goal

pub returns-then-not-leads_to : goal.returns-then-not-leads_to
returns-then-not-leads_to c = grind (arith, common_steps)

pub first_outside-requires : goal.first_outside-requires
first_outside-requires c = grind (arith, common_steps)

pub returns-in-Below : goal.returns-in-Below
returns-in-Below c = grind (arith, elements)

pub returns-in-Above : goal.returns-in-Above
returns-in-Above c = grind (arith, elements)

pub check_bends-requires : goal.check_bends-requires
check_bends-requires c = grind (arith, common_steps)
