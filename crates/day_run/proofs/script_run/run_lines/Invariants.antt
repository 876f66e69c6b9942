use Rattle.std.proofs.Common.{◌≡◌, take}
use Rattle.day_run.specs.MachineState.{HasRun, IsKept, IsDayMachine, link_on, day_state_of}
use Rattle.day_script.specs.Scripts.{AreClients, latest_slot}
use Rattle.day_run.proofs.script_run.run_lines.Given as goal

abbrev pub invariant-loop-line : goal.invariant-loop-line
invariant-loop-line l = record {
  machine : IsDayMachine l.machine;
  kept : IsKept l.initial.machine l.machine;
  heard : l.machine.heard ≡ latest_slot (take l.line-index l.lines);
  clients : AreClients (take l.line-index l.lines);
  run : HasRun (link_on l.initial.machine) (take l.line-index l.lines) l.text.items (day_state_of l.machine);
}
