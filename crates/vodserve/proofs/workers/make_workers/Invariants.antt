use Rattle.std.proofs.Common.{◌≡◌, ◌≤◌, length}
use Rattle.std.specs.Prelude.{All, IfSome}
use Rattle.vod_base.specs.Gates.{IsOpen}
use Rattle.vod_base.specs.declared.gates.Opening.{Opening}
use Rattle.vodserve.specs.WorkerResults.{IsOpenAs}
use Rattle.vodserve.specs.Workers.{ArePartsOut, AreWorkers, IsFresh, IsNotOpened, split_seat}
use Rattle.vodserve.proofs.workers.make_workers.Given as goal

abbrev pub invariant-loop-number : goal.invariant-loop-number
invariant-loop-number g l = record {
  made : length l.workers.items ≡ l.number;
  seat : l.seat ≡ split_seat l.station l.number;
  workers : AreWorkers g.G.Gate.told g.G.Gate.faults l.station 0 l.workers.items;
  fresh : All (IsFresh g.G.Gate.told g.G.Gate.faults) l.workers.items;
  opened : IfSome (g.G.Gate.told l.gate) (λ content. IsOpen content);
  kept : (opening : Opening) → IsOpenAs opening (g.G.Gate.told l.fn.gate) → IsOpenAs opening (g.G.Gate.told l.gate);
  since : IfSome (g.G.Gate.told l.gate) (IsNotOpened (g.G.Gate.told l.fn.gate));
  parts : IfSome (g.G.Gate.told l.gate) (ArePartsOut 0 l.number);
  count : g.G.Gate.faults l.fn.gate ≤ g.G.Gate.faults l.gate;
}
