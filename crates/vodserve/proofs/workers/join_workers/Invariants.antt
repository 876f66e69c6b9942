use Rattle.std.proofs.Common.{◌<◌, ◌≤◌, length}
use Rattle.std.specs.Prelude.{All, IfSome, map}
use Rattle.vod_base.specs.IoState.{HasRisen}
use Rattle.vod_base.specs.declared.gates.Opening.{Opening}
use Rattle.vodserve.specs.WorkerResults.{AreLeft, IsOpenAs}
use Rattle.vodserve.specs.Workers.{AreJoined, IsNotOpened, report_of}
use Rattle.vodserve.proofs.workers.join_workers.Given as goal

abbrev pub invariant-loop-worker : goal.invariant-loop-worker
invariant-loop-worker g l = record {
  joined : AreJoined g.G.Gate.told l.station (length l.fn.workers.items) l.yielded l.seat (g.G.Gate.told l.gate);
  left : AreLeft (map report_of l.yielded) l.end l.reports.items;
  opened : (opening : Opening) → IsOpenAs opening (g.G.Gate.told l.fn.gate) → IsOpenAs opening (g.G.Gate.told l.gate);
  since : IfSome (g.G.Gate.told l.gate) (IsNotOpened (g.G.Gate.told l.fn.gate));
  count : g.G.Gate.faults l.fn.gate ≤ g.G.Gate.faults l.gate;
  counted : All (λ worker. 0 < g.G.Gate.faults worker.part
      → HasRisen (g.G.Gate.faults l.fn.gate) (g.G.Gate.faults l.gate)) l.yielded;
}
