use Rattle.std.proofs.Common.{[]}
use Rattle.conn.specs.Parts.{worker_input}
use Rattle.conn.proofs.WorkerProgress.{HasServedSoFar, worker_state}
use Rattle.conn.proofs.parts.serve_part.Given as goal

abbrev pub invariant-connections : goal.invariant-connections
invariant-connections g l =
    HasServedSoFar (worker_input l.films l.settings l.seed l.worker)
    (worker_state l.initial.seat (g.G.Gate.faults l.initial.part) (g.G.Gate.told l.initial.part) [])
    (worker_state l.seat (g.G.Gate.faults l.part) (g.G.Gate.told l.part) l.reports.items)
