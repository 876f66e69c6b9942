use Rattle.std.proofs.Common.{◌∙◌, ℕ, subst, length}
use Rattle.conn.specs.Parts.{WorkerSpec, worker_input, worker_gate}
use Rattle.vodserve.proofs.GateLemmas.{risen_some, served_number}
use Rattle.vodserve.proofs.workers.work.Goals as goal

pub returns-clause-worker : goal.returns-clause-worker
returns-clause-worker g c =
    let served = c.serve_part.ensures.part in
    record {
      id = served.seat.id ∙ c.requires.worker.id;
      steps = served.seat.steps ∙ c.requires.worker.steps;
      limit = served.seat.limit ∙ c.requires.worker.limit;
      seat = served.seat.number ∙ c.requires.worker.seat;
      joined = served.seat.joined ∙ c.requires.worker.joined;
      part = served_number (g.G.Gate.told c.args.worker.now.part) (g.G.Gate.told c.serve_part.new.part)
          (length c.serve_part.result.reports.items) c.args.worker.now.number
          served.served c.requires.worker.part;
      fault = λ e. risen_some (g.G.Gate.faults c.args.worker.now.part) (g.G.Gate.faults c.serve_part.new.part)
          (served.fault e);
    }

pub returns-clause-finished : goal.returns-clause-finished
returns-clause-finished g c = record {
  seat = c.args.worker.now.seat;
  part = g.G.Gate.told c.args.worker.now.part;
  served = subst (λ (n : ℕ).
      WorkerSpec
      (worker_input c.args.service.films.now c.args.service.settings.now c.args.service.seed
      c.args.worker.now.number) c.args.worker.now.seat c.serve_part.new.seat
      (worker_gate n (g.G.Gate.told c.args.worker.now.part))
      (worker_gate (g.G.Gate.faults c.serve_part.new.part) (g.G.Gate.told c.serve_part.new.part)) c.serve_part.result)
      c.requires.fresh.count c.serve_part.ensures.part;
  number = c.requires.worker.seat;
  mine = c.requires.fresh.mine;
  untouched = c.requires.fresh.part;
}
