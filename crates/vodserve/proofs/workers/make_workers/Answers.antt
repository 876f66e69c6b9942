use Rattle.std.proofs.Common.{◌≡◌, ◌∙◌, ◌++◌, ◌∷◌, [], List, length, ap, refl, sym, subst, arith, length-append}
use Rattle.std.specs.Prelude.{All}
use Rattle.station.specs.Seats.{after_split, new_seat}
use Rattle.conn.specs.declared.reports.PartEnd.TheVariants.{AllTaken}
use Rattle.vodserve.specs.Workers.{AreWorkers, IsFresh}
use Rattle.vodserve.specs.declared.workers.Worker.{Worker}
use Rattle.std.proofs.lemmas.List.Elements.{All-push}
use Rattle.vodserve.proofs.WorkerLemmas.{workers_push}
use Rattle.vodserve.proofs.GateLemmas.{IsNew, new_is_fresh, new_is_worker, not_opened_split, told_out_more, split_open}
use Rattle.vodserve.proofs.GateLemmas.{split_still_open}
use Rattle.vodserve.proofs.workers.make_workers.Goals as goal

pub loop-number-preserved : goal.loop-number-preserved
loop-number-preserved g c =
    let told = g.G.Gate.told in
    let faults = g.G.Gate.faults in
    let inv = c.loop-number.invariant in
    let gave = c.in_ok-part.ensures {u = tt} in
    let workers : List (Worker _) = c.loop-number.workers.items in
    let worker : Worker _ = record {
      number = c.loop-number.number;
      seat = c.split-in-loop-number.result;
      part = c.in_ok-part.part;
      report = record { end = AllTaken; reports = c.new.result };
    } in
    let new : IsNew told faults c.args.station.now (told c.loop-number.gate) worker = record {
      seat = c.split-in-loop-number.ensures.new ∙ ap new_seat inv.seat;
      out = inv.parts;
      part = gave.part.0;
      count = gave.part.1;
      end = refl;
    } in
    let items : c.push_reserved.new.self.items ≡ workers ++ worker ∷ [] =
    c.push_reserved.ensures.items ∙ ap (λ (ws : List (Worker _)). ws ++ worker ∷ []) c.reserve.ensures.items in
    record {
      made = omega (arith, ap length items, length-append workers (worker ∷ []), inv.made);
      seat = c.split-in-loop-number.ensures.same ∙ ap after_split inv.seat;
      workers = subst (AreWorkers told faults c.args.station.now 0) (sym items)
          (workers_push 0 workers inv.workers
          (record { number = omega (arith, inv.made); is = new_is_worker worker new }));
      fresh = subst (All (IsFresh told faults)) (sym items)
          (All-push (IsFresh told faults) workers worker inv.fresh (new_is_fresh worker new));
      opened = split_open (told c.loop-number.gate) (told c.split.new.self) inv.opened gave.split;
      kept = λ opening is.
          split_still_open opening (told c.loop-number.gate) (told c.split.new.self) (inv.kept opening is) gave.split;
      since = not_opened_split (told c.args.gate.now) (told c.loop-number.gate) (told c.split.new.self) inv.since
          gave.split;
      parts = told_out_more c.loop-number.number (told c.loop-number.gate) (told c.split.new.self) inv.parts gave.split;
      count = omega (arith, c.split.ensures.count, inv.count);
    }
