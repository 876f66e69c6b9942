use Rattle.std.proofs.Common.{◌≡◌, ◌∙◌, List, length, drop, sym, ap, subst, arith}
use Rattle.std.specs.Prelude.{slice_index_or, All}
use Rattle.std.proofs.lemmas.List.{take_at}
use Rattle.vodserve.specs.Workers.{AreWorkers, HasFinished, IsWorker}
use Rattle.vodserve.specs.declared.workers.Worker.{Worker}
use Rattle.vodserve.proofs.WorkerLemmas.{same_workers}
use Rattle.vodserve.proofs.workers.run_workers.Goals as goal

pub returns-clause-workers : goal.returns-clause-workers
returns-clause-workers g c =
    let value = ap (λ (ws : List (Worker _)). length ws) c.as_mut_slice.ensures.value in
    let long : length c.for_each_mut.new.s ≡ length c.args.workers.now.items =
    omega (arith, c.for_each_mut.auto.s, value) in
    subst (AreWorkers g.G.Gate.told g.G.Gate.faults c.args.service.station.now 0)
    (sym (take_at c.for_each_mut.new.s (drop (length c.for_each_mut.new.s) c.args.workers.now.items)
    c.args.workers.now.len (omega (arith, long, c.args.workers.now.ok))))
    (same_workers 0 c.args.workers.now.items c.for_each_mut.new.s c.requires.workers
    (record {
      long = long;
      numbers = λ i d h. let k = (c.for_each_mut.ensures i d (omega (arith, h, value))).1 in
          sym (ap (λ (w : Worker _). w.number) k.left) ∙ k.call.0
          ∙ ap (λ (w : Worker _). w.number) (k.argument_is ∙ ap (λ (ws : List (Worker _)). slice_index_or ws i d)
          c.as_mut_slice.ensures.value);
      each = λ i d h. let k = (c.for_each_mut.ensures i d (omega (arith, h, value))).1 in
          subst (IsWorker g.G.Gate.told g.G.Gate.faults c.args.service.station.now) k.left k.call.1;
    }))

pub returns-clause-finished : goal.returns-clause-finished
returns-clause-finished g c =
    let value = ap (λ (ws : List (Worker _)). length ws) c.as_mut_slice.ensures.value in
    let long : length c.for_each_mut.new.s ≡ length c.args.workers.now.items =
    omega (arith, c.for_each_mut.auto.s, value) in
    let Ends : Worker _ → Type 0 =
    HasFinished g.G.Gate.told g.G.Gate.faults c.args.service.films.now c.args.service.settings.now
    c.args.service.seed in
    subst (All Ends)
    (sym (take_at c.for_each_mut.new.s (drop (length c.for_each_mut.new.s) c.args.workers.now.items)
    c.args.workers.now.len (omega (arith, long, c.args.workers.now.ok))))
    (λ i d h. let k = (c.for_each_mut.ensures i d (omega (arith, h, long, value))).1 in subst Ends k.left k.call.2)
