use Rattle.std.proofs.Common.{inr, subst}
use Rattle.cli_args.specs.InvocationViews.{watch_args_of}
use Rattle.vodserve.specs.IoStates.{io_state_of}
use Rattle.vodserve.specs.WatchSpec.{Hears}
use Rattle.vodserve.proofs.WatchLemmas.{opened_for}
use Rattle.vodserve.proofs.watch_command.watch_film.Goals as goal

pub returns-in-Ok-Some-clause-watches : goal.returns-in-Ok-Some-clause-watches
returns-in-Ok-Some-clause-watches g c = inr (record {
  wish = c.in-Ok.wish;
  wish_is = (c.in-Ok.ensures {u = tt}).words;
  open_as = opened_for (watch_args_of c.args.watching.now) c.in-Ok.wish (g.G.Gate.told c.watch_gate.new.gate)
      ((c.in-Ok.ensures {u = tt}).words) ((c.in-Ok-Some.ensures {u = tt}).opened);
  once = c.watch_gate.ensures.once;
  end = c.in-Ok-Some.end;
  heard = subst (Hears c.in-Ok.wish (g.G.Gate.told c.watch_gate.new.gate)
      (io_state_of g.O.Sink.faults g.O.Sink.written c.args.out.now)
      (io_state_of g.O.Sink.faults g.O.Sink.written c.watch_gate.new.out)) c.in-Ok-Some.field-0-is
      ((c.in-Ok-Some.ensures {u = tt}).heard);
  nothing = c.end_watch.ensures.nothing;
  ends = c.end_watch.ensures.ends;
})
