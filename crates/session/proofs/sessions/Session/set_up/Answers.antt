use Rattle.std.proofs.Common.{arith, Ok}
use Rattle.session.proofs.sessions.Session.set_up.Goals as goal

pub returns-in-Ok-clause-exact : goal.returns-in-Ok-clause-exact
returns-in-Ok-clause-exact c = rw (← c.self.view_is) (record {
  read = Ok c.in-Ok.setup;
  is_read = c.in-Ok.ensures.read;
  done = (
    c.reply_waits.ensures.asks,
    grind (arith, c.reply_waits.ensures.waits, c.enter.ensures, c.put_setup.ensures, c.channels-channels.ensures),
  );
})
