use Rattle.rtsp_client.proofs.EventCourses.{watched-not, watched-unsent}
use Rattle.rtsp_client.proofs.watch_loop.watch.Goals as goal

pub returns-in_default-clause-watched : goal.returns-in_default-clause-watched
returns-in_default-clause-watched g c =
    watched-not c.args.wish.now (g.K.Link.told c.args.link.now) (g.O.Sink.written c.args.out.now)

pub returns-in-Err-clause-watched : goal.returns-in-Err-clause-watched
returns-in-Err-clause-watched g c =
    watched-unsent c.args.wish.now c.in-Err.end (g.K.Link.told c.args.link.now) (g.K.Link.told c.start.new.link)
    (g.O.Sink.written c.args.out.now)
    c.in-Err.ensures.front

pub returns-clause-watched : goal.returns-clause-watched
returns-clause-watched g c = c.hear_all.ensures.watched (g.K.Link.told c.args.link.now) c.in-Ok-start.ensures.sent
