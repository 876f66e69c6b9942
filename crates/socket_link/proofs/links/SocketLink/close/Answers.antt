use Rattle.socket_link.proofs.Ends.{closed}
use Rattle.socket_link.proofs.Rounds.{calls_err, calls_on}
use Rattle.socket_link.proofs.Steps.{on_ok_map}
use Rattle.socket_link.proofs.links.SocketLink.close.Goals as goal

pub returns : goal.returns
returns g c =
    let calls = calls_on c.in_ok-write_everything.ensures.calls (calls_on c.in_ok-shut_down.ensures.calls
    c.linger.ensures.calls) in
    record {
      count = calls.count;
      served = calls.served;
      closed = on_ok_map c.linger.result c.linger.ensures.ended
          (λ ended tells. closed {old = c.args.self.now} {now = c.linger.new.self} tells (record {
            written = c.write_everything.new.self;
            history = c.write_everything.ensures.history;
            all = c.in_ok-write_everything.ensures.written tells;
            lingered = rw (c.in_ok-shut_down.ensures.shut tells) at (ended tells);
          }));
      cause = calls.cause;
    }

pub returns-in_err-shut_down-clause-cause : goal.returns-in_err-shut_down-clause-cause
returns-in_err-shut_down-clause-cause g c =
    (calls_err c.from_residual-in_err-shut_down.ensures.0 (calls_on c.in_ok-write_everything.ensures.calls
    c.in_err-shut_down.ensures.calls)).cause
