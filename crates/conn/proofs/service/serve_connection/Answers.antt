use Rattle.std.proofs.Common.{refl, rules}
use Rattle.conn.proofs.ReservationSteps.{gone_on}
use Rattle.conn.proofs.PlayGuarantees.{keeps_promise, new_well}
use Rattle.conn.proofs.WorkerProgress.{gone_whole}
use Rattle.conn.proofs.service.serve_connection.Goals as goal

pub returns-clause-entries : goal.returns-clause-entries
returns-clause-entries g c =
    gone_whole (record {
      closed = c.in-Ok.ensures.booking;
      none = c.in-Ok.ensures.receipts;
      open_none = c.close.ensures.booking;
      same = search rules;
    }) (gone_on _ _ _ c.hear_all-end.ensures.kept.gone c.close.ensures.kept.gone)

pub returns-clause-guarantee : goal.returns-clause-guarantee
returns-clause-guarantee g c =
    keeps_promise (new_well c.args.films.now c.args.settings.now c.args.words c.law_all_films_are_traces.ensures
    c.requires.settings) refl c.holds.ensures.kept (search rules)
