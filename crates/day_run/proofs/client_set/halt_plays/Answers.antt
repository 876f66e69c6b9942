use Rattle.std.proofs.Common.{◌+◌, Some, None, sym, subst, arith}
use Rattle.std.proofs.lemmas.List.{append-nil, length-map}
use Rattle.day_script.proofs.Places.{Place}
use Rattle.day_run.proofs.ClientSweepLemmas.{AreHaltedTo, book-grown, passed-next, swept-all}
use Rattle.day_run.proofs.client_set.halt_plays.Goals.{in-Some, in_default}
use Rattle.day_run.proofs.client_set.halt_plays.Goals as goal

pub loop-maker-preserved : goal.loop-maker-preserved
loop-maker-preserved c =
    let i = c.loop-maker.maker in
    let at : Place c.loop-maker.clients = grind arith in
    let going = c.loop-maker.invariant.sound.going.each i at.none at.inside in
    let To = AreHaltedTo c.args.which (i + 1) c.args.book.now c.match-halt_of.book c.args.clients.now in
    elim c.match-halt_of.branch [
      | in-Some w ↦
          let told = w.in-Some.ensures {u = tt} in
          subst To (sym w.clients-is) (passed-next (record {
            before = c.loop-maker.book;
            after = c.match-halt_of.book;
            clients = c.loop-maker.clients;
            at = at;
            halt = Some w.in-Some.halt;
            its = told.some;
            undone = tt;
            has = λ slot timed. told.halt slot i going timed;
            goes = λ slot timed. told.state slot going timed;
            grown = search arith;
          }) c.loop-maker.invariant)
      | in_default w ↦
          let told = w.in_default.ensures {u = tt} in
          subst To (sym w.clients-is) (passed-next (record {
            before = c.loop-maker.book;
            after = c.match-halt_of.book;
            clients = c.loop-maker.clients;
            at = at;
            halt = None;
            its = tt;
            undone = told.none;
            has = λ slot timed. told.halt slot i going timed;
            goes = λ slot timed. told.state slot going timed;
            grown = book-grown c.loop-maker.book.entries w.book-is (sym (append-nil c.loop-maker.book.entries));
          }) c.loop-maker.invariant)
    ]

pub returns-clause-states : goal.returns-clause-states
returns-clause-states c = grind (arith, swept-all, length-map)
