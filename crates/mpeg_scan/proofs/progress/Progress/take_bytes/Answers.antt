use Rattle.std.proofs.Common.{◌+◌, ◌++◌, List, ℕ, take, subst, sym, ap, ◌∙◌, arith}
use Rattle.std.proofs.lemmas.Result.{err_from_is_err_and}
use Rattle.mpeg_scan.specs.Calls.{Call, calls_of}
use Rattle.mpeg_scan.specs.StartCodes.{codes_of, read_after}
use Rattle.mpeg_scan.specs.FilmFaults.{first_fault}
use Rattle.mpeg_scan.specs.ScannerState.{HasReadBytes}
use Rattle.mpeg_scan.proofs.ByteReadLemmas.{read-run, read-byte, calls-run, fault-rest, length-rest}
use Rattle.mpeg_scan.proofs.ByteReadLemmas.{skipped-calls, skipped-kept}
use Rattle.mpeg_scan.specs.CodeSteps.{tally_now}
use Rattle.mpeg_scan.proofs.ScanBoundLemmas.{same-awaits, skipped-ahead, skipped-places}
use Rattle.mpeg_scan.proofs.progress.Progress.take_bytes.Goals as goal
use Rattle.mpeg_scan.proofs.progress.Progress.take_bytes.Goals.{After-skip-at}

-- what was skipped is read, and nothing of it is reported
read-on : (g : _) (c : After-skip-at g) (r : List ℕ)
    → HasReadBytes c.loop-at.self (read_after r (take c.loop-at.at c.args.chunk.now))
    → HasReadBytes c.skip-at.new.self (read_after r (take (c.loop-at.at + c.skip-at.result) c.args.chunk.now))
read-on g c r kept =
    subst (λ (q : List ℕ). HasReadBytes c.skip-at.new.self q)
    (read-run r c.args.chunk.now c.loop-at.at c.skip-at.result)
    (skipped-kept c.skip-at.ensures.skipped kept)

heard-on : (g : _) (c : After-skip-at g) (r : List ℕ) (calls : List Call)
    → HasReadBytes c.loop-at.self (read_after r (take c.loop-at.at c.args.chunk.now))
    → g.F.Found.heard c.loop-at.found (calls ++ calls_of (codes_of (read_after r (take c.loop-at.at c.args.chunk.now))))
    → g.F.Found.heard c.loop-at.found
    (calls ++ calls_of (codes_of (read_after r (take (c.loop-at.at + c.skip-at.result) c.args.chunk.now))))
heard-on g c r calls kept heard =
    subst (λ (l : List Call). g.F.Found.heard c.loop-at.found l)
    (calls-run r c.args.chunk.now c.loop-at.at c.skip-at.result calls
    (skipped-calls c.skip-at.ensures.skipped kept)) heard

pub loop-at-preserved : goal.loop-at-preserved
loop-at-preserved g c =
    let i = c.loop-at.invariant in
    let chunk = c.args.chunk.now in
    let at = c.loop-at.at in
    let places = skipped-places c.skip-at.ensures.skipped in
    let n = c.skip-at.result in record {
      within = omega (arith, i.within, c.skip-at.ensures.bound, length-rest chunk at);
      fed = omega (arith, i.fed, c.skip-at.ensures.fed);
      room = skipped-ahead c.skip-at.ensures.skipped i.room;
      ready = same-awaits (g.F.Found.ready_at c.loop-at.found) (tally_now c.loop-at.self)
          (tally_now c.skip-at.new.self) places.0 places.1 i.ready;
      kept = λ r kept. read-on g (goal.at.loop-at-preserved g c).After-skip-at r (i.kept r kept);
      heard = λ r calls kept heard.
          heard-on g (goal.at.loop-at-preserved g c).After-skip-at r calls (i.kept r kept) (i.heard r calls kept heard);
    }

pub loop-at-preserved-then-at-chunk : goal.loop-at-preserved-then-at-chunk
loop-at-preserved-then-at-chunk g c =
    let i = c.loop-at.invariant in
    let chunk = c.args.chunk.now in
    let b = c.loop-at.at + c.skip-at.result in
    let skipped = (goal.at.loop-at-preserved-then-at-chunk g c).After-skip-at in record {
      within = omega arith;
      fed = omega (arith, i.fed, c.skip-at.ensures.fed, c.take_byte.ensures.fed);
      room = c.in_ok-take_byte.ensures.room;
      ready = c.in_ok-take_byte.ensures.ready;
      kept = λ r kept. subst (λ (q : List ℕ). HasReadBytes c.take_byte.new.self q)
          (read-byte r chunk b c.if-at-chunk.true)
          (c.in_ok-take_byte.ensures.kept (read_after r (take b chunk))
          (read-on g skipped r (i.kept r kept)));
      heard = λ r calls kept heard.
          subst (λ (q : List ℕ). g.F.Found.heard c.take_byte.new.found (calls ++ calls_of (codes_of q)))
          (read-byte r chunk b c.if-at-chunk.true)
          (c.in_ok-take_byte.ensures.heard (read_after r (take b chunk)) calls
          (read-on g skipped r (i.kept r kept))
          (heard-on g skipped r calls (i.kept r kept) (i.heard r calls kept heard)));
    }

pub returns-in_err-take_byte-clause-fault : goal.returns-in_err-take_byte-clause-fault
returns-in_err-take_byte-clause-fault g c =
    let chunk = c.args.chunk.now in
    let b = c.loop-at.at + c.skip-at.result in
    let p = err_from_is_err_and c.from_residual.result c.from_residual.ensures.1 in rw (p.1, p.2) λ f is r kept.
    fault-rest r chunk b f c.if-at-chunk.true
    (c.take_byte.ensures.fault f (c.in_err-take_byte.was ∙ is) (read_after r (take b chunk))
    (read-on g (goal.at.returns-in_err-take_byte-clause-fault g c).After-skip-at r (c.loop-at.invariant.kept r kept)))

pub take_byte-requires : goal.take_byte-requires
take_byte-requires g c =
    let i = c.loop-at.invariant in
    let places = skipped-places c.skip-at.ensures.skipped in
    let n = c.skip-at.result in record {
      short = omega (arith, i.fed, c.skip-at.ensures.fed);
      room = skipped-ahead c.skip-at.ensures.skipped i.room;
      ready = same-awaits (g.F.Found.ready_at c.loop-at.found) (tally_now c.loop-at.self)
          (tally_now c.skip-at.new.self) places.0 places.1 i.ready;
    }

pub returns-in_err-take_byte-clause-heard_before : goal.returns-in_err-take_byte-clause-heard_before
returns-in_err-take_byte-clause-heard_before g c =
    let i = c.loop-at.invariant in
    let b = c.loop-at.at + c.skip-at.result in
    let skipped = (goal.at.returns-in_err-take_byte-clause-heard_before g c).After-skip-at in
    let p =
    err_from_is_err_and c.from_residual.result c.from_residual.ensures.1 in rw (p.1, p.2) λ f is r calls kept heard.
    let here = read-on g skipped r (i.kept r kept) in
    let before = heard-on g skipped r calls (i.kept r kept) (i.heard r calls kept heard) in
    record {
      count = b;
      within = c.if-at-chunk.true;
      accepted = here.accepted;
      fault = ap (λ (q : List ℕ). first_fault (codes_of q)) (sym (read-byte r c.args.chunk.now b c.if-at-chunk.true))
          ∙ c.take_byte.ensures.fault f (c.in_err-take_byte.was ∙ is) (read_after r (take b c.args.chunk.now)) here;
      heard = let same = c.take_byte.ensures.unheard f (c.in_err-take_byte.was ∙ is) in rw same before;
    }
