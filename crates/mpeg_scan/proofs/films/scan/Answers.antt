use Rattle.std.proofs.Common.{◌≡◌, [], ℕ, List, subst, Some, Err, sym, ap, ◌∙◌, arith, rules}
use Rattle.std.proofs.lemmas.Result.{err_from_is_err_and}
use Rattle.mpeg_scan.specs.declared.faults.FilmFault.TheVariants.{TooLong}
use Rattle.mpeg_scan.specs.declared.faults.ScanRefused.TheVariants.{Fault}
use Rattle.mpeg_scan.specs.StartCodes.{read_after, codes_of}
use Rattle.mpeg_scan.specs.Calls.{calls_of}
use Rattle.mpeg_scan.specs.FilmFaults.{first_fault}
use Rattle.mpeg_scan.specs.ScannerState.{HasScannedBytes}
use Rattle.mpeg_scan.specs.Films.{units_in, slices_in}
use Rattle.mpeg_scan.proofs.FilmLemmas.{same-error, calls-none, refusal-at_code, refusal-too_long}
use Rattle.mpeg_scan.proofs.films.scan.Goals as goal
use Rattle.mpeg_scan.proofs.films.scan.Goals.{In_ok-feed}

pub returns-then-len-gt-MAX_FILM_BYTES-clause-fault : goal.returns-then-len-gt-MAX_FILM_BYTES-clause-fault
returns-then-len-gt-MAX_FILM_BYTES-clause-fault c = λ f is.
    let same : Fault TooLong ≡ Fault f = cc in
    let named : Some TooLong ≡ Some f = cc in
    refusal-too_long c.args.bytes.items (omega arith) ∙ named

pub returns-in_err-feed-clause-fault : goal.returns-in_err-feed-clause-fault
returns-in_err-feed-clause-fault c =
    let p = err_from_is_err_and c.from_residual.result c.from_residual.ensures.1 in λ f is.
    refusal-at_code c.args.bytes.items f (omega arith)
    (ap (λ (l : List ℕ). first_fault (codes_of (read_after [] l))) (sym c.deref.ensures.value)
    ∙ c.feed.ensures.fault f
    (c.in_err-feed.was ∙ ap Err (sym p.2 ∙ same-error c.from_residual.result p.1 is)) [] c.new-scanner.ensures.fed)

-- all bytes were read
read-all : (c : In_ok-feed) → HasScannedBytes c.feed.new.self (read_after [] c.args.bytes.items)
read-all c =
    subst (λ (l : List ℕ). HasScannedBytes c.feed.new.self (read_after [] l)) c.deref.ensures.value
    (c.in_ok-feed.ensures.kept [] c.new-scanner.ensures.fed)

pub invariant_of-result : goal.invariant_of-result
invariant_of-result c =
    let r = read_after [] c.args.bytes.items in
    let kept = read-all (goal.at.invariant_of-result c).In_ok-feed in
    let first = c.in_ok-feed.ensures.heard [] [] c.new-scanner.ensures.fed (
      c.new-found.ensures.units ∙ sym (ap units_in calls-none),
      c.new-found.ensures.slices
          ∙ sym (ap slices_in calls-none),
    ) in
    let start = subst (λ (l : List ℕ).
    (c.feed.new.found.units.items ≡ units_in (calls_of (codes_of (read_after [] l))))
    × (c.feed.new.found.slices.items ≡ slices_in
    (calls_of (codes_of (read_after [] l))))) c.deref.ensures.value first in
    let all = c.in_ok-ending.ensures.heard r [] kept start in
    let ended = c.in_ok-ending.ensures.ended r kept in
    record { grammar = record { accepted = ended.0; rate = ended.1; units = all.0; slices = all.1 } }

pub returns-in_err-ending-clause-fault : goal.returns-in_err-ending-clause-fault
returns-in_err-ending-clause-fault c =
    let p = err_from_is_err_and c.from_residual-in_err-ending.result c.from_residual-in_err-ending.ensures.1 in λ f is.
    c.finish.ensures.fault f
    (c.in_err-ending.was ∙ ap Err (sym p.2 ∙ same-error c.from_residual-in_err-ending.result p.1 is))
    (read_after [] c.args.bytes.items)
    (read-all (goal.at.returns-in_err-ending-clause-fault c).In_ok-feed)

pub returns : goal.returns
returns c =
    let all = read_after [] c.args.bytes.items in
    let read = read-all (goal.at.returns c).In_ok-feed in record {
      film = search rules;
      grammatical = c.in_ok-ending.ensures.grammatical all read;
      numbered = c.in_ok-ending.ensures.numbered all read;
      tiled = c.in_ok-ending.ensures.tiled all read;
      fault = search rules;
    }
