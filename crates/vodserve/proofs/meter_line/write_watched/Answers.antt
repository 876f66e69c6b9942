use Rattle.std.proofs.Common.{◌≡◌, ◌∙◌, ◌++◌, ℕ, List, [], ◌∷◌, ap, append_assoc, arith, codes, sym}
use Rattle.std.specs.Prelude.{flat_map}
use Rattle.std.proofs.lemmas.List.{append-nil}
use Rattle.rtsp_client.specs.declared.watch_request.Watched.{Watched}
use Rattle.cli_errors.specs.StreamWrites.{with_label}
use Rattle.cli_errors.proofs.StreamWriteLemmas.{said_as, said_by, said_cut, said_lost, said_no_more, said_then}
use Rattle.cli_errors.proofs.StreamWriteLemmas.{said_whole}
use Rattle.vodserve.specs.WatchSpec.{watched_text}
use Rattle.vodserve.proofs.meter_line.write_watched.Goals as goal

-- the numbers of the line with their labels
abbrev numbers_of : Watched → List (List ℕ × ℕ)
numbers_of w =
    (codes "units", w.units) ∷ (codes "bytes", w.bytes) ∷ (codes "frames", w.frames) ∷ (codes "reports", w.reports)
    ∷ (codes "most", w.most) ∷ (codes "over", w.over) ∷ (codes "under", w.under) ∷ []

abbrev numbers_text : List (List ℕ × ℕ) → List ℕ
numbers_text numbers = flat_map (λ (n : List ℕ × ℕ). with_label n.0 n.1) numbers

-- a text and numbers after it, one by one
abbrev with_numbers : List ℕ → List (List ℕ × ℕ) → List ℕ
with_numbers text [] = text
with_numbers text (n ∷ numbers) = with_numbers (text ++ with_label n.0 n.1) numbers

numbers_after : (text : List ℕ) (numbers : List (List ℕ × ℕ)) → text ++ numbers_text numbers ≡ with_numbers text numbers
numbers_after text [] = append-nil text
numbers_after text (n ∷ numbers) =
    sym (append_assoc text (with_label n.0 n.1) (numbers_text numbers))
    ∙ numbers_after (text ++ with_label n.0 n.1) numbers

joined : (w : Watched) → (codes "watched" ++ numbers_text (numbers_of w)) ++ codes "\n" ≡ watched_text w
joined w = ap (λ (t : List ℕ). t ++ codes "\n") (numbers_after (codes "watched") (numbers_of w))

pub returns-in_err-write_all-clause-said : goal.returns-in_err-write_all-clause-said
returns-in_err-write_all-clause-said g c =
    said_lost c.from_residual.result c.from_residual.ensures.1
    (said_as (joined c.args.watched) (said_no_more (codes "\n") (said_no_more (numbers_text (numbers_of c.args.watched))
    (said_cut c.write_all.ensures.count ((c.in_err-write_all.ensures {u = tt}).fault)
    ((c.in_err-write_all.ensures {u = tt}).front)))))

pub returns-in_err-write_numbers-clause-said : goal.returns-in_err-write_numbers-clause-said
returns-in_err-write_numbers-clause-said g c =
    said_lost c.from_residual-in_err-write_numbers.result c.from_residual-in_err-write_numbers.ensures.1
    (said_as (joined c.args.watched) (said_no_more (codes "\n")
    (said_then (said_whole c.write_all.ensures.count ((c.in_ok-write_all.ensures {u = tt}).whole))
    c.in_err-write_numbers.ensures)))

pub returns-clause-said : goal.returns-clause-said
returns-clause-said g c =
    said_as (joined c.args.watched)
    (said_then (said_then (said_whole c.write_all.ensures.count ((c.in_ok-write_all.ensures {u = tt}).whole))
    c.in_ok-write_numbers.ensures)
    (said_by c.write_all-2.result c.write_all-2.ensures.count c.write_all-2.ensures.fault c.write_all-2.ensures.whole
    c.write_all-2.ensures.front))

pub returns-clause-short : goal.returns-clause-short
returns-clause-short g c = record {
  units_short = omega arith;
  bytes_short = omega arith;
  frames_short = omega arith;
  reports_short = omega arith;
  most_short = omega arith;
  over_short = omega arith;
  under_short = omega arith;
}
