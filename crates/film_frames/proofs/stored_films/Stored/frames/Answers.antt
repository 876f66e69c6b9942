use Rattle.std.proofs.Common.{◌≡◌, ◌+◌, List, ℕ, take, arith, subst, sym, ◌∙◌}
use Rattle.std.specs.List.Sorted.{IsNonDecreasing}
use Rattle.film_frames.specs.Pieces.{film_pieces, frames_in}
use Rattle.film_frames.specs.Tables.{report_numbers}
use Rattle.film_frames.proofs.ReportIndexLemmas.{AreBelow, reports-count, reports-rise}
use Rattle.film_frames.proofs.stored_films.Stored.frames.Goals as goal
use Rattle.film_frames.proofs.stored_films.Stored.frames.Goals.{After-reports, After-ends_below-reports}

listed : (c : After-reports) → c.reports.result.now ≡ report_numbers 0 (film_pieces c.args.self.now.film)
listed c = c.reports.ensures ∙ c.args.self.now.table_is.pieces.reports

-- the frames and the reports before a piece are all pieces before it
counted : (c : After-ends_below-reports)
    → frames_in (take c.args.piece (film_pieces c.args.self.now.film)) + c.ends_below-reports.result ≡ c.args.piece
counted c =
    let below = c.ends_below-reports.ensures in
    let are : AreBelow c.reports.result.now c.args.piece c.ends_below-reports.result =
    record { few = below.count; below = below.below; from = below.from } in
    let same : c.reports.result.now ≡ report_numbers 0 (film_pieces c.args.self.now.film) =
    c.reports.ensures ∙ c.args.self.now.table_is.pieces.reports in
    reports-count (film_pieces c.args.self.now.film) c.requires (rw same at are)

pub ends_below-reports-requires : goal.ends_below-reports-requires
ends_below-reports-requires c =
    let same = listed (goal.at.ends_below-reports-requires c).After-reports in
    subst (λ (l : List ℕ). IsNonDecreasing l) (sym same) (reports-rise 0 (film_pieces c.args.self.now.film))

pub overflow_sub-result : goal.overflow_sub-result
overflow_sub-result c = omega (arith, counted (goal.at.overflow_sub-result c).After-ends_below-reports)

pub returns : goal.returns
returns c = omega (arith, counted (goal.at.returns c).After-ends_below-reports)
