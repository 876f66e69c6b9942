use Rattle.std.proofs.Common.{◌≡◌, length, get_or, arith, ap, ◌∙◌}
use Rattle.std.proofs.lemmas.List.{get_or_read}
use Rattle.film_frames.specs.Tables.{with_report}
use Rattle.film_frames.proofs.TableLemmas.{table-push}
use Rattle.film_frames.proofs.tables.FrameTable.put.Goals as goal

pub returns-clause-table : goal.returns-clause-table
returns-clause-table c = λ film units pieces sound its is.
    let old = c.args.self.now in
    let last : c.len-last.result ≡ length old.rows.items = omega (arith, c.len-last.ensures, old.rows.ok) in
    let place : c.index.result.now ≡ get_or old.places.items (length old.rows.items) 0 =
    get_or_read old.places.items c.len-last.result c.index.result.now
    (omega (arith, last, is.rows_count, is.places_count)) c.index.ensures 0
    ∙ ap (λ n. get_or old.places.items n 0) last in
    let reports = c.in_ok-put_report_number.ensures ∙ ap (λ n. with_report n c.args.piece old.reports.items) last in
    table-push
    is (c.new.ensures film units sound its) c.in_ok-put_number.ensures c.in_ok-push.ensures.items reports
    (omega (arith, place, c.wire_of.ensures))
