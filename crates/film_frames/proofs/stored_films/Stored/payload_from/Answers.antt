use Rattle.std.proofs.Common.{◌-◌, arith}
use Rattle.film_frames.specs.Pieces.{film_pieces}
use Rattle.film_frames.proofs.PayloadPlaceLemmas.{film-payload, film-place}
use Rattle.film_frames.proofs.ReportIndexLemmas.{frames-few}
use Rattle.film_frames.proofs.stored_films.Stored.payload_from.Goals as goal

pub overflow_sub-reports : goal.overflow_sub-reports
overflow_sub-reports c =
    omega (arith, c.frames-frames.ensures, frames-few (film_pieces c.args.self.now.film) c.args.number)

pub overflow_mul-result : goal.overflow_mul-result
overflow_mul-result c =
    let its = film-place c.args.self.now.film c.requires c.index.ensures c.frames-frames.ensures c.place.ensures in
    omega (arith, its.few, its.heads, its.most, its.low)

pub overflow_sub-result : goal.overflow_sub-result
overflow_sub-result c =
    let its = film-place c.args.self.now.film c.requires c.index.ensures c.frames-frames.ensures c.place.ensures in
    omega (arith, its.few, its.heads, its.most, its.low)

pub overflow_mul-result-2 : goal.overflow_mul-result-2
overflow_mul-result-2 c =
    let its = film-place c.args.self.now.film c.requires c.index.ensures c.frames-frames.ensures c.place.ensures in
    omega (arith, its.few, its.heads, its.most, its.low)

pub overflow_sub-result-2 : goal.overflow_sub-result-2
overflow_sub-result-2 c =
    let its = film-place c.args.self.now.film c.requires c.index.ensures c.frames-frames.ensures c.place.ensures in
    omega (arith, its.few, its.heads, its.most, its.low)

pub overflow_add-result : goal.overflow_add-result
overflow_add-result c =
    let its = film-place c.args.self.now.film c.requires c.index.ensures c.frames-frames.ensures c.place.ensures in
    omega (arith, its.few, its.heads, its.most, its.low)

pub returns : goal.returns
returns c = λ piece at.
    let film = c.args.self.now.film in
    let its = film-place film c.requires c.index.ensures c.frames-frames.ensures c.place.ensures in
    let all = film-payload film (c.args.number - c.frames-frames.result) c.requires
    c.index.ensures at (omega (arith, its.few, c.frames-frames.ensures)) in
    omega (arith, all, its.few, its.heads, c.frames-frames.ensures, c.place.ensures)
