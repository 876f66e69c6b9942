-- Where the payload of a piece begins in the film, by what comes before it.
use Rattle.std.proofs.Common.{◌≡◌, ℕ, zero, suc, ◌+◌, ◌-◌, ◌*◌, ◌^◌, ◌<◌, ◌≤◌, Bool, true, false, cond, List, [], ◌∷◌}
use Rattle.std.proofs.Common.{◌++◌, map, length, take, get_or, Some, slice_get, refl, sym, ap, subst, ◌∙◌, arith}
use Rattle.std.proofs.lemmas.List.Sums.{sum_by-cons, sum_by-take-le}
use Rattle.rtp_pack.specs.declared.reports.TheConstants.{REPORT_BYTES}
use Rattle.rtp_pack.specs.declared.sizes.TheConstants.{FRAME_HEAD_BYTES}
use Rattle.mpeg_scan.specs.declared.units.Unit.{Unit as PictureUnit}
use Rattle.mpeg_scan.specs.declared.films.Film.{Film}
use Rattle.mpeg_scan.specs.Layout.{AreChained, IsLaid}
use Rattle.mpeg_scan.proofs.FilmBoundLemmas.{film-bytes}
use Rattle.rtp_pack.specs.declared.payloads.Packet.{Packet}
use Rattle.rtp_pack.specs.Packets.{DoCover, unit_packets}
use Rattle.rtp_pack.proofs.UnitPacketLemmas.{packets-cover}
use Rattle.film_frames.specs.declared.pieces.Piece.{Piece}
use Rattle.film_frames.specs.declared.pieces.Piece.TheVariants.{Report, Frame}
use Rattle.film_frames.specs.Pieces.{count_of, film_pieces, frames_in, from_of, pieces_of}
use Rattle.film_frames.specs.Pieces.{unit_pieces, unit_reports, wire_in, wire_of}
use Rattle.film_frames.proofs.PieceLemmas.{pieces-cons}
use Rattle.film_frames.proofs.ReportIndexLemmas.{frames-few}
use Rattle.film_frames.proofs.FilmPieceLemmas.{AreUnits, units-film, units-le}
use Rattle.film_frames.proofs.FilmPieceLemmas.{film-bound, film-from, film-in_order, film-wire}

-- where the payload of a piece ends; a report has none
abbrev to_of : Piece → ℕ
to_of (Report unit) = unit.from
to_of (Frame unit packet) = packet.to

-- payloads one after another, the first from a place on, and the last ends at another
abbrev AreFollowing : ℕ → List Piece → ℕ → Type 0
AreFollowing from [] to = from ≡ to
AreFollowing from (piece ∷ pieces) to =
    (from_of piece ≡ from) × ((from_of piece ≤ to_of piece) × AreFollowing (to_of piece) pieces to)

-- some that follow so, and others after them
record DoBothFollow (from mid to : ℕ) (xs ys : List Piece) : Type 0 where
  one : AreFollowing from xs mid
  other : AreFollowing mid ys to

following-append : {from mid to : ℕ} {xs ys : List Piece} → DoBothFollow from mid to xs ys
    → AreFollowing from (xs ++ ys) to
following-append {to} {xs = []} {ys} both = subst (λ n. AreFollowing n ys to) (sym both.one) both.other
following-append {mid} {to} {xs = x ∷ xs} {ys} both =
    let later : DoBothFollow (to_of x) mid to xs ys = record { one = both.one.1.1; other = both.other } in
    (both.one.0, (both.one.1.0, following-append {from = to_of x} {xs = xs} later))

frames-following : (unit : PictureUnit) (from to : ℕ) (packets : List Packet) → DoCover from packets to
    → AreFollowing from (map (λ p. Frame unit p) packets) to
frames-following unit from to [] cover = cover
frames-following unit from to (p ∷ packets) cover =
    (cover.0, (omega (arith, cover.0, cover.1.0), frames-following unit p.to to packets cover.1.1.1))

reports-following : (unit : PictureUnit) (starts : Bool)
    → AreFollowing unit.from (cond starts (Report unit ∷ []) []) unit.from
reports-following unit true = (refl, (omega arith, refl))
reports-following unit false = refl

unit-following : (starts : List ℕ) (unit : PictureUnit) → IsLaid starts unit
    → AreFollowing unit.from (unit_pieces starts unit) unit.to
unit-following starts unit laid =
    let both : DoBothFollow unit.from unit.from unit.to (unit_reports unit)
    (map (λ p. Frame unit p) (unit_packets starts unit)) = record {
      one = reports-following unit unit.starts_group;
      other = frames-following unit unit.from unit.to (unit_packets starts unit) (packets-cover starts unit laid);
    } in
    following-append both

units-following : {end : ℕ} {starts : List ℕ} {units : List PictureUnit} {from to : ℕ}
    → AreUnits end starts units from to → AreFollowing from (pieces_of starts units) to
units-following {units = []} are = are.chained
units-following {starts} {units = unit ∷ units} {to} are =
    let both : DoBothFollow unit.from unit.to to (unit_pieces starts unit) (pieces_of starts units) = record {
      one = unit-following starts unit are.laid.0.1;
      other = units-following {units = units} (record { laid = are.laid.1; chained = are.chained.1 });
    } in
    subst (λ n. AreFollowing n (pieces_of starts (unit ∷ units)) to) are.chained.0
    (subst (λ l. AreFollowing unit.from l to) (sym (pieces-cons starts unit units)) (following-append both))

-- a piece, and the number of reports before it
record StandsAfter (pieces : List Piece) (k : ℕ) (piece : Piece) (reports : ℕ) : Type 0 where
  at : slice_get pieces k ≡ Some piece
  count : frames_in (take k pieces) + reports ≡ k

from-at : {pieces : List Piece} {k : ℕ} {piece : Piece} {reports : ℕ} (from to : ℕ)
    → AreFollowing from pieces to → StandsAfter pieces k piece reports
    → from_of piece + FRAME_HEAD_BYTES * frames_in (take k pieces) + REPORT_BYTES * reports
    ≡ from + wire_in (take k pieces)
from-at {pieces = []} from to are stands = absurd (let none = stands.at in cc)
from-at {pieces = first ∷ pieces} {k = zero} {piece} from to are stands =
    let same : first ≡ piece = (let at = stands.at in cc) in
    omega (arith, ap from_of same, are.0, stands.count)
from-at {pieces = Report unit ∷ pieces} {k = suc k} {piece} {reports} from to are stands =
    let frames = sum_by-cons count_of (Report unit) (take k pieces) in
    let wire = sum_by-cons wire_of (Report unit) (take k pieces) in
    let few = frames-few pieces k in
    let later : StandsAfter pieces k piece (reports - 1) =
    record { at = stands.at; count = omega (arith, stands.count, frames, few) } in
    let rest = from-at {pieces = pieces} {k = k} unit.from to are.1.1 later in
    omega (arith, rest, are.0, frames, wire, stands.count, few)
from-at {pieces = Frame unit p ∷ pieces} {k = suc k} {piece} {reports} from to are stands =
    let frames = sum_by-cons count_of (Frame unit p) (take k pieces) in
    let wire = sum_by-cons wire_of (Frame unit p) (take k pieces) in
    let later : StandsAfter pieces k piece reports =
    record { at = stands.at; count = omega (arith, stands.count, frames) } in
    let rest = from-at {pieces = pieces} {k = k} p.to to are.1.1 later in
    omega (arith, rest, are.0, are.1.0, frames, wire)

-- ---- of a film

first-from : {from : ℕ} {first : PictureUnit} (units : List PictureUnit) (to : ℕ) → AreChained from units to
    → 0 < length units → first ≡ get_or units 0 first → first.from ≡ from
first-from {from} {first} [] to chained some is = absurd (omega (arith, some))
first-from {from} {first} (unit ∷ units) to chained some is = ap (λ (u : PictureUnit). u.from) is ∙ chained.0

some-units : (starts : List ℕ) (units : List PictureUnit) (k : ℕ) → k < length (pieces_of starts units)
    → 0 < length units
some-units starts [] k h = absurd (omega (arith, h))
some-units starts (unit ∷ units) k h = omega arith

pub film-some : (film : Film) (number : ℕ) → number < length (film_pieces film) → 0 < length film.units.items
film-some film number h = some-units film.slice_starts.items film.units.items number h

pub film-payload : {number : ℕ} {first : PictureUnit} {piece : Piece} (film : Film) (reports : ℕ)
    → number < length (film_pieces film) → first ≡ get_or film.units.items 0 first
    → slice_get (film_pieces film) number ≡ Some piece → frames_in (take number (film_pieces film)) + reports ≡ number
    → from_of piece + FRAME_HEAD_BYTES * frames_in (take number (film_pieces film)) + REPORT_BYTES * reports
    ≡ first.from + wire_in (take number (film_pieces film))
film-payload {number} {first} {piece} film reports h is at count =
    let from =
    first-from film.units.items (length film.bytes.items) (film-in_order film) (film-some film number h) is in
    let stands : StandsAfter (film_pieces film) number piece reports = record { at = at; count = count } in
    from-at (film-from film) (length film.bytes.items) (units-following (units-film film)) stands
    ∙ ap (λ n. n + wire_in (take number (film_pieces film))) (sym from)

heads-le : (pieces : List Piece) (k reports : ℕ) → k ≤ length pieces → frames_in (take k pieces) + reports ≡ k
    → FRAME_HEAD_BYTES * frames_in (take k pieces) + REPORT_BYTES * reports ≤ wire_in (take k pieces)
heads-le pieces zero reports h count = omega (arith, count)
heads-le [] (suc k) reports h count = absurd (omega (arith, h))
heads-le (Report unit ∷ pieces) (suc k) reports h count =
    let frames = sum_by-cons count_of (Report unit) (take k pieces) in
    let wire = sum_by-cons wire_of (Report unit) (take k pieces) in
    let few = frames-few pieces k in
    omega (
      arith,
      heads-le pieces k (reports - 1) (omega (arith, h)) (omega (arith, count, frames, few)),
      frames,
      wire,
      count,
      few,
    )
heads-le (Frame unit p ∷ pieces) (suc k) reports h count =
    let frames = sum_by-cons count_of (Frame unit p) (take k pieces) in
    let wire = sum_by-cons wire_of (Frame unit p) (take k pieces) in
    omega (arith, heads-le pieces k reports (omega (arith, h)) (omega (arith, count, frames)), frames, wire)

-- what is known of the place of a piece of a film, by its number, the frames before it and the place
-- of the film's first unit
pub record HasPlace (number frames place first : ℕ) : Type 0 where
  pub few : frames ≤ number
  pub heads : FRAME_HEAD_BYTES * frames + REPORT_BYTES * (number - frames) ≤ place
  pub most : place ≤ 2 ^ 42
  pub low : first ≤ 2 ^ 40

pub film-place : {number frames place : ℕ} {first : PictureUnit} (film : Film)
    → number < length (film_pieces film) → first ≡ get_or film.units.items 0 first
    → frames ≡ frames_in (take number (film_pieces film)) → place ≡ wire_in (take number (film_pieces film))
    → HasPlace number frames place first.from
film-place {number} {frames} {place} {first} film h is frames_is place_is =
    let pieces = film_pieces film in
    let chained = film-in_order film in
    let few : frames ≤ number = omega (arith, frames_is, frames-few pieces number) in
    let from = first-from film.units.items (length film.bytes.items) chained (film-some film number h) is in
    let low = units-le (units-film film) in
    record {
      few = few;
      heads = omega (
        arith,
        frames_is,
        place_is,
        heads-le pieces number (number - frames) (omega (arith, h)) (omega (arith, frames_is, few)),
      );
      most = omega (arith, place_is, sum_by-take-le wire_of pieces number, film-wire film, film-bound film);
      low = omega (arith, from, low, film-bytes film.bytes.items film.grammar.accepted);
    }
