-- The pieces of an entire film: they are sound, and their sizes add up to at most 2^42.
use Rattle.std.proofs.Common.{◌≡◌, ℕ, ◌+◌, ◌*◌, ◌^◌, ◌≤◌, List, [], ◌∷◌, map, sum, length, Some}
use Rattle.std.proofs.Common.{slice_get, refl, sym, ap, subst, ◌∙◌, arith}
use Rattle.std.proofs.lemmas.List.Sums.{sum_by-cons}
use Rattle.mpeg_scan.specs.declared.units.Unit.{Unit as PictureUnit}
use Rattle.mpeg_scan.specs.declared.films.Film.{Film}
use Rattle.mpeg_scan.specs.StartCodes.{read_after, codes_of}
use Rattle.mpeg_scan.specs.PartTiling.{first_of}
use Rattle.mpeg_scan.proofs.FilmBoundLemmas.{film-bytes, film-units, film-pictures}
use Rattle.mpeg_scan.specs.Layout.{AreChained, AreLaid, IsLaid}
use Rattle.mpeg_scan.proofs.UnitLayoutLemmas.{film-chained, film-laid, laid-at}
use Rattle.film_frames.specs.declared.pieces.Piece.{Piece}
use Rattle.film_frames.specs.Pieces.{film_pieces, pieces_of, unit_pieces, wire_in, wire_size}
use Rattle.film_frames.proofs.PieceLemmas.{AreSound, pieces-cons, sound-append, unit-bound, unit-le}
use Rattle.film_frames.proofs.PieceLemmas.{unit-sound, unit-wire, wire-append}

-- where the units of a film begin, and that they lie one after another from there
pub film-from : Film → ℕ
film-from film = first_of (codes_of (read_after [] film.bytes.items))

pub film-in_order : (film : Film) → AreChained (film-from film) film.units.items (length film.bytes.items)
unfolding film-from
film-in_order film = film-chained film.bytes.items film.rate film.units.items film.slice_starts.items film.grammar

-- ---- what follows for the pieces

units-sound : (film starts : List ℕ) (units : List PictureUnit) → AreLaid (length film) starts units
    → AreSound film (pieces_of starts units)
units-sound film starts [] laid = tt
units-sound film starts (unit ∷ units) laid =
    let P : List Piece → Type 0 = λ l. AreSound film l in
    subst P (sym (pieces-cons starts unit units))
    (sound-append film (unit_pieces starts unit) (pieces_of starts units)
    (unit-sound film starts unit laid.0.1 laid.0.0) (units-sound film starts units laid.1))

pub laid-film : (film : Film) → AreLaid (length film.bytes.items) film.slice_starts.items film.units.items
laid-film film = film-laid film.bytes.items film.rate film.units.items film.slice_starts.items film.grammar

pub film-sound : (film : Film) → AreSound film.bytes.items (film_pieces film)
film-sound film = units-sound film.bytes.items film.slice_starts.items film.units.items (laid-film film)

pub unit-laid : (film : Film) (number : ℕ) (unit : PictureUnit) → slice_get film.units.items number ≡ Some unit
    → IsLaid film.slice_starts.items unit
unit-laid film number unit is =
    (laid-at (length film.bytes.items) film.slice_starts.items film.units.items number is (laid-film film)).1

pub units-wire : (end : ℕ) (starts : List ℕ) (units : List PictureUnit) → AreLaid end starts units
    → wire_in (pieces_of starts units) ≡ sum (map (λ u. wire_size starts u) units)
units-wire end starts [] laid = refl
units-wire end starts (unit ∷ units) laid =
    let rest = units-wire end starts units laid.1 in
    let one = unit-wire starts unit laid.0.1 in
    let all : wire_in (pieces_of starts (unit ∷ units))
    ≡ wire_in (unit_pieces starts unit) + wire_in (pieces_of starts units) =
    ap (λ l. wire_in l) (pieces-cons starts unit units)
    ∙ wire-append (unit_pieces starts unit) (pieces_of starts units) in
    omega (arith, all, one, rest, sum_by-cons (λ n. n) (wire_size starts unit) (map (λ u. wire_size starts u) units))

-- units that lie so, one after another, from a place to another
pub record AreUnits (end : ℕ) (starts : List ℕ) (units : List PictureUnit) (from to : ℕ) : Type 0 where
  pub laid : AreLaid end starts units
  pub chained : AreChained from units to

pub units-le : {end : ℕ} {starts : List ℕ} {units : List PictureUnit} {from to : ℕ} → AreUnits end starts units from to
    → from ≤ to
units-le {units = []} are = omega (arith, are.chained)
units-le {starts} {units = unit ∷ units} are =
    omega (
      arith,
      are.chained.0,
      unit-le starts unit are.laid.0.1,
      units-le {units = units} (record {
        laid = are.laid.1;
        chained = are.chained.1;
      }),
    )

pub units-bound : {end : ℕ} {starts : List ℕ} {units : List PictureUnit} {from to : ℕ}
    → AreUnits end starts units from to
    → sum (map (λ u. wire_size starts u) units) + 2 * from ≤ 2 * to + 112 * length units
units-bound {units = []} are = omega (arith, are.chained)
units-bound {starts} {units = unit ∷ units} are =
    let rest = units-bound {units = units} (record { laid = are.laid.1; chained = are.chained.1 }) in
    omega (
      arith,
      rest,
      are.chained.0,
      unit-bound starts unit are.laid.0.1,
      unit-le starts unit are.laid.0.1,
      sum_by-cons (λ n. n) (wire_size starts unit) (map (λ u. wire_size starts u) units),
    )

pub units-film : (film : Film)
    → AreUnits (length film.bytes.items) film.slice_starts.items film.units.items (film-from film)
    (length film.bytes.items)
units-film film = record { laid = laid-film film; chained = film-in_order film }

pub film-wire : (film : Film) → wire_in (film_pieces film)
    ≡ sum (map (λ u. wire_size film.slice_starts.items u) film.units.items)
film-wire film = units-wire (length film.bytes.items) film.slice_starts.items film.units.items (laid-film film)

pub film-few : (film : Film) → length film.units.items ≤ 4194304
film-few film =
    let units =
    ap (λ (l : List PictureUnit). length l) film.grammar.units ∙ film-units film.bytes.items film.grammar.accepted in
    omega (arith, units, film-pictures (read_after [] film.bytes.items) film.grammar.accepted)

pub film-bound : (film : Film) → sum (map (λ u. wire_size film.slice_starts.items u) film.units.items) ≤ 2 ^ 42
film-bound film =
    omega (arith, film-few film, film-bytes film.bytes.items film.grammar.accepted, units-bound (units-film film))
