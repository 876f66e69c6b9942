use Rattle.std.proofs.Common.{List, [], ap, length, ◌∙◌, arith}
use Rattle.mpeg_scan.specs.declared.units.Unit.{Unit as PictureUnit}
use Rattle.mpeg_scan.specs.StartCodes.{read_after}
use Rattle.mpeg_scan.proofs.FilmBoundLemmas.{film-rate, film-bytes, film-units, film-pictures}
use Rattle.mpeg_scan.proofs.UnitNumberingLemmas.{film-numbered}
use Rattle.mpeg_scan.proofs.FilmGrammarLemmas.{film-grammatical}
use Rattle.mpeg_scan.proofs.PartTilingLemmas.{film-tiles}
use Rattle.mpeg_scan.proofs.laws.law_film_is_well_formed.Goals as goal

pub returns : goal.returns
returns c =
    let film = c.args.film.now in
    let r = read_after [] film.bytes.items in
    let accepted = film.grammar.accepted in
    let rate = film-rate r accepted in
    let units = ap (λ (l : List PictureUnit). length l) film.grammar.units ∙ film-units film.bytes.items accepted in
    record {
      slowest = omega (arith, film.grammar.rate, rate.0);
      fastest = omega (arith, film.grammar.rate, rate.1);
      bytes = film-bytes film.bytes.items accepted;
      units = omega (arith, units, film-pictures r accepted);
      pictures = units;
      grammatical = film-grammatical r accepted;
      numbered = film-numbered r accepted;
      tiled = film-tiles r accepted;
    }
