use Rattle.std.proofs.lemmas.Grind.{elements}
use Rattle.std.proofs.Common.{List, ℕ, Some, ap, subst, sym, ◌∙◌, length, arith}
use Rattle.std.proofs.lemmas.Option.{slice_get-get_or}
use Rattle.mpeg_scan.specs.declared.units.Unit.{Unit as PictureUnit}
use Rattle.rtp_pack.specs.Packets.{IsLaid}
use Rattle.mpeg_scan.proofs.UnitLayoutLemmas.{film-laid, laid-at}
use Rattle.rtp_pack.proofs.payloads.refill_packets.Goals as goal

pub pack-requires : goal.pack-requires
pack-requires c =
    let film = c.args.film.now in
    let unit = c.index.result.now in
    let laid = film-laid film.bytes.items film.rate film.units.items film.slice_starts.items film.grammar in
    let here = slice_get-get_or film.units.items c.args.unit unit c.requires
    ∙ ap (λ (u : PictureUnit). Some u) (sym c.index.ensures) in
    subst (λ (l : List ℕ). IsLaid l unit) (sym c.deref.ensures.value)
    (laid-at (length film.bytes.items) film.slice_starts.items film.units.items c.args.unit here laid).1

pub returns : goal.returns
returns c = grind (arith, elements)
