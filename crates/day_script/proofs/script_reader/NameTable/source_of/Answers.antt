use Rattle.std.proofs.Common.{◌≡◌, ◌∙◌, arith, sym, None}
use Rattle.std.proofs.lemmas.List.{length-map}
use Rattle.day_script.specs.ScriptReading.{known_place, name_as, name_of, names_of}
use Rattle.day_script.proofs.NamePlaceLemmas.{place-next}
use Rattle.day_script.proofs.script_reader.NameTable.source_of.Goals as goal

pub returns-clause-place : goal.returns-clause-place
returns-clause-place c =
    let named = c.args.self.now.named.items in
    let fresh : known_place (names_of named) (name_as c.args.kind c.args.name.now) ≡ None =
    sym c.place_of.ensures ∙ c.in_default.is in
    let next = place-next (names_of named) (name_as c.args.kind c.args.name.now) fresh in
    omega (arith, next, length-map named name_of)
