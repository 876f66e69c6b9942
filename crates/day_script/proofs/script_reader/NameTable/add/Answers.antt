use Rattle.std.proofs.Common.{◌≡◌, ◌++◌, ◌∷◌, [], List, ap, ◌∙◌}
use Rattle.std.proofs.lemmas.List.{map_push}
use Rattle.std.proofs.lemmas.List.Elements.{All-push}
use Rattle.day_script.specs.declared.scripts.Named.{Named}
use Rattle.day_script.specs.ScriptReading.{HasGoodName, name_as, name_of, names_of}
use Rattle.day_script.proofs.script_reader.NameTable.add.Goals as goal

pub returns-clause-roster : goal.returns-clause-roster
returns-clause-roster c =
    let old : List Named = c.args.self.now.named.items in
    let last : Named = record { kind = c.args.kind; name = c.in_ok-name.name } in
    let items : c.push.new.self.items ≡ old ++ last ∷ [] =
    c.in_ok-push.ensures.items ∙ ap (λ ns. ns ++ last ∷ []) c.in_ok-note.ensures.named in
    let names : names_of c.push.new.self.items ≡ names_of old ++ name_as c.args.kind c.args.name.now ∷ [] =
    ap names_of items ∙ map_push name_of old last
    ∙ ap (λ n. names_of old ++ name_as c.args.kind n ∷ []) c.in_ok-name.ensures.ok in
    let places = c.in_ok-note.ensures.places in
    record {
      good = rw items
          (All-push HasGoodName old last c.requires.roster.good (rw c.in_ok-name.ensures.ok c.requires.good));
      places = record { films = rw names places.films; traces = rw names places.traces };
    }
