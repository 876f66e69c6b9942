use Rattle.std.proofs.Common.{◌≡◌, length, string_bytes, None, List, refl, arith, ◌∙◌, subst}
use Rattle.std.proofs.lemmas.List.{length-map}
use Rattle.std.proofs.lemmas.Map.Text.{btree_map_updates_text}
use Rattle.day_script.specs.declared.scripts.SourceKind.{SourceKind}
use Rattle.day_script.specs.declared.scripts.SourceKind.TheVariants.{Film, Trace}
use Rattle.day_script.specs.ScriptReading.{Name, known_place, name_as, name_of, names_of}
use Rattle.day_script.proofs.NamePlaceLemmas.{places-more, places-stay}
use Rattle.day_script.proofs.script_reader.NameTable.note.Goals as goal

pub returns-in_ok-insert-in-Film-clause-places : goal.returns-in_ok-insert-in-Film-clause-places
returns-in_ok-insert-in-Film-clause-places c =
    let roster = c.args.self.now in
    let name = c.args.name.now in
    let names : List Name = names_of roster.named.items in
    let count : c.len-place.result ≡ length names = omega (arith, length-map roster.named.items name_of) in
    let key : string_bytes c.in_ok-key.key ≡ name = c.in_ok-key.ensures.ok in
    let sets = btree_map_updates_text (string_bytes c.in_ok-key.key) roster.films c.insert.new.self _
    c.in_ok-insert-in-Film.ensures.updates in
    let is : c.args.kind ≡ Film = c.in-Film.is in
    let fresh = subst (λ (k : SourceKind). known_place names (name_as k name) ≡ None) is c.requires.fresh in
    let more : Name = name_as Film name in
    rw is (record {
      films = places-more names more fresh c.requires.places.films (rw (key, count) at sets);
      traces = λ other. c.requires.places.traces other ∙ places-stay names more (name_as Trace other) refl;
    })

pub returns-in_ok-insert-in-Trace-clause-places : goal.returns-in_ok-insert-in-Trace-clause-places
returns-in_ok-insert-in-Trace-clause-places c =
    let roster = c.args.self.now in
    let name = c.args.name.now in
    let names : List Name = names_of roster.named.items in
    let count : c.len-place.result ≡ length names = omega (arith, length-map roster.named.items name_of) in
    let key : string_bytes c.in_ok-key.key ≡ name = c.in_ok-key.ensures.ok in
    let sets = btree_map_updates_text (string_bytes c.in_ok-key.key) roster.traces c.insert-in-Trace.new.self _
    c.in_ok-insert-in-Trace.ensures.updates in
    let is : c.args.kind ≡ Trace = c.in-Trace.is in
    let fresh = subst (λ (k : SourceKind). known_place names (name_as k name) ≡ None) is c.requires.fresh in
    let more : Name = name_as Trace name in
    rw is (record {
      films = λ other. c.requires.places.films other ∙ places-stay names more (name_as Film other) refl;
      traces = places-more names more fresh c.requires.places.traces (rw (key, count) at sets);
    })
