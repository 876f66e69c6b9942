use Rattle.std.proofs.Common.{ℕ, ◌≡◌, ◌*◌, ◌+◌, List, [], get_or, map, ap, ◌∙◌, arith}
use Rattle.std.specs.Borrow.{Bor}
use Rattle.std.proofs.Math.ListN.{set}
use Rattle.std.proofs.lemmas.List.{length-map, length-set, map-set}
use Rattle.rtsp_methods.proofs.MethodTable.{name_in_row, rows_long}
use Rattle.rtsp_methods.proofs.NameParts.{name_parts, parts_are, parts_line, parts_more, parts_short, parts_text}
use Rattle.rtsp_methods.proofs.methods.listed_names.Goals as goal
use Rattle.rtsp_methods.proofs.methods.listed_names.Goals.{After-loop-place}

pub loop-place-preserved : goal.loop-place-preserved
loop-place-preserved c =
    let rows = c.rows-row-items in
    let place = c.loop-place.place in
    let parts = c.loop-place.parts in
    let text : Bor (List ℕ) → List ℕ = λ part. part.now in
    let one : List (Bor (List ℕ)) = set parts (2 * place) c.separator_before.result in
    let long = rows_long rows.result.now rows.ensures in
    record {
      long = length-set one (2 * place + 1) c.as_bytes.result
          ∙ length-set parts (2 * place) c.separator_before.result ∙ c.loop-place.invariant.long;
      each = λ j within.
          ap (λ (l : List (List ℕ)). get_or l j []) (map-set text one (2 * place + 1) c.as_bytes.result
          ∙ ap (λ (l : List (List ℕ)). set l (2 * place + 1) c.as_bytes.result.now)
          (map-set text parts (2 * place) c.separator_before.result))
          ∙ parts_more (map text parts) c.separator_before.result.now c.as_bytes.result.now place
          (length-map parts text ∙ c.loop-place.invariant.long) (omega arith) c.separator_before.ensures
          (name_in_row rows.result.now _ rows.ensures place c.loop-place-test.true c.as_bytes.ensures.value)
          c.loop-place.invariant.each j within;
    }

texts : (c : After-loop-place) → map (λ part. part.now) c.loop-place.parts ≡ name_parts
texts c =
    let long = rows_long c.rows-row-items.result.now c.rows-row-items.ensures in
    parts_are c.loop-place.parts c.loop-place.invariant.long
    (λ j inside. c.loop-place.invariant.each j (omega arith))

pub returns : goal.returns
returns c = record {
  text = parts_text c.loop-place.parts (texts c);
  line = parts_line c.loop-place.parts (texts c);
  short = parts_short c.loop-place.parts (texts c);
}
