-- The video so far is a prefix of the complete video.
use Rattle.std.proofs.Common.{◌≡◌, ℕ, ◌+◌, ◌-◌, List, [], ◌∷◌, ◌++◌, length, take, drop}
use Rattle.std.proofs.Common.{Option, None, refl, sym, ap, subst, ◌∙◌, arith, inl, inr}
use Rattle.std.specs.Prelude.{replicate}
use Rattle.std.proofs.lemmas.Bool.{cases_lt}
use Rattle.std.proofs.lemmas.List.{append_assoc, length-append, length-replicate, take-append-drop, length-take-le}
use Rattle.sys_demux.specs.StreamItems.{Item, item_bytes, chosen_next, chosen_after, AreItems, item_video}
use Rattle.sys_demux.specs.StreamItems.{video_of, bytes_of}
use Rattle.sys_demux.specs.SystemStreams.{IsEnd, IsTruncatedItem, IsSystem}
use Rattle.sys_demux.specs.ParserStates.{IsAtRest, IsPart, IsReached, Part, Reading, part_after}
use Rattle.sys_demux.specs.declared.faults.SystemFault.TheVariants.{Truncated}
use Rattle.sys_demux.specs.declared.parser_states.ParserState.{ParserState}
use Rattle.sys_demux.specs.declared.parser_states.ParserState.TheVariants.{Zeros, Value, Mark, High, Low}
use Rattle.sys_demux.specs.declared.parser_states.ParserState.TheVariants.{InHeader, Pass, Video, End, Failed}
use Rattle.sys_demux.proofs.ReadingUniqueness.{StandsFirst, cut_stands, end_no_fault, first_of, item_no_end, item_once}

-- a list begins so
record Begins (front whole : List ℕ) : Type 0 where
  rest : List ℕ
  is : whole ≡ front ++ rest

-- bytes are items and an end
record AreWhole (chosen : Option ℕ) (items : List Item) (bytes : List ℕ) : Type 0 where
  tail : List ℕ
  are : AreItems chosen items
  is : bytes ≡ bytes_of items ++ tail
  end : IsEnd tail

abbrev first_item : {chosen : Option ℕ} {y : Item} {ys : List Item} {bytes : List ℕ} → AreWhole chosen (y ∷ ys) bytes
    → StandsFirst chosen bytes
first_item {y} {ys} whole = first_of y ys whole.tail whole.are.0 whole.is

-- the items after those that are known
record IsStripped (chosen : Option ℕ) (items items' : List Item) (l : List ℕ) : Type 0 where
  more : List Item
  whole : AreWhole (chosen_after chosen items) more l
  video : video_of chosen items' ≡ video_of chosen items ++ video_of (chosen_after chosen items) more

strip : {chosen : Option ℕ} {items items' : List Item} {l : List ℕ} → AreItems chosen items
    → AreWhole chosen items' (bytes_of items ++ l) → IsStripped chosen items items' l
strip {items = []} {items'} p whole = record { more = items'; whole = whole; video = refl }
strip {chosen} {items = x ∷ xs} {items' = []} {l} p whole =
    absurd (item_no_end {chosen = chosen} (first_of x xs l p.0 (sym whole.is)) whole.end)
strip {chosen} {items = x ∷ xs} {items' = y ∷ ys} {l} p whole =
    let same = item_once (first_of x xs l p.0 refl) (first_item whole) in
    let next : chosen_next chosen y ≡ chosen_next chosen x = ap (chosen_next chosen) (sym same.item) in
    let rest = strip {chosen = chosen_next chosen x} {items = xs} {items' = ys} {l = l} p.1 (record {
      tail = whole.tail;
      are = subst (λ c. AreItems c ys) next whole.are.1;
      is = same.rest;
      end = whole.end;
    }) in
    record {
      more = rest.more;
      whole = rest.whole;
      video = ap (λ (v : List ℕ). v ++ video_of (chosen_next chosen y) ys)
          (ap (item_video chosen) (sym same.item)) ∙ ap (λ c. item_video chosen x ++ video_of c ys) next
          ∙ ap (λ (v : List ℕ). item_video chosen x ++ v) rest.video
          ∙ sym (append_assoc (item_video chosen x) (video_of (chosen_next chosen x) xs)
          (video_of (chosen_after (chosen_next chosen x) xs) rest.more));
    }

none_begins : (kept whole : List ℕ) → kept ≡ [] → Begins kept whole
none_begins kept whole none = record { rest = whole; is = sym (ap (λ (l : List ℕ). l ++ whole) none) }

-- the video of a complete stream begins with that of its first item
first_video : {chosen : Option ℕ} {bytes : List ℕ} (items : List Item) → AreWhole chosen items bytes
    → (a : StandsFirst chosen bytes) → Begins (item_video chosen a.item) (video_of chosen items)
first_video {chosen} [] whole a =
    absurd (item_no_end (subst (λ (l : List ℕ). StandsFirst chosen l) whole.is a) whole.end)
first_video {chosen} (y ∷ ys) whole a = record {
  rest = video_of (chosen_next chosen y) ys;
  is = ap (λ x. item_video chosen x ++ video_of (chosen_next chosen y) ys)
      (sym (item_once a (first_item whole)).item);
}

-- no item of a complete stream is truncated
no_truncated : (p : Part) (more : List ℕ) (items : List Item)
    → AreWhole p.after.chosen items (p.bytes ++ more)
    → IsTruncatedItem p.after.chosen p.after.start (p.bytes ++ more) p.place → ⊥
no_truncated p more [] whole cut =
    end_no_fault p.after.chosen p.after.start whole.tail (Truncated p.place) whole.end
    (subst (λ (l : List ℕ). IsTruncatedItem p.after.chosen p.after.start l p.place) whole.is cut)
no_truncated p more (y ∷ ys) whole cut =
    let first = first_item whole in
    let same = item_once (cut_stands cut) (record {
      item = y;
      rest = first.rest ++ cut.lacking;
      is_item = first.is_item;
      is = sym (append_assoc (item_bytes y) first.rest cut.lacking)
          ∙ ap (λ (l : List ℕ). l ++ cut.lacking) first.is;
    }) in
    omega (arith, ap length same.rest, length-append first.rest cut.lacking, cut.some)

-- an item of which some bytes are to come, or all of them follow
rest_begins : {p : Part} {left : ℕ} {video : List ℕ → List ℕ} {items : List Item} (more : List ℕ)
    → IsAtRest p left video → AreWhole p.after.chosen items (p.bytes ++ more)
    → Begins p.kept (video_of p.after.chosen items)
rest_begins {p} {left} {video} {items} more h whole =
    elim (cases_lt (length more) left) [
      | inl less ↦
          (let pad : List ℕ = replicate (left - length more) 0 in
          let size : length pad ≡ left - length more = length-replicate {A = ℕ} (left - length more) 0 in
          let d = h.ends (more ++ pad) (omega (arith, length-append more pad, size, less)) in
          absurd (no_truncated p more items whole (record {
            item = d.item;
            lacking = pad;
            is_item = d.is_item;
            is = d.bytes_are ∙ sym (append_assoc p.bytes more pad);
            begun = omega (arith, h.begun, d.zeros_are, length-append p.bytes more);
            some = omega (arith, size, less);
            place_is = h.place_is ∙ ap (λ n. p.after.start + n) (sym d.zeros_are);
          })))
      | inr enough ↦
          (let d = h.ends (take left more) (length-take-le left more enough) in
          let begins = first_video items whole (record {
            item = d.item;
            rest = drop left more;
            is_item = d.is_item;
            is = ap (λ (l : List ℕ). l ++ drop left more) d.bytes_are
                ∙ append_assoc p.bytes (take left more) (drop left more)
                ∙ ap (λ (l : List ℕ). p.bytes ++ l) (take-append-drop left more);
          }) in
          record {
            rest = video (take left more) ++ begins.rest;
            is = begins.is ∙ ap (λ (l : List ℕ). l ++ begins.rest) d.video_is
                ∙ append_assoc p.kept (video (take left more)) begins.rest;
          })
    ]

part_begins : {items : List Item} (p : Part) (state : ParserState) (more : List ℕ) → IsPart p state
    → AreWhole p.after.chosen items (p.bytes ++ more) → Begins p.kept (video_of p.after.chosen items)
part_begins {items} p (Zeros zeros) more is whole = none_begins p.kept (video_of p.after.chosen items) is.none
part_begins {items} p Value more is whole = none_begins p.kept (video_of p.after.chosen items) is.none
part_begins {items} p Mark more is whole = none_begins p.kept (video_of p.after.chosen items) is.none
part_begins {items} p (High value) more is whole = none_begins p.kept (video_of p.after.chosen items) is.0.none
part_begins {items} p (Low value high) more is whole = none_begins p.kept (video_of p.after.chosen items) is.0.none
part_begins {items} p (InHeader header left) more is whole = none_begins p.kept (video_of p.after.chosen items) is.none
part_begins p (Pass left) more is whole = rest_begins more is whole
part_begins p (Video left) more is whole = rest_begins more is whole
part_begins {items} p End more is whole = none_begins p.kept (video_of p.after.chosen items) is.none
part_begins {items} p (Failed fault) more is whole = none_begins p.kept (video_of p.after.chosen items) is.1

pub video_begins : {a : Reading} {whole : List ℕ} (more : List ℕ) → IsReached a → IsSystem (a.seen ++ more) whole
    → (rest : List ℕ) × (whole ≡ a.video ++ rest)
video_begins {a} more r system =
    let bytes : bytes_of r.items ++ (r.part ++ more) ≡ bytes_of system.items ++ system.tail =
    sym (append_assoc (bytes_of r.items) r.part more) ∙ ap (λ (l : List ℕ). l ++ more) (sym r.seen_is)
    ∙ system.bytes_are in
    let known = strip {l = r.part ++ more} r.are
    (record { tail = system.tail; are = system.are; is = bytes; end = system.end }) in
    let begins = part_begins (part_after r.items a r.part r.kept) a.state more r.is_part known.whole in (
      begins.rest,
      system.video_is ∙ known.video ∙ ap (λ (l : List ℕ). video_of None r.items ++ l) begins.is
          ∙ sym (append_assoc (video_of None r.items) r.kept begins.rest)
          ∙ ap (λ (l : List ℕ). l ++ begins.rest) (sym r.video_is),
    )
