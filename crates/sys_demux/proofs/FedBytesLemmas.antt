-- What was fed, some bytes more, and how it ends.
use Rattle.std.proofs.Common.{◌≡◌, ℕ, ◌+◌, ◌-◌, ◌*◌, ◌<◌, ◌≤◌, true, nat_lt, nat_le, List, [], ◌∷◌, ◌++◌, length, drop}
use Rattle.std.proofs.Common.{get_or, Option, Some, None, refl, sym, ap, subst, ◌∙◌, arith, inl, inr}
use Rattle.std.specs.Prelude.{IsSome, replicate}
use Rattle.std.proofs.lemmas.Bool.{and_parts, ltb-true, leb-true, le-leb, cond-true}
use Rattle.std.proofs.lemmas.List.{append_assoc, append-nil, length-append, length-replicate}
use Rattle.std.proofs.lemmas.List.Concat.{flat_map-append}
use Rattle.std.proofs.lemmas.Option.{none-some, same_Some}
use Rattle.sys_demux.specs.PacketContents.{video_in}
use Rattle.sys_demux.specs.StreamItems.{Item, with_prefix, item_bytes, zeros_of, chosen_next, chosen_after, IsPack}
use Rattle.sys_demux.specs.StreamItems.{IsPacket, IsItem, AreItems, item_video, video_of, bytes_of}
use Rattle.sys_demux.specs.StreamItems.Item.{Pack, Packet}
use Rattle.sys_demux.specs.SystemStreams.{IsTruncatedItem, IsEnd, IsFault, IsSystem, IsBadStream}
use Rattle.sys_demux.specs.SystemStreams.{IsBadByte, IsBadPacket, IsBadValue}
use Rattle.sys_demux.specs.ValidStates.{least_rest, is_sound}
use Rattle.sys_demux.specs.ParserStates.{video_from, IsAtPrefix, IsAtHeader, IsAtZeros, IsAtRest, IsShown}
use Rattle.sys_demux.specs.ParserStates.{IsPart, LeadsTo, IsReached, Part, Reading, end_fault, fault_at, part_after}
use Rattle.sys_demux.specs.declared.faults.SystemFault.{SystemFault}
use Rattle.sys_demux.specs.declared.faults.SystemFault.TheVariants.{NotPack, BadCode, BadPacket, Truncated}
use Rattle.sys_demux.specs.declared.headers.Header.{Header}
use Rattle.sys_demux.specs.declared.headers.Header.TheVariants.{Stuffing, Second, Stamp, Rest}
use Rattle.sys_demux.specs.declared.parser_states.ParserState.{ParserState}
use Rattle.sys_demux.specs.declared.parser_states.ParserState.TheVariants.{Zeros, Value, Mark, High, Low}
use Rattle.sys_demux.specs.declared.parser_states.ParserState.TheVariants.{InHeader, Pass, Video, End, Failed}
use Rattle.sys_demux.proofs.PacketHeaderSteps.{stuffing_ends}
use Rattle.sys_demux.proofs.ItemPartLemmas.{prefixed_more, length_prefixed}

-- items and one more
are_more : (chosen : Option ℕ) (items : List Item) (item : Item) → AreItems chosen items
    → IsItem (chosen_after chosen items) item → AreItems chosen (items ++ item ∷ [])
are_more chosen [] item are is = (is, tt)
are_more chosen (x ∷ items) item are is = (are.0, are_more (chosen_next chosen x) items item are.1 is)

chosen_more : (chosen : Option ℕ) (items : List Item) (item : Item)
    → chosen_after chosen (items ++ item ∷ []) ≡ chosen_next (chosen_after chosen items) item
chosen_more chosen [] item = refl
chosen_more chosen (x ∷ items) item = chosen_more (chosen_next chosen x) items item

video_more : (chosen : Option ℕ) (items : List Item) (item : Item)
    → video_of chosen (items ++ item ∷ []) ≡ video_of chosen items ++ item_video (chosen_after chosen items) item
video_more chosen [] item = append-nil (item_video chosen item)
video_more chosen (x ∷ items) item =
    ap (λ (l : List ℕ). item_video chosen x ++ l) (video_more (chosen_next chosen x) items item)
    ∙ sym (append_assoc (item_video chosen x) (video_of (chosen_next chosen x) items)
    (item_video (chosen_after (chosen_next chosen x) items) item))

bytes_more : (items : List Item) (item : Item) → bytes_of (items ++ item ∷ []) ≡ bytes_of items ++ item_bytes item
bytes_more items item =
    flat_map-append item_bytes items (item ∷ [])
    ∙ ap (λ (l : List ℕ). bytes_of items ++ l) (append-nil (item_bytes item))

-- a part that leads to a state, after items
reached_leads : (a : Reading) (items : List Item) (part kept : List ℕ) → AreItems None items
    → LeadsTo (part_after items a part kept) a.state
    → IsReached (record a { seen = bytes_of items ++ part; video = video_of None items ++ kept })
reached_leads a items part kept are (inl is) = record {
  items = items;
  part = part;
  kept = kept;
  are = are;
  seen_is = refl;
  video_is = refl;
  is_part = is;
}
reached_leads a items part kept are (inr done) =
    let d = done.1.0 in
    let all = items ++ d.item ∷ [] in
    let at_zeros : IsAtZeros (part_after all a [] []) 0 = record {
      count = 0;
      are = refl;
      zeros_are = omega arith;
      now_is = sym (chosen_more None items d.item ∙ d.next_is);
      none = refl;
    } in
    record {
      items = all;
      part = [];
      kept = [];
      are = are_more None items d.item are d.is_item;
      seen_is = ap (λ (l : List ℕ). bytes_of items ++ l) (sym d.bytes_are) ∙ sym (bytes_more items d.item)
          ∙ sym (append-nil (bytes_of all));
      video_is = ap (λ (l : List ℕ). video_of None items ++ l) (sym d.video_is)
          ∙ sym (video_more None items d.item) ∙ sym (append-nil (video_of None all));
      is_part = subst (λ s. IsPart (part_after all a [] []) s) (sym done.1.1) at_zeros;
    }

-- what is read leaves this part
abbrev pub part_of : {a : Reading} → IsReached a → Part
part_of {a} r = part_after r.items a r.part r.kept

pub part_size : {a : Reading} (r : IsReached a) → (part_of r).after.start + length (part_of r).bytes ≡ length a.seen
part_size r = sym (ap length r.seen_is ∙ length-append (bytes_of r.items) r.part)

-- bytes more, and the video in them
pub step : {a : Reading} (r : IsReached a) (b : Reading)
    → LeadsTo (part_after r.items b (r.part ++ b.seen) (r.kept ++ b.video)) b.state
    → IsReached (record b { seen = a.seen ++ b.seen; video = a.video ++ b.video })
step {a} r b leads =
    let after = reached_leads b r.items (r.part ++ b.seen) (r.kept ++ b.video) r.are leads in
    let seen_is : bytes_of r.items ++ (r.part ++ b.seen) ≡ a.seen ++ b.seen =
    sym (append_assoc (bytes_of r.items) r.part b.seen) ∙ ap (λ (l : List ℕ). l ++ b.seen) (sym r.seen_is) in
    let video_is : video_of None r.items ++ (r.kept ++ b.video) ≡ a.video ++ b.video =
    sym (append_assoc (video_of None r.items) r.kept b.video) ∙ ap (λ (l : List ℕ). l ++ b.video) (sym r.video_is) in
    subst (λ (s : List ℕ). IsReached (record b { seen = s; video = a.video ++ b.video })) seen_is
    (subst (λ (v : List ℕ). IsReached (record b { seen = bytes_of r.items ++ (r.part ++ b.seen); video = v }))
    video_is after)

-- bytes more without video
pub step_none : {a : Reading} (r : IsReached a) (b : Reading)
    → LeadsTo (part_after r.items b (r.part ++ b.seen) r.kept) b.state
    → IsReached (record b { seen = a.seen ++ b.seen; video = a.video })
step_none {a} r b leads =
    let none : Reading = record b { video = [] } in
    let more = step r none (subst (λ (k : List ℕ). LeadsTo (part_after r.items b (r.part ++ b.seen) k) b.state)
    (sym (append-nil r.kept)) leads) in
    subst (λ (v : List ℕ). IsReached (record b { seen = a.seen ++ b.seen; video = v })) (append-nil a.video) more

-- the same state, place and stream_id
pub record IsSameState (a b : Reading) : Type 0 where
  pub state : a.state ≡ b.state
  pub place : a.place ≡ b.place
  pub now : a.now ≡ b.now

pub moved : {a b : Reading} → IsSameState a b → IsReached b
    → IsReached (record a { seen = b.seen; video = b.video })
moved {a} {b} same r =
    subst (λ x. IsReached (record b { state = x; place = a.place; now = a.now })) (sym same.state)
    (subst (λ x. IsReached (record b { place = x; now = a.now })) (sym same.place)
    (subst (λ x. IsReached (record b { now = x })) (sym same.now) r))

-- a fault that bytes show stays
more_after : (tail front rest more : List ℕ) → tail ≡ front ++ rest → tail ++ more ≡ front ++ (rest ++ more)
more_after tail front rest more is = ap (λ (l : List ℕ). l ++ more) is ∙ append_assoc front rest more

-- a fault that the bytes after some items show
pub record Shows (chosen : Option ℕ) (start : ℕ) (tail : List ℕ) (fault : SystemFault) : Type 0 where
  pub shown : IsShown fault
  pub fault_is : IsFault chosen start tail fault

-- such a byte, value or packet stays too, whatever bytes follow
bad_byte_stays : {start place : ℕ} {tail : List ℕ} (more : List ℕ) → IsBadByte start tail place
    → IsBadByte start (tail ++ more) place
bad_byte_stays {tail} more f = record {
  count = f.count;
  byte = f.byte;
  rest = f.rest ++ more;
  is = more_after tail (replicate f.count 0) (f.byte ∷ f.rest) more f.is;
  some = f.some;
  early = f.early;
  place_is = f.place_is;
}

bad_value_stays : {start place : ℕ} {tail : List ℕ} (more : List ℕ) → IsBadValue start tail place
    → IsBadValue start (tail ++ more) place
bad_value_stays more f = record {
  zeros = f.zeros;
  value = f.value;
  rest = f.rest ++ more;
  is = ap (λ (l : List ℕ). l ++ more) f.is ∙ prefixed_more f.zeros (f.value ∷ f.rest) more;
  low = f.low;
  place_is = f.place_is;
}

bad_packet_stays : {chosen : Option ℕ} {start place : ℕ} {tail : List ℕ} (more : List ℕ)
    → IsBadPacket chosen start tail place → IsBadPacket chosen start (tail ++ more) place
bad_packet_stays more f = record {
  zeros = f.zeros;
  value = f.value;
  high = f.high;
  low = f.low;
  front = f.front;
  rest = f.rest ++ more;
  is =
      ap (λ (l : List ℕ). l ++ more) f.is
      ∙ prefixed_more f.zeros (f.value ∷ f.high ∷ f.low ∷ (f.front ++ f.rest)) more
      ∙ ap (λ (l : List ℕ). with_prefix f.zeros (f.value ∷ f.high ∷ f.low ∷ l)) (append_assoc f.front f.rest more);
  value_is = f.value_is;
  chosen_is = f.chosen_is;
  within = f.within;
  none = f.none;
  place_is = f.place_is;
}

pub fault_stays : {chosen : Option ℕ} {start : ℕ} {tail : List ℕ} {fault : SystemFault} (more : List ℕ)
    → Shows chosen start tail fault → IsFault chosen start (tail ++ more) fault
fault_stays {fault = NotPack place} more shows =
    let f = shows.fault_is in
    record {
      zeros = f.zeros;
      mark = f.mark;
      rest = f.rest ++ more;
      is = ap (λ (l : List ℕ). l ++ more) f.is ∙ prefixed_more f.zeros (186 ∷ f.mark ∷ f.rest) more;
      other = f.other;
      place_is = f.place_is;
    }
fault_stays {fault = BadCode place} more shows =
    elim (shows.fault_is) [
      | inl f ↦ inl (bad_byte_stays more f)
      | inr f ↦ inr (bad_value_stays more f)
    ]
fault_stays {fault = BadPacket place} more shows = bad_packet_stays more shows.fault_is
fault_stays {fault = Truncated place} more shows = absurd shows.shown

pub failed_refused : {fault : SystemFault} (a : Reading) (more : List ℕ)
    → IsReached (record a { state = Failed fault }) → IsBadStream (a.seen ++ more) fault
failed_refused {fault} a more r = record {
  items = r.items;
  tail = r.part ++ more;
  are = r.are;
  bytes_are = more_after a.seen (bytes_of r.items) r.part more r.seen_is;
  fault_is = fault_stays {chosen = chosen_after None r.items} {start = length (bytes_of r.items)}
      {tail = r.part} {fault = fault} more
      (record { shown = r.is_part.2; fault_is = r.is_part.0 });
}

-- a place in a header, or in an item
pub sound_header : (header : Header) (left : ℕ) → is_sound (InHeader header left) ≡ true
    → (0 < least_rest header) × (least_rest header ≤ left)
sound_header header left sound =
    let parts = and_parts (nat_lt 0 (least_rest header)) (nat_le (least_rest header) left) sound in
    (ltb-true 0 (least_rest header) parts.0, leb-true (least_rest header) left parts.1)

-- a header that is being read has a byte left at least
pub left_back : (header : Header) (left : ℕ) → is_sound (InHeader header left) ≡ true → left ≡ left - 1 + 1
left_back header left sound = let enough = sound_header header left sound in omega (arith, enough.0, enough.1)

-- a header can go on to its end
record CanEnd (header : Header) (left : ℕ) : Type 0 where
  rest : List ℕ
  long : length rest ≡ left
  video : List ℕ
  is : video_from header rest ≡ Some video

can_end : (header : Header) (left : ℕ) → least_rest header ≤ left → CanEnd header left
can_end (Stuffing count) left enough = record {
  rest = 15 ∷ replicate (left - 1) 0;
  long = omega (arith, length-replicate {A = ℕ} (left - 1) 0, enough);
  video = replicate (left - 1) 0;
  is = stuffing_ends count 15 (replicate (left - 1) 0) (inl (λ e. omega (arith, e)));
}
can_end Second left enough = record {
  rest = 0 ∷ 15 ∷ replicate (left - 2) 0;
  long = omega (arith, length-replicate {A = ℕ} (left - 2) 0, enough);
  video = replicate (left - 2) 0;
  is = refl;
}
can_end Stamp left enough = record {
  rest = 15 ∷ replicate (left - 1) 0;
  long = omega (arith, length-replicate {A = ℕ} (left - 1) 0, enough);
  video = replicate (left - 1) 0;
  is = refl;
}
can_end (Rest count) left enough = record {
  rest = replicate left 0;
  long = length-replicate {A = ℕ} left 0;
  video = drop count (replicate left 0);
  is = cond-true (nat_le count (length (replicate left 0))) (Some (drop count (replicate left 0))) None
      (le-leb count (length (replicate left 0)) (omega (arith, length-replicate {A = ℕ} left 0, enough)));
}

header_cut : {p : Part} {header : Header} {left : ℕ} → IsAtHeader p header left → 0 < least_rest header
    → least_rest header ≤ left → IsTruncatedItem p.after.chosen p.after.start p.bytes p.place
header_cut {header} {left} h some enough =
    let end = can_end header left enough in
    let found : video_in (h.front ++ end.rest) ≡ Some end.video = h.video_is end.rest end.long ∙ end.is in
    record {
      item = Packet h.zeros h.value h.high h.low (h.front ++ end.rest);
      lacking = end.rest;
      is_item = record {
        value_is = h.value_is;
        length_is = omega (arith, length-append h.front end.rest, end.long, h.length_is);
        header = λ _. subst (λ (o : Option (List ℕ)). IsSome o) (sym found) refl;
      };
      is =
          sym (ap (λ (l : List ℕ). l ++ end.rest) h.are
          ∙ prefixed_more h.zeros (h.value ∷ h.high ∷ h.low ∷ h.front) end.rest);
      begun = omega (arith, ap length h.are, length_prefixed h.zeros (h.value ∷ h.high ∷ h.low ∷ h.front));
      some = omega (arith, end.long, some, enough);
      place_is = h.place_is;
    }

rest_cut : {p : Part} {left : ℕ} {video : List ℕ → List ℕ} → IsAtRest p left video
    → IsTruncatedItem p.after.chosen p.after.start p.bytes p.place
rest_cut {p} {left} h =
    let size = length-replicate {A = ℕ} left 0 in
    let d = h.ends (replicate left 0) size in
    record {
      item = d.item;
      lacking = replicate left 0;
      is_item = d.is_item;
      is = d.bytes_are;
      begun = omega (arith, h.begun, d.zeros_are);
      some = omega (arith, size, h.some);
      place_is = h.place_is ∙ ap (λ n. p.after.start + n) (sym d.zeros_are);
    }

pack_whole : IsPack (32 ∷ replicate 7 0)
pack_whole = record { eight = refl; mark = refl }

-- an item for each number of bytes 00 before it: its prefix, these bytes and some more
record WholeItem (chosen : Option ℕ) (rest : List ℕ) : Type 0 where
  lacking : List ℕ
  item : ℕ → Item
  is_item : (zeros : ℕ) → IsItem chosen (item zeros)
  zeros_are : (zeros : ℕ) → zeros_of (item zeros) ≡ zeros
  bytes_are : (zeros : ℕ) → item_bytes (item zeros) ≡ with_prefix zeros (rest ++ lacking)
  some : 0 < length lacking

prefix_cut : {p : Part} {rest : List ℕ} {wanted : Option ℕ} → IsAtPrefix p rest wanted
    → WholeItem p.after.chosen rest → IsTruncatedItem p.after.chosen p.after.start p.bytes p.place
prefix_cut {p} {rest} h whole = record {
  item = item h.zeros;
  lacking = lacking;
  is_item = is_item h.zeros;
  is = bytes_are h.zeros ∙ sym (ap (λ (l : List ℕ). l ++ lacking) h.are ∙ prefixed_more h.zeros rest lacking);
  begun = omega (arith, zeros_are h.zeros, ap length h.are, length_prefixed h.zeros rest);
  some = some;
  place_is = h.place_is ∙ ap (λ n. p.after.start + n) (sym (zeros_are h.zeros));
}
  where
    open whole use {lacking, item, is_item, zeros_are, bytes_are, some}

packet_whole : (chosen : Option ℕ) (value high : ℕ) → 187 ≤ value
    → IsPacket chosen value high 1 (15 ∷ replicate (high * 256) 0)
unfolding video_in
packet_whole chosen value high value_is = record {
  value_is = value_is;
  length_is = omega (arith, length-replicate {A = ℕ} (high * 256) 0);
  header = λ _. refl;
}

-- after the prefix a pack lacks its mark, or its start code value too
pack_lacks : {chosen : Option ℕ} → WholeItem chosen (186 ∷ [])
pack_lacks = record {
  lacking = 32 ∷ replicate 7 0;
  item = λ zeros. Pack zeros (32 ∷ replicate 7 0);
  is_item = λ zeros. pack_whole;
  zeros_are = λ zeros. refl;
  bytes_are = λ zeros. refl;
  some = omega arith;
}

value_lacks : {chosen : Option ℕ} → WholeItem chosen []
value_lacks = record {
  lacking = 186 ∷ 32 ∷ replicate 7 0;
  item = λ zeros. Pack zeros (32 ∷ replicate 7 0);
  is_item = λ zeros. pack_whole;
  zeros_are = λ zeros. refl;
  bytes_are = λ zeros. refl;
  some = omega arith;
}

-- and a packet a byte of its length, or both
low_lacks : (chosen : Option ℕ) (value high : ℕ) → 187 ≤ value → WholeItem chosen (value ∷ high ∷ [])
low_lacks chosen value high value_is = record {
  lacking = 1 ∷ 15 ∷ replicate (high * 256) 0;
  item = λ zeros. Packet zeros value high 1 (15 ∷ replicate (high * 256) 0);
  is_item = λ zeros. packet_whole chosen value high value_is;
  zeros_are = λ zeros. refl;
  bytes_are = λ zeros. refl;
  some = omega arith;
}

high_lacks : (chosen : Option ℕ) (value : ℕ) → 187 ≤ value → WholeItem chosen (value ∷ [])
high_lacks chosen value value_is = record {
  lacking = 0 ∷ 1 ∷ 15 ∷ replicate (0 * 256) 0;
  item = λ zeros. Packet zeros value 0 1 (15 ∷ replicate (0 * 256) 0);
  is_item = λ zeros. packet_whole chosen value 0 value_is;
  zeros_are = λ zeros. refl;
  bytes_are = λ zeros. refl;
  some = omega arith;
}

-- the stream ends inside an item
inside_cut : {fault : SystemFault} (p : Part) (state : ParserState) → IsPart p state → is_sound state ≡ true
    → end_fault state p.place ≡ Some fault → IsFault p.after.chosen p.after.start p.bytes fault
inside_cut {fault} p (Zeros zeros) is sound ends = absurd (none-some fault ends)
inside_cut {fault} p Value is sound ends =
    subst (IsFault p.after.chosen p.after.start p.bytes) (same_Some (Truncated p.place) fault ends)
    (prefix_cut is value_lacks)
inside_cut {fault} p Mark is sound ends =
    subst (IsFault p.after.chosen p.after.start p.bytes) (same_Some (Truncated p.place) fault ends)
    (prefix_cut is pack_lacks)
inside_cut {fault} p (High value) is sound ends =
    subst (IsFault p.after.chosen p.after.start p.bytes) (same_Some (Truncated p.place) fault ends)
    (prefix_cut is.0 (high_lacks p.after.chosen value is.1))
inside_cut {fault} p (Low value high) is sound ends =
    subst (IsFault p.after.chosen p.after.start p.bytes) (same_Some (Truncated p.place) fault ends)
    (prefix_cut is.0 (low_lacks p.after.chosen value high is.1))
inside_cut {fault} p (InHeader header left) is sound ends =
    let enough = sound_header header left sound in
    subst (IsFault p.after.chosen p.after.start p.bytes) (same_Some (Truncated p.place) fault ends)
    (header_cut is enough.0 enough.1)
inside_cut {fault} p (Pass left) is sound ends =
    subst (IsFault p.after.chosen p.after.start p.bytes) (same_Some (Truncated p.place) fault ends) (rest_cut is)
inside_cut {fault} p (Video left) is sound ends =
    subst (IsFault p.after.chosen p.after.start p.bytes) (same_Some (Truncated p.place) fault ends) (rest_cut is)
inside_cut {fault} p End is sound ends = absurd (none-some fault ends)
inside_cut {fault} p (Failed other) is sound ends =
    subst (IsFault p.after.chosen p.after.start p.bytes) (same_Some other fault ends) is.0

pub ended_refused : {a : Reading} {fault : SystemFault} → is_sound a.state ≡ true → IsReached a
    → end_fault a.state a.place ≡ Some fault → IsBadStream a.seen fault
ended_refused {a} sound r ends = record {
  items = r.items;
  tail = r.part;
  are = r.are;
  bytes_are = r.seen_is;
  fault_is = inside_cut (part_of r) a.state r.is_part sound ends;
}

-- the stream ends where it may
at_end : (p : Part) (state : ParserState) → IsPart p state → end_fault state p.place ≡ None
    → IsEnd p.bytes × (p.kept ≡ [])
at_end p (Zeros zeros) is ends = (inl (record { count = is.count; are = is.are }), is.none)
at_end p Value is ends = absurd (none-some (Truncated p.place) (sym ends))
at_end p Mark is ends = absurd (none-some (Truncated p.place) (sym ends))
at_end p (High value) is ends = absurd (none-some (Truncated p.place) (sym ends))
at_end p (Low value high) is ends = absurd (none-some (Truncated p.place) (sym ends))
at_end p (InHeader header left) is ends = absurd (none-some (Truncated p.place) (sym ends))
at_end p (Pass left) is ends = absurd (none-some (Truncated p.place) (sym ends))
at_end p (Video left) is ends = absurd (none-some (Truncated p.place) (sym ends))
at_end p End is ends = (inr (record { zeros = is.zeros; rest = is.rest; is = is.are }), is.none)
at_end p (Failed fault) is ends = absurd (none-some fault (sym ends))

pub ended_system : {a : Reading} → IsReached a → end_fault a.state a.place ≡ None → IsSystem a.seen a.video
ended_system {a} r ends =
    let end = at_end (part_of r) a.state r.is_part ends in
    record {
      items = r.items;
      tail = r.part;
      are = r.are;
      bytes_are = r.seen_is;
      end = end.0;
      video_is =
          r.video_is ∙ ap (λ (l : List ℕ). video_of None r.items ++ l) end.1 ∙ append-nil (video_of None r.items);
    }

-- a fault that was answered
pub failed_at : (state : ParserState) (fault : SystemFault) → fault_at state ≡ Some fault → state ≡ Failed fault
failed_at (Zeros zeros) fault e = absurd (none-some fault e)
failed_at Value fault e = absurd (none-some fault e)
failed_at Mark fault e = absurd (none-some fault e)
failed_at (High value) fault e = absurd (none-some fault e)
failed_at (Low value high) fault e = absurd (none-some fault e)
failed_at (InHeader header left) fault e = absurd (none-some fault e)
failed_at (Pass left) fault e = absurd (none-some fault e)
failed_at (Video left) fault e = absurd (none-some fault e)
failed_at End fault e = absurd (none-some fault e)
failed_at (Failed other) fault e = ap Failed (same_Some other fault e)

-- the first byte of a chunk was taken, and the rest follows
pub first_taken : (seen chunk more : List ℕ) → 0 < length chunk
    → (seen ++ get_or chunk 0 0 ∷ []) ++ (drop 1 chunk ++ more) ≡ (seen ++ chunk) ++ more
first_taken seen [] more some = absurd (omega (arith, some))
first_taken seen (b ∷ chunk) more some =
    append_assoc seen (b ∷ []) (chunk ++ more) ∙ sym (append_assoc seen (b ∷ chunk) more)

-- at the end a fault that bytes show was answered before
pub end_shown : (state : ParserState) (item : ℕ) (fault : SystemFault) → end_fault state item ≡ Some fault
    → IsShown fault → fault_at state ≡ Some fault
end_shown (Zeros zeros) item fault e shown = absurd (none-some fault e)
end_shown Value item fault e shown = absurd (subst IsShown (sym (same_Some (Truncated item) fault e)) shown)
end_shown Mark item fault e shown = absurd (subst IsShown (sym (same_Some (Truncated item) fault e)) shown)
end_shown (High value) item fault e shown = absurd (subst IsShown (sym (same_Some (Truncated item) fault e)) shown)
end_shown (Low value high) item fault e shown = absurd (subst IsShown (sym (same_Some (Truncated item) fault e)) shown)
end_shown (InHeader header left) item fault e shown =
    absurd (subst IsShown (sym (same_Some (Truncated item) fault e)) shown)
end_shown (Pass left) item fault e shown = absurd (subst IsShown (sym (same_Some (Truncated item) fault e)) shown)
end_shown (Video left) item fault e shown = absurd (subst IsShown (sym (same_Some (Truncated item) fault e)) shown)
end_shown End item fault e shown = absurd (none-some fault e)
end_shown (Failed other) item fault e shown = e
