-- What the packets say of their portions is so: where a portion begins with a slice, and where it ends with one.
use Rattle.std.proofs.Common.{◌≡◌, ℕ, zero, suc, ◌+◌, ◌-◌, ◌*◌, ◌<◌, ◌≤◌, ◌≢◌, Bool, true, false, cond, eqb, leb, ltb}
use Rattle.std.proofs.Common.{◌&&◌, ◌||◌, List, [], ◌∷◌, ◌++◌, refl, sym, ap, subst, ◌∙◌, arith}
use Rattle.std.proofs.lemmas.Bool.{eq-eqb, ne_eqb, le-ltb, leb-true, leb-false, lt-ltb, ltb-true, and_from, and_left}
use Rattle.std.proofs.lemmas.Bool.{and_right, or_from, or_left, or_right, true≢false}
use Rattle.rtp_pack.specs.declared.open_packet.TheConstants.{MAX_PAYLOAD_BYTES}
use Rattle.mpeg_scan.specs.declared.units.Unit.{Unit as PictureUnit}
use Rattle.rtp_pack.specs.declared.open_packet.OpenPacket.{OpenPacket}
use Rattle.rtp_pack.specs.declared.open_packet.PacketContents.{PacketContents}
use Rattle.rtp_pack.specs.declared.open_packet.PacketContents.TheVariants.{HeadersAlone, Slices, LastFragment}
use Rattle.rtp_pack.specs.declared.payloads.Packet.{Packet}
use Rattle.rtp_pack.specs.Packetization.{first_portion, full_before, full_ends, goes_in, goes_in_cut}
use Rattle.rtp_pack.specs.Packetization.{goes_in_whole, next_filling, start_of}
use Rattle.rtp_pack.specs.Packets.{AreInOrder, is_among, before_slice, begins_slice, filling_packet}
use Rattle.rtp_pack.specs.Packets.{ends_slice, ends_to, full_packets, lengths_to, next_place, slice_packets}
use Rattle.rtp_pack.specs.Packets.{packet, packets_from, portion_packet, portion_packets}
use Rattle.rtp_pack.proofs.SizeLemmas.{whole-fits}
use Rattle.rtp_pack.proofs.CutPointLemmas.{ends, ends-append, ends-full, full_before-less}
use Rattle.rtp_pack.proofs.CutPointLemmas.{full_before-within, start-less}

-- ---- tests

or-rest : (a b : Bool) → a ≡ false → (a || b) ≡ b
or-rest true b e = absurd (true≢false e)
or-rest false b e = refl

later : (a e l m : Bool) → (a || (e && l)) ≡ true → (l ≡ true → m ≡ true) → (a || (e && m)) ≡ true
later true e l m is more = refl
later false true l m is more = more is
later false false l m is more = absurd (true≢false (sym is))

-- ---- the places of slices

among-below : (starts : List ℕ) (at to x : ℕ) → AreInOrder at starts to → x < at → is_among x starts ≡ false
among-below [] at to x order less = refl
among-below (s ∷ starts) at to x order less =
    or_from (eqb x s) (is_among x starts) (ne_eqb x s (λ e. absurd (omega (arith, e, order.0, less))))
    (among-below starts (next_place to starts) to x order.1.1 (omega (arith, order.1.0)))

ends-below : (starts : List ℕ) (at to x : ℕ) → AreInOrder at starts to → x ≤ at → is_among x (ends_to to starts) ≡ false
ends-below [] at to x order less = refl
ends-below (s ∷ starts) at to x order less =
    or_from (eqb x (next_place to starts)) (is_among x (ends_to to starts))
    (ne_eqb x (next_place to starts) (λ e. absurd (omega (arith, e, order.1.0, less))))
    (ends-below starts (next_place to starts) to x order.1.1 (omega (arith, order.1.0)))

-- from a place on, all slices are those that are left
pub record Agrees (to : ℕ) (all : List ℕ) (at : ℕ) (left : List ℕ) : Type 0 where
  pub order : AreInOrder at left to
  pub starts : (x : ℕ) → at ≤ x → is_among x all ≡ is_among x left
  pub ends : (x : ℕ) → at < x → is_among x (ends_to to all) ≡ is_among x (ends_to to left)

-- what is known of a slice from `at` to `next`
pub record Slice (to : ℕ) (all : List ℕ) (at next : ℕ) : Type 0 where
  pub starts : is_among at all ≡ true
  pub ends : is_among next (ends_to to all) ≡ true
  pub no_start : (x : ℕ) → at < x → x < next → is_among x all ≡ false
  pub no_end : (x : ℕ) → at < x → x < next → is_among x (ends_to to all) ≡ false

slice-known : {to : ℕ} {all : List ℕ} {s : ℕ} {left : List ℕ} {at : ℕ} → Agrees to all at (s ∷ left)
    → Slice to all at (next_place to left)
slice-known {to} {all} {s} {left} {at} agrees =
    let order = agrees.order in
    let next = next_place to left in
    record {
      starts = agrees.starts at (omega arith) ∙ or_left (eqb at s) (is_among at left) (eq-eqb at s (sym order.0));
      ends = agrees.ends next (omega (arith, order.1.0))
          ∙ or_left (eqb next next) (is_among next (ends_to to left)) (eq-eqb next next refl);
      no_start = λ x above below. agrees.starts x (omega (arith, above))
          ∙ or_from (eqb x s) (is_among x left) (ne_eqb x s (λ e. absurd (omega (arith, e, order.0, above))))
          (among-below left next to x order.1.1 below);
      no_end = λ x above below. agrees.ends x above
          ∙ or_from (eqb x next) (is_among x (ends_to to left))
          (ne_eqb x next (λ e. absurd (omega (arith, e, below))))
          (ends-below left next to x order.1.1 (omega (arith, below)));
    }

agrees-next : {to : ℕ} {all : List ℕ} {s : ℕ} {left : List ℕ} {at : ℕ} → Agrees to all at (s ∷ left)
    → Agrees to all (next_place to left) left
agrees-next {to} {all} {s} {left} {at} agrees =
    let order = agrees.order in
    let next = next_place to left in
    record {
      order = order.1.1;
      starts = λ x above. agrees.starts x (omega (arith, above, order.1.0))
          ∙ or-rest (eqb x s) (is_among x left)
          (ne_eqb x s (λ e. absurd (omega (arith, e, order.0, order.1.0, above))));
      ends = λ x above. agrees.ends x (omega (arith, above, order.1.0))
          ∙ or-rest (eqb x next) (is_among x (ends_to to left)) (ne_eqb x next (λ e. absurd (omega (arith, e, above))));
    }

-- ---- portions

abbrev pub begins : PictureUnit → List ℕ → ℕ → ℕ → Bool
begins unit all from to = is_among from all || (eqb from unit.from && ltb unit.head_end to)

-- what is known of a portion that is being filled
pub record Right (unit : PictureUnit) (all : List ℕ) (f : OpenPacket) : Type 0 where
  pub first : unit.from < unit.head_end
  pub after : unit.head_end ≤ f.at
  pub begin : begins unit all f.from f.at ≡ begins_slice f.holds
  pub end : is_among f.at (ends_to unit.to all) ≡ ends_slice f.holds
  pub alone : f.holds ≡ HeadersAlone → (f.from ≡ unit.from) × (f.at ≡ unit.head_end)
  pub order : f.from ≤ f.at

closed-right : (unit : PictureUnit) (all : List ℕ) (f : OpenPacket) → Right unit all f
    → filling_packet unit f ≡ portion_packet unit all f.from f.at
closed-right unit all f right =
    ap (λ b. packet unit f.from f.at b (ends_slice f.holds)) (sym right.begin)
    ∙ ap (λ b. packet unit f.from f.at (begins unit all f.from f.at) b) (sym right.end)

-- a slice that begins after its unit's first byte
record InSlice : Type 0 where
  unit : PictureUnit
  all : List ℕ
  at : ℕ
  next : ℕ
  slice : Slice unit.to all at next
  after : unit.from < at

-- a portion that lies in a slice but for its first byte at most
no-begin : (its : InSlice) (x to : ℕ) → its.at < x → x < its.next → begins its.unit its.all x to ≡ false
no-begin its x to above below =
    or_from (is_among x its.all) (eqb x its.unit.from && ltb its.unit.head_end to) (its.slice.no_start x above below)
    (and_left (eqb x its.unit.from) (ltb its.unit.head_end to)
    (ne_eqb x its.unit.from (λ e. absurd (omega (arith, e, its.after, above)))))

-- full portions that end in a slice, and whether the first of them begins with one
record PortionsEndIn (its : InSlice) (begin : Bool) (start count : ℕ) : Type 0 where
  above : 0 < count → its.at < start + MAX_PAYLOAD_BYTES
  below : start + MAX_PAYLOAD_BYTES * count < its.next
  first : 0 < count → begins its.unit its.all start (start + MAX_PAYLOAD_BYTES) ≡ begin

full-portions : (its : InSlice) {begin : Bool} (start count : ℕ) → PortionsEndIn its begin start count
    → full_packets its.unit begin start count ≡ portion_packets its.unit its.all start (full_ends start count)
full-portions its start zero inside = refl
full-portions its {begin} start (suc count) inside =
    let some : 0 < suc count = omega arith in
    let next_inside : end < its.next = omega (arith, inside.below) in
    let after : its.at < end = inside.above some in
    let one : packet unit start end begin false ≡ portion_packet unit all start end =
    ap (λ b. packet unit start end b false) (sym (inside.first some))
    ∙ ap (λ b. packet unit start end (begins unit all start end) b) (sym (its.slice.no_end end after next_inside)) in
    ap (λ (p : Packet). p ∷ full_packets unit false end count) one
    ∙ ap (λ (l : List Packet). portion_packet unit all start end ∷ l)
    (full-portions its end count (record {
      above = λ _. omega (arith, after);
      below = omega (arith, inside.below);
      first = λ _. no-begin its end (end + MAX_PAYLOAD_BYTES) after next_inside;
    }))
  where
    open its use {unit, all}

    end : ℕ
    end = start + MAX_PAYLOAD_BYTES

abbrev pub last_cut : ℕ → List ℕ → ℕ
last_cut from [] = from
last_cut from (cut ∷ cuts) = last_cut cut cuts

last_cut-full : (start count : ℕ) → last_cut start (full_ends start count) ≡ start + MAX_PAYLOAD_BYTES * count
last_cut-full start zero = omega arith
last_cut-full start (suc count) = last_cut-full (start + MAX_PAYLOAD_BYTES) count ∙ omega arith

portions-append : (unit : PictureUnit) (all : List ℕ) (cuts more : List ℕ) (from : ℕ)
    → portion_packets unit all from (cuts ++ more)
    ≡ portion_packets unit all from cuts ++ portion_packets unit all (last_cut from cuts) more
portions-append unit all [] more from = refl
portions-append unit all (cut ∷ cuts) more from =
    ap (λ (l : List Packet). portion_packet unit all from cut ∷ l) (portions-append unit all cuts more cut)

-- full portions, then the rest
full-rest : (its : InSlice) (start count : ℕ) (rest : List Packet) → PortionsEndIn its true start count
    → rest ≡ portion_packets its.unit its.all (start + MAX_PAYLOAD_BYTES * count) (ends rest)
    → full_packets its.unit true start count ++ rest
    ≡ portion_packets its.unit its.all start (ends (full_packets its.unit true start count ++ rest))
full-rest its start count rest inside is =
    ap (λ (l : List Packet). l ++ rest) (full-portions its start count inside)
    ∙ ap (λ (l : List Packet). portion_packets unit all start (full_ends start count) ++ l)
    (is ∙ ap (λ s. portion_packets unit all s (ends rest)) (sym (last_cut-full start count)))
    ∙ sym (portions-append unit all (full_ends start count) (ends rest) start)
    ∙ sym (ap (λ (l : List ℕ). portion_packets unit all start l)
    (ends-append (full_packets unit true start count) rest
    ∙ ap (λ (l : List ℕ). l ++ ends rest) (ends-full unit true start count)))
  where
    open its use {unit, all}

-- ---- where a slice begins

not-last : (from at n : ℕ) (holds : PacketContents) (short : Bool)
    → cond short (goes_in_whole from at holds n) (goes_in_cut from at holds) ≡ true → holds ≢ LastFragment
not-last from at n HeadersAlone short e is = cc
not-last from at n Slices short e is = cc
not-last from at n LastFragment true e is = true≢false (sym e)
not-last from at n LastFragment false e is = true≢false (sym e)

-- a portion that is being filled, and the slice of n bytes after it
record NextSlice : Type 0 where
  unit : PictureUnit
  all : List ℕ
  f : OpenPacket
  n : ℕ
  right : Right unit all f
  slice : Slice unit.to all f.at (f.at + n)
  some : 0 < n

abbrev in_slice : NextSlice → InSlice
in_slice next = record {
  unit = next.unit;
  all = next.all;
  at = next.f.at;
  next = next.f.at + next.n;
  slice = next.slice;
  after = omega (arith, next.right.first, next.right.after);
}

-- the portion that it begins in, or begins, begins with a slice
begins-start : (next : NextSlice) (x : ℕ) → next.f.at < x
    → begins next.unit next.all (start_of (goes_in next.f next.n) next.f) x ≡ true
begins-start next x above = by-case (goes_in f n) refl
  where
    open next use {unit, all, f, n, right}

    -- a portion that goes on with a slice begins with it, or with a slice before it, or with the headers
    here : (holds : PacketContents) → begins unit all f.from f.at ≡ begins_slice holds
        → (holds ≡ HeadersAlone → (f.from ≡ unit.from) × (f.at ≡ unit.head_end)) → holds ≢ LastFragment
        → begins unit all f.from x ≡ true
    here HeadersAlone begin alone other =
        or_right (is_among f.from all) (eqb f.from unit.from && ltb unit.head_end x)
        (and_from (eqb f.from unit.from) (ltb unit.head_end x) (eq-eqb f.from unit.from (alone refl).0)
        (lt-ltb unit.head_end x (omega (arith, right.after, above))))
    here Slices begin alone other =
        later (is_among f.from all) (eqb f.from unit.from) (ltb unit.head_end f.at) (ltb unit.head_end x) begin
        (λ _. lt-ltb unit.head_end x (omega (arith, right.after, above)))
    here LastFragment begin alone other = absurd (other refl)

    by-case : (goes : Bool) → goes_in f n ≡ goes → begins unit all (start_of goes f) x ≡ true
    by-case true e = here f.holds right.begin right.alone (not-last f.from f.at n f.holds (leb n MAX_PAYLOAD_BYTES) e)
    by-case false e = or_left (is_among f.at all) (eqb f.at unit.from && ltb unit.head_end x) next.slice.starts

-- full portions before the end of a slice, whether it goes in or not
pub record FullBefore (goes : Bool) (f : OpenPacket) (n count : ℕ) : Type 0 where
  pub goes_is : goes_in f n ≡ goes
  pub before : start_of goes f + MAX_PAYLOAD_BYTES * count < f.at + n

pub start-room : {goes : Bool} {f : OpenPacket} {n count : ℕ} → FullBefore goes f n count → 0 < count
    → f.at < start_of goes f + MAX_PAYLOAD_BYTES
start-room {goes = true} {f} {n} {count} full some = by-case (leb n MAX_PAYLOAD_BYTES) f.holds full.goes_is
  where
    by-case : (short : Bool) (holds : PacketContents)
        → cond short (goes_in_whole f.from f.at holds n) (goes_in_cut f.from f.at holds) ≡ true
        → f.at < f.from + MAX_PAYLOAD_BYTES
    by-case true holds e = absurd (omega (arith, whole-fits f.from f.at n holds e, full.before, some))
    by-case false HeadersAlone e = ltb-true f.at (f.from + MAX_PAYLOAD_BYTES) e
    by-case false Slices e = absurd (true≢false (sym e))
    by-case false LastFragment e = absurd (true≢false (sym e))
start-room {goes = false} full some = omega arith

-- ---- one slice, and all

-- a short slice fills no portion, a longer one some
pub none-full : {goes : Bool} {f : OpenPacket} {n count : ℕ} → leb n MAX_PAYLOAD_BYTES ≡ true
    → FullBefore goes f n count → count ≡ 0
none-full {goes = true} {f} {n} short full =
    let fits = whole-fits f.from f.at n f.holds
    (sym (ap (λ b. cond b (goes_in_whole f.from f.at f.holds n) (goes_in_cut f.from f.at f.holds)) short)
    ∙ full.goes_is) in
    omega (arith, fits, full.before)
none-full {goes = false} {n} short full = omega (arith, leb-true n MAX_PAYLOAD_BYTES short, full.before)

start-most : (f : OpenPacket) (goes : Bool) → f.from ≤ f.at → start_of goes f ≤ f.at
start-most f true order = order
start-most f false order = omega arith

held-ends : (short : Bool) → true ≡ ends_slice (cond short Slices LastFragment)
held-ends true = refl
held-ends false = refl

held-not_alone : (short : Bool) → cond short Slices LastFragment ≡ HeadersAlone → ⊥
held-not_alone true e = cc
held-not_alone false e = cc

-- the full portions of the next slice
abbrev start_in : NextSlice → ℕ
start_in next = start_of (goes_in next.f next.n) next.f

abbrev count_in : NextSlice → ℕ
count_in next = full_before (start_in next) (next.f.at + next.n)

full-in : (next : NextSlice) → FullBefore (goes_in next.f next.n) next.f next.n (count_in next)
full-in next = record {
  goes_is = refl;
  before = full_before-less (start_in next) (next.f.at + next.n)
      (start-less next.f next.n (goes_in next.f next.n) next.right.order next.some);
}

portions-in : (next : NextSlice) → PortionsEndIn (in_slice next) true (start_in next) (count_in next)
portions-in next = record {
  above = λ more. start-room (full-in next) more;
  below = (full-in next).before;
  first = λ more. begins-start next (start_in next + MAX_PAYLOAD_BYTES) (start-room (full-in next) more);
}

next-begin : (next : NextSlice) (short : Bool) → leb next.n MAX_PAYLOAD_BYTES ≡ short
    → begins next.unit next.all (start_in next + MAX_PAYLOAD_BYTES * count_in next) (next.f.at + next.n)
    ≡ begins_slice (cond short Slices LastFragment)
next-begin next true is =
    let none : count_in next ≡ 0 = none-full is (full-in next) in
    let start : start_in next + MAX_PAYLOAD_BYTES * count_in next ≡ start_in next = omega (arith, none) in
    ap (λ s. begins next.unit next.all s (next.f.at + next.n)) start
    ∙ begins-start next (next.f.at + next.n) (omega (arith, next.some))
next-begin next false is =
    let most = start-most next.f (goes_in next.f next.n) next.right.order in
    let within = full_before-within (start_in next) (next.f.at + next.n)
    (start-less next.f next.n (goes_in next.f next.n) next.right.order next.some) in
    let more : 0 < count_in next = omega (arith, most, leb-false next.n MAX_PAYLOAD_BYTES is, within) in
    let room = start-room (full-in next) more in
    no-begin (in_slice next) (start_in next + MAX_PAYLOAD_BYTES * count_in next) (next.f.at + next.n)
    (omega (arith, room, more)) (full-in next).before

next-right : (next : NextSlice) → Right next.unit next.all (next_filling next.f next.n)
next-right next = record {
  first = next.right.first;
  after = omega (arith, next.right.after);
  begin = next-begin next (leb next.n MAX_PAYLOAD_BYTES) refl;
  end = next.slice.ends ∙ held-ends (leb next.n MAX_PAYLOAD_BYTES);
  alone = λ e. absurd (held-not_alone (leb next.n MAX_PAYLOAD_BYTES) e);
  order = omega (arith, (full-in next).before);
}

-- the packets of the next slice, then the rest
slice-rest : (next : NextSlice) (rest : List Packet)
    → rest ≡ portion_packets next.unit next.all (start_in next + MAX_PAYLOAD_BYTES * count_in next) (ends rest)
    → slice_packets next.unit next.f next.n ++ rest
    ≡ portion_packets next.unit next.all next.f.from (ends (slice_packets next.unit next.f next.n ++ rest))
slice-rest next rest is = by-case (goes_in f n) (count_in next) (portions-in next) is
  where
    open next use {unit, all, f, n}

    by-case : (goes : Bool) (count : ℕ) → PortionsEndIn (in_slice next) true (start_of goes f) count
        → rest ≡ portion_packets unit all (start_of goes f + MAX_PAYLOAD_BYTES * count) (ends rest)
        → (before_slice goes unit f ++ full_packets unit true (start_of goes f) count) ++ rest
        ≡ portion_packets unit all f.from
        (ends ((before_slice goes unit f ++ full_packets unit true (start_of goes f) count) ++ rest))
    by-case true count inside is = full-rest (in_slice next) f.from count rest inside is
    by-case false count inside is =
        ap (λ (p : Packet). p ∷ (full_packets unit true f.at count ++ rest)) (closed-right unit all f next.right)
        ∙ ap (λ (l : List Packet). portion_packet unit all f.from f.at ∷ l)
        (full-rest (in_slice next) f.at count rest inside is)

pub flags : {unit : PictureUnit} {all left : List ℕ} {f : OpenPacket} → Right unit all f
    → Agrees unit.to all f.at left
    → packets_from unit f (lengths_to unit.to left)
    ≡ portion_packets unit all f.from (ends (packets_from unit f (lengths_to unit.to left)))
flags {unit} {all} {left = []} {f} right agrees = ap (λ (p : Packet). p ∷ []) (closed-right unit all f right)
flags {unit} {all} {left = s ∷ left} {f} right agrees =
    let order = agrees.order in
    let n = next_place unit.to left - s in
    let end : f.at + n ≡ next_place unit.to left = omega (arith, order.0, order.1.0) in
    let next : NextSlice = record {
      unit = unit;
      all = all;
      f = f;
      n = n;
      right = right;
      slice = subst (λ e. Slice unit.to all f.at e) (sym end) (slice-known agrees);
      some = omega (arith, order.0, order.1.0);
    } in
    let after : Agrees unit.to all (f.at + n) left =
    subst (λ e. Agrees unit.to all e left) (sym end) (agrees-next agrees) in
    slice-rest next (packets_from unit (next_filling f n) (lengths_to unit.to left))
    (flags {unit = unit} {all = all} {left = left} {f = next_filling f n} (next-right next) after)

-- the first portion
pub first-right : (unit : PictureUnit) (all : List ℕ) → unit.from < unit.head_end
    → AreInOrder unit.head_end all unit.to → Right unit all (first_portion unit.from unit.head_end)
first-right unit all first order = record {
  first = first;
  after = omega arith;
  begin = or_from (is_among unit.from all) (eqb unit.from unit.from && ltb unit.head_end unit.head_end)
      (among-below all unit.head_end unit.to unit.from order first)
      (and_right (eqb unit.from unit.from) (ltb unit.head_end unit.head_end)
      (le-ltb unit.head_end unit.head_end (omega arith)));
  end = ends-below all unit.head_end unit.to unit.head_end order (omega arith);
  alone = λ e. (refl, refl);
  order = omega (arith, first);
}
