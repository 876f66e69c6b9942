-- The size of a unit's frames.
use Rattle.std.proofs.Common.{◌≡◌, ℕ, zero, suc, ◌+◌, ◌-◌, ◌*◌, ◌^◌, ◌<◌, ◌≤◌, Bool, true, false, cond, leb, ltb, List}
use Rattle.std.proofs.Common.{[], ◌∷◌, ◌++◌, refl, sym, ap, ◌∙◌, arith, inl, inr}
use Rattle.std.proofs.lemmas.Bool.{leb-true, leb-false, le-leb, lt-ltb, ltb-true, true≢false}
use Rattle.rtp_pack.specs.declared.open_packet.TheConstants.{MAX_PAYLOAD_BYTES}
use Rattle.rtp_pack.specs.declared.sizes.TheConstants.{FRAME_HEAD_BYTES, MAX_FRAME_BYTES}
use Rattle.rtp_pack.specs.declared.open_packet.OpenPacket.{OpenPacket}
use Rattle.rtp_pack.specs.declared.open_packet.PacketContents.{PacketContents}
use Rattle.rtp_pack.specs.declared.open_packet.PacketContents.TheVariants.{HeadersAlone, Slices, LastFragment}
use Rattle.rtp_pack.specs.Packetization.{Cuts, Fills, AreCutPoints, filling_after, full_before, full_ends}
use Rattle.rtp_pack.specs.Packetization.{goes_in, goes_in_cut, goes_in_whole, last_start, start_of}
use Rattle.rtp_pack.specs.Sizes.{HasBounds, IsMeasure, Measure, measure_from_headers, cuts_size, frames_of, measure_of}
use Rattle.rtp_pack.specs.Sizes.{slice_portions, with_slice, with_slices}
use Rattle.rtp_pack.proofs.CutPointLemmas.{full_before-less, full_before-within, start-less}

-- ---- one slice keeps the bounds of a measure

pub whole-fits : (from at n : ℕ) (holds : PacketContents) → goes_in_whole from at holds n ≡ true
    → at + n ≤ from + MAX_PAYLOAD_BYTES
whole-fits from at n HeadersAlone e = leb-true (at + n) (from + MAX_PAYLOAD_BYTES) e
whole-fits from at n Slices e = leb-true (at + n) (from + MAX_PAYLOAD_BYTES) e
whole-fits from at n LastFragment e = absurd (true≢false (sym e))

-- a slice of n bytes after so many full portions: whether it is short, and goes in
record SliceFills (f : OpenPacket) (n full : ℕ) (short goes : Bool) : Type 0 where
  short_is : leb n MAX_PAYLOAD_BYTES ≡ short
  goes_is : cond short (goes_in_whole f.from f.at f.holds n) (goes_in_cut f.from f.at f.holds) ≡ goes
  before : cond goes f.from f.at + MAX_PAYLOAD_BYTES * full < f.at + n
  within : f.at + n ≤ cond goes f.from f.at + MAX_PAYLOAD_BYTES * full + MAX_PAYLOAD_BYTES

-- with such a slice a measure keeps its bounds
abbrev KeepsFilled : Measure → ℕ → Bool → Bool → Type 0
KeepsFilled m n short goes = (full : ℕ) → SliceFills m.filling n full short goes
    → HasBounds (record {
      portions = m.portions + (cond goes 0 1 + full);
      filling = record {
        from = cond goes m.filling.from m.filling.at + MAX_PAYLOAD_BYTES * full;
        at = m.filling.at + n;
        holds = cond short Slices LastFragment;
      };
    })

-- where a short slice begins the next portion there is room for one more head
room : (m : Measure) (n : ℕ) → HasBounds m → goes_in_whole m.filling.from m.filling.at m.filling.holds n ≡ false
    → FRAME_HEAD_BYTES * m.portions ≤ m.filling.at + n
room m n kept e = by-contents f.holds e kept.last
  where
    open m use {portions, filling as f}

    by-contents : (holds : PacketContents) → goes_in_whole f.from f.at holds n ≡ false
        → (holds ≡ LastFragment → FRAME_HEAD_BYTES * portions ≤ f.at) → FRAME_HEAD_BYTES * portions ≤ f.at + n
    by-contents HeadersAlone e last = omega (arith, leb-false (f.at + n) (f.from + MAX_PAYLOAD_BYTES) e, kept.ended)
    by-contents Slices e last = omega (arith, leb-false (f.at + n) (f.from + MAX_PAYLOAD_BYTES) e, kept.ended)
    by-contents LastFragment e last = omega (arith, last refl)

keeps-short : (m : Measure) (n : ℕ) → HasBounds m → (goes : Bool) → KeepsFilled m n true goes
keeps-short m n kept true full fills =
    let fits = whole-fits m.filling.from m.filling.at n m.filling.holds fills.goes_is in
    let none : full ≡ 0 = omega (arith, fits, fills.before) in
    record {
      some = fills.before;
      portions = omega (arith, none, kept.portions);
      whole = omega (arith, none, kept.whole);
      ended = omega (arith, none, kept.ended);
      last = λ e. cc;
    }
keeps-short m n kept false full fills =
    let none : full ≡ 0 = omega (arith, leb-true n MAX_PAYLOAD_BYTES fills.short_is, fills.before) in
    record {
      some = fills.before;
      portions = omega (arith, none, kept.portions, kept.some);
      whole = omega (arith, none, room m n kept fills.goes_is);
      ended = omega (arith, none, kept.whole);
      last = λ e. cc;
    }

keeps-long : (m : Measure) (n : ℕ) → HasBounds m → (goes : Bool) → KeepsFilled m n false goes
keeps-long m n kept true full fills =
    let long = leb-false n MAX_PAYLOAD_BYTES fills.short_is in
    let some : 0 < full = omega (arith, kept.some, long, fills.within) in
    record {
      some = fills.before;
      portions = omega (arith, kept.portions);
      whole = omega (arith, some, kept.ended, fills.before);
      ended = omega (arith, kept.ended);
      last = λ e. omega (arith, some, kept.ended, fills.before);
    }
keeps-long m n kept false full fills =
    let long = leb-false n MAX_PAYLOAD_BYTES fills.short_is in
    let some : 0 < full = omega (arith, long, fills.within) in
    record {
      some = fills.before;
      portions = omega (arith, kept.portions, kept.some);
      whole = omega (arith, some, kept.whole, fills.before);
      ended = omega (arith, kept.whole);
      last = λ e. omega (arith, some, kept.whole, fills.before);
    }

pub keeps-slice : (m : Measure) (n : ℕ) → HasBounds m → 4 ≤ n → HasBounds (with_slice m n)
keeps-slice m n kept least =
    let f = m.filling in
    let less = start-less f n (goes_in f n) (omega (arith, kept.some)) (omega arith) in
    let start = start_of (goes_in f n) f in
    by-size (leb n MAX_PAYLOAD_BYTES) (full_before start (f.at + n)) (record {
      short_is = refl;
      goes_is = refl;
      before = full_before-less start (f.at + n) less;
      within = full_before-within start (f.at + n) less;
    })
  where
    by-size : (short : Bool) → KeepsFilled m n short (goes_in m.filling n)
    by-size true = keeps-short m n kept (goes_in m.filling n)
    by-size false = keeps-long m n kept (goes_in m.filling n)

pub keeps-measure : (m : Measure) (n : ℕ) → IsMeasure m → 4 ≤ n → m.filling.at + n ≤ 2 ^ 40 → IsMeasure (with_slice m n)
keeps-measure m n is least most = record { most = most; bounds = keeps-slice m n is.bounds least }

-- slices of at least 4 bytes
abbrev pub AreLong : List ℕ → Type 0
AreLong [] = Unit {0}
AreLong (n ∷ slices) = (4 ≤ n) × AreLong slices

pub keeps-slices : (slices : List ℕ) (m : Measure) → HasBounds m → AreLong slices → HasBounds (with_slices m slices)
keeps-slices [] m kept long = kept
keeps-slices (n ∷ slices) m kept long = keeps-slices slices (with_slice m n) (keeps-slice m n kept long.0) long.1

pub begun-kept : (headers : ℕ) → 0 < headers → HasBounds (measure_from_headers headers)
begun-kept headers some =
    record { some = some; portions = omega arith; whole = omega arith; ended = omega arith; last = λ e. cc }

pub slices-append : (slices : List ℕ) (m : Measure) (n : ℕ)
    → with_slices m (slices ++ n ∷ []) ≡ with_slice (with_slices m slices) n
slices-append [] m n = refl
slices-append (k ∷ slices) m n = slices-append slices (with_slice m k) n

-- ---- the sum of the frames

-- two tests that hold at the same time
same-test : (a b : Bool) → (a ≡ true → b ≡ true) → (b ≡ true → a ≡ true) → a ≡ b
same-test true b to back = sym (to refl)
same-test false true to back = back refl
same-test false false to back = refl

-- the same portion at another place
pub record IsMoved (f g : OpenPacket) : Type 0 where
  pub base : ℕ
  pub from : g.from ≡ base + f.from
  pub at : g.at ≡ base + f.at
  pub holds : g.holds ≡ f.holds

same-room : {f g : OpenPacket} (n : ℕ) → IsMoved f g
    → leb (g.at + n) (g.from + MAX_PAYLOAD_BYTES) ≡ leb (f.at + n) (f.from + MAX_PAYLOAD_BYTES)
same-room {f} {g} n is =
    same-test (leb (g.at + n) (g.from + MAX_PAYLOAD_BYTES)) (leb (f.at + n) (f.from + MAX_PAYLOAD_BYTES))
    (λ e. le-leb (f.at + n) (f.from + MAX_PAYLOAD_BYTES)
    (omega (arith, is.from, is.at, leb-true (g.at + n) (g.from + MAX_PAYLOAD_BYTES) e)))
    (λ e. le-leb (g.at + n) (g.from + MAX_PAYLOAD_BYTES)
    (omega (arith, is.from, is.at, leb-true (f.at + n) (f.from + MAX_PAYLOAD_BYTES) e)))

whole-moved : {f g : OpenPacket} (n : ℕ) (holds : PacketContents) → IsMoved f g
    → goes_in_whole g.from g.at holds n ≡ goes_in_whole f.from f.at holds n
whole-moved n HeadersAlone is = same-room n is
whole-moved n Slices is = same-room n is
whole-moved n LastFragment is = refl

cut-moved : {f g : OpenPacket} (holds : PacketContents) → IsMoved f g
    → goes_in_cut g.from g.at holds ≡ goes_in_cut f.from f.at holds
cut-moved {f} {g} HeadersAlone is =
    same-test (ltb g.at (g.from + MAX_PAYLOAD_BYTES)) (ltb f.at (f.from + MAX_PAYLOAD_BYTES))
    (λ e. lt-ltb f.at (f.from + MAX_PAYLOAD_BYTES)
    (omega (arith, is.from, is.at, ltb-true g.at (g.from + MAX_PAYLOAD_BYTES) e)))
    (λ e. lt-ltb g.at (g.from + MAX_PAYLOAD_BYTES)
    (omega (arith, is.from, is.at, ltb-true f.at (f.from + MAX_PAYLOAD_BYTES) e)))
cut-moved Slices is = refl
cut-moved LastFragment is = refl

goes-moved : (n : ℕ) (f g : OpenPacket) → IsMoved f g → goes_in g n ≡ goes_in f n
goes-moved n f g is =
    ap (λ (h : PacketContents). cond (leb n MAX_PAYLOAD_BYTES) (goes_in_whole g.from g.at h n)
    (goes_in_cut g.from g.at h)) is.holds
    ∙ ap (λ b. cond (leb n MAX_PAYLOAD_BYTES) b (goes_in_cut g.from g.at f.holds)) (whole-moved n f.holds is)
    ∙ ap (λ b. cond (leb n MAX_PAYLOAD_BYTES) (goes_in_whole f.from f.at f.holds n) b) (cut-moved f.holds is)

size-full : (start full : ℕ) (rest : List ℕ)
    → cuts_size start (full_ends start full ++ rest) ≡ MAX_FRAME_BYTES * full
    + cuts_size (start + MAX_PAYLOAD_BYTES * full) rest
size-full start zero rest = let place : cuts_size (start + MAX_PAYLOAD_BYTES * 0) rest ≡ cuts_size start rest =
    ap (λ s. cuts_size s rest) (omega arith) in omega (arith, place)
size-full start (suc full) rest =
    let more = size-full (start + MAX_PAYLOAD_BYTES) full rest in
    let place : start + MAX_PAYLOAD_BYTES + MAX_PAYLOAD_BYTES * full ≡ start + MAX_PAYLOAD_BYTES * suc full =
    omega arith in
    let rest-size : cuts_size (start + MAX_PAYLOAD_BYTES + MAX_PAYLOAD_BYTES * full) rest
    ≡ cuts_size (start + MAX_PAYLOAD_BYTES * suc full) rest =
    ap (λ s. cuts_size s rest) place in
    omega (arith, more, rest-size)

-- the rest of the frames, after those of the portions that ended
abbrev pub Rest : Measure → OpenPacket → List ℕ → List ℕ → Type 0
Rest m g slices cuts = cuts_size g.from cuts + FRAME_HEAD_BYTES * m.portions + m.filling.from
    ≡ frames_of (with_slices m slices)

-- a slice begins at `start`, and whether it goes in
record StartsAt (m : Measure) (n base : ℕ) : Type 0 where
  start : ℕ
  place : ℕ
  goes : Bool
  at_start : start_of goes m.filling ≡ start
  at_place : place ≡ base + start
  at_goes : goes_in m.filling n ≡ goes

start-moved : {f g : OpenPacket} (goes : Bool) (is : IsMoved f g) → start_of goes g ≡ is.base + start_of goes f
start-moved true is = is.from
start-moved false is = is.at

abbrev starting : {m : Measure} {g : OpenPacket} (n : ℕ) (goes : Bool) (is : IsMoved m.filling g) → goes_in g n ≡ goes
    → StartsAt m n is.base
starting {m} {g} n goes is e = record {
  start = start_of goes m.filling;
  place = start_of goes g;
  goes = goes;
  at_start = refl;
  at_place = start-moved goes is;
  at_goes = sym (goes-moved n m.filling g is) ∙ e;
}

-- the portion that is being filled of a measure, at another place
record StandsAt (m : Measure) (g : OpenPacket) : Type 0 where
  moved : IsMoved m.filling g
  order : m.filling.from ≤ m.filling.at

size-from : {g : OpenPacket} (slices : List ℕ) (m : Measure) (cuts : List ℕ) → StandsAt m g → Cuts g slices cuts
    → Rest m g slices cuts
size-from {g} [] m cuts stands e =
    let is = stands.moved in
    let size : cuts_size g.from cuts ≡ FRAME_HEAD_BYTES + (g.at - g.from) = ap (λ (l : List ℕ). cuts_size g.from l) e
    ∙ omega arith in
    omega (arith, size, is.from, is.at, stands.order)
size-from {g} (n ∷ slices) m cuts stands cutting = elim cutting [
  | inl x ↦ (
      let rest = next (starting n true is x.0) (λ m' g' rest stands' cut. size-from slices m' rest stands' cut) x.1 in
      omega (arith, rest)
      )
  | inr x ↦ (
      let rest = next (starting n false is x.0) (λ m' g' rest stands' cut. size-from slices m' rest stands' cut)
      x.1.1.1 in
      let first : cuts_size g.from cuts ≡ FRAME_HEAD_BYTES + (g.at - g.from) + cuts_size g.at x.1.0 =
      ap (λ (l : List ℕ). cuts_size g.from l) x.1.1.0 in
      omega (arith, rest, first, is.from, is.at, stands.order)
      )
]
  where
    open m use {filling as f}

    is : IsMoved f g
    is = stands.moved

    -- the measure and the cuts of such a slice: the frames of its full portions, then the rest
    next : {cuts : List ℕ} (starts : StartsAt m n is.base)
        → ((m' : Measure) (g' : OpenPacket) (rest : List ℕ) → StandsAt m' g'
        → Cuts g' slices rest → Rest m' g' slices rest)
        → Fills (λ last rest. Cuts (filling_after g n last) slices rest) starts.place (g.at + n) cuts
        → cuts_size starts.place cuts + FRAME_HEAD_BYTES * (m.portions + cond starts.goes 0 1) + starts.start
        ≡ frames_of (with_slices (with_slice m n) slices)
    next {cuts} starts more fills =
        let all : start_of (goes_in f n) f ≡ start = ap (λ b. start_of b f) at_goes ∙ at_start in
        let less : start < f.at + n = omega (arith, is.at, at_place, fills.before) in
        let before = full_before-less start (f.at + n) less in
        let within = full_before-within start (f.at + n) less in
        let full : fills.full ≡ full_before start (f.at + n) =
        omega (arith, is.at, at_place, fills.before, fills.within, before, within) in
        let last : last_start (start_of (goes_in f n) f) (f.at + n) ≡ start + MAX_PAYLOAD_BYTES * fills.full =
        ap (λ s. last_start s (f.at + n)) all ∙ ap (λ k. start + MAX_PAYLOAD_BYTES * k) (sym full) in
        let portions : slice_portions f n ≡ cond goes 0 1 + fills.full =
        ap (λ b. cond b 0 1 + full_before (start_of (goes_in f n) f) (f.at + n)) at_goes
        ∙ ap (λ s. cond goes 0 1 + full_before s (f.at + n)) all ∙ ap (λ k. cond goes 0 1 + k) (sym full) in
        let rest = more (with_slice m n) (filling_after g n (place + MAX_PAYLOAD_BYTES * fills.full)) fills.rest
        (record {
          moved = record {
            base = is.base;
            from = omega (arith, at_place, last);
            at = omega (arith, is.at);
            holds = refl;
          };
          order = omega (arith, last, fills.before, is.at, at_place);
        }) fills.goes_on in
        let first : cuts_size place cuts ≡ MAX_FRAME_BYTES * fills.full
        + cuts_size (place + MAX_PAYLOAD_BYTES * fills.full) fills.rest =
        ap (λ (l : List ℕ). cuts_size place l) fills.filled ∙ size-full place fills.full fills.rest in
        omega (arith, first, rest, last, portions)
      where
        open starts use {start, place, goes, at_start, at_place, at_goes}

-- the frames of a unit
pub size-unit : (headers : ℕ) (slices : List ℕ) (from : ℕ) (cuts : List ℕ)
    → AreCutPoints from (from + headers) slices cuts → frames_of (measure_of headers slices) ≡ cuts_size from cuts
size-unit headers slices from cuts cutting =
    let all = size-from slices (measure_from_headers headers) cuts
    (record {
      moved = record { base = from; from = omega arith; at = refl; holds = refl };
      order = omega arith;
    }) cutting in
    omega (arith, all)
