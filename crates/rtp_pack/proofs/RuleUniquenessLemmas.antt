-- Exactly one list of cut points meets the rules, and it is the packer's.
use Rattle.std.proofs.Common.{◌≡◌, ℕ, zero, suc, ◌+◌, ◌*◌, ◌<◌, ◌≤◌, ◌⊎◌, Bool, true, false, cond, eqb, leb, ◌||◌, List}
use Rattle.std.proofs.Common.{[], ◌∷◌, ◌++◌, sum, refl, sym, ap, subst, ◌∙◌, arith, inl, inr}
use Rattle.std.proofs.lemmas.Bool.{both_ways, cases_lt, eq-eqb, ne_eqb, le-leb, lt-leb, leb-false}
use Rattle.std.proofs.lemmas.Bool.{le-ltb, ltb-false, or_from, or_right}
use Rattle.rtp_pack.specs.declared.open_packet.TheConstants.{MAX_PAYLOAD_BYTES}
use Rattle.mpeg_scan.specs.declared.units.Unit.{Unit as PictureUnit}
use Rattle.mpeg_scan.specs.Calls.{unit_at}
use Rattle.mpeg_scan.specs.CodeFacts.{tally_of}
use Rattle.rtp_pack.specs.declared.open_packet.OpenPacket.{OpenPacket}
use Rattle.rtp_pack.specs.declared.open_packet.PacketContents.{PacketContents}
use Rattle.rtp_pack.specs.declared.open_packet.PacketContents.TheVariants.{HeadersAlone, Slices, LastFragment}
use Rattle.rtp_pack.specs.Packetization.{Cuts, AreCutPoints, filling_after, first_portion, full_ends, goes_in}
use Rattle.rtp_pack.specs.Packetization.{goes_in_cut, goes_in_whole, holds_after}
use Rattle.rtp_pack.specs.Laws.{ArePortions, AreShortUncut, DoLongEndPortions, IsUncut}
use Rattle.rtp_pack.specs.Packets.{is_among, packets_from}
use Rattle.rtp_pack.specs.PacketizationRules.{HaveBytes, IsCutPlace, MayAllEnd, MayEnd, MeetsRules, SliceAt}
use Rattle.rtp_pack.proofs.CutPointLemmas.{AreSome, ends, packets-cut}
use Rattle.rtp_pack.proofs.PacketizationLemmas.{among-full, cuts-from, headers-uncut, long-ends, portions-cover}
use Rattle.rtp_pack.proofs.PacketizationLemmas.{short-uncut}

-- ---- one list

-- where cuts must be, which slices they leave whole, where they may be and why
record Rules : Type 1 where
  Must : ℕ → Type 0
  Fits : ℕ → ℕ → Type 0
  May : ℕ → ℕ → Type 0
  start : ℕ
  end : ℕ
  reasons : (start cut : ℕ) → May start cut
      → (cut ≡ start + MAX_PAYLOAD_BYTES)
      ⊎ (Must cut ⊎ ((length : ℕ) × (Fits cut length × (start + MAX_PAYLOAD_BYTES < cut + length))))

-- the rules from a cut on
abbrev from_cut : Rules → ℕ → Rules
from_cut rules cut = record rules { start = cut }

-- what two lists are compared by, from the place on where a portion begins
record Rest (rules : Rules) (cuts : List ℕ) : Type 0 where
  portions : ArePortions rules.start cuts rules.end
  short : (place length : ℕ) → rules.Fits place length → IsUncut place (place + length) cuts
  must : (place : ℕ) → rules.start < place → rules.Must place → is_among place cuts ≡ true
  ends : MayAllEnd rules.May rules.start cuts

portions-rise : (start end first : ℕ) (cuts : List ℕ) → ArePortions start cuts end → first < start
    → is_among first cuts ≡ false
portions-rise start end first [] portions less = refl
portions-rise start end first (cut ∷ cuts) portions less =
    or_from (eqb first cut) (is_among first cuts)
    (ne_eqb first cut (λ is. absurd (omega (arith, is, portions.0, less))))
    (portions-rise cut end first cuts portions.1.1 (omega (arith, less, portions.0)))

portions-end : (start end : ℕ) (cuts : List ℕ) → ArePortions start cuts end → start ≤ end
portions-end start end [] portions = omega (arith, portions)
portions-end start end (cut ∷ cuts) portions = omega (arith, portions.0, portions-end cut end cuts portions.1.1)

among-rest : (place cut : ℕ) (cuts : List ℕ) → cut < place → is_among place (cut ∷ cuts) ≡ true
    → is_among place cuts ≡ true
among-rest place cut cuts less e =
    let other : eqb place cut ≡ false = ne_eqb place cut (λ is. absurd (omega (arith, is, less))) in
    sym (ap (λ b. b || is_among place cuts) other) ∙ e

ends-next : (May : ℕ → ℕ → Type 0) (start cut : ℕ) (cuts : List ℕ) → MayAllEnd May start (cut ∷ cuts)
    → MayAllEnd May cut cuts
ends-next May start cut [] ends_ = tt
ends-next May start cut (next ∷ cuts) ends_ = ends_.1

rest-next : {rules : Rules} {cut : ℕ} {cuts : List ℕ} → Rest rules (cut ∷ cuts) → Rest (from_cut rules cut) cuts
rest-next {rules} {cut} {cuts} rest = record {
  portions = rest.portions.1.1;
  short = λ place length fits. (rest.short place length fits).1;
  must = λ place after is. among-rest place cut cuts after (rest.must place (omega (arith, after, rest.portions.0)) is);
  ends = ends-next rules.May rules.start cut cuts rest.ends;
}

-- a first cut: it ends the list, or has a reason
record IsCut (rules : Rules) (c : ℕ) : Type 0 where
  some : rules.start < c
  reason : (c ≡ rules.end) ⊎ rules.May rules.start c

first-cut : {rules : Rules} {c : ℕ} (cs : List ℕ) → Rest rules (c ∷ cs) → IsCut rules c
first-cut [] rest = record { some = rest.portions.0; reason = inl rest.portions.1.1 }
first-cut (next ∷ cs) rest = record { some = rest.portions.0; reason = inr rest.ends.0 }

-- no list passes over such a cut
not-passed : {rules : Rules} {d : ℕ} {bs : List ℕ} → Rest rules (d ∷ bs) → (c : ℕ) → IsCut rules c → d ≤ c
not-passed {rules} {d} {bs} b c cut = elim cut.reason [
  | inl ends_ ↦ omega (arith, ends_, portions-end d rules.end bs b.portions.1.1)
  | inr may ↦ elim (rules.reasons rules.start c may) [
    | inl full ↦ omega (arith, full, b.portions.1.0)
    | inr (inl must) ↦ elim (cases_lt c d) [
      | inl less ↦ (
          let other = ne_eqb c d (λ is. absurd (omega (arith, is, less))) in
          let none = or_from (eqb c d) (is_among c bs) other
          (portions-rise d rules.end c bs b.portions.1.1 less) in
          absurd (both_ways (is_among c (d ∷ bs)) none (b.must c cut.some must))
          )
      | inr fine ↦ fine
    ]
    | inr (inr fit) ↦ elim (b.short c fit.0 fit.1.0).0 [
      | inl low ↦ low
      | inr high ↦ omega (arith, high, fit.1.1, b.portions.1.0)
    ]
  ]
]

one-rest : {rules : Rules} {cs bs : List ℕ} → Rest rules cs → Rest rules bs → cs ≡ bs
one-rest {cs = []} {bs = []} a b = refl
one-rest {rules} {cs = []} {bs = d ∷ bs} a b =
    absurd (omega (arith, a.portions, b.portions.0, portions-end d rules.end bs b.portions.1.1))
one-rest {rules} {cs = c ∷ cs} {bs = []} a b =
    absurd (omega (arith, b.portions, a.portions.0, portions-end c rules.end cs a.portions.1.1))
one-rest {rules} {cs = c ∷ cs} {bs = d ∷ bs} a b =
    let low = not-passed b c (first-cut cs a) in
    let high = not-passed a d (first-cut bs b) in
    let same : c ≡ d = omega (arith, low, high) in
    let rest = one-rest (rest-next a) (subst (λ s. Rest (from_cut rules s) bs) (sym same) (rest-next b)) in
    ap (λ n. n ∷ cs) same ∙ ap (λ (l : List ℕ). d ∷ l) rest

-- a slice that is short
abbrev Short : ℕ → List ℕ → ℕ → ℕ → Type 0
Short headers_end slices place length = SliceAt headers_end slices place length × (length ≤ MAX_PAYLOAD_BYTES)

the-reasons : (from headers_end : ℕ) (slices : List ℕ) (start cut : ℕ) → MayEnd from headers_end slices start cut
    → (cut ≡ start + MAX_PAYLOAD_BYTES)
    ⊎ (IsCutPlace from headers_end slices cut
    ⊎ ((length : ℕ) × (Short headers_end slices cut length × (start + MAX_PAYLOAD_BYTES < cut + length))))
the-reasons from headers_end slices start cut (inl full) = inl full
the-reasons from headers_end slices start cut (inr (inl place)) = inr (inl place)
the-reasons from headers_end slices start cut (inr (inr over)) =
    inr (inr (over.length, ((over.slice, over.short), over.over)))

-- the rules of a unit
abbrev unit_rules : ℕ → ℕ → List ℕ → Rules
unit_rules from headers_end slices = record {
  Must = IsCutPlace from headers_end slices;
  Fits = Short headers_end slices;
  May = MayEnd from headers_end slices;
  start = from;
  end = headers_end + sum slices;
  reasons = the-reasons from headers_end slices;
}

the-rest : (from headers_end : ℕ) (slices cuts : List ℕ) → MeetsRules from headers_end slices cuts
    → Rest (unit_rules from headers_end slices) cuts
the-rest from headers_end slices cuts meets = record {
  portions = meets.portions;
  short = λ place length is. meets.short place length is.0 is.1;
  must = λ place after is. meets.long place is;
  ends = meets.ends;
}

pub one-meets : (from headers_end : ℕ) (slices one other : List ℕ)
    → MeetsRules from headers_end slices one × MeetsRules from headers_end slices other → one ≡ other
one-meets from headers_end slices one other both =
    one-rest (the-rest from headers_end slices one both.0) (the-rest from headers_end slices other both.1)

-- ---- the packer's list meets them

pub some-bytes : (slices : List ℕ) → HaveBytes slices → AreSome slices
some-bytes [] have = tt
some-bytes (n ∷ slices) have = (have.0, some-bytes slices have.1)

slice-after : (slices : List ℕ) (at place length : ℕ) → SliceAt at slices place length → at ≤ place
slice-after [] at place length is = absurd is
slice-after (n ∷ slices) at place length (inl here) = omega (arith, here.0)
slice-after (n ∷ slices) at place length (inr later) = omega (arith, slice-after slices (at + n) place length later)

-- the same, of each of them
abbrev AreUncutWhereShort : ℕ → List ℕ → List ℕ → Type 0
AreUncutWhereShort at slices cuts =
    (place length : ℕ) → SliceAt at slices place length → length ≤ MAX_PAYLOAD_BYTES
    → IsUncut place (place + length) cuts

short-at : (slices : List ℕ) (at : ℕ) (cuts : List ℕ) → AreShortUncut at slices cuts → AreUncutWhereShort at slices cuts
short-at [] at cuts uncut place length is short = absurd is
short-at (n ∷ slices) at cuts uncut place length (inl here) short =
    let P : ℕ → Type 0 = λ p. IsUncut p (p + length) cuts in
    let Q : ℕ → Type 0 = λ m. IsUncut at (at + m) cuts in
    subst P here.0 (subst Q here.1 (uncut.0 (omega (arith, here.1, short))))
short-at (n ∷ slices) at cuts uncut place length (inr later) short =
    short-at slices (at + n) cuts uncut.1 place length later short

leb-not : (n : ℕ) → MAX_PAYLOAD_BYTES < n → leb n MAX_PAYLOAD_BYTES ≡ false
leb-not n long = lt-leb n MAX_PAYLOAD_BYTES long

-- a long slice that isn't first in a unit doesn't go in
long-not : (f : OpenPacket) (n : ℕ) → MAX_PAYLOAD_BYTES < n → f.holds ≡ Slices ⊎ f.holds ≡ LastFragment
    → goes_in f n ≡ false
long-not f n long (inl e) =
    ap (λ b. cond b (goes_in_whole f.from f.at f.holds n) (goes_in_cut f.from f.at f.holds)) (leb-not n long)
    ∙ ap (λ (h : PacketContents). goes_in_cut f.from f.at h) e
long-not f n long (inr e) =
    ap (λ b. cond b (goes_in_whole f.from f.at f.holds n) (goes_in_cut f.from f.at f.holds)) (leb-not n long)
    ∙ ap (λ (h : PacketContents). goes_in_cut f.from f.at h) e

held-by : (b : Bool) → (cond b Slices LastFragment ≡ Slices) ⊎ (cond b Slices LastFragment ≡ LastFragment)
held-by true = inl refl
held-by false = inr refl

held-is : (n : ℕ) → (holds_after n ≡ Slices) ⊎ (holds_after n ≡ LastFragment)
held-is n = held-by (leb n MAX_PAYLOAD_BYTES)

first-there : (place at : ℕ) (cuts : List ℕ) → at ≡ place → is_among place (at ∷ cuts) ≡ true
first-there place at cuts here = ap (λ b. b || is_among place cuts) (eq-eqb place at (sym here))

-- a long slice begins with a portion where it doesn't go in
abbrev DoLongBegin : OpenPacket → List ℕ → List ℕ → Type 0
DoLongBegin f slices cuts =
    (place length : ℕ) → SliceAt f.at slices place length → MAX_PAYLOAD_BYTES < length
    → (place ≡ f.at → goes_in f length ≡ false) → is_among place cuts ≡ true

begin-cut : (slices : List ℕ) (f : OpenPacket) (cuts : List ℕ) → Cuts f slices cuts → DoLongBegin f slices cuts
begin-cut [] f cuts e place length is long goes = absurd is
begin-cut (n ∷ slices) f cuts (inl x) place length (inl here) long goes =
    absurd (both_ways (goes_in f n) (ap (λ m. goes_in f m) here.1 ∙ goes (sym here.0)) x.0)
begin-cut (n ∷ slices) f cuts (inl x) place length (inr later) long goes =
    let g = filling_after f n (f.from + MAX_PAYLOAD_BYTES * x.1.full) in
    ap (λ (l : List ℕ). is_among place l) x.1.filled
    ∙ among-full place f.from x.1.full x.1.rest
    (begin-cut slices g x.1.rest x.1.goes_on place length later long (λ _. long-not g length long (held-is n)))
begin-cut (n ∷ slices) f cuts (inr x) place length (inl here) long goes =
    ap (λ (l : List ℕ). is_among place l) x.1.1.0 ∙ first-there place f.at x.1.0 here.0
begin-cut (n ∷ slices) f cuts (inr x) place length (inr later) long goes =
    let fills = x.1.1.1 in
    let g = filling_after f n (f.at + MAX_PAYLOAD_BYTES * fills.full) in
    let there =
    begin-cut slices g fills.rest fills.goes_on place length later long (λ _. long-not g length long (held-is n)) in
    ap (λ (l : List ℕ). is_among place l) x.1.1.0
    ∙ or_right (eqb place f.at) (is_among place x.1.0)
    (ap (λ (l : List ℕ). is_among place l) fills.filled ∙ among-full place f.at fills.full fills.rest there)

-- a long slice ends with a portion
abbrev DoLongEnd : ℕ → List ℕ → List ℕ → Type 0
DoLongEnd at slices cuts =
    (start length : ℕ) → SliceAt at slices start length → MAX_PAYLOAD_BYTES < length
    → is_among (start + length) cuts ≡ true

end-by : (slices : List ℕ) (at : ℕ) (cuts : List ℕ) → DoLongEndPortions at slices cuts → DoLongEnd at slices cuts
end-by [] at cuts ends_ start length is long = absurd is
end-by (n ∷ slices) at cuts ends_ start length (inl here) long =
    ap (λ p. is_among p cuts) (omega (arith, here.0, here.1)) ∙ ends_.0 (omega (arith, here.1, long))
end-by (n ∷ slices) at cuts ends_ start length (inr later) long =
    end-by slices (at + n) cuts ends_.1 start length later long

end-cut : (slices : List ℕ) (f : OpenPacket) (cuts : List ℕ) → Cuts f slices cuts → DoLongEnd f.at slices cuts
end-cut slices f cuts cutting = end-by slices f.at cuts (long-ends slices f cuts cutting)

-- where cuts must be, and where slices begin
record Places : Type 1 where
  Must : ℕ → Type 0
  Begins : ℕ → ℕ → Type 0

-- each portion ends where it may
record Reads (at : Places) (f : OpenPacket) (slices : List ℕ) : Type 0 where
  some : AreSome slices
  begins : (place length : ℕ) → SliceAt f.at slices place length → at.Begins place length
  long : (place length : ℕ) → SliceAt f.at slices place length → MAX_PAYLOAD_BYTES < length
      → (place ≡ f.at → goes_in f length ≡ false) → at.Must place
  long_end : (start length : ℕ) → SliceAt f.at slices start length → MAX_PAYLOAD_BYTES < length
      → at.Must (start + length)
  last : f.holds ≡ LastFragment → at.Must f.at

abbrev MayBy : Places → ℕ → ℕ → Type 0
MayBy at start cut =
    (cut ≡ start + MAX_PAYLOAD_BYTES)
    ⊎ (at.Must cut ⊎ ((length : ℕ) × (at.Begins cut length ×
    ((length ≤ MAX_PAYLOAD_BYTES) × (start + MAX_PAYLOAD_BYTES < cut + length)))))

may-cons : (May : ℕ → ℕ → Type 0) (start cut : ℕ) (cuts : List ℕ) → May start cut → MayAllEnd May cut cuts
    → MayAllEnd May start (cut ∷ cuts)
may-cons May start cut [] one rest = tt
may-cons May start cut (next ∷ cuts) one rest = (one, rest)

full-may : (at : Places) (start count : ℕ) (rest : List ℕ)
    → MayAllEnd (MayBy at) (start + MAX_PAYLOAD_BYTES * count) rest
    → MayAllEnd (MayBy at) start (full_ends start count ++ rest)
full-may at start zero rest may = subst (λ s. MayAllEnd (MayBy at) s rest) (omega arith) may
full-may at start (suc count) rest may =
    may-cons (MayBy at) start (start + MAX_PAYLOAD_BYTES) (full_ends (start + MAX_PAYLOAD_BYTES) count ++ rest)
    (inl refl)
    (full-may at (start + MAX_PAYLOAD_BYTES) count rest
    (subst (λ s. MayAllEnd (MayBy at) s rest) (omega arith) may))

-- why a slice doesn't go in
why : {at : Places} {f : OpenPacket} {n : ℕ} {slices : List ℕ} → Reads at f (n ∷ slices) → goes_in f n ≡ false
    → MayBy at f.from f.at
why {at} {f} {n} reads goes = elim (cases_lt MAX_PAYLOAD_BYTES n) [
  | inl long ↦ inr (inl (reads.long f.at n (inl (refl, refl)) long (λ _. goes)))
  | inr short ↦
      where_short short f.holds reads.last
      (sym (ap (λ b. cond b (goes_in_whole f.from f.at f.holds n) (goes_in_cut f.from f.at f.holds))
      (le-leb n MAX_PAYLOAD_BYTES short)) ∙ goes)
]
  where
    over : n ≤ MAX_PAYLOAD_BYTES → leb (f.at + n) (f.from + MAX_PAYLOAD_BYTES) ≡ false → MayBy at f.from f.at
    over short less =
        inr (inr (
          n,
          (
            reads.begins f.at n (inl (refl, refl)),
            (short, leb-false (f.at + n) (f.from + MAX_PAYLOAD_BYTES) less),
          ),
        ))

    where_short : n ≤ MAX_PAYLOAD_BYTES → (holds : PacketContents) → (holds ≡ LastFragment → at.Must f.at)
        → goes_in_whole f.from f.at holds n ≡ false → MayBy at f.from f.at
    where_short short HeadersAlone last less = over short less
    where_short short Slices last less = over short less
    where_short short LastFragment last less = inr (inl (last refl))

last-by : (b : Bool) (n : ℕ) → leb n MAX_PAYLOAD_BYTES ≡ b → cond b Slices LastFragment ≡ LastFragment
    → MAX_PAYLOAD_BYTES < n
last-by true n e is = cc
last-by false n e is = leb-false n MAX_PAYLOAD_BYTES e

last-long : (n : ℕ) → holds_after n ≡ LastFragment → MAX_PAYLOAD_BYTES < n
last-long n is = last-by (leb n MAX_PAYLOAD_BYTES) n refl is

reads-next : {at : Places} {f : OpenPacket} {n : ℕ} {slices : List ℕ} (last : ℕ) → Reads at f (n ∷ slices)
    → Reads at (filling_after f n last) slices
reads-next {at} {f} {n} {slices} last reads = record {
  some = reads.some.1;
  begins = λ place length is. reads.begins place length (inr is);
  long = λ place length is long goes. reads.long place length (inr is) long
      (λ here. absurd (omega (arith, here, reads.some.0, slice-after slices (f.at + n) place length is)));
  long_end = λ start length is long. reads.long_end start length (inr is) long;
  last = λ is. reads.long_end f.at n (inl (refl, refl)) (last-long n is);
}

may-end : {at : Places} {slices : List ℕ} {f : OpenPacket} (cuts : List ℕ) → Reads at f slices → Cuts f slices cuts
    → MayAllEnd (MayBy at) f.from cuts
may-end {at} {slices = []} {f} cuts reads e = subst (λ (l : List ℕ). MayAllEnd (MayBy at) f.from l) (sym e) tt
may-end {at} {slices = n ∷ slices} {f} cuts reads (inl x) =
    let last = f.from + MAX_PAYLOAD_BYTES * x.1.full in
    let rest = may-end {at = at} {slices = slices} {f = filling_after f n last} x.1.rest (reads-next last reads)
    x.1.goes_on in
    subst (λ (l : List ℕ). MayAllEnd (MayBy at) f.from l) (sym x.1.filled)
    (full-may at f.from x.1.full x.1.rest rest)
may-end {at} {slices = n ∷ slices} {f} cuts reads (inr x) =
    let fills = x.1.1.1 in
    let last = f.at + MAX_PAYLOAD_BYTES * fills.full in
    let rest = may-end {at = at} {slices = slices} {f = filling_after f n last} fills.rest (reads-next last reads)
    fills.goes_on in
    let tail : MayAllEnd (MayBy at) f.at x.1.0 =
    subst (λ (l : List ℕ). MayAllEnd (MayBy at) f.at l) (sym fills.filled)
    (full-may at f.at fills.full fills.rest rest) in
    subst (λ (l : List ℕ). MayAllEnd (MayBy at) f.from l) (sym x.1.1.0)
    (may-cons (MayBy at) f.from f.at x.1.0 (why reads x.0) tail)

-- those of a unit
abbrev unit_places : ℕ → ℕ → List ℕ → Places
unit_places from headers_end slices =
    record { Must = IsCutPlace from headers_end slices; Begins = SliceAt headers_end slices }

may-cs : (from headers_end : ℕ) (slices : List ℕ) (start cut : ℕ)
    → MayBy (unit_places from headers_end slices) start cut
    → MayEnd from headers_end slices start cut
may-cs from headers_end slices start cut (inl full) = inl full
may-cs from headers_end slices start cut (inr (inl place)) = inr (inl place)
may-cs from headers_end slices start cut (inr (inr (length, over))) =
    inr (inr (record { length = length; slice = over.0; short = over.1.0; over = over.1.1 }))

may-map : (May Other : ℕ → ℕ → Type 0) (start : ℕ) (cuts : List ℕ) → ((s c : ℕ) → May s c → Other s c)
    → MayAllEnd May start cuts → MayAllEnd Other start cuts
may-map May Other start [] cs may = tt
may-map May Other start (cut ∷ []) cs may = tt
may-map May Other start (cut ∷ (next ∷ cuts)) cs may =
    (cs start cut may.0, may-map May Other cut (next ∷ cuts) cs may.1)

-- in the first portion a long slice goes in where the headers leave room
headers-go : (from headers_end n : ℕ) → MAX_PAYLOAD_BYTES < n → goes_in (first_portion from headers_end) n ≡ false
    → from + MAX_PAYLOAD_BYTES ≤ headers_end
headers-go from headers_end n long goes =
    ltb-false headers_end (from + MAX_PAYLOAD_BYTES)
    (sym (ap (λ b. cond b (goes_in_whole from headers_end HeadersAlone n) (goes_in_cut from headers_end HeadersAlone))
    (leb-not n long)) ∙ goes)

goes-headers : (from headers_end n : ℕ) → MAX_PAYLOAD_BYTES < n → from + MAX_PAYLOAD_BYTES ≤ headers_end
    → goes_in (first_portion from headers_end) n ≡ false
goes-headers from headers_end n long full =
    ap (λ b. cond b (goes_in_whole from headers_end HeadersAlone n) (goes_in_cut from headers_end HeadersAlone))
    (leb-not n long) ∙ le-ltb headers_end (from + MAX_PAYLOAD_BYTES) full

first-reads : (from headers_end : ℕ) (slices : List ℕ) → AreSome slices
    → Reads (unit_places from headers_end slices) (first_portion from headers_end) slices
first-reads from headers_end slices some = record {
  some = some;
  begins = λ place length is. is;
  long = λ place length is long goes. inl
      (record {
        length = length;
        slice = is;
        long = long;
        apart = λ here. headers-go from headers_end length long (goes here);
      });
  long_end = λ start length is long.
      inr (record { start = start; length = length; slice = is; long = long; place_is = refl });
  last = λ is. cc;
}

-- a unit's headers of 1 to 1,380 bytes, and its slices
pub record HeadersAndSlices (from headers_end : ℕ) (slices : List ℕ) : Type 0 where
  pub some : from < headers_end
  pub short : headers_end ≤ from + MAX_PAYLOAD_BYTES
  pub have : HaveBytes slices

pub cutting-meets : {from headers_end : ℕ} {slices : List ℕ} (cuts : List ℕ) → HeadersAndSlices from headers_end slices
    → AreCutPoints from headers_end slices cuts → MeetsRules from headers_end slices cuts
cutting-meets {from} {headers_end} {slices} cuts unit cutting =
    let f = first_portion from headers_end in
    let order : from ≤ headers_end = omega (arith, unit.some) in record {
      portions = portions-cover slices f cuts (unit.some, unit.short) cutting;
      headers = headers-uncut from headers_end cuts (cuts-from slices f cuts order cutting);
      short = short-at slices headers_end cuts (short-uncut slices f cuts order cutting);
      long = long-cut;
      ends = may-map (MayBy (unit_places from headers_end slices)) (MayEnd from headers_end slices) from cuts
          (may-cs from headers_end slices)
          (may-end cuts (first-reads from headers_end slices (some-bytes slices unit.have)) cutting);
    }
  where
    long-cut : (place : ℕ) → IsCutPlace from headers_end slices place → is_among place cuts ≡ true
    long-cut place (inl b) =
        begin-cut slices (first_portion from headers_end) cuts cutting place b.length b.slice b.long
        (λ here. goes-headers from headers_end b.length b.long (b.apart here))
    long-cut place (inr e) =
        ap (λ p. is_among p cuts) e.place_is
        ∙ end-cut slices (first_portion from headers_end) cuts cutting e.start e.length e.slice e.long

no_unit : PictureUnit
no_unit = unit_at (tally_of []) 0

-- there is such a list
pub some-meets : {from headers_end : ℕ} {slices : List ℕ} → HeadersAndSlices from headers_end slices
    → (cuts : List ℕ) × MeetsRules from headers_end slices cuts
some-meets {from} {headers_end} {slices} unit =
    let f = first_portion from headers_end in
    let cuts = ends (packets_from no_unit f slices) in (
      cuts,
      cutting-meets cuts unit (packets-cut no_unit slices f (omega (arith, unit.some)) (some-bytes slices unit.have)),
    )

-- and it is the packer's
pub meets-cutting : {from headers_end : ℕ} {slices : List ℕ} (cuts : List ℕ) → HeadersAndSlices from headers_end slices
    → MeetsRules from headers_end slices cuts → AreCutPoints from headers_end slices cuts
meets-cutting {from} {headers_end} {slices} cuts unit meets =
    let f = first_portion from headers_end in
    let made = ends (packets_from no_unit f slices) in
    let cutting = packets-cut no_unit slices f (omega (arith, unit.some)) (some-bytes slices unit.have) in
    let same = one-meets from headers_end slices made cuts (cutting-meets made unit cutting, meets) in
    subst (λ (l : List ℕ). AreCutPoints from headers_end slices l) same cutting
