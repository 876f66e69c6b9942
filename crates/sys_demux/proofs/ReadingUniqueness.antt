-- A stream is read in one way.
use Rattle.std.proofs.Common.{◌≡◌, ◌≢◌, ℕ, ◌+◌, ◌*◌, ◌/◌, ◌<◌, ◌≤◌, true, false, zero, suc, List, [], ◌∷◌, ◌++◌, length}
use Rattle.std.proofs.Common.{take, drop, Option, None, refl, sym, ap, subst, ◌∙◌, ◌⊎◌, arith, inl, inr}
use Rattle.std.specs.Prelude.{IsSome, replicate}
use Rattle.std.proofs.lemmas.List.{append_assoc, append-nil, length-append, take_at, drop_at}
use Rattle.std.proofs.lemmas.List.{take-append-drop, length-take-le, length-drop}
use Rattle.sys_demux.specs.PacketContents.{video_in}
use Rattle.sys_demux.specs.StreamItems.{Item, with_prefix, item_bytes, zeros_of, choose, is_chosen}
use Rattle.sys_demux.specs.StreamItems.{chosen_next, chosen_after, IsItem, AreItems, video_of, bytes_of}
use Rattle.sys_demux.specs.StreamItems.Item.{Pack, Packet}
use Rattle.sys_demux.specs.SystemStreams.{IsEnd, IsEndCode, IsTruncatedItem, IsFault, IsSystem, IsBadStream}
use Rattle.sys_demux.specs.SystemStreams.{IsBadByte, IsBadPacket, IsBadValue, IsNotPack}
use Rattle.sys_demux.specs.ParserStates.{Beginning, IsShown}
use Rattle.sys_demux.specs.declared.faults.SystemFault.{SystemFault}
use Rattle.sys_demux.specs.declared.faults.SystemFault.TheVariants.{NotPack, BadCode, BadPacket, Truncated}
use Rattle.sys_demux.proofs.ItemPartLemmas.{prefixed_more, length_prefixed}
use Rattle.sys_demux.proofs.FedBytesLemmas.{fault_stays}

-- bytes 00 and a prefix have one length
record AreSamePrefix (n m : ℕ) (r s : List ℕ) : Type 0 where
  zeros : n ≡ m
  rest : r ≡ s

prefix_once : (n m : ℕ) (r s : List ℕ) → with_prefix n r ≡ with_prefix m s → AreSamePrefix n m r s
prefix_once zero zero r s e = record { zeros = refl; rest = cc }
prefix_once zero (suc zero) r s e = cc
prefix_once zero (suc (suc zero)) r s e = cc
prefix_once zero (suc (suc (suc m))) r s e = cc
prefix_once (suc zero) zero r s e = cc
prefix_once (suc (suc zero)) zero r s e = cc
prefix_once (suc (suc (suc n))) zero r s e = cc
prefix_once (suc n) (suc m) r s e =
    let more = prefix_once n m r s cc in record { zeros = ap suc more.zeros; rest = more.rest }

-- bytes 00 alone have no prefix
zeros_no_prefix : (n m : ℕ) (s : List ℕ) → replicate n 0 ≡ with_prefix m s → ⊥
zeros_no_prefix zero zero s e = cc
zeros_no_prefix (suc zero) zero s e = cc
zeros_no_prefix (suc (suc zero)) zero s e = cc
zeros_no_prefix (suc (suc (suc n))) zero s e = cc
zeros_no_prefix zero (suc m) s e = cc
zeros_no_prefix (suc n) (suc m) s e = zeros_no_prefix n m s cc

-- a byte that no bytes 00 and prefix have after so many bytes 00
record IsOutside (count byte : ℕ) : Type 0 where
  some : byte ≢ 0
  early : byte ≡ 1 → count < 2

bad_no_prefix : {byte : ℕ} (n m : ℕ) (l s : List ℕ) → replicate n 0 ++ byte ∷ l ≡ with_prefix m s → IsOutside n byte → ⊥
bad_no_prefix zero zero l s e bad = bad.some cc
bad_no_prefix zero (suc m) l s e bad = bad.some cc
bad_no_prefix (suc zero) zero l s e bad = bad.some cc
bad_no_prefix {byte} (suc (suc zero)) zero l s e bad = let one : byte ≡ 1 = cc in omega (arith, bad.early one)
bad_no_prefix (suc (suc (suc n))) zero l s e bad = cc
bad_no_prefix (suc n) (suc m) l s e bad =
    bad_no_prefix n m l s (cc) (record { some = bad.some; early = λ one. omega (arith, bad.early one) })

-- bytes 00 and a prefix stand first
record HasPrefix (t : List ℕ) : Type 0 where
  zeros : ℕ
  rest : List ℕ
  is : t ≡ with_prefix zeros rest

-- a byte other than 00 after bytes 00 isn't where a prefix can have it
byte_no_prefix : {start place : ℕ} {t : List ℕ} → IsBadByte start t place → HasPrefix t → ⊥
byte_no_prefix f p =
    bad_no_prefix f.count p.zeros f.rest p.rest (sym f.is ∙ p.is) (record { some = f.some; early = f.early })

-- a start code of this value is the first
record HasValue (t : List ℕ) (value : ℕ) : Type 0 where
  zeros : ℕ
  rest : List ℕ
  is : t ≡ with_prefix zeros (value ∷ rest)

prefix_of : {t : List ℕ} {value : ℕ} → HasValue t value → HasPrefix t
prefix_of {value} v = record { zeros = v.zeros; rest = value ∷ v.rest; is = v.is }

value_once : {t : List ℕ} {k j : ℕ} (a : HasValue t k) (b : HasValue t j) → (a.zeros ≡ b.zeros) × (k ≡ j)
value_once {k} {j} a b =
    let same = prefix_once a.zeros b.zeros (k ∷ a.rest) (j ∷ b.rest) (sym a.is ∙ b.is) in
    (same.zeros, cc)

-- bytes 00 and another byte
zeros_no_bad : (n m byte : ℕ) (l : List ℕ) → replicate n 0 ≡ replicate m 0 ++ byte ∷ l → byte ≢ 0 → ⊥
zeros_no_bad zero zero byte l e some = cc
zeros_no_bad zero (suc m) byte l e some = cc
zeros_no_bad (suc n) zero byte l e some = some cc
zeros_no_bad (suc n) (suc m) byte l e some = zeros_no_bad n m byte l (cc) some

bad_once : {n m a b : ℕ} (r s : List ℕ) → replicate n 0 ++ a ∷ r ≡ replicate m 0 ++ b ∷ s → a ≢ 0 → b ≢ 0 → n ≡ m
bad_once {n = zero} {m = zero} r s e x y = refl
bad_once {n = zero} {m = suc m} r s e x y = absurd (x cc)
bad_once {n = suc n} {m = zero} r s e x y = absurd (y cc)
bad_once {n = suc n} {m = suc m} r s e x y = ap suc (bad_once {n = n} {m = m} r s (cc) x y)

-- the bytes after an item's prefix
abbrev rest_of : Item → List ℕ
rest_of (Pack _ rest) = 186 ∷ rest
rest_of (Packet _ value high low content) = value ∷ high ∷ low ∷ content

abbrev value_of : Item → ℕ
value_of (Pack _ rest) = 186
value_of (Packet _ value high low content) = value

item_prefixed : (a : Item) → item_bytes a ≡ with_prefix (zeros_of a) (rest_of a)
item_prefixed (Pack _ rest) = refl
item_prefixed (Packet _ value high low content) = refl

-- equal texts have equal beginnings of one length, and equal rests
front_once : (a b x y : List ℕ) → a ++ x ≡ b ++ y → length a ≡ length b → (a ≡ b) × (x ≡ y)
front_once a b x y e long = (
  sym (take_at a x (length a) refl) ∙ ap (take (length a)) e ∙ ap (λ n. take n (b ++ y)) long
      ∙ take_at b y (length b) refl,
  sym (drop_at a x (length a) refl) ∙ ap (drop (length a)) e ∙ ap (λ n. drop n (b ++ y)) long
      ∙ drop_at b y (length b) refl,
)

-- one item stands first
pub record IsSameItem (a b : Item) (x y : List ℕ) : Type 0 where
  pub item : a ≡ b
  pub rest : x ≡ y

rests_once : {a b : Item} {x y : List ℕ} (chosen : Option ℕ) → IsItem chosen a → IsItem chosen b
    → zeros_of a ≡ zeros_of b → rest_of a ++ x ≡ rest_of b ++ y → IsSameItem a b x y
rests_once {a = Pack n r} {b = Pack m s} {x} {y} chosen p q zeros e =
    let same = front_once r s x y (cc) (p.eight ∙ sym q.eight) in record { item = cc; rest = same.1 }
rests_once {a = Pack n r} {b = Packet m value high low s} chosen p q zeros e =
    absurd (let bad : 186 ≡ value = cc in omega (arith, bad, q.value_is))
rests_once {a = Packet n value high low r} {b = Pack m s} chosen p q zeros e =
    absurd (let bad : value ≡ 186 = cc in omega (arith, bad, p.value_is))
rests_once {a = Packet n k h l r} {b = Packet m k' h' l' s} {x} {y} chosen p q zeros e =
    let high : h ≡ h' = cc in
    let low : l ≡ l' = cc in
    let same = front_once r s x y (cc) (omega (arith, p.length_is, q.length_is, high, low)) in
    record { item = cc; rest = same.1 }

-- an item stands first
pub record StandsFirst (chosen : Option ℕ) (t : List ℕ) : Type 0 where
  pub item : Item
  pub rest : List ℕ
  pub is_item : IsItem chosen item
  pub is : item_bytes item ++ rest ≡ t

-- the first of some items that are read
abbrev pub first_of : {chosen : Option ℕ} (x : Item) (xs : List Item) (tail : List ℕ) {t : List ℕ} → IsItem chosen x
    → t ≡ bytes_of (x ∷ xs) ++ tail → StandsFirst chosen t
first_of x xs tail item is = record {
  item = x;
  rest = bytes_of xs ++ tail;
  is_item = item;
  is = sym (append_assoc (item_bytes x) (bytes_of xs) tail) ∙ sym is;
}

as_prefixed : {chosen : Option ℕ} {t : List ℕ} (a : StandsFirst chosen t)
    → t ≡ with_prefix (zeros_of a.item) (rest_of a.item ++ a.rest)
as_prefixed a =
    sym a.is ∙ ap (λ (l : List ℕ). l ++ a.rest) (item_prefixed a.item)
    ∙ prefixed_more (zeros_of a.item) (rest_of a.item) a.rest

pub item_once : {chosen : Option ℕ} {t : List ℕ} (a b : StandsFirst chosen t)
    → IsSameItem a.item b.item a.rest b.rest
item_once {chosen} a b =
    let same = prefix_once (zeros_of a.item) (zeros_of b.item) (rest_of a.item ++ a.rest) (rest_of b.item ++ b.rest)
    (sym (as_prefixed a) ∙ as_prefixed b) in
    rests_once chosen a.is_item b.is_item same.zeros same.rest

-- it goes on so after its prefix
from_value : {chosen : Option ℕ} {t : List ℕ} {value : ℕ} (a : StandsFirst chosen t) (v : HasValue t value)
    → rest_of a.item ++ a.rest ≡ value ∷ v.rest
from_value {value} a v =
    (prefix_once (zeros_of a.item) v.zeros (rest_of a.item ++ a.rest) (value ∷ v.rest) (sym (as_prefixed a) ∙ v.is)).rest

-- an item's start code value is BA or above
item_value : (chosen : Option ℕ) (a : Item) → IsItem chosen a → HasValue (item_bytes a) (value_of a) × (186 ≤ value_of a)
item_value chosen (Pack n r) p = (record { zeros = n; rest = r; is = refl }, omega arith)
item_value chosen (Packet n k h l r) p = (record { zeros = n; rest = h ∷ l ∷ r; is = refl }, omega (arith, p.value_is))

first_value : {chosen : Option ℕ} {t : List ℕ} {value : ℕ} → StandsFirst chosen t → HasValue t value → 186 ≤ value
first_value {chosen} {t} a v =
    let its = item_value chosen a.item a.is_item in
    let front : HasValue t (value_of a.item) = record {
      zeros = its.0.zeros;
      rest = its.0.rest ++ a.rest;
      is = sym a.is ∙ ap (λ (l : List ℕ). l ++ a.rest) its.0.is
          ∙ prefixed_more its.0.zeros (value_of a.item ∷ its.0.rest) a.rest;
    } in
    omega (arith, its.1, (value_once front v).1)

-- no item stands where the stream ends
pub item_no_end : {chosen : Option ℕ} {t : List ℕ} → StandsFirst chosen t → IsEnd t → ⊥
item_no_end a (inl z) = zeros_no_prefix z.count (zeros_of a.item) (rest_of a.item ++ a.rest) (sym z.are ∙ as_prefixed a)
item_no_end a (inr c) = omega (arith, first_value a (record { zeros = c.zeros; rest = c.rest; is = c.is }))

-- nor where a fault does
mark_other : {rest : List ℕ} {mark : ℕ} (chosen : Option ℕ) (a : Item) (x : List ℕ) → IsItem chosen a
    → rest_of a ++ x ≡ 186 ∷ mark ∷ rest → mark / 16 ≢ 2 → ⊥
mark_other chosen (Pack n []) x p e other = omega (arith, p.eight)
mark_other {mark} chosen (Pack n (b ∷ r)) x p e other =
    let same : b ≡ mark = cc in other (ap (λ k. k / 16) (sym same) ∙ p.mark)
mark_other chosen (Packet n k h l r) x p e other = let same : k ≡ 186 = cc in omega (arith, p.value_is, same)

-- complete content has a header
content_bad : {chosen : Option ℕ} {start place : ℕ} {t : List ℕ} (a : Item) (x : List ℕ) →
    (f : IsBadPacket chosen start t place) → IsItem chosen a →
    rest_of a ++ x ≡ f.value ∷ f.high ∷ f.low ∷ (f.front ++ f.rest) → ⊥
content_bad (Pack n r) x f p e = let same : 186 ≡ f.value = cc in omega (arith, f.value_is, same)
content_bad {chosen} (Packet n k h l r) x f p e =
    let values : k ≡ value = cc in
    let highs : h ≡ high = cc in
    let lows : l ≡ low = cc in
    let whole : r ++ x ≡ front ++ rest = cc in
    let size : length r ≡ high * 256 + low = omega (arith, p.length_is, highs, lows) in
    let cut : length (take (length front) r) ≡ length front =
    length-take-le (length front) r (omega (arith, size, within)) in
    let fronts = front_once (take (length front) r) front (drop (length front) r ++ x) rest
    (sym (append_assoc (take (length front) r) (drop (length front) r) x)
    ∙ ap (λ (t : List ℕ). t ++ x) (take-append-drop (length front) r) ∙ whole) cut in
    let split : r ≡ front ++ drop (length front) r =
    sym (take-append-drop (length front) r) ∙ ap (λ (t : List ℕ). t ++ drop (length front) r) fronts.0 in
    let nothing : video_in r ≡ None =
    ap video_in split ∙ none (drop (length front) r) (omega (arith, size, within, length-drop (length front) r)) in
    let some = p.header (subst (λ z. is_chosen (choose chosen z) z ≡ true) (sym values) chosen_is) in
    let bad : IsSome {T = List ℕ} None = subst (λ (o : Option (List ℕ)). IsSome o) nothing some in
    let wrong : false ≡ true = bad in
    cc
  where
    open f use {value, high, low, front, rest, chosen_is, within, none}

abbrev pack_value : {start place : ℕ} {t : List ℕ} → IsNotPack start t place → HasValue t 186
pack_value f = record { zeros = f.zeros; rest = f.mark ∷ f.rest; is = f.is }

abbrev low_value : {start place : ℕ} {t : List ℕ} (f : IsBadValue start t place) → HasValue t f.value
low_value f = record { zeros = f.zeros; rest = f.rest; is = f.is }

abbrev packet_value : {chosen : Option ℕ} {start place : ℕ} {t : List ℕ} (f : IsBadPacket chosen start t place)
    → HasValue t f.value
packet_value f = record { zeros = f.zeros; rest = f.high ∷ f.low ∷ (f.front ++ f.rest); is = f.is }

abbrev end_value : {t : List ℕ} → IsEndCode t → HasValue t 185
end_value c = record { zeros = c.zeros; rest = c.rest; is = c.is }

-- a truncated item with the bytes that it lacks
abbrev pub cut_stands : {chosen : Option ℕ} {start place : ℕ} {t : List ℕ} (f : IsTruncatedItem chosen start t place)
    → StandsFirst chosen (t ++ f.lacking)
cut_stands f = record { item = f.item; rest = []; is_item = f.is_item; is = append-nil (item_bytes f.item) ∙ f.is }

-- what no item stands before
Stops : Option ℕ → List ℕ → Type 0
Stops chosen t = StandsFirst chosen t → ⊥

fault_stops : (chosen : Option ℕ) (start : ℕ) (t : List ℕ) (fault : SystemFault) → IsFault chosen start t fault
    → Stops chosen t
unfolding Stops
fault_stops chosen start t (NotPack place) f =
    λ a. mark_other chosen a.item a.rest a.is_item (from_value a (pack_value f)) f.other
fault_stops chosen start t (BadCode place) (inl f) = λ a.
    byte_no_prefix f
    (record { zeros = zeros_of a.item; rest = rest_of a.item ++ a.rest; is = as_prefixed a })
fault_stops chosen start t (BadCode place) (inr f) = λ a. omega (arith, first_value a (low_value f), f.low)
fault_stops chosen start t (BadPacket place) f =
    λ a. content_bad a.item a.rest f a.is_item (from_value a (packet_value f))
fault_stops chosen start t (Truncated place) f = λ a.
    let same = item_once {chosen = chosen} {t = t ++ f.lacking} (record {
      item = a.item;
      rest = a.rest ++ f.lacking;
      is_item = a.is_item;
      is = sym (append_assoc (item_bytes a.item) a.rest f.lacking) ∙ ap (λ (l : List ℕ). l ++ f.lacking) a.is;
    }) (cut_stands f) in
    omega (arith, ap length same.rest, length-append a.rest f.lacking, f.some)

-- the first bytes of an item, with its complete start code prefix
front_prefixed : (t l r : List ℕ) (z : ℕ) → t ++ l ≡ with_prefix z r → z + 3 ≤ length t
    → t ≡ with_prefix z (drop (z + 3) t)
front_prefixed t l r z e long =
    let size : length (take (z + 3) t) ≡ length (with_prefix z []) =
    length-take-le (z + 3) t long ∙ sym (length_prefixed z [] ∙ omega arith) in
    let fronts = front_once (take (z + 3) t) (with_prefix z []) (drop (z + 3) t ++ l) r
    (sym (append_assoc (take (z + 3) t) (drop (z + 3) t) l)
    ∙ ap (λ (x : List ℕ). x ++ l) (take-append-drop (z + 3) t) ∙ e ∙ sym (prefixed_more z [] r)) size in
    sym (take-append-drop (z + 3) t) ∙ ap (λ (x : List ℕ). x ++ drop (z + 3) t) fronts.0
    ∙ prefixed_more z [] (drop (z + 3) t)

cut_prefixed : (chosen : Option ℕ) (start : ℕ) (t : List ℕ) (place : ℕ) (f : IsTruncatedItem chosen start t place)
    → t ≡ with_prefix (zeros_of f.item) (drop (zeros_of f.item + 3) t)
cut_prefixed chosen start t place f =
    front_prefixed t f.lacking (rest_of f.item) (zeros_of f.item) (sym f.is ∙ item_prefixed f.item) f.begun

-- the bytes of a truncated item show no fault
cut_shows_none : {chosen : Option ℕ} {start : ℕ} {t : List ℕ} {place : ℕ} (fault : SystemFault)
    → IsTruncatedItem chosen start t place → IsShown fault → IsFault chosen start t fault → ⊥
unfolding Stops
cut_shows_none {chosen} {start} {t} {place} fault cut shown f =
    fault_stops chosen start (t ++ cut.lacking) fault
    (fault_stays {chosen = chosen} {start = start} {tail = t} {fault = fault} cut.lacking
    (record { shown = shown; fault_is = f })) (cut_stands cut)

-- an end is no fault
pub end_no_fault : (chosen : Option ℕ) (start : ℕ) (t : List ℕ) (fault : SystemFault) → IsEnd t
    → IsFault chosen start t fault → ⊥
end_no_fault chosen start t (NotPack place) (inl z) f =
    zeros_no_prefix z.count f.zeros (186 ∷ f.mark ∷ f.rest) (sym z.are ∙ f.is)
end_no_fault chosen start t (NotPack place) (inr c) f = omega (arith, (value_once (end_value c) (pack_value f)).1)
end_no_fault chosen start t (BadCode place) (inl z) (inl f) =
    zeros_no_bad z.count f.count f.byte f.rest (sym z.are ∙ f.is) f.some
end_no_fault chosen start t (BadCode place) (inl z) (inr f) =
    zeros_no_prefix z.count f.zeros (f.value ∷ f.rest) (sym z.are ∙ f.is)
end_no_fault chosen start t (BadCode place) (inr c) (inl f) = byte_no_prefix f (prefix_of (end_value c))
end_no_fault chosen start t (BadCode place) (inr c) (inr f) =
    omega (arith, (value_once (end_value c) (low_value f)).1, f.low)
end_no_fault chosen start t (BadPacket place) (inl z) f =
    zeros_no_prefix z.count f.zeros (f.value ∷ f.high ∷ f.low ∷ (f.front ++ f.rest)) (sym z.are ∙ f.is)
end_no_fault chosen start t (BadPacket place) (inr c) f =
    omega (arith, (value_once (end_value c) (packet_value f)).1, f.value_is)
end_no_fault chosen start t (Truncated place) (inl z) f =
    zeros_no_prefix z.count (zeros_of f.item) (drop (zeros_of f.item + 3) t)
    (sym z.are ∙ cut_prefixed chosen start t place f)
end_no_fault chosen start t (Truncated place) (inr c) f =
    item_no_end (cut_stands f) (inr (record {
      zeros = c.zeros;
      rest = c.rest ++ f.lacking;
      is = ap (λ (l : List ℕ). l ++ f.lacking) c.is ∙ prefixed_more c.zeros (185 ∷ c.rest) f.lacking;
    }))

-- one fault stands there

-- where no item can stand, one byte or value is the first that shows it
code_once : {start p q : ℕ} {t : List ℕ} → IsBadByte start t p ⊎ IsBadValue start t p
    → IsBadByte start t q ⊎ IsBadValue start t q → p ≡ q
code_once (inl f) (inl g) =
    omega (arith, f.place_is, g.place_is, bad_once f.rest g.rest (sym f.is ∙ g.is) f.some g.some)
code_once (inl f) (inr g) = absurd (byte_no_prefix f (prefix_of (low_value g)))
code_once (inr f) (inl g) = absurd (byte_no_prefix g (prefix_of (low_value f)))
code_once (inr f) (inr g) = omega (arith, f.place_is, g.place_is, (value_once (low_value f) (low_value g)).0)

-- there a start code, if one is the first, has a value below an item's
code_low : {start place value : ℕ} {t : List ℕ} → IsBadByte start t place ⊎ IsBadValue start t place
    → HasValue t value → value < 185
code_low (inl f) has = absurd (byte_no_prefix f (prefix_of has))
code_low (inr f) has = omega (arith, (value_once has (low_value f)).1, f.low)

fault_once : {one other : SystemFault} (at : Beginning) (t : List ℕ) → IsFault at.chosen at.start t one
    → IsFault at.chosen at.start t other → one ≡ other
fault_once {one = NotPack p} {other = NotPack q} at t f g =
    ap NotPack (omega (arith, f.place_is, g.place_is, (value_once (pack_value f) (pack_value g)).0))
fault_once {one = NotPack p} {other = BadCode q} at t f g = absurd (omega (arith, code_low g (pack_value f)))
fault_once {one = NotPack p} {other = BadPacket q} at t f g =
    absurd (omega (arith, (value_once (pack_value f) (packet_value g)).1, g.value_is))
fault_once {one = NotPack p} {other = Truncated q} at t f g = absurd (cut_shows_none (NotPack p) g tt f)
fault_once {one = BadCode p} {other = NotPack q} at t f g = absurd (omega (arith, code_low f (pack_value g)))
fault_once {one = BadCode p} {other = BadCode q} at t f g = ap BadCode (code_once f g)
fault_once {one = BadCode p} {other = BadPacket q} at t f g =
    absurd (omega (arith, code_low f (packet_value g), g.value_is))
fault_once {one = BadCode p} {other = Truncated q} at t f g = absurd (cut_shows_none (BadCode p) g tt f)
fault_once {one = BadPacket p} {other = NotPack q} at t f g =
    absurd (omega (arith, (value_once (pack_value g) (packet_value f)).1, f.value_is))
fault_once {one = BadPacket p} {other = BadCode q} at t f g =
    absurd (omega (arith, code_low g (packet_value f), f.value_is))
fault_once {one = BadPacket p} {other = BadPacket q} at t f g =
    ap BadPacket (omega (arith, f.place_is, g.place_is, (value_once (packet_value f) (packet_value g)).0))
fault_once {one = BadPacket p} {other = Truncated q} at t f g = absurd (cut_shows_none (BadPacket p) g tt f)
fault_once {one = Truncated p} {other = NotPack q} at t f g = absurd (cut_shows_none (NotPack q) f tt g)
fault_once {one = Truncated p} {other = BadCode q} at t f g = absurd (cut_shows_none (BadCode q) f tt g)
fault_once {one = Truncated p} {other = BadPacket q} at t f g = absurd (cut_shows_none (BadPacket q) f tt g)
fault_once {one = Truncated p} {other = Truncated q} at t f g =
    ap Truncated (let same =
    (prefix_once (zeros_of f.item) (zeros_of g.item) (drop (zeros_of f.item + 3) t) (drop (zeros_of g.item + 3) t)
    (sym (cut_prefixed at.chosen at.start t p f) ∙ cut_prefixed at.chosen at.start t q g)).zeros in
    omega (arith, f.place_is, g.place_is, same))

-- nothing stands before an end
end_stops : (chosen : Option ℕ) (t : List ℕ) → IsEnd t → Stops chosen t
unfolding Stops
end_stops chosen t end = λ a. item_no_end a end

-- bytes are items, and a tail that no item stands before
record AreRead (chosen : Option ℕ) (items : List Item) (bytes : List ℕ) : Type 0 where
  tail : List ℕ
  are : AreItems chosen items
  stops : Stops (chosen_after chosen items) tail
  is : bytes ≡ bytes_of items ++ tail

-- the first of them stands first
abbrev first_item : {chosen : Option ℕ} {x : Item} {xs : List Item} {bytes : List ℕ} → AreRead chosen (x ∷ xs) bytes
    → StandsFirst chosen bytes
first_item {x} {xs} read = first_of x xs read.tail read.are.0 read.is

items_once : {chosen : Option ℕ} {items items' : List Item} {bytes : List ℕ} (one : AreRead chosen items bytes)
    (other : AreRead chosen items' bytes) → (items ≡ items') × (one.tail ≡ other.tail)
unfolding Stops
items_once {items = []} {items' = []} one other = (refl, sym one.is ∙ other.is)
items_once {chosen} {items = []} {items' = y ∷ ys} one other =
    absurd (one.stops (subst (StandsFirst chosen) one.is (first_item other)))
items_once {chosen} {items = x ∷ xs} {items' = []} one other =
    absurd (other.stops (subst (StandsFirst chosen) other.is (first_item one)))
items_once {chosen} {items = x ∷ xs} {items' = y ∷ ys} one other =
    let same = item_once (first_item one) (first_item other) in
    let next : chosen_next chosen y ≡ chosen_next chosen x = ap (chosen_next chosen) (sym same.item) in
    let rest = bytes_of xs ++ one.tail in
    let later : AreRead (chosen_next chosen y) ys rest =
    record { tail = other.tail; are = other.are.1; stops = other.stops; is = same.rest } in
    let more = items_once {chosen = chosen_next chosen x} {items = xs} {items' = ys} {bytes = rest}
    (record { tail = one.tail; are = one.are.1; stops = one.stops; is = refl })
    (record {
      tail = other.tail;
      are = subst (λ c. AreItems c ys) next later.are;
      stops = subst (λ c. Stops (chosen_after c ys) other.tail) next later.stops;
      is = same.rest;
    }) in
    (ap (λ z. z ∷ xs) same.item ∙ ap (λ zs. y ∷ zs) more.0, more.1)

abbrev system_read : {bytes video : List ℕ} (s : IsSystem bytes video) → AreRead None s.items bytes
system_read s = record {
  tail = s.tail;
  are = s.are;
  stops = end_stops (chosen_after None s.items) s.tail s.end;
  is = s.bytes_are;
}

abbrev refused_read : {bytes : List ℕ} {fault : SystemFault} (s : IsBadStream bytes fault) → AreRead None s.items bytes
refused_read {fault} s = record {
  tail = s.tail;
  are = s.are;
  stops = fault_stops (chosen_after None s.items) (length (bytes_of s.items)) s.tail fault s.fault_is;
  is = s.bytes_are;
}

-- a stream has one list of items
pub system_once : (bytes one other : List ℕ) (a : IsSystem bytes one) (b : IsSystem bytes other)
    → (a.items ≡ b.items) × (a.tail ≡ b.tail)
system_once bytes one other a b = items_once (system_read a) (system_read b)

pub video_once : (bytes one other : List ℕ) → IsSystem bytes one → IsSystem bytes other → one ≡ other
video_once bytes one other a b = a.video_is ∙ ap (video_of None) (system_once bytes one other a b).0 ∙ sym b.video_is

pub not_both : (bytes video : List ℕ) (fault : SystemFault) → IsSystem bytes video → IsBadStream bytes fault → ⊥
not_both bytes video fault a b =
    let same = items_once (system_read a) (refused_read b) in
    end_no_fault (chosen_after None b.items) (length (bytes_of b.items)) b.tail fault (subst IsEnd same.1 a.end) b.fault_is

pub refused_once : (bytes : List ℕ) (one other : SystemFault) → IsBadStream bytes one → IsBadStream bytes other
    → one ≡ other
refused_once bytes one other a b =
    let same = items_once (refused_read a) (refused_read b) in
    fault_once (record { chosen = chosen_after None b.items; start = length (bytes_of b.items) }) b.tail
    (subst (λ (zs : List Item). IsFault (chosen_after None zs) (length (bytes_of zs)) b.tail one) same.0
    (subst (λ (l : List ℕ). IsFault (chosen_after None a.items) (length (bytes_of a.items)) l one) same.1
    a.fault_is)) b.fault_is
