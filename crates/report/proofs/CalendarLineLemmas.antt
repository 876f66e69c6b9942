-- The lines of a calendar's text: which slots they list, and what of each.
use Rattle.std.proofs.Common.{ℕ, zero, suc, ◌+◌, ◌^◌, ◌<◌, ◌≤◌, ◌≡◌, ◌≢◌, not, ◌==◌, nat_lt, Bool, true, false}
use Rattle.std.proofs.Common.{cond, List, [], ◌∷◌, ◌++◌, All, map, flat_map}
use Rattle.std.proofs.Common.{get_or, codes, decimal, append_assoc, sym, ap, refl, subst, ◌∙◌, arith, inl, inr}
use Rattle.std.specs.List.{Contains, list_all, range_with_len}
use Rattle.std.proofs.lemmas.Bool.{cases_lt, lt-ltb, ltb-true}
use Rattle.std.proofs.lemmas.Fmt.{decimal_injective}
use Rattle.std.proofs.lemmas.List.{append_cancel_left, get_or-map, length-map}
use Rattle.std.proofs.lemmas.List.Elements.{All-append, All-cons, All-get_or, All-head, All-nil, All-tail}
use Rattle.std.proofs.lemmas.List.Elements.{Contains-append_left, Contains-append_right}
use Rattle.plan_cert.specs.CertGrammar.{Lines, lines_of}
use Rattle.vod_base.proofs.SplitLemmas.{none_is, split_once}
use Rattle.plan_cert.proofs.DecimalLemmas.{not_in_decimal}
use Rattle.plan_cert.proofs.GrammarLemmas.{lines-cut}
use Rattle.vod_base.specs.Fields.{field}
use Rattle.slot_calendar.specs.Totals.{ring_slots}
use Rattle.report.specs.CalendarTexts.{AreBookings, booked_among, booked_slots, calendar_lines, calendar_text}
use Rattle.report.specs.CalendarTexts.{first_words, slot_line, slot_words}

-- ---- words without LF
abbrev pub IsClean : List ℕ → Type 0
IsClean xs = All (λ b. b ≢ 10) xs

pub clean_field : (label : List ℕ) (n : ℕ) → list_all (λ b. not (b == 10)) label ≡ true → n < 2 ^ 64
    → IsClean (field label n)
clean_field label n test small =
    All-append (λ b. b ≢ 10) label (decimal n) (none_is 10 label test)
    (not_in_decimal 10 n small (λ within. omega (arith, within.0)))

clean_words : (slot booked : ℕ) → slot < 2 ^ 64 → booked < 2 ^ 64 → IsClean (slot_words slot booked)
clean_words slot booked small few =
    All-append (λ b. b ≢ 10) (field (codes "at ") slot) (field (codes " booked=") booked)
    (clean_field (codes "at ") slot refl small) (clean_field (codes " booked=") booked refl few)

-- ---- the text as lines
abbrev pub words_at : (ℕ → ℕ) → ℕ → List ℕ
words_at bytes t = slot_words t (bytes t)

-- a slot of 64 bits with bytes of 64 bits
abbrev pub IsFew : (ℕ → ℕ) → ℕ → Type 0
IsFew bytes t = (t < 2 ^ 64) × (bytes t < 2 ^ 64)

-- the lines of these slots and of the end, and nothing after them
lines_slots : (bytes : ℕ → ℕ) (slots : List ℕ) → All (IsFew bytes) slots →
    lines_of (flat_map (slot_line bytes) slots ++ codes "end\n")
    ≡ record { whole = map (words_at bytes) slots ++ codes "end" ∷ []; rest = [] }
lines_slots bytes [] few = refl
lines_slots bytes (t ∷ rest) few =
    let one : IsFew bytes t = All-head (IsFew bytes) t rest few in
    let after = flat_map (slot_line bytes) rest ++ codes "end\n" in
    let shape : (slot_line bytes t ++ flat_map (slot_line bytes) rest) ++ codes "end\n" ≡ words_at bytes t
    ++ 10 ∷ after =
    append_assoc (slot_line bytes t) (flat_map (slot_line bytes) rest) (codes "end\n")
    ∙ append_assoc (words_at bytes t) (10 ∷ []) after in
    let with_line : Lines → Lines = λ ls. record { whole = words_at bytes t ∷ ls.whole; rest = ls.rest } in
    ap lines_of shape ∙ lines-cut (words_at bytes t) after (clean_words t (bytes t) one.0 one.1)
    ∙ ap with_line (lines_slots bytes rest (All-tail (IsFew bytes) t rest few))

abbrev pub lines_told : ℕ → (ℕ → ℕ) → List (List ℕ)
lines_told from bytes = first_words from ∷ (map (words_at bytes) (booked_slots from bytes) ++ codes "end" ∷ [])

pub lines_text : (from : ℕ) (bytes : ℕ → ℕ) → from < 2 ^ 64 → All (IsFew bytes) (booked_slots from bytes) →
    lines_of (calendar_text from bytes) ≡ record { whole = lines_told from bytes; rest = [] }
lines_text from bytes small few =
    let first = first_words from in
    let slots = flat_map (slot_line bytes) (booked_slots from bytes) in
    let after = slots ++ codes "end\n" in
    let shape : calendar_text from bytes ≡ first ++ 10 ∷ after =
    append_assoc (first ++ codes "\n") slots (codes "end\n") ∙ append_assoc first (codes "\n") after in
    let with_first : Lines → Lines = λ ls. record { whole = first ∷ ls.whole; rest = ls.rest } in
    ap lines_of shape ∙ lines-cut first after (clean_field (codes "calendar from=") from refl small)
    ∙ ap with_first (lines_slots bytes (booked_slots from bytes) few)

lines_calendar : (from : ℕ) (bytes : ℕ → ℕ) → from < 2 ^ 64 → All (IsFew bytes) (booked_slots from bytes)
    → calendar_lines from bytes ≡ lines_told from bytes
unfolding calendar_lines
lines_calendar from bytes small few = ap (λ (ls : Lines). ls.whole) (lines_text from bytes small few)

-- ---- the slots in which bytes are booked
pub all_booked : (bytes : ℕ → ℕ) (Q : ℕ → Type 0) (a n : ℕ) → ((t : ℕ) → a ≤ t → t < a + n → 0 < bytes t → Q t)
    → All Q (booked_among bytes (range_with_len a n))
all_booked bytes Q a zero each = All-nil Q
all_booked bytes Q a (suc n) each =
    pick (nat_lt 0 (bytes a)) refl
    (all_booked bytes Q (a + 1) n (λ t after inside some. each t (omega arith) (omega arith) some))
  where
    rest : List ℕ
    rest = booked_among bytes (range_with_len (a + 1) n)

    pick : (b : Bool) → nat_lt 0 (bytes a) ≡ b → All Q rest → All Q (cond b (a ∷ rest) rest)
    pick true is others = All-cons Q a rest (each a (omega arith) (omega arith) (ltb-true 0 (bytes a) is)) others
    pick false is others = others

pub booked_stands : {slot : ℕ} (bytes : ℕ → ℕ) (a n : ℕ) → (a ≤ slot) × (slot < a + n) → 0 < bytes slot
    → Contains (booked_among bytes (range_with_len a n)) slot
booked_stands {slot} bytes a zero within some = absurd (omega (arith, within.0, within.1))
booked_stands {slot} bytes a (suc n) within some = elim (cases_lt a slot) [
  | inl later ↦ over (nat_lt 0 (bytes a))
      (booked_stands bytes (a + 1) n (omega (arith, later), omega (arith, within.1)) some)
  | inr first ↦ (
      let here : a ≡ slot = omega (arith, first, within.0) in
      let booked : 0 < bytes a = subst (λ t. 0 < bytes t) (sym here) some in
      let P : Bool → Type 0 =
      λ b. Contains
      (cond b (a ∷ booked_among bytes (range_with_len (a + 1) n)) (booked_among bytes (range_with_len (a + 1) n)))
      slot in
      subst P (sym (lt-ltb 0 (bytes a) booked)) (0, omega arith, here)
      )
]
  where
    over : (b : Bool) → Contains (booked_among bytes (range_with_len (a + 1) n)) slot
        → Contains (cond b (a ∷ booked_among bytes (range_with_len (a + 1) n))
        (booked_among bytes (range_with_len (a + 1) n))) slot
    over true stands = Contains-append_right (a ∷ []) (booked_among bytes (range_with_len (a + 1) n)) slot stands
    over false stands = stands

contains_map : (f : ℕ → List ℕ) (xs : List ℕ) (x : ℕ) → Contains xs x → Contains (map f xs) (f x)
contains_map f xs x stands =
    (stands.0, omega (arith, stands.1, length-map xs f), get_or-map f xs stands.0 x (f x) stands.1 ∙ ap f stands.2)

all_map : (P : List ℕ → Type 0) (f : ℕ → List ℕ) (xs : List ℕ) → All (λ t. P (f t)) xs → All P (map f xs)
all_map P f [] each = All-nil P
all_map P f (x ∷ xs) each =
    All-cons P (f x) (map f xs) (All-head (λ t. P (f t)) x xs each) (all_map P f xs (All-tail (λ t. P (f t)) x xs each))

-- ---- what a line states
-- a slot and bytes as a line may state them
pub record StatedSlot : Type 0 where
  pub slot : ℕ
  pub booked : ℕ
  pub small : slot < 2 ^ 64
  pub few : booked < 2 ^ 64

same_words : (one other : StatedSlot) → slot_words one.slot one.booked ≡ slot_words other.slot other.booked
    → (one.slot ≡ other.slot) × (one.booked ≡ other.booked)
same_words one other e =
    let s = one.slot in
    let b = one.booked in
    let t = other.slot in
    let c = other.booked in
    let shape : (m n : ℕ) → slot_words m n ≡ codes "at " ++ (decimal m ++ 32 ∷ (codes "booked=" ++ decimal n)) =
    λ m n. append_assoc (codes "at ") (decimal m) (field (codes " booked=") n) in
    let rest : decimal s ++ 32 ∷ (codes "booked=" ++ decimal b) ≡ decimal t ++ 32 ∷ (codes "booked=" ++ decimal c) =
    append_cancel_left (codes "at ") (decimal s ++ 32 ∷ (codes "booked=" ++ decimal b))
    (decimal t ++ 32 ∷ (codes "booked=" ++ decimal c)) (sym (shape s b) ∙ e ∙ shape t c) in
    let no_space : (n : ℕ) → n < 2 ^ 64 → All (λ b. b ≢ 32) (decimal n) =
    λ (n : ℕ) small. not_in_decimal 32 n small (λ within. omega (arith, within.0)) in
    let parts = split_once {after = codes "booked=" ++ decimal b} {after' = codes "booked=" ++ decimal c} 32
    (decimal s) (decimal t) rest
    (no_space s one.small) (no_space t other.small) in (
      decimal_injective s t one.small other.small parts.0,
      decimal_injective b c one.few other.few (append_cancel_left (codes "booked=") (decimal b) (decimal c) parts.1),
    )

-- a line of this slot states its booked bytes, above 0, and the slot isn't before now
abbrev TellsOf : ℕ → (ℕ → ℕ) → ℕ → ℕ → List ℕ → Type 0
TellsOf from bytes slot booked line = line ≡ slot_words slot booked
    → (booked ≡ bytes slot) × (0 < booked) × (from ≤ slot)

pub few_slots : (from : ℕ) (bytes : ℕ → ℕ) → AreBookings from bytes
    → All (IsFew bytes) (booked_slots from bytes)
unfolding booked_slots
few_slots from bytes kept =
    all_booked bytes (IsFew bytes) from ring_slots
    (λ t after inside some. (omega (arith, kept.first_small, inside), omega (arith, kept.few t after)))

tells_all : {from : ℕ} {bytes : ℕ → ℕ} (told : StatedSlot) → AreBookings from bytes
    → All (TellsOf from bytes told.slot told.booked) (map (words_at bytes) (booked_slots from bytes))
unfolding booked_slots
tells_all {from} {bytes} told kept =
    let P = TellsOf from bytes told.slot told.booked in
    all_map P (words_at bytes) (booked_slots from bytes)
    (all_booked bytes (λ t. P (words_at bytes t)) from ring_slots (λ t after inside some e.
    let same = same_words told (record {
      slot = t;
      booked = bytes t;
      small = omega (arith, kept.first_small, inside);
      few = omega (arith, kept.few t after);
    }) (sym e) in
    (same.1 ∙ ap bytes (sym same.0), omega (arith, some, same.1), omega (arith, after, same.0))))

pub line_stands : {from : ℕ} {bytes : ℕ → ℕ} (slot : ℕ) → AreBookings from bytes → from ≤ slot → 0 < bytes slot
    → Contains (calendar_lines from bytes) (words_at bytes slot)
unfolding booked_slots
line_stands {from} {bytes} slot kept after some =
    let slots = map (words_at bytes) (booked_slots from bytes) in
    let line = words_at bytes slot in
    let inside : slot < from + ring_slots = elim (cases_lt slot (from + ring_slots)) [
      | inl inside ↦ inside
      | inr past ↦ absurd (omega (arith, kept.past slot past, some))
    ] in
    let stands =
    contains_map (words_at bytes) (booked_slots from bytes) slot
    (booked_stands bytes from ring_slots (after, inside) some) in
    subst (λ (ls : List (List ℕ)). Contains ls line)
    (sym (lines_calendar from bytes (omega (arith, kept.first_small)) (few_slots from bytes kept)))
    (Contains-append_right (first_words from ∷ []) (slots ++ codes "end" ∷ []) line
    (Contains-append_left slots (codes "end" ∷ []) line stands))

pub line_tells : {from : ℕ} {bytes : ℕ → ℕ} (told : StatedSlot) → AreBookings from bytes
    → Contains (calendar_lines from bytes) (slot_words told.slot told.booked)
    → (told.booked ≡ bytes told.slot) × (0 < told.booked) × (from ≤ told.slot)
line_tells {from} {bytes} told kept stands =
    let P = TellsOf from bytes told.slot told.booked in
    let line = slot_words told.slot told.booked in
    let slots = map (words_at bytes) (booked_slots from bytes) in
    let no_first : P (first_words from) =
    λ e. absurd (let first : 99 ≡ 97 = ap (λ (l : List ℕ). get_or l 0 0) e in omega (arith, first)) in
    let no_end : P (codes "end") =
    λ e. absurd (let first : 101 ≡ 97 = ap (λ (l : List ℕ). get_or l 0 0) e in omega (arith, first)) in
    let tells : All P (lines_told from bytes) =
    All-cons P (first_words from) (slots ++ codes "end" ∷ []) no_first
    (All-append P slots (codes "end" ∷ []) (tells_all told kept)
    (All-cons P (codes "end") [] no_end (All-nil P))) in
    let among : Contains (lines_told from bytes) line =
    subst (λ (ls : List (List ℕ)). Contains ls line)
    (lines_calendar from bytes (omega (arith, kept.first_small)) (few_slots from bytes kept)) stands in
    All-get_or P (lines_told from bytes) among.0 line among.1 tells among.2
