-- Parts of items, one byte more.
use Rattle.std.proofs.Common.{◌≡◌, ℕ, ◌+◌, ◌-◌, ◌*◌, ◌/◌, ◌≤◌, ◌==◌, true, false, cond, min, nat_le}
use Rattle.std.proofs.Common.{List, [], ◌∷◌, ◌++◌, length, drop, Option, Some, None, refl, sym, ap}
use Rattle.std.proofs.Common.{subst, ◌∙◌, arith, inl, inr, ne_eqb, eq-eqb}
use Rattle.std.specs.Prelude.{IsSome, unwrap_or, replicate}
use Rattle.std.proofs.lemmas.Bool.{cases_eq, cond-true, cond-false, both_ways}
use Rattle.std.proofs.lemmas.Bool.Decides.{nat_tests}
use Rattle.std.proofs.lemmas.List.{append_assoc, append-nil, length-append, length-replicate}
use Rattle.std.proofs.lemmas.List.{replicate_more, replicate-append-replicate, nil_from_length}
use Rattle.sys_demux.specs.PacketContents.{video_in, from_stuffing, after_bytes}
use Rattle.sys_demux.specs.StreamItems.{with_prefix, choose, is_chosen}
use Rattle.sys_demux.specs.StreamItems.Item.{Pack, Packet}
use Rattle.sys_demux.specs.SystemStreams.{IsBadPacket}
use Rattle.sys_demux.specs.ParserStates.{video_from, IsDone, IsAtZeros, IsAtPrefix, IsAtHeader, IsAtRest}
use Rattle.sys_demux.specs.ParserStates.{IsPart, LeadsTo, Part, of_item, place_in, with_byte}
use Rattle.sys_demux.specs.declared.faults.SystemFault.TheVariants.{BadPacket}
use Rattle.sys_demux.specs.declared.headers.Header.{Header}
use Rattle.sys_demux.specs.declared.parser_states.ParserState.{ParserState}
use Rattle.sys_demux.specs.declared.headers.Header.TheVariants.{Stuffing, Second, Stamp, Rest}
use Rattle.sys_demux.specs.declared.parser_states.ParserState.TheVariants.{Zeros, InHeader, Pass, Video, Failed}

pub prefixed_more : (zeros : ℕ) (rest more : List ℕ) → with_prefix zeros rest ++ more ≡ with_prefix zeros (rest ++ more)
prefixed_more zeros rest more = append_assoc (replicate zeros 0) (0 ∷ 0 ∷ 1 ∷ rest) more

pub length_prefixed : (zeros : ℕ) (rest : List ℕ) → length (with_prefix zeros rest) ≡ zeros + 3 + length rest
length_prefixed zeros rest =
    length-append (replicate zeros 0) (0 ∷ 0 ∷ 1 ∷ rest) ∙ omega (arith, length-replicate {A = ℕ} zeros 0)

-- bytes 00
pub zeros_more : {p : Part} {zeros byte : ℕ} → IsAtZeros p zeros → byte ≡ 0
    → IsAtZeros (with_byte p byte) (min zeros 1 + 1)
zeros_more {byte} h zero_is = record {
  count = h.count + 1;
  are =
      ap (λ (l : List ℕ). l ++ byte ∷ []) h.are ∙ ap (λ b. replicate h.count 0 ++ b ∷ []) zero_is
      ∙ replicate_more h.count 0;
  zeros_are = omega (arith, h.zeros_are);
  now_is = h.now_is;
  none = h.none;
}

-- a prefix after two of them or more
pub zeros_prefix : {p : Part} {zeros byte : ℕ} → IsAtZeros p zeros → byte ≡ 1 → 2 ≤ zeros
    → IsAtPrefix (with_byte (of_item p (p.after.start + length p.bytes - 2)) byte) [] p.after.chosen
zeros_prefix {p} {byte} h one many =
    let two : 2 ≤ h.count = omega (arith, many, h.zeros_are) in
    let size : length p.bytes ≡ h.count = ap length h.are ∙ length-replicate {A = ℕ} h.count 0 in
    let split : replicate {A = ℕ} h.count 0 ≡ replicate (h.count - 2) 0 ++ (0 ∷ 0 ∷ []) =
    ap (λ n. replicate n 0) (let n : h.count ≡ h.count - 2 + 2 = omega arith in n)
    ∙ sym (replicate-append-replicate (h.count - 2) 2 0) in
    record {
      zeros = h.count - 2;
      are = ap (λ (l : List ℕ). l ++ byte ∷ []) (h.are ∙ split)
          ∙ ap (λ b. (replicate (h.count - 2) 0 ++ (0 ∷ 0 ∷ [])) ++ b ∷ []) one
          ∙ append_assoc (replicate (h.count - 2) 0) (0 ∷ 0 ∷ []) (1 ∷ []);
      place_is = omega (arith, two, size);
      now_is = h.now_is;
      none = h.none;
    }

-- a pack header
pub pack_begins : {p : Part} (mark : ℕ) → IsAtPrefix p (186 ∷ []) p.after.chosen → mark / 16 ≡ 2
    → IsAtRest (with_byte p mark) 7 (λ rest. [])
pack_begins {p} mark h is =
    let grown : p.bytes ++ mark ∷ [] ≡ with_prefix h.zeros (186 ∷ mark ∷ []) =
    ap (λ (l : List ℕ). l ++ mark ∷ []) h.are ∙ prefixed_more h.zeros (186 ∷ []) (mark ∷ []) in
    record {
      zeros = h.zeros;
      begun = omega (arith, ap length grown, length_prefixed h.zeros (186 ∷ mark ∷ []));
      some = omega arith;
      ends = λ rest long. record {
        item = Pack h.zeros (mark ∷ rest);
        is_item = record { eight = omega (arith, long); mark = is };
        bytes_are = sym (ap (λ (l : List ℕ). l ++ rest) grown ∙ prefixed_more h.zeros (186 ∷ mark ∷ []) rest);
        zeros_are = refl;
        next_is = sym h.now_is;
        video_is = sym (ap (λ (l : List ℕ). l ++ []) h.none);
      };
      place_is = h.place_is;
    }

-- a part that so many bytes end, none or more
pub record HasRest (p : Part) (left : ℕ) (video : List ℕ → List ℕ) : Type 0 where
  pub zeros : ℕ
  pub begun : zeros + 3 ≤ length p.bytes
  pub ends : (rest : List ℕ) → length rest ≡ left →
      IsDone (record p { bytes = p.bytes ++ rest; kept = p.kept ++ video rest }) zeros
  pub place_is : p.place ≡ p.after.start + zeros

-- where there is none, an item ends
rest_leads : {p : Part} {left : ℕ} {video : List ℕ → List ℕ} (state : ParserState) → HasRest p left video
    → video [] ≡ [] → (IsAtRest p left video → IsPart p state) → LeadsTo p (cond (left == 0) (Zeros 0) state)
rest_leads {p} {left} {video} state h none at =
    elim (cases_eq left 0) [
      | inl is ↦
          (let done = h.ends [] (sym is) in
          let bytes : p.bytes ++ [] ≡ p.bytes = append-nil p.bytes in
          let kept : p.kept ++ video [] ≡ p.kept = ap (λ (l : List ℕ). p.kept ++ l) none ∙ append-nil p.kept in
          inr (
            h.zeros,
            (
              subst (λ (l : List ℕ). IsDone (record p { bytes = l }) h.zeros) bytes
                  (subst (λ (l : List ℕ). IsDone (record p { bytes = p.bytes ++ []; kept = l }) h.zeros) kept done),
              cond-true (left == 0) (Zeros 0) state (eq-eqb left 0 is),
            ),
          ))
      | inr some ↦
          inl (subst (λ s. IsPart p s) (sym (cond-false (left == 0) (Zeros 0) state (ne_eqb left 0 some))) (at (record {
            zeros = h.zeros;
            begun = h.begun;
            some = omega (arith, some);
            ends = h.ends;
            place_is = h.place_is;
          })))
    ]

pub pass_leads : {p : Part} {left : ℕ} → HasRest p left (λ rest. [])
    → LeadsTo p (cond (left == 0) (Zeros 0) (Pass left))
pass_leads {left} h = rest_leads (Pass left) h refl (λ at. at)

pub video_leads : {p : Part} {left : ℕ} → HasRest p left (λ rest. rest)
    → LeadsTo p (cond (left == 0) (Zeros 0) (Video left))
video_leads {left} h = rest_leads (Video left) h refl (λ at. at)

-- bytes of the rest, of which all are video or none
pub rest_more : {p : Part} {left : ℕ} {video : List ℕ → List ℕ} (taken : List ℕ) → IsAtRest p left video
    → length taken ≤ left → ((rest : List ℕ) → video (taken ++ rest) ≡ video taken ++ video rest)
    → HasRest (record p { bytes = p.bytes ++ taken; kept = p.kept ++ video taken }) (left - length taken) video
rest_more {p} {left} {video} taken h within split = record {
  zeros = h.zeros;
  begun = omega (arith, h.begun, length-append p.bytes taken);
  ends = λ rest long.
      subst (λ (l : List ℕ). IsDone (record p {
        bytes = l;
        kept = (p.kept ++ video taken) ++ video rest;
      }) h.zeros) (sym (append_assoc p.bytes taken rest))
      (subst (λ (l : List ℕ). IsDone (record p { bytes = p.bytes ++ (taken ++ rest); kept = l }) h.zeros)
      (ap (λ (l : List ℕ). p.kept ++ l) (split rest) ∙ sym (append_assoc p.kept (video taken) (video rest)))
      (h.ends (taken ++ rest) (omega (arith, length-append taken rest, long, within))));
  place_is = h.place_is;
}

-- the length of a packet ends with this byte
pub record LengthRead (p : Part) : Type 0 where
  pub value : ℕ
  pub high : ℕ
  pub low : ℕ
  pub at_prefix : IsAtPrefix p (value ∷ high ∷ []) (choose p.after.chosen value)
  pub value_is : 187 ≤ value

abbrev pub total_of : {p : Part} → LengthRead p → ℕ
total_of read = read.high * 256 + read.low

length_grown : {p : Part} (read : LengthRead p)
    → p.bytes ++ read.low ∷ [] ≡ with_prefix read.at_prefix.zeros (read.value ∷ read.high ∷ read.low ∷ [])
length_grown read =
    ap (λ (l : List ℕ). l ++ read.low ∷ []) read.at_prefix.are
    ∙ prefixed_more read.at_prefix.zeros (read.value ∷ read.high ∷ []) (read.low ∷ [])

-- a packet of another stream
pub length_passed : {p : Part} (read : LengthRead p)
    → is_chosen (choose p.after.chosen read.value) read.value ≡ false
    → LeadsTo (with_byte p read.low) (cond (total_of read == 0) (Zeros 0) (Pass (total_of read)))
length_passed {p} read other = pass_leads (record {
  zeros = h.zeros;
  begun = omega (arith, ap length grown, length_prefixed h.zeros (value ∷ high ∷ low ∷ []));
  ends = λ rest long. record {
    item = Packet h.zeros value high low rest;
    is_item = record {
      value_is = value_is;
      length_is = long;
      header = λ chosen. absurd (both_ways (is_chosen (choose p.after.chosen value) value) other chosen);
    };
    bytes_are = sym (ap (λ (l : List ℕ). l ++ rest) grown
        ∙ prefixed_more h.zeros (value ∷ high ∷ low ∷ []) rest);
    zeros_are = refl;
    next_is = sym h.now_is;
    video_is = cond-false (is_chosen (choose p.after.chosen value) value) (unwrap_or (video_in rest) []) [] other
        ∙ sym (ap (λ (l : List ℕ). l ++ []) h.none);
  };
  place_is = h.place_is;
})
  where
    open read use {value, high, low, at_prefix as h, value_is}

    grown : p.bytes ++ low ∷ [] ≡ with_prefix h.zeros (value ∷ high ∷ low ∷ [])
    grown = length_grown read

-- a packet of the chosen stream has no content
pub length_none : {p : Part} (read : LengthRead p)
    → is_chosen (choose p.after.chosen read.value) read.value ≡ true → total_of read ≡ 0
    → LeadsTo (with_byte p read.low) (Failed (BadPacket p.place))
unfolding video_in
length_none {p} read chosen none =
    let bad : IsBadPacket p.after.chosen p.after.start (p.bytes ++ low ∷ []) p.place = record {
      zeros = h.zeros;
      value = value;
      high = high;
      low = low;
      front = [];
      rest = [];
      is = length_grown read;
      value_is = value_is;
      chosen_is = chosen;
      within = omega arith;
      none = λ more long. ap (λ (l : List ℕ). from_stuffing 16 l)
          (nil_from_length more (omega (arith, long, none)));
      place_is = h.place_is;
    } in
    inl (bad, h.none, tt)
  where
    open read use {value, high, low, at_prefix as h, value_is}

-- it has some content
pub length_header : {p : Part} (read : LengthRead p)
    → is_chosen (choose p.after.chosen read.value) read.value ≡ true
    → LeadsTo (with_byte p read.low) (InHeader (Stuffing 0) (total_of read))
unfolding video_in
length_header read chosen =
    inl (record {
      zeros = h.zeros;
      value = value;
      high = high;
      low = low;
      front = [];
      are = length_grown read;
      value_is = value_is;
      chosen_is = chosen;
      length_is = omega arith;
      video_is = λ rest long. refl;
      place_is = h.place_is;
      now_is = h.now_is;
      none = h.none;
    })
  where
    open read use {value, high, low, at_prefix as h, value_is}

-- one byte more of a content
front_more : {part : List ℕ} (zeros : ℕ) (front : List ℕ) (byte : ℕ) → part ≡ with_prefix zeros front
    → part ++ byte ∷ [] ≡ with_prefix zeros (front ++ byte ∷ [])
front_more zeros front byte are = ap (λ (l : List ℕ). l ++ byte ∷ []) are ∙ prefixed_more zeros front (byte ∷ [])

-- a byte of a header, with so many bytes of the packet after it
pub record HeaderByte (p : Part) : Type 0 where
  pub header : Header
  pub byte : ℕ
  pub left : ℕ
  pub at : IsAtHeader p header (left + 1)

-- a byte that no content has there
pub header_bad : {p : Part} (b : HeaderByte p)
    → ((rest : List ℕ) → length rest ≡ b.left → video_from b.header (b.byte ∷ rest) ≡ None)
    → LeadsTo (with_byte p b.byte) (Failed (BadPacket p.place))
header_bad {p} b none =
    let size : length (h.front ++ byte ∷ []) ≡ length h.front + 1 = length-append h.front (byte ∷ []) in
    let bad : IsBadPacket p.after.chosen p.after.start (p.bytes ++ byte ∷ []) p.place = record {
      zeros = h.zeros;
      value = h.value;
      high = h.high;
      low = h.low;
      front = h.front ++ byte ∷ [];
      rest = [];
      is = front_more h.zeros (h.value ∷ h.high ∷ h.low ∷ h.front) byte h.are
          ∙ ap (λ (l : List ℕ). with_prefix h.zeros (h.value ∷ h.high ∷ h.low ∷ l))
          (sym (append-nil (h.front ++ byte ∷ [])));
      value_is = h.value_is;
      chosen_is = h.chosen_is;
      within = omega (arith, size, h.length_is);
      none = λ more long.
          ap video_in (append_assoc h.front (byte ∷ []) more)
          ∙ h.video_is (byte ∷ more) (omega (arith, long, size, h.length_is))
          ∙ none more (omega (arith, long, size, h.length_is));
      place_is = h.place_is;
    } in
    inl (bad, h.none, tt)
  where
    open b use {byte, at as h}

-- a complete packet of the chosen stream
chosen_done : {p : Part} (b : HeaderByte p) (rest : List ℕ) → length rest ≡ b.left
    → video_from b.header (b.byte ∷ rest) ≡ Some rest
    → IsDone (record p { bytes = (p.bytes ++ b.byte ∷ []) ++ rest; kept = p.kept ++ rest }) b.at.zeros
chosen_done {p} b rest long is =
    let content = (h.front ++ byte ∷ []) ++ rest in
    let found : video_in content ≡ Some rest =
    ap video_in (append_assoc h.front (byte ∷ []) rest) ∙ h.video_is (byte ∷ rest) (omega (arith, long)) ∙ is in
    let P : Option (List ℕ) → Type 0 = IsSome in
    record {
      item = Packet h.zeros h.value h.high h.low content;
      is_item = record {
        value_is = h.value_is;
        length_is = omega (
          arith,
          length-append (h.front ++ byte ∷ []) rest,
          length-append h.front (byte ∷ []),
          long,
          h.length_is,
        );
        header = λ _. subst P (sym found) refl;
      };
      bytes_are = sym
          (ap (λ (l : List ℕ). l ++ rest) (front_more h.zeros (h.value ∷ h.high ∷ h.low ∷ h.front) byte h.are)
          ∙ prefixed_more h.zeros (h.value ∷ h.high ∷ h.low ∷ (h.front ++ byte ∷ [])) rest);
      zeros_are = refl;
      next_is = sym h.now_is;
      video_is = cond-true (is_chosen (choose p.after.chosen h.value) h.value) (unwrap_or (video_in content) []) []
          h.chosen_is ∙ ap (λ o. unwrap_or o []) found ∙ sym (ap (λ (l : List ℕ). l ++ rest) h.none);
    }
  where
    open b use {byte, at as h}

after_none : (rest : List ℕ) → after_bytes 0 rest ≡ Some rest
after_none rest = cond-true (nat_le 0 (length rest)) (Some (drop 0 rest)) None (grind (arith, nat_tests))

-- a byte after which the header goes on
goes_on : {p : Part} (b : HeaderByte p) (next : Header)
    → ((rest : List ℕ) → length rest ≡ b.left → video_from b.header (b.byte ∷ rest) ≡ video_from next rest)
    → IsAtHeader (with_byte p b.byte) next b.left
goes_on b next same =
    let size : length (h.front ++ byte ∷ []) ≡ length h.front + 1 = length-append h.front (byte ∷ []) in
    record {
      zeros = h.zeros;
      value = h.value;
      high = h.high;
      low = h.low;
      front = h.front ++ byte ∷ [];
      are = front_more h.zeros (h.value ∷ h.high ∷ h.low ∷ h.front) byte h.are;
      value_is = h.value_is;
      chosen_is = h.chosen_is;
      length_is = omega (arith, size, h.length_is);
      video_is = λ rest long. ap video_in (append_assoc h.front (byte ∷ []) rest)
          ∙ h.video_is (byte ∷ rest) (omega (arith, long)) ∙ same rest long;
      place_is = h.place_is;
      now_is = h.now_is;
      none = h.none;
    }
  where
    open b use {byte, at as h}

-- a byte after which the video begins
video_begins : {p : Part} (b : HeaderByte p)
    → ((rest : List ℕ) → length rest ≡ b.left → video_from b.header (b.byte ∷ rest) ≡ Some rest)
    → LeadsTo (with_byte p b.byte) (cond (b.left == 0) (Zeros 0) (Video b.left))
video_begins {p} b same = video_leads (record {
  zeros = h.zeros;
  begun = omega (
    arith,
    ap length h.are,
    length_prefixed h.zeros (h.value ∷ h.high ∷ h.low ∷ h.front),
    length-append p.bytes (byte ∷ []),
  );
  ends = λ rest long. chosen_done b rest long (same rest long);
  place_is = h.place_is;
})
  where
    open b use {byte, at as h}

pub header_leads : {p : Part} (b : HeaderByte p) (next : Header)
    → ((rest : List ℕ) → length rest ≡ b.left → video_from b.header (b.byte ∷ rest) ≡ video_from next rest)
    → LeadsTo (with_byte p b.byte) (place_in next b.left)
header_leads b (Stuffing count) same = inl (goes_on b (Stuffing count) same)
header_leads b Second same = inl (goes_on b Second same)
header_leads b Stamp same = inl (goes_on b Stamp same)
header_leads {p} b (Rest count) same =
    let video = cond (b.left == 0) (Zeros 0) (Video b.left) in
    let Leads = λ (s : ParserState). LeadsTo (with_byte p b.byte) s in
    elim (cases_eq count 0) [
      | inl whole ↦
          subst Leads (sym (cond-true (count == 0) video (InHeader (Rest count) b.left) (eq-eqb count 0 whole)))
          (video_begins b (λ rest long. same rest long ∙ ap (λ n. after_bytes n rest) whole ∙ after_none rest))
      | inr some ↦
          subst Leads (sym (cond-false (count == 0) video (InHeader (Rest count) b.left) (ne_eqb count 0 some)))
          (inl (goes_on b (Rest count) same))
    ]

-- the first byte of a packet's length
pub high_more : {p : Part} {value byte : ℕ} {wanted : Option ℕ} → IsAtPrefix p (value ∷ []) wanted
    → IsAtPrefix (with_byte p byte) (value ∷ byte ∷ []) wanted
high_more {value} {byte} h = record {
  zeros = h.zeros;
  are = ap (λ (l : List ℕ). l ++ byte ∷ []) h.are ∙ prefixed_more h.zeros (value ∷ []) (byte ∷ []);
  place_is = h.place_is;
  now_is = h.now_is;
  none = h.none;
}
