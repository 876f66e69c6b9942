-- Reading a text line by line, against all its lines.
use Rattle.std.proofs.Common.{◌≡◌, ◌≢◌, ◌<◌, ◌+◌, ◌⊎◌, ℕ, true, false, not, ◌==◌, List, [], ◌∷◌, ◌++◌, All, length}
use Rattle.std.proofs.Common.{get_or, drop, decimal, codes, flat_map, inl, inr, arith, refl, sym, ap, subst, ◌∙◌}
use Rattle.std.proofs.Common.{ne_eqb, below_more, add-zero}
use Rattle.std.specs.List.{list_all}
use Rattle.std.proofs.lemmas.Bool.{cases_Bool, cond-true, cond-false}
use Rattle.std.proofs.lemmas.List.{append-nil, append_assoc, drop-drop, length-drop, get_or-drop}
use Rattle.std.proofs.lemmas.List.Concat.{flat_map-append}
use Rattle.std.proofs.lemmas.List.Elements.{All-head, All-tail}
use Rattle.vod_base.specs.Splits.{IsSplitAtFirst}
use Rattle.vod_base.proofs.SplitLemmas.{none_is}
use Rattle.plan_cert.specs.declared.Segment.{Segment}
use Rattle.plan_cert.specs.CertFormat.{segment_words, segment_line, cert_head}
use Rattle.plan_cert.specs.CertGrammar.{Lines, with_front, lines_of, line_at, IsNumberLine, IsSegmentLine, MayStand}
use Rattle.plan_cert.specs.CertGrammar.{MayEnd, BreaksAt, IsAfterEnd, HasReadLines}
use Rattle.plan_cert.specs.CertGrammar.MayStand.{Title, Slots, Bytes, SegmentLine}

-- a text that begins with a complete line
pub lines-cut : (front after : List ℕ) → All (λ b. b ≢ 10) front →
    lines_of (front ++ 10 ∷ after) ≡ record { whole = front ∷ (lines_of after).whole; rest = (lines_of after).rest }
lines-cut [] after none = refl
lines-cut (x ∷ front) after none =
    let other : (x == 10) ≡ false = ne_eqb x 10 (All-head (λ b. b ≢ 10) x front none) in
    let rest : lines_of (front ++ 10 ∷ after)
    ≡ record { whole = front ∷ (lines_of after).whole; rest = (lines_of after).rest } =
    lines-cut front after (All-tail (λ b. b ≢ 10) x front none) in
    cond-false (x == 10)
    (record { whole = [] ∷ (lines_of (front ++ 10 ∷ after)).whole; rest = (lines_of (front ++ 10 ∷ after)).rest })
    (with_front x (lines_of (front ++ 10 ∷ after)).whole (lines_of (front ++ 10 ∷ after)).rest) other
    ∙ ap (λ ls. with_front x ls.whole ls.rest) rest

-- a text without LF has no complete line
pub lines-none : (text : List ℕ) → All (λ b. b ≢ 10) text → lines_of text ≡ record { whole = []; rest = text }
lines-none [] none = refl
lines-none (x ∷ text) none =
    let other : (x == 10) ≡ false = ne_eqb x 10 (All-head (λ b. b ≢ 10) x text none) in
    cond-false (x == 10) (record { whole = [] ∷ (lines_of text).whole; rest = (lines_of text).rest })
    (with_front x (lines_of text).whole (lines_of text).rest) other
    ∙ ap (λ ls. with_front x ls.whole ls.rest) (lines-none text (All-tail (λ b. b ≢ 10) x text none))

-- a text that isn't empty has a complete line, or bytes after its lines
pub something : (text : List ℕ) → text ≢ [] → (0 < length (lines_of text).whole) ⊎ ((lines_of text).rest ≢ [])
something [] some = absurd (some refl)
something (x ∷ text) some =
    elim (cases_Bool (x == 10)) [
      | inl lf ↦ (
          let is = cond-true (x == 10)
          (record { whole = [] ∷ (lines_of text).whole; rest = (lines_of text).rest })
          (with_front x (lines_of text).whole (lines_of text).rest) lf in
          let e : length (lines_of (x ∷ text)).whole ≡ length (lines_of text).whole + 1 =
          ap (λ ls. length ls.whole) is ∙ omega arith in
          inl (omega (arith, e))
          )
      | inr other ↦ (
          let is = cond-false (x == 10)
          (record { whole = [] ∷ (lines_of text).whole; rest = (lines_of text).rest })
          (with_front x (lines_of text).whole (lines_of text).rest) other in
          let P : Lines → Type 0 = λ ls. (0 < length ls.whole) ⊎ (ls.rest ≢ []) in
          subst P (sym is) (front_some (lines_of text).whole (lines_of text).rest)
          )
    ]
  where
    front_some : (whole : List (List ℕ)) (rest : List ℕ)
        → (0 < length (with_front x whole rest).whole) ⊎ ((with_front x whole rest).rest ≢ [])
    front_some [] rest = inr (λ e. cc)
    front_some (line ∷ lines) rest = inl (omega arith)

-- nothing is read yet
pub read_none : (text : List ℕ) → HasReadLines text 0 text
read_none text = record {
  within = omega arith;
  left = refl;
  after = refl;
  before = λ j few. absurd (omega (arith, few));
}

-- the lines before line k are read, and what is left begins with it: it is the next line of the text
pub record IsNext (text : List ℕ) (k : ℕ) (line after : List ℕ) : Type 0 where
  pub inside : k < length (lines_of text).whole
  pub line_is : line_at (lines_of text) k ≡ line
  pub left : drop (k + 1) (lines_of text).whole ≡ (lines_of after).whole
  pub rest : (lines_of text).rest ≡ (lines_of after).rest
  pub before : (j : ℕ) → j < k → MayStand j (line_at (lines_of text) j)

pub next_is : {text : List ℕ} {k : ℕ} {rest line after : List ℕ} → HasReadLines text k rest
    → IsSplitAtFirst 10 rest line after → IsNext text k line after
next_is {text} {k} {rest} {line} {after} read cut =
    let lines : lines_of rest ≡ record { whole = line ∷ (lines_of after).whole; rest = (lines_of after).rest } =
    ap lines_of cut.parts ∙ lines-cut line after (none_is 10 line cut.first) in
    let left : drop k (lines_of text).whole ≡ line ∷ (lines_of after).whole = read.left ∙ ap (λ ls. ls.whole) lines in
    let count : length (drop k (lines_of text).whole) ≡ length (lines_of after).whole + 1 =
    ap length left ∙ omega arith in
    let at : get_or (drop k (lines_of text).whole) 0 [] ≡ get_or (lines_of text).whole (k + 0) [] =
    get_or-drop k (lines_of text).whole 0 [] in
    record {
      inside = omega (arith, count, length-drop k (lines_of text).whole);
      line_is = ap (λ n. get_or (lines_of text).whole n []) (sym (add-zero k)) ∙ sym at
          ∙ ap (λ ls. get_or ls 0 []) left;
      left = sym (drop-drop 1 k (lines_of text).whole) ∙ ap (drop 1) left;
      rest = read.after ∙ ap (λ ls. ls.rest) lines;
      before = read.before;
    }

-- one line more
pub read_more : {text : List ℕ} {k : ℕ} {line after : List ℕ} → IsNext text k line after → MayStand k line
    → HasReadLines text (k + 1) after
read_more {text} {k} next stands = record {
  within = omega (arith, next.inside);
  left = next.left;
  after = next.rest;
  before = below_more _ _ next.before (subst (λ l. MayStand k l) (sym next.line_is) stands);
}

-- the text ends before line k does
pub breaks_missing : (text : List ℕ) (k : ℕ) (rest : List ℕ) → HasReadLines text k rest
    → list_all (λ b. not (b == 10)) rest ≡ true → BreaksAt (lines_of text) k
breaks_missing text k rest read none =
    let left : drop k (lines_of text).whole ≡ [] =
    read.left ∙ ap (λ ls. ls.whole) (lines-none rest (none_is 10 rest none)) in
    let count : length (drop k (lines_of text).whole) ≡ 0 = ap length left in
    record { before = read.before; here = inl (omega (arith, count, length-drop k (lines_of text).whole, read.within)) }

-- line k may not be there
pub breaks_here : {text : List ℕ} {k : ℕ} {line after : List ℕ} → IsNext text k line after
    → (¬ MayStand k line) × (¬ MayEnd k line) → BreaksAt (lines_of text) k
breaks_here {text} {k} next wrong = record {
  before = next.before;
  here = inr (
    next.inside,
    (λ stands. wrong.0 (subst (λ l. MayStand k l) next.line_is stands)),
    (λ ends. wrong.1 (subst (λ l. MayEnd k l) next.line_is ends)),
  );
}

-- something stands after the end
pub goes_after_end : {text : List ℕ} {k : ℕ} {line after : List ℕ} → IsNext text k line after
    → MayEnd k line × (after ≢ []) → IsAfterEnd (lines_of text) (k + 1)
goes_after_end {text} {k} {line} {after} next end =
    let count : length (drop (k + 1) (lines_of text).whole) ≡ length (lines_of after).whole = ap length next.left in
    record {
      last = k;
      last_is = refl;
      before = next.before;
      inside = next.inside;
      ends = subst (λ l. MayEnd k l) (sym next.line_is) end.0;
      more = elim (something after end.1) [
        | inl lines ↦ inl (omega (arith, lines, count, length-drop (k + 1) (lines_of text).whole))
        | inr left ↦ inr (λ e. left (sym next.rest ∙ e))
      ];
    }

-- what may not stand in each line
pub not_title : (line : List ℕ) → line ≢ codes "smooth 1" → MayStand 0 line → ⊥
not_title line other (Title i words) = other words
not_title line other (Slots n i number) = omega (arith, i)
not_title line other (Bytes n i number) = omega (arith, i)
not_title line other (SegmentLine s i few segment) = omega (arith, i)

pub not_slots : (line : List ℕ) → ((n : ℕ) → ¬ IsNumberLine (codes "slots ") line n) → MayStand 1 line → ⊥
not_slots line other (Title i words) = omega (arith, i)
not_slots line other (Slots n i number) = other n number
not_slots line other (Bytes n i number) = omega (arith, i)
not_slots line other (SegmentLine s i few segment) = omega (arith, i)

pub not_bytes : (line : List ℕ) → ((n : ℕ) → ¬ IsNumberLine (codes "bytes ") line n) → MayStand 2 line → ⊥
not_bytes line other (Title i words) = omega (arith, i)
not_bytes line other (Slots n i number) = omega (arith, i)
not_bytes line other (Bytes n i number) = other n number
not_bytes line other (SegmentLine s i few segment) = omega (arith, i)

pub not_segment : (k : ℕ) (line : List ℕ) → ((s : Segment) → ¬ IsSegmentLine line s) → MayStand (3 + k) line → ⊥
not_segment k line other (Title i words) = omega (arith, i)
not_segment k line other (Slots n i number) = omega (arith, i)
not_segment k line other (Bytes n i number) = omega (arith, i)
not_segment k line other (SegmentLine s i few segment) = other s segment

pub not_one_more : (k : ℕ) (line : List ℕ) → k ≡ 1000000 → MayStand (3 + k) line → ⊥
not_one_more k line over (Title i words) = omega (arith, i)
not_one_more k line over (Slots n i number) = omega (arith, i)
not_one_more k line over (Bytes n i number) = omega (arith, i)
not_one_more k line over (SegmentLine s i few segment) = omega (arith, over, few)

-- a text by the three lines of its head: where each is cut off, what it is, and the text after the last
pub record IsHeadOf (text : List ℕ) (slots bytes : ℕ) (after : List ℕ) : Type 0 where
  pub title : List ℕ
  pub after_title : List ℕ
  pub slots_line : List ℕ
  pub after_slots : List ℕ
  pub bytes_line : List ℕ
  pub title_cut : text ≡ title ++ 10 ∷ after_title
  pub title_is : title ≡ codes "smooth 1"
  pub slots_cut : after_title ≡ slots_line ++ 10 ∷ after_slots
  pub slots_is : slots_line ≡ codes "slots " ++ decimal slots
  pub bytes_cut : after_slots ≡ bytes_line ++ 10 ∷ after
  pub bytes_is : bytes_line ≡ codes "bytes " ++ decimal bytes

-- the three lines of a head make its text
pub head_joined : (slots bytes : ℕ) (after : List ℕ)
    → codes "smooth 1" ++ 10
    ∷ ((codes "slots " ++ decimal slots) ++ 10 ∷ ((codes "bytes " ++ decimal bytes) ++ 10 ∷ after))
    ≡ cert_head slots bytes ++ after
head_joined slots bytes after = simp append_assoc

-- the text of the head, put together from its lines
pub head_text : {text : List ℕ} (slots bytes : ℕ) (after : List ℕ) → IsHeadOf text slots bytes after
    → text ≡ cert_head slots bytes ++ after
head_text {text} slots bytes after given =
    let third : after_slots ≡ (codes "bytes " ++ decimal bytes) ++ 10 ∷ after =
    cut3 ∙ ap (λ l. l ++ 10 ∷ after) bytes_is in
    let second : after_title
    ≡ (codes "slots " ++ decimal slots) ++ 10 ∷ ((codes "bytes " ++ decimal bytes) ++ 10 ∷ after) =
    cut2 ∙ ap (λ l. l ++ 10 ∷ after_slots) slots_is ∙ ap (λ r. (codes "slots " ++ decimal slots) ++ 10 ∷ r) third in
    let first : text
    ≡ codes "smooth 1" ++ 10 ∷ ((codes "slots " ++ decimal slots) ++ 10
    ∷ ((codes "bytes " ++ decimal bytes) ++ 10 ∷ after)) =
    cut1 ∙ ap (λ l. l ++ 10 ∷ after_title) title_is ∙ ap (λ r. codes "smooth 1" ++ 10 ∷ r) second in
    first ∙ head_joined slots bytes after
  where
    open given use {
      after_title,
      after_slots,
      title_cut as cut1,
      title_is,
      slots_cut as cut2,
      slots_is,
      bytes_cut as cut3,
      bytes_is,
    }

-- one more segment's line
pub segment_text : (after : List ℕ) (segments : List Segment) (s : Segment)
    → flat_map segment_line segments ++ (segment_words s ++ 10 ∷ after)
    ≡ flat_map segment_line (segments ++ s ∷ []) ++ after
segment_text after segments s =
    let more : flat_map segment_line (segments ++ s ∷ [])
    ≡ flat_map segment_line segments ++ (segment_line s ++ []) = flat_map-append segment_line segments (s ∷ []) in
    let ended : segment_line s ++ [] ≡ segment_words s ++ 10 ∷ [] = append-nil (segment_line s) in
    sym (ap (λ x. x ++ after) (more ∙ ap (λ x. flat_map segment_line segments ++ x) ended)
    ∙ append_assoc (flat_map segment_line segments) (segment_words s ++ 10 ∷ []) after
    ∙ ap (λ x. flat_map segment_line segments ++ x) (append_assoc (segment_words s) (10 ∷ []) after))
