-- Only one answer fits the waiting bytes.
use Rattle.std.proofs.Common.{◌≡◌, ℕ, ◌+◌, ◌-◌, ◌<◌, ◌≤◌, List, Result, Ok, Err, length, take, get_or, refl, sym, ◌∙◌}
use Rattle.std.proofs.Common.{ap, subst, arith, inl, inr, true, false, ◌==◌}
use Rattle.std.proofs.lemmas.Bool.{both_ways, cases_order}
use Rattle.interleave.specs.declared.elements.TheConstants.{BLOCK_START}
use Rattle.interleave.specs.declared.message_heads.TheConstants.{MAX_HEAD_BYTES}
use Rattle.vod_base.specs.Lines.{IsLine, HasNoLine}
use Rattle.interleave.specs.Heads.{is_line_end, empty_line_ends, HasNoHead, IsHead}
use Rattle.interleave.specs.Lengths.{IsWrittenAt, IsBodyLength}
use Rattle.interleave.specs.Elements.{StartsBlock, StartsMessage, AreLineEnds, IsMessageLength, IsBodyTooLong}
use Rattle.interleave.specs.Elements.{IsFirst, block_length}
use Rattle.interleave.specs.declared.elements.Step.{Step}
use Rattle.interleave.specs.declared.elements.Step.TheVariants.{Request, Block, Skip, More}
use Rattle.interleave.specs.declared.elements.DemuxFault.{DemuxFault}
use Rattle.interleave.specs.declared.elements.DemuxFault.TheVariants.{HeadTooLong, BodyTooLong}

pub line_ends_once : (w : List ℕ) (n m : ℕ) → AreLineEnds w n → AreLineEnds w m → n ≡ m
line_ends_once w n m a b =
    elim (cases_order n m) [
      | inl same ↦ same
      | inr (inl less) ↦
          absurd (both_ways (is_line_end (get_or w n 0)) (a.last (omega (arith, b.within))) (b.line_ends n less))
      | inr (inr less) ↦
          absurd (both_ways (is_line_end (get_or w m 0)) (b.last (omega (arith, a.within))) (a.line_ends m less))
    ]

-- no head lies before the first one
pub head_after : (w : List ℕ) (head n : ℕ) → IsHead w head → HasNoHead w n → n < head
head_after w head n h none =
    elim (cases_order n head) [
      | inl same ↦
          absurd (both_ways (empty_line_ends w (head - 1)) (none (head - 1) (omega (arith, h.some, same))) h.ends)
      | inr (inl less) ↦ less
      | inr (inr more) ↦
          absurd (both_ways (empty_line_ends w (head - 1)) (none (head - 1) (omega (arith, h.some))) h.ends)
    ]

pub head_once : (w : List ℕ) (a b : ℕ) → IsHead w a → IsHead w b → a ≡ b
head_once w a b x y =
    let below : a - 1 < b = head_after w b (a - 1) y (λ k h. x.first k (omega (arith, h))) in
    let above : b - 1 < a = head_after w a (b - 1) x (λ k h. y.first k (omega (arith, h))) in
    omega (arith, x.some, y.some)

-- a line ends at one place
pub line_once : {w : List ℕ} {at e n e' n' : ℕ} → IsLine w at e n → IsLine w at e' n' → e ≡ e'
line_once {w} {at} {n} {n'} a b =
    let next : n ≡ n' = elim (cases_order n n') [
      | inl same ↦ same
      | inr (inl less) ↦ absurd (b.first (n - 1) (omega (arith, a.after)) (omega (arith, a.after)) a.feed)
      | inr (inr less) ↦ absurd (a.first (n' - 1) (omega (arith, b.after)) (omega (arith, b.after)) b.feed)
    ] in
    a.text ∙ rw next (sym b.text)

pub no_line_end : (w : List ℕ) (at e n : ℕ) → IsLine w at e n → HasNoLine w at → ⊥
no_line_end w at e n line none =
    none (n - 1) (omega (arith, line.after)) (omega (arith, line.after, line.within)) line.feed

pub value_once : (w : List ℕ) (at a b : ℕ) → IsWrittenAt w at a → IsWrittenAt w at b → a ≡ b
value_once w at a b (inl x) (inl y) =
    let e : x.text_end ≡ y.text_end = line_once x.line y.line in
    x.written ∙ rw e (sym y.written)
value_once w at a b (inl x) (inr y) = absurd (no_line_end w at x.text_end x.next x.line y.0)
value_once w at a b (inr x) (inl y) = absurd (no_line_end w at y.text_end y.next y.line x.0)
value_once w at a b (inr x) (inr y) = x.1 ∙ sym y.1

pub length_once : (w : List ℕ) (a b : ℕ) → IsBodyLength w a → IsBodyLength w b → a ≡ b
length_once w a b (inl x) (inl y) =
    let place : x.at ≡ y.at = elim (cases_order x.at y.at) [
      | inl same ↦ same
      | inr (inl less) ↦ absurd (y.first x.at less x.is_line)
      | inr (inr less) ↦ absurd (x.first y.at less y.is_line)
    ] in
    let P : ℕ → Type 0 = λ at. IsWrittenAt w (at + 15) a in
    value_once w (y.at + 15) a b (subst P place x.value) y.value
length_once w a b (inl x) (inr y) = absurd (y.0 x.at x.is_line)
length_once w a b (inr x) (inl y) = absurd (x.0 y.at y.is_line)
length_once w a b (inr x) (inr y) = x.1 ∙ sym y.1

-- the body of the request at the start has one length
pub body_once : {w : List ℕ} {h h' a b : ℕ} → IsHead w h → IsHead w h' → IsBodyLength (take h w) a
    → IsBodyLength (take h' w) b → a ≡ b
body_once {w} {h} {h'} {a} {b} x y p q =
    let P : ℕ → Type 0 = λ k. IsBodyLength (take k w) a in
    length_once (take h' w) a b (subst P (head_once w h h' x y) p) q

pub total_once : (w : List ℕ) (a b : ℕ) → IsMessageLength w a → IsMessageLength w b → a ≡ b
total_once w a b x y =
    let head : x.head ≡ y.head = head_once w x.head y.head x.is_head y.is_head in
    let body : x.body ≡ y.body = body_once x.is_head y.is_head x.is_body y.is_body in
    omega (arith, head, body, x.total_is, y.total_is)

pub not_long : (w : List ℕ) (total : ℕ) → IsMessageLength w total → IsBodyTooLong w → ⊥
not_long w total x y =
    let body : x.body ≡ y.long.0 = body_once x.is_head y.is_head x.is_body y.long.1.1 in
    omega (arith, body, x.small, y.long.1.0)

-- no block begins with CR or LF
pub clash_end_block : (w : List ℕ) → is_line_end (get_or w 0 0) ≡ true → StartsBlock w → ⊥
clash_end_block w end b =
    let other : is_line_end (get_or w 0 0) ≡ false = rw b.1 refl in both_ways (is_line_end (get_or w 0 0)) other end

pub clash_ends_block : (w : List ℕ) (n : ℕ) → (0 < n) × AreLineEnds w n → StartsBlock w → ⊥
clash_ends_block w n h = clash_end_block w (h.1.line_ends 0 h.0)

pub clash_ends_request : (w : List ℕ) (n : ℕ) → (0 < n) × AreLineEnds w n → StartsMessage w → ⊥
clash_ends_request w n h r = both_ways (is_line_end (get_or w 0 0)) r.1 (h.1.line_ends 0 h.0)

pub clash_block_request : (w : List ℕ) → StartsBlock w → StartsMessage w → ⊥
clash_block_request w b r =
    let dollar : (get_or w 0 0 == BLOCK_START) ≡ true = rw b.1 refl in
    both_ways (get_or w 0 0 == BLOCK_START) r.2 dollar

pub clash_head : (w : List ℕ) (head : ℕ) → IsHead w head → head ≤ MAX_HEAD_BYTES → HasNoHead w MAX_HEAD_BYTES → ⊥
clash_head w head h fits none = let after = head_after w head MAX_HEAD_BYTES h none in omega (arith, after)

pub clash_short : (w : List ℕ) (head : ℕ) → IsHead w head → HasNoHead w (length w) → ⊥
clash_short w head h none = let after = head_after w head (length w) h none in omega (arith, after, h.within)

pub more_ends : (w : List ℕ) (n : ℕ) → (0 < n) × AreLineEnds w n → IsFirst w (Ok More) → ⊥
more_ends w n h (inl e) = omega (arith, h.0, h.1.within, e)
more_ends w n h (inr (inl b)) = clash_ends_block w n h b.0
more_ends w n h (inr (inr r)) = clash_ends_request w n h r.0

pub more_block : (w : List ℕ) (c n : ℕ) → IsFirst w (Ok (Block c n)) → IsFirst w (Ok More) → ⊥
more_block w c n h (inl e) = omega (arith, h.0.0, e)
more_block w c n h (inr (inl b)) = let less : length w < block_length w = b.1 h.1 in omega (arith, less, h.3, h.4)
more_block w c n h (inr (inr r)) = clash_block_request w h.0 r.0

pub more_request : (w : List ℕ) (n : ℕ) → IsFirst w (Ok (Request n)) → IsFirst w (Ok More) → ⊥
more_request w n h (inl e) = omega (arith, h.0.0, e)
more_request w n h (inr (inl b)) = clash_block_request w b.0 h.0
more_request w n h (inr (inr (s, inl x))) = clash_short w h.1.head h.1.is_head x.0
more_request w n h (inr (inr (s, inr y))) = let same : n ≡ y.0 = total_once w n y.0 h.1 y.1.0 in
    omega (arith, same, y.1.1, h.2)

pub more_headless : (w : List ℕ) → IsFirst w (Err HeadTooLong) → IsFirst w (Ok More) → ⊥
more_headless w h (inl e) = omega (arith, h.0.0, e)
more_headless w h (inr (inl b)) = clash_block_request w b.0 h.0
more_headless w h (inr (inr (s, inl x))) = omega (arith, h.1, x.1)
more_headless w h (inr (inr (s, inr y))) = clash_head w y.1.0.head y.1.0.is_head y.1.0.fits h.2

pub more_long : (w : List ℕ) → IsFirst w (Err BodyTooLong) → IsFirst w (Ok More) → ⊥
more_long w h (inl e) = omega (arith, h.0.0, e)
more_long w h (inr (inl b)) = clash_block_request w b.0 h.0
more_long w h (inr (inr (s, inl x))) = clash_short w h.1.head h.1.is_head x.0
more_long w h (inr (inr (s, inr y))) = not_long w y.0 y.1.0 h.1

-- the waiting bytes have one answer
pub answer_once : (w : List ℕ) (a b : Result Step DemuxFault) → IsFirst w a → IsFirst w b → a ≡ b
answer_once w (Ok (Skip n)) (Ok (Skip m)) x y = ap (λ k. Ok (Skip k)) (line_ends_once w n m x.1 y.1)
answer_once w (Ok (Skip n)) (Ok (Block d m)) x y = absurd (clash_ends_block w n x y.0)
answer_once w (Ok (Skip n)) (Ok (Request m)) x y = absurd (clash_ends_request w n x y.0)
answer_once w (Ok (Skip n)) (Ok More) x y = absurd (more_ends w n x y)
answer_once w (Ok (Skip n)) (Err HeadTooLong) x y = absurd (clash_ends_request w n x y.0)
answer_once w (Ok (Skip n)) (Err BodyTooLong) x y = absurd (clash_ends_request w n x y.0)
answer_once w (Ok (Block c n)) (Ok (Skip m)) x y = absurd (clash_ends_block w m y x.0)
answer_once w (Ok (Block c n)) (Ok (Block d m)) x y = let channel : c ≡ d = x.2 ∙ sym y.2 in let size : n ≡ m =
    x.3 ∙ sym y.3 in rw (channel, size) refl
answer_once w (Ok (Block c n)) (Ok (Request m)) x y = absurd (clash_block_request w x.0 y.0)
answer_once w (Ok (Block c n)) (Ok More) x y = absurd (more_block w c n x y)
answer_once w (Ok (Block c n)) (Err HeadTooLong) x y = absurd (clash_block_request w x.0 y.0)
answer_once w (Ok (Block c n)) (Err BodyTooLong) x y = absurd (clash_block_request w x.0 y.0)
answer_once w (Ok (Request n)) (Ok (Skip m)) x y = absurd (clash_ends_request w m y x.0)
answer_once w (Ok (Request n)) (Ok (Block d m)) x y = absurd (clash_block_request w y.0 x.0)
answer_once w (Ok (Request n)) (Ok (Request m)) x y = ap (λ k. Ok (Request k)) (total_once w n m x.1 y.1)
answer_once w (Ok (Request n)) (Ok More) x y = absurd (more_request w n x y)
answer_once w (Ok (Request n)) (Err HeadTooLong) x y = absurd (clash_head w x.1.head x.1.is_head x.1.fits y.2)
answer_once w (Ok (Request n)) (Err BodyTooLong) x y = absurd (not_long w n x.1 y.1)
answer_once w (Ok More) (Ok (Skip m)) x y = absurd (more_ends w m y x)
answer_once w (Ok More) (Ok (Block d m)) x y = absurd (more_block w d m y x)
answer_once w (Ok More) (Ok (Request m)) x y = absurd (more_request w m y x)
answer_once w (Ok More) (Ok More) x y = refl
answer_once w (Ok More) (Err HeadTooLong) x y = absurd (more_headless w y x)
answer_once w (Ok More) (Err BodyTooLong) x y = absurd (more_long w y x)
answer_once w (Err HeadTooLong) (Ok (Skip m)) x y = absurd (clash_ends_request w m y x.0)
answer_once w (Err HeadTooLong) (Ok (Block d m)) x y = absurd (clash_block_request w y.0 x.0)
answer_once w (Err HeadTooLong) (Ok (Request m)) x y = absurd (clash_head w y.1.head y.1.is_head y.1.fits x.2)
answer_once w (Err HeadTooLong) (Ok More) x y = absurd (more_headless w x y)
answer_once w (Err HeadTooLong) (Err HeadTooLong) x y = refl
answer_once w (Err HeadTooLong) (Err BodyTooLong) x y = absurd (clash_head w y.1.head y.1.is_head y.1.fits x.2)
answer_once w (Err BodyTooLong) (Ok (Skip m)) x y = absurd (clash_ends_request w m y x.0)
answer_once w (Err BodyTooLong) (Ok (Block d m)) x y = absurd (clash_block_request w y.0 x.0)
answer_once w (Err BodyTooLong) (Ok (Request m)) x y = absurd (not_long w m y.1 x.1)
answer_once w (Err BodyTooLong) (Ok More) x y = absurd (more_long w x y)
answer_once w (Err BodyTooLong) (Err HeadTooLong) x y = absurd (clash_head w x.1.head x.1.is_head x.1.fits y.2)
answer_once w (Err BodyTooLong) (Err BodyTooLong) x y = refl
