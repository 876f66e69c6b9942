-- The elements of a stream, however its bytes come.
use Rattle.std.proofs.Common.{◌≡◌, ℕ, zero, suc, ◌<◌, ◌≤◌, List, [], ◌∷◌, ◌++◌, Result, Ok, Err, length, take, drop}
use Rattle.std.proofs.Common.{map, get_or, refl, sym, ◌∙◌, ap, subst, arith, inl, inr, true}
use Rattle.std.proofs.lemmas.Bool.{both_ways}
use Rattle.std.proofs.lemmas.List.{take-append-le, drop-append-le, get_or_append_left, length-append, append_assoc}
use Rattle.std.proofs.lemmas.List.{append-nil}
use Rattle.interleave.specs.Heads.{is_line_end}
use Rattle.interleave.specs.Elements.{IsFirst}
use Rattle.interleave.specs.Streams.{IsElementLength, LineEnd, WholeBlock, WholeMessage, AreInputElements, GoesOn}
use Rattle.interleave.specs.Streams.{SharePrefix, IsStream, returned_elements, returned_length, ReturnsNoElement}
use Rattle.interleave.specs.declared.elements.Step.{Step}
use Rattle.interleave.specs.declared.elements.Step.TheVariants.{Request, Block, Skip, More}
use Rattle.interleave.specs.declared.elements.DemuxFault.{DemuxFault}
use Rattle.interleave.specs.declared.elements.DemuxFault.TheVariants.{HeadTooLong, BodyTooLong}
use Rattle.interleave.proofs.ElementStability.{StartsBlock-append, StartsMessage-append, block_length-append}
use Rattle.interleave.proofs.LaterBytes.{IsMessageLength-append}
use Rattle.interleave.proofs.ElementUniqueness.{total_once, clash_block_request, clash_end_block, clash_head, not_long}
use Rattle.interleave.proofs.ElementUniqueness.{more_block, more_request}

pub element_within : (w : List ℕ) (n : ℕ) → IsElementLength w n → n ≤ length w
element_within w n (LineEnd one some end) = omega (arith, one, some)
element_within w n (WholeBlock starts four size inside) = inside
element_within w n (WholeMessage starts size inside) = inside

-- a complete element stays first as more bytes come
pub element_stays : (w v : List ℕ) (n : ℕ) → IsElementLength w n → IsElementLength (w ++ v) n
element_stays w v n (LineEnd one some end) =
    LineEnd one (omega (arith, length-append w v, some)) (rw (get_or_append_left w v 0 0 some) end)
element_stays w v n (WholeBlock starts four size inside) =
    WholeBlock (StartsBlock-append w v starts) (omega (arith, length-append w v, four))
    (rw (block_length-append w v four) size) (omega (arith, length-append w v, inside))
element_stays w v n (WholeMessage starts size inside) =
    WholeMessage (StartsMessage-append w v starts) (IsMessageLength-append w v n size)
    (omega (arith, length-append w v, inside))

-- a complete element has one length
pub element_once : (w : List ℕ) (a b : ℕ) → IsElementLength w a → IsElementLength w b → a ≡ b
element_once w a b (LineEnd one some end) (LineEnd one' some' end') = one ∙ sym one'
element_once w a b (LineEnd one some end) (WholeBlock starts four size inside) = absurd (clash_end_block w end starts)
element_once w a b (LineEnd one some end) (WholeMessage starts size inside) =
    absurd (both_ways (is_line_end (get_or w 0 0)) starts.1 end)
element_once w a b (WholeBlock starts four size inside) (LineEnd one some end) = absurd (clash_end_block w end starts)
element_once w a b (WholeBlock starts four size inside) (WholeBlock starts' four' size' inside') = size ∙ sym size'
element_once w a b (WholeBlock starts four size inside) (WholeMessage starts' size' inside') =
    absurd (clash_block_request w starts starts')
element_once w a b (WholeMessage starts size inside) (LineEnd one some end) =
    absurd (both_ways (is_line_end (get_or w 0 0)) starts.1 end)
element_once w a b (WholeMessage starts size inside) (WholeBlock starts' four' size' inside') =
    absurd (clash_block_request w starts' starts)
element_once w a b (WholeMessage starts size inside) (WholeMessage starts' size' inside') = total_once w a b size size'

-- the elements stay, and the rest grows
pub cut_grows : (w v : List ℕ) (elements : List (List ℕ)) (rest : List ℕ) → AreInputElements w elements rest
    → AreInputElements (w ++ v) elements (rest ++ v)
cut_grows w v [] rest same = ap (λ (xs : List ℕ). xs ++ v) same
cut_grows w v (element ∷ elements) rest (n, cut) =
    let inside : n ≤ length w = element_within w n cut.0 in
    let front : take n (w ++ v) ≡ take n w = take-append-le n w v inside in
    let after : drop n (w ++ v) ≡ drop n w ++ v = drop-append-le n w v inside in
    let P : List ℕ → Type 0 = λ xs. AreInputElements xs elements (rest ++ v) in (
      n,
      (element_stays w v n cut.0, cut.1 ∙ sym front, subst P (sym after) (cut_grows (drop n w) v elements rest cut.2)),
    )

-- one element more
pub cut_more : (w : List ℕ) (elements : List (List ℕ)) (rest : List ℕ) (n : ℕ) → AreInputElements w elements rest
    → IsElementLength rest n →
    AreInputElements w (elements ++ take n rest ∷ []) (drop n rest)
cut_more w [] rest n same element =
    let P : List ℕ
    → Type 0 = λ xs. AreInputElements xs (take n rest ∷ []) (drop n rest) in subst P (sym same) (
      n,
      (element, refl, refl),
    )
cut_more w (first ∷ elements) rest n (m, cut) element =
    (m, (cut.0, cut.1, cut_more (drop m w) elements rest n cut.2 element))

-- bytes were cut, and then their rest with later bytes
pub record CutsInTurn (w v : List ℕ) (ps qs : List (List ℕ)) (rest end : List ℕ) : Type 0 where
  pub first : AreInputElements w ps rest
  pub next : AreInputElements (rest ++ v) qs end

-- cuts join
pub cuts_join : {w v : List ℕ} {ps qs : List (List ℕ)} {rest end : List ℕ} → CutsInTurn w v ps qs rest end
    → AreInputElements (w ++ v) (ps ++ qs) end
cuts_join {v} {ps = []} {qs} {end} cuts =
    let P : List ℕ → Type 0 = λ xs. AreInputElements (xs ++ v) qs end in subst P (sym cuts.first) cuts.next
cuts_join {w} {v} {ps = p ∷ ps} {qs} {rest} {end} cuts =
    let n = cuts.first.0 in
    let first = cuts.first.1 in
    let inside : n ≤ length w = element_within w n first.0 in
    let front : take n (w ++ v) ≡ take n w = take-append-le n w v inside in
    let after : drop n (w ++ v) ≡ drop n w ++ v = drop-append-le n w v inside in
    let later : CutsInTurn (drop n w) v ps qs rest end = record { first = first.2; next = cuts.next } in
    let P : List ℕ → Type 0 = λ xs. AreInputElements xs (ps ++ qs) end in
    (n, (element_stays w v n first.0, first.1 ∙ sym front, subst P (sym after) (cuts_join later)))

-- two cuts agree as far as the shorter goes
agree_after : (q : List ℕ) (ps qs : List (List ℕ)) (r t : List ℕ) → SharePrefix ps r qs t → SharePrefix (q ∷ ps) r (q ∷
    qs) t
agree_after q ps qs r t (inl (more, goes)) = inl (more, (ap (λ (l : List (List ℕ)). q ∷ l) goes.0, goes.1))
agree_after q ps qs r t (inr (more, goes)) = inr (more, (ap (λ (l : List (List ℕ)). q ∷ l) goes.0, goes.1))

pub record TwoCuts (w : List ℕ) (ps qs : List (List ℕ)) (r t : List ℕ) : Type 0 where
  pub one : AreInputElements w ps r
  pub other : AreInputElements w qs t

pub cuts_agree : {w : List ℕ} {ps qs : List (List ℕ)} {r t : List ℕ} → TwoCuts w ps qs r t → SharePrefix ps r qs t
cuts_agree {ps = []} {qs} {t} cuts =
    let P : List ℕ → Type 0 = λ xs. AreInputElements xs qs t in inl (qs, (refl, subst P cuts.one cuts.other))
cuts_agree {ps = p ∷ ps} {qs = []} {r} cuts =
    let P : List ℕ → Type 0 = λ xs. AreInputElements xs (p ∷ ps) r in inr (p ∷ ps, (refl, subst P cuts.other cuts.one))
cuts_agree {w} {ps = p ∷ ps} {qs = q ∷ qs} {r} {t} cuts =
    let n = cuts.one.0 in
    let m = cuts.other.0 in
    let cut = cuts.one.1 in
    let cut' = cuts.other.1 in
    let same : n ≡ m = element_once w n m cut.0 cut'.0 in
    let P : ℕ → Type 0 = λ k. AreInputElements (drop k w) ps r in
    let first : p ≡ q = cut.1 ∙ ap (λ k. take k w) same ∙ sym cut'.1 in
    let Q : List ℕ → Type 0 = λ x. SharePrefix (x ∷ ps) r (q ∷ qs) t in
    let rest : TwoCuts (drop m w) ps qs r t = record { one = subst P same cut.2; other = cut'.2 } in
    subst Q (sym first) (agree_after q ps qs r t (cuts_agree rest))

-- the elements and the rest of all bytes are the only ones
pub record TwoStreams (w : List ℕ) (ps qs : List (List ℕ)) (r t : List ℕ) : Type 0 where
  pub one : IsStream w ps r
  pub other : IsStream w qs t

-- where no element is left, none goes on
ended : {ps qs : List (List ℕ)} {r t : List ℕ} → ((n : ℕ) → ¬ IsElementLength r n) → GoesOn ps r qs t
    → (ps ≡ qs) × (r ≡ t)
ended {ps} none ([], goes) = (sym (goes.0 ∙ append-nil ps), goes.1)
ended none (_ ∷ _, goes) = absurd (none goes.1.0 goes.1.1.0)

pub stream_once : {w : List ℕ} {ps qs : List (List ℕ)} {r t : List ℕ} → TwoStreams w ps qs r t → (ps ≡ qs) × (r ≡ t)
stream_once {w} {ps} {qs} {r} {t} streams =
    let cuts : TwoCuts w ps qs r t = record { one = streams.one.0; other = streams.other.0 } in
    elim (cuts_agree cuts) [
      | inl goes ↦ ended streams.one.1 goes
      | inr goes ↦ (let same = ended streams.other.1 goes in (sym same.0, sym same.1))
    ]

-- each byte CR or LF at the start is an element
record AreEnds (rest : List ℕ) (n : ℕ) : Type 0 where
  within : n ≤ length rest
  line_ends : (k : ℕ) → k < n → is_line_end (get_or rest k 0) ≡ true

skips : (w : List ℕ) (ps : List (List ℕ)) (rest : List ℕ) (n : ℕ) → AreInputElements w ps rest → AreEnds rest n
    → AreInputElements w (ps ++ map (λ c. c ∷ []) (take n rest)) (drop n rest)
skips w ps rest zero cut ends =
    let P : List (List ℕ) → Type 0 = λ xs. AreInputElements w xs rest in subst P (sym (append-nil ps)) cut
skips w ps [] (suc n) cut ends = let bad : ⊥ = omega (arith, ends.within) in absurd bad
skips w ps (c ∷ cs) (suc n) cut ends =
    let next : AreInputElements w (ps ++ (c ∷ []) ∷ []) cs =
    cut_more w ps (c ∷ cs) 1 cut (LineEnd refl (omega arith) (ends.line_ends 0 (omega arith))) in
    let more = skips w (ps ++ (c ∷ []) ∷ []) cs n next
    (record {
      within = omega (arith, ends.within);
      line_ends = λ k below. ends.line_ends (suc k) (omega (arith, below));
    }) in
    let P : List (List ℕ) → Type 0 = λ xs. AreInputElements w xs (drop n cs) in
    subst P (append_assoc ps ((c ∷ []) ∷ []) (map (λ x. x ∷ []) (take n cs))) more

no_more : (w : List ℕ) (ps : List (List ℕ)) (rest : List ℕ) → AreInputElements w ps rest → AreInputElements w (ps ++ [])
    (drop 0 rest)
no_more w ps rest cut = let P : List (List ℕ) → Type 0 = λ xs. AreInputElements w xs rest in subst P (sym (append-nil
    ps)) cut

-- what an answer returns are the next elements
pub next_elements : (rest : List ℕ) (answer : Result Step DemuxFault) → IsFirst rest answer →
    (w : List ℕ) (ps : List (List ℕ)) → AreInputElements w ps rest →
    AreInputElements w (ps ++ returned_elements rest answer) (drop (returned_length answer) rest)
next_elements rest (Ok (Skip n)) h w ps cut =
    skips w ps rest n cut (record { within = h.1.within; line_ends = h.1.line_ends })
next_elements rest (Ok (Block channel n)) h w ps cut = cut_more w ps rest n cut (WholeBlock h.0 h.1 h.3 h.4)
next_elements rest (Ok (Request n)) h w ps cut = cut_more w ps rest n cut (WholeMessage h.0 h.1 h.2)
next_elements rest (Ok More) h w ps cut = no_more w ps rest cut
next_elements rest (Err fault) h w ps cut = no_more w ps rest cut

no_line_end : (w : List ℕ) → 0 < length w → is_line_end (get_or w 0 0) ≡ true → IsFirst w (Ok More) → ⊥
no_line_end w some end (inl e) = omega (arith, some, e)
no_line_end w some end (inr (inl b)) = clash_end_block w end b.0
no_line_end w some end (inr (inr r)) = both_ways (is_line_end (get_or w 0 0)) r.0.1 end

none_waits : (w : List ℕ) → IsFirst w (Ok More) → (n : ℕ) → IsElementLength w n → ⊥
none_waits w h n (LineEnd one some end) = no_line_end w some end h
none_waits w h n (WholeBlock starts four size inside) =
    more_block w (get_or w 1 0) n (starts, four, refl, size, inside) h
none_waits w h n (WholeMessage starts size inside) = more_request w n (starts, size, inside) h

none_headless : (w : List ℕ) → IsFirst w (Err HeadTooLong) → (n : ℕ) → IsElementLength w n → ⊥
none_headless w h n (LineEnd one some end) = both_ways (is_line_end (get_or w 0 0)) h.0.1 end
none_headless w h n (WholeBlock starts four size inside) = clash_block_request w starts h.0
none_headless w h n (WholeMessage starts size inside) = clash_head w size.head size.is_head size.fits h.2

none_long : (w : List ℕ) → IsFirst w (Err BodyTooLong) → (n : ℕ) → IsElementLength w n → ⊥
none_long w h n (LineEnd one some end) = both_ways (is_line_end (get_or w 0 0)) h.0.1 end
none_long w h n (WholeBlock starts four size inside) = clash_block_request w starts h.0
none_long w h n (WholeMessage starts size inside) = not_long w n size h.1

pub tells_none : (w : List ℕ) (answer : Result Step DemuxFault) → IsFirst w answer → ReturnsNoElement w answer
tells_none w (Ok (Skip n)) h = tt
tells_none w (Ok (Block channel n)) h = tt
tells_none w (Ok (Request n)) h = tt
tells_none w (Ok More) h = none_waits w h
tells_none w (Err HeadTooLong) h = none_headless w h
tells_none w (Err BodyTooLong) h = none_long w h
