-- A stream of complete elements, split at any place.
use Rattle.std.proofs.lemmas.Grind.{common_steps}
use Rattle.std.proofs.Common.{◌≡◌, ℕ, ◌+◌, ◌-◌, ◌<◌, List, [], ◌∷◌, ◌++◌, length, take, drop, refl, sym, ◌∙◌, arith}
use Rattle.std.proofs.Common.{inl, inr}
use Rattle.std.proofs.lemmas.Bool.{cases_lt}
use Rattle.std.proofs.lemmas.List.{append-nil, length-take-le, take-append-le, take-append-drop}
use Rattle.std.proofs.Math.Seq.{take-append-add, take-nil}
use Rattle.connection_laws.proofs.Terms.{count_ended, framed_bytes, AreInputElements, IsElementLength}
use Rattle.interleave.specs.Streams.{IsStream}
use Rattle.interleave.proofs.StreamElements.{TwoCuts, cut_more, cuts_agree, element_once, element_stays, element_within}
use Rattle.connection_laws.proofs.Lists.{Each}
use Rattle.connection_laws.proofs.PieceCounts.{at_less, at_more, rest_at}

-- an element by itself, whatever comes after it
pub record IsAlone (element : List ℕ) : Type 0 where
  pub some : 0 < length element
  pub whole : IsElementLength element (length element)

abbrev pub AreAlone : List (List ℕ) → Type 0
AreAlone = Each IsAlone

pub no_element : (n : ℕ) → IsElementLength [] n → ⊥
no_element n given = grind arith

stream_cons : (p t : List ℕ) (ps : List (List ℕ)) (r : List ℕ) → IsAlone p → IsStream t ps r
    → IsStream (p ++ t) (p ∷ ps) r
stream_cons p t ps r alone stream = grind (arith, common_steps, element_stays p t (length p) alone.whole)

stream_short : (p t : List ℕ) (c : ℕ) → IsAlone p → c < length p → IsStream (take c (p ++ t)) [] (take c p)
stream_short p t c alone less =
    let none : (n : ℕ) → IsElementLength (take c p) n → ⊥ = λ n is.
    let there : IsElementLength p n = rw (← (take-append-drop c p)) (element_stays (take c p) (drop c p) n is) in
    omega (
      arith,
      element_once p n (length p) there alone.whole,
      element_within (take c p) n is,
      length-take-le c p (omega (arith, less)),
      less,
    ) in
    (take-append-le c p t (omega (arith, less)), none)

-- a prefix of a stream is its complete elements at the beginning, and a prefix of the next one
pub cut_at : (ps : List (List ℕ)) (c : ℕ) → AreAlone ps
    → IsStream (take c (framed_bytes ps)) (take (count_ended c ps) ps) (rest_at c ps)
cut_at [] c alone = rw (take-nil c) (refl, no_element)
cut_at (p ∷ ps) c alone =
    elim (cases_lt c (length p)) [
      | inl less ↦
          let one = at_less p ps c less in rw (one.0, one.1) (stream_short p (framed_bytes ps) c alone.0 less)
      | inr more ↦
          let d = c - length p in
          let one = at_more p ps c more in
          let bytes : take c (p ++ framed_bytes ps)
          ≡ p ++ take d (framed_bytes ps) = search (arith, take-append-add p (framed_bytes ps) d) in
          rw (one.0, one.1, bytes)
          (stream_cons p (take d (framed_bytes ps)) (take (count_ended d ps) ps) (rest_at d ps) alone.0
          (cut_at ps d alone.1))
    ]

sends_front : {rest : List ℕ} {all cut : List (List ℕ)} (end : List ℕ) (more : List (List ℕ)) → cut ≡ all ++ more
    → AreInputElements rest more end → ((n : ℕ) → IsElementLength rest n → ⊥)
    → ((later : List (List ℕ)) × (all ≡ cut ++ later))
sends_front {all} {cut} end [] is are none = ([], sym (append-nil cut ∙ is ∙ append-nil all))
sends_front {all} {cut} end (element ∷ more) is are none = absurd (none are.0 are.1.0)

-- bytes that are a prefix of framed elements, each of which stands alone
pub record FramedFront (bytes : List ℕ) (ps : List (List ℕ)) : Type 0 where
  pub count : ℕ
  pub alone : AreAlone ps
  pub front_is : bytes ≡ take count (framed_bytes ps)

-- whatever was split off is a prefix of the elements
pub cut_front : {bytes rest : List ℕ} {n : ℕ} {ps : List (List ℕ)} (front : FramedFront bytes ps)
    (cut : List (List ℕ)) → AreInputElements bytes cut rest → IsElementLength rest n →
    ((more : List (List ℕ)) × (take (count_ended front.count ps) ps ≡ (cut ++ take n rest ∷ []) ++ more))
cut_front {bytes} {rest} {n} {ps} front cut are next =
    let all = take (count_ended c ps) ps in
    let stream : IsStream bytes all (rest_at c ps) = rw is (cut_at ps c alone) in
    let cuts : TwoCuts bytes (cut ++ take n rest ∷ []) all (drop n rest) (rest_at c ps) =
    record { one = cut_more bytes cut rest n are next; other = stream.0 } in
    elim (cuts_agree cuts) [
      | inl more ↦ (more.0, more.1.0)
      | inr more ↦ sends_front (drop n rest) more.0 more.1.0 more.1.1 stream.1
    ]
  where
    open front use {count as c, alone, front_is as is}
