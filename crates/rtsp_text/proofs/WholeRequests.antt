-- Elements before other bytes; a request that stands there is a complete request by itself.
use Rattle.std.proofs.Common.{◌≡◌, ℕ, ◌-◌, ◌<◌, ◌≤◌, List, Ok, length, take, drop, refl, sym, ap, subst, ◌∙◌, arith}
use Rattle.std.proofs.lemmas.List.{get_or-take, take-take, length-take-le, length-drop}
use Rattle.interleave.specs.Heads.{empty_line_ends, IsHead}
use Rattle.interleave.specs.Lengths.{IsBodyLength}
use Rattle.interleave.specs.Elements.{IsMessageLength, IsFirst}
use Rattle.interleave.specs.declared.elements.Step.{Step}
use Rattle.interleave.specs.declared.elements.Step.TheVariants.{Request}

empty_line_ends-take : (n : ℕ) (w : List ℕ) (k : ℕ) → k < n → empty_line_ends (take n w) k ≡ empty_line_ends w k
empty_line_ends-take n w k h =
    rw (get_or-take n w k 0 h, get_or-take n w (k - 1) 0 (omega arith), get_or-take n w (k - 2) 0 (omega arith)) refl

IsHead-take : (n : ℕ) (w : List ℕ) (head : ℕ) → head ≤ n → n ≤ length w → IsHead w head → IsHead (take n w) head
IsHead-take n w head few within h = record {
  some = h.some;
  within = omega (arith, length-take-le n w within);
  ends = empty_line_ends-take n w (head - 1) (omega (arith, h.some)) ∙ h.ends;
  first = λ k below. empty_line_ends-take n w k (omega arith) ∙ h.first k below;
}

pub request-take : (w : List ℕ) (n : ℕ) → n ≤ length w → IsMessageLength w n
    → IsMessageLength (take n w) (length (take n w))
request-take w n within r =
    let few : r.head ≤ n = omega (arith, r.total_is) in
    let P : List ℕ → Type 0 = λ l. IsBodyLength l r.body in
    record {
      head = r.head;
      body = r.body;
      is_head = IsHead-take n w r.head few within r.is_head;
      fits = r.fits;
      is_body = subst P (sym (take-take r.head n w few)) r.is_body;
      small = r.small;
      total_is = length-take-le n w within ∙ r.total_is;
    }

-- the same of the request at the start
pub first_taken : (w : List ℕ) (n : ℕ) → IsFirst w (Ok (Request n)) → IsMessageLength (take n w) (length (take n w))
first_taken w n first = request-take w n first.2 first.1

-- the first element of the same bytes is the same step
pub first_is : {b w : List ℕ} {s t : Step} → IsFirst b (Ok s) → w ≡ b → s ≡ t → IsFirst w (Ok t)
first_is {b} {w} {s} {t} first same is =
    subst (λ x. IsFirst x (Ok t)) (sym same) (subst (λ x. IsFirst b (Ok x)) is first)

-- a request has a byte
pub some_request : (bytes : List ℕ) (n : ℕ) → IsMessageLength bytes n → 0 < n
some_request bytes n is = omega (arith, is.is_head.some, is.total_is)

-- fewer bytes wait once an element is gone
pub fewer : (input rest : List ℕ) (n : ℕ) → 0 < n → n ≤ length input → rest ≡ drop n input → length rest < length input
fewer input rest n some within dropped = omega (arith, some, within, ap length dropped, length-drop n input)
