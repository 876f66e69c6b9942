-- What one part more makes of what was written.
use Rattle.std.proofs.Common.{◌≡◌, ℕ, ◌+◌, ◌≤◌, Bool, true, false, List, ◌++◌, length, take, Option, refl, sym, ap, ◌∙◌}
use Rattle.std.proofs.Common.{arith, length-append, subst, Result, Ok, Err, ◌<◌, drop, get_or}
use Rattle.std.specs.Prelude.{IsErrAnd, OnErr, OnOk, is_ok, flat_map}
use Rattle.std.proofs.lemmas.Bool.{true≢false}
use Rattle.std.proofs.Math.Seq.{take-append-add}
use Rattle.std.proofs.lemmas.List.{append_assoc, flat_map_more, take-append-drop, take-append-le, take_more}
use Rattle.std.proofs.lemmas.List.Concat.{flat_map-append}
use Rattle.vod_base.specs.IoState.{HasRisen, IsWrittenPrefix, told_more}
use Rattle.vod_base.proofs.HistoryLemmas.{told_more-append}
use Rattle.vod_base.specs.declared.errors.SinkFault.{SinkFault}
use Rattle.cli_errors.specs.StreamWrites.{IsTextWritten}

-- nothing more is written after a fault
pub said_no_more : {faults faults' : ℕ} {told told' : Option (List ℕ)} {text : List ℕ} (part : List ℕ) →
    IsTextWritten faults faults' told told' text false →
    IsTextWritten faults faults' told told' (text ++ part) false
said_no_more {told} {told'} {text} part said =
    let front : IsWrittenPrefix told told' text = said.front refl in
    record {
      count = said.count;
      all = λ e. absurd (true≢false (sym e));
      risen = said.risen;
      front = λ _. (
        front.0,
        (
          omega (arith, front.1.0, length-append text part),
          front.1.1 ∙ ap (told_more told) (sym (take-append-le front.0 text part front.1.0)),
        ),
      );
    }

-- a part goes on in a text that is named in another grouping
pub said_as : {faults faults' : ℕ} {told told' : Option (List ℕ)} {text text' : List ℕ} {ok : Bool} → text ≡ text' →
    IsTextWritten faults faults' told told' text ok → IsTextWritten faults faults' told told' text' ok
said_as {faults = faults} {faults' = faults'} {told = told} {told' = told'} {ok = ok} e said =
    subst (λ (t : List ℕ). IsTextWritten faults faults' told told' t ok) e said

-- a write wrote its bytes
pub said_whole : {faults faults' : ℕ} {told told' : Option (List ℕ)} {part : List ℕ} → faults ≤ faults' →
    told' ≡ told_more told part → IsTextWritten faults faults' told told' part true
said_whole count whole = record {
  count = count;
  all = λ _. whole;
  risen = λ e. absurd (true≢false e);
  front = λ e. absurd (true≢false e);
}

-- or a fault left a prefix of them
pub said_cut : {faults faults' : ℕ} {told told' : Option (List ℕ)} {part : List ℕ} → faults ≤ faults' →
    HasRisen faults faults' → IsWrittenPrefix told told' part → IsTextWritten faults faults' told told' part false
said_cut count fault front = record {
  count = count;
  all = λ e. absurd (true≢false (sym e));
  risen = λ _. fault;
  front = λ _. front;
}

-- what a write wrote
pub said_by : {faults faults' : ℕ} {told told' : Option (List ℕ)} {part : List ℕ}
    (r : Result (Unit {0}) SinkFault) → faults ≤ faults' → OnErr r (HasRisen faults faults') →
    OnOk r (told' ≡ told_more told part) →
    OnErr r (IsWrittenPrefix told told' part) → IsTextWritten faults faults' told told' part (is_ok r)
said_by (Ok done) count fault whole front = said_whole count whole
said_by (Err lost) count fault whole front = said_cut count fault front

-- one part more was written, or a prefix of it
pub said_then : {faults faults' faults'' : ℕ} {told told' told'' : Option (List ℕ)} {text part : List ℕ}
    {whole : Bool} →
    IsTextWritten faults faults' told told' text true → IsTextWritten faults' faults'' told' told'' part whole →
    IsTextWritten faults faults'' told told'' (text ++ part) whole
said_then {told = told} {text = text} {part = part} {whole = true} one other = record {
  count = omega (arith, one.count, other.count);
  all = λ _. other.all refl ∙ ap (λ (t : Option (List ℕ)). told_more t part) (one.all refl)
      ∙ told_more-append told text part;
  risen = λ e. absurd (true≢false e);
  front = λ e. absurd (true≢false e);
}
said_then {told = told} {text = text} {part = part} {whole = false} one other =
    let wrote = other.front refl in
    record {
      count = omega (arith, one.count, other.count);
      all = λ e. absurd (true≢false (sym e));
      risen = λ _ end. omega (arith, one.count, other.risen refl end);
      front = λ _. (
        length text + wrote.0,
        (
          omega (arith, wrote.1.0, length-append text part),
          wrote.1.1 ∙ ap (λ (t : Option (List ℕ)). told_more t (take wrote.0 part)) (one.all refl)
              ∙ told_more-append told text (take wrote.0 part)
              ∙ ap (told_more told) (sym (take-append-add text part wrote.0)),
        ),
      );
    }

-- a fault that is handed on ended it early
pub said_lost : {faults faults' : ℕ} {told told' : Option (List ℕ)} {text : List ℕ} {lost : SinkFault}
    (r : Result (Unit {0}) SinkFault) → IsErrAnd r (λ e. e ≡ lost) → IsTextWritten faults faults' told told' text false
    →
    IsTextWritten faults faults' told told' text (is_ok r)
said_lost (Ok done) is said = absurd is
said_lost (Err lost) is said = said

-- an item more of a text that is written item by item
pub said_item : {A : Type 0} {faults faults' faults'' : ℕ} {told told' told'' : Option (List ℕ)} {whole : Bool}
    (front : List ℕ) (f : A → List ℕ) (items : List A) (i : ℕ) (d : A) → i < length items →
    IsTextWritten faults faults' told told' (front ++ flat_map f (take i items)) true →
    IsTextWritten faults' faults'' told' told'' (f (get_or items i d)) whole →
    IsTextWritten faults faults'' told told'' (front ++ flat_map f (take (i + 1) items)) whole
said_item front f items i d inside one other =
    said_as (flat_map_more f front (take i items) (get_or items i d)
    ∙ ap (λ ts. front ++ flat_map f ts) (sym (take_more items i d inside))) (said_then one other)

-- no item is written after a fault
pub said_items_lost : {A : Type 0} {faults faults' : ℕ} {told told' : Option (List ℕ)} (front : List ℕ)
    (f : A → List ℕ) (items : List A) (i : ℕ) →
    IsTextWritten faults faults' told told' (front ++ flat_map f (take i items)) false →
    IsTextWritten faults faults' told told' (front ++ flat_map f items) false
said_items_lost front f items i said =
    said_as (append_assoc front (flat_map f (take i items)) (flat_map f (drop i items))
    ∙ ap (λ (t : List ℕ). front ++ t) (sym (flat_map-append f (take i items) (drop i items))
    ∙ ap (flat_map f) (take-append-drop i items))) (said_no_more (flat_map f (drop i items)) said)
