-- Lemmas on elements and on what was sent, one step after another.
use Rattle.std.proofs.Common.{arith, ◌≡◌, ℕ, List, ◌++◌, drop, Ok, sym, subst}
use Rattle.interleave.specs.Streams.{AreInputElements, returned_length, returned_elements}
use Rattle.interleave.specs.Elements.{IsFirst}
use Rattle.interleave.specs.declared.elements.Step.{Step}
use Rattle.interleave.proofs.StreamElements.{next_elements}
use Rattle.conn.specs.Events.{CutsOn}

pub cuts_none : (input : List ℕ) → CutsOn input input
cuts_none input = record { each = λ bytes elements cut. (elements, cut) }

pub cuts_on : {a b c : List ℕ} → CutsOn a b → CutsOn b c → CutsOn a c
cuts_on first second = grind arith

-- the first element is dropped
pub cuts_drop : {input rest : List ℕ} (step : Step) → IsFirst input (Ok step)
    → rest ≡ drop (returned_length (Ok step)) input → CutsOn input rest
cuts_drop {input} step first dropped = record {
  each = λ bytes elements cut. (
    elements ++ returned_elements input (Ok step),
    subst (λ x. AreInputElements bytes (elements ++ returned_elements input (Ok step)) x) (sym dropped)
        (next_elements input (Ok step) first bytes elements cut),
  );
}

-- bytes came after those that wait
pub cuts_same : (old new : List ℕ) → new ≡ old → CutsOn old new
cuts_same old new same = rw same (cuts_none old)
