-- Texts that are appended one after the other.
use Rattle.std.proofs.Common.{ℕ, ◌≡◌, List, [], ◌++◌, Result, Ok, Err, OnOk, OnErr, IsErr, append_assoc, append-nil}
use Rattle.std.proofs.Common.{refl, sym, ap, subst, ◌∙◌}
use Rattle.std.proofs.lemmas.Bool.{false≢true}
use Rattle.vod_base.specs.declared.errors.NoMemory.{NoMemory}
use Rattle.vod_base.specs.Appends.{HasPrefixOf, IsAppended}

abbrev Answer : Type 0
Answer = Result (Unit {0}) NoMemory

-- a prefix of the first text is a prefix of both
front_of_first : (before text next after : List ℕ) → HasPrefixOf before text after → HasPrefixOf before (text ++ next)
    after
front_of_first before text next after cut = record {
  front = cut.front;
  rest = cut.rest ++ next;
  text_is = ap (λ (l : List ℕ). l ++ next) cut.text_is ∙ append_assoc cut.front cut.rest next;
  after_is = cut.after_is;
}

-- both texts
pub both : {mid after : List ℕ} (before text next : List ℕ) → mid ≡ before ++ text → after ≡ mid ++ next
    → after ≡ before ++ (text ++ next)
both before text next first second = second ∙ ap (λ (l : List ℕ). l ++ next) first ∙ append_assoc before text next

-- after the complete first text, the second one is appended
pub then_appended : {before next mid after : List ℕ} {r : Answer} → (text : List ℕ) → mid ≡ before ++ text
    → IsAppended mid next after r → IsAppended before (text ++ next) after r
then_appended {before} {next} {r = Ok done} text whole more =
    record { whole = both before text next whole more.whole; cut = tt }
then_appended {before} {r = Err e} text whole more =
    let cut = more.cut in
    record {
      whole = tt;
      cut = record {
        front = text ++ cut.front;
        rest = cut.rest;
        text_is = ap (λ (l : List ℕ). text ++ l) cut.text_is ∙ sym (append_assoc text cut.front cut.rest);
        after_is = both before text cut.front whole cut.after_is;
      };
    }

-- an incomplete text stays so, whatever was to follow
pub cut_before : {before text after : List ℕ} {e : NoMemory} → (next : List ℕ)
    → IsAppended before text after (Err e) → IsAppended before (text ++ next) after (Err e)
cut_before next cut = record { whole = tt; cut = front_of_first _ _ next _ cut.cut }

-- an error of memory is passed on
pub handed_on : {before text after : List ℕ} {e : NoMemory} (r : Answer) → IsErr r
    → IsAppended before text after (Err e) → IsAppended before text after r
handed_on (Ok done) none cut = absurd (false≢true none)
handed_on (Err other) none cut = record { whole = tt; cut = cut.cut }

-- without memory, nothing of a text was appended
pub none_appended : {before text after : List ℕ} (r : Answer) → IsErr r → after ≡ before → IsAppended before text after
    r
none_appended (Ok done) none kept = absurd (false≢true none)
none_appended {before} {text} (Err e) none kept = record {
  whole = tt;
  cut = record { front = []; rest = text; text_is = refl; after_is = kept ∙ sym (append-nil before) };
}

-- all of a text was appended, or nothing
pub all_or_none : {before text after : List ℕ} (r : Answer) → OnOk r (after ≡ before ++ text) → OnErr r (after ≡ before)
    → IsAppended before text after r
all_or_none (Ok done) whole kept = record { whole = whole; cut = tt }
all_or_none (Err e) whole kept = none_appended (Err e) refl kept

-- the same text in other words
pub appended_as : {before text whole after : List ℕ} {r : Answer} → text ≡ whole
    → IsAppended before text after r → IsAppended before whole after r
appended_as {before} {after} {r} same done = subst (λ (l : List ℕ). IsAppended before l after r) same done
