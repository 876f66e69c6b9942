-- What is known of the waiting bytes stays true as more bytes come.
use Rattle.std.proofs.Common.{◌≡◌, ℕ, ◌-◌, ◌<◌, ◌≤◌, ◌++◌, List, length, take, drop, refl, sym, ◌∙◌, subst, arith}
use Rattle.std.proofs.lemmas.List.{get_or_append_left, drop-append-le, take-append-le, length-append}
use Rattle.interleave.specs.Heads.{empty_line_ends, HasNoHead, IsHead}
use Rattle.interleave.specs.Lengths.{IsBodyLength, IsLongBody}
use Rattle.interleave.specs.Elements.{IsMessageLength, IsBodyTooLong}
use Rattle.interleave.specs.HeadSearch.{IsHeadSearch, IsSettled}
use Rattle.interleave.specs.declared.message_heads.HeadSearch.{HeadSearch}
use Rattle.interleave.specs.declared.message_heads.HeadSearch.TheVariants.{Searched, Length}

-- an empty line ends at the same places
pub empty_line_ends-append : (w v : List ℕ) (k : ℕ) → k < length w → empty_line_ends (w ++ v) k ≡ empty_line_ends w k
empty_line_ends-append w v k h =
    rw (
      get_or_append_left w v 0 k h,
      get_or_append_left w v 0 (k - 1) (omega arith),
      get_or_append_left w v 0 (k - 2) (omega arith),
    ) refl

pub HasNoHead-append : (w v : List ℕ) (n : ℕ) → n ≤ length w → HasNoHead w n → HasNoHead (w ++ v) n
HasNoHead-append w v n within none = λ k h. empty_line_ends-append w v k (omega arith) ∙ none k h

pub IsHead-append : (w v : List ℕ) (head : ℕ) → IsHead w head → IsHead (w ++ v) head
IsHead-append w v head h = record {
  some = h.some;
  within = omega (arith, length-append w v, h.within);
  ends = empty_line_ends-append w v (head - 1) (omega (arith, h.some, h.within)) ∙ h.ends;
  first = λ k below. empty_line_ends-append w v k (omega (arith, h.within)) ∙ h.first k below;
}

-- a head's bytes stay
pub front_stays : (w v : List ℕ) (head : ℕ) → IsHead w head → take head (w ++ v) ≡ take head w
front_stays w v head h = take-append-le head w v h.within

pub IsMessageLength-append : (w v : List ℕ) (total : ℕ) → IsMessageLength w total → IsMessageLength (w ++ v) total
IsMessageLength-append w v total r =
    let P : List ℕ → Type 0 = λ l. IsBodyLength l r.body in
    record {
      head = r.head;
      body = r.body;
      is_head = IsHead-append w v r.head r.is_head;
      fits = r.fits;
      is_body = subst P (sym (front_stays w v r.head r.is_head)) r.is_body;
      small = r.small;
      total_is = r.total_is;
    }

pub IsBodyTooLong-append : (w v : List ℕ) → IsBodyTooLong w → IsBodyTooLong (w ++ v)
IsBodyTooLong-append w v r =
    record {
      head = r.head;
      is_head = IsHead-append w v r.head r.is_head;
      fits = r.fits;
      long = subst IsLongBody (sym (front_stays w v r.head r.is_head)) r.long;
    }

pub IsHeadSearch-append : (w v : List ℕ) (known : HeadSearch) → IsHeadSearch w known → IsHeadSearch (w ++ v) known
IsHeadSearch-append w v (Searched to) h = (omega (arith, length-append w v, h.0), h.1, HasNoHead-append w v to h.0 h.2)
IsHeadSearch-append w v (Length total) h = IsMessageLength-append w v total h

-- bytes from a place on are moved to another place
pub record AreMoved (old : List ℕ) (from : ℕ) (items : List ℕ) (start : ℕ) : Type 0 where
  pub within : start ≤ length items
  pub same : drop start items ≡ drop from old

-- the same, where the bytes are stored after others and were moved before more came
pub kept_known : {old : List ℕ} {from : ℕ} {items : List ℕ} {start : ℕ} (more : List ℕ) (known : HeadSearch) →
    AreMoved old from items start →
    IsHeadSearch (drop from old) known → IsHeadSearch (drop start (items ++ more)) known
kept_known {items} {start} more known moved h =
    let P : List ℕ → Type 0 = λ l. IsHeadSearch l known in
    rw (drop-append-le start items more moved.within)
    (IsHeadSearch-append (drop start items) more known (subst P (sym moved.same) h))

-- what is settled is known
pub settled_known : (w : List ℕ) (known : HeadSearch) → IsSettled w known → IsHeadSearch w known
settled_known w (Searched to) h = (omega (arith, h.0), omega (arith, h.1), h.2)
settled_known w (Length total) h = h
