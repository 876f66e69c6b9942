-- The lines of units, piece by piece, and the words at their end.
use Rattle.std.proofs.Common.{◌≡◌, ℕ, ◌+◌, ◌-◌, ◌≤◌, List, [], ◌∷◌, ◌++◌, All, codes, drop, length, take, sym, subst}
use Rattle.std.proofs.Common.{ap, ◌∙◌, arith, add-zero, get_or, ◌<◌, Bool, Option, Result}
use Rattle.std.specs.Prelude.{slice_range, OnErr, OnOk, is_ok}
use Rattle.std.proofs.Math.Seq.{take-add}
use Rattle.std.proofs.lemmas.List.{append_assoc, drop_more, length-drop, length-take-le, take_all}
use Rattle.std.proofs.lemmas.List.Elements.{All-append, All-cons}
use Rattle.vod_base.specs.IoState.{HasRisen, IsWrittenPrefix, told_more}
use Rattle.vod_base.specs.declared.errors.SinkFault.{SinkFault}
use Rattle.cli_errors.specs.StreamWrites.{IsTextWritten}
use Rattle.cli_errors.proofs.StreamWriteLemmas.{said_by}
use Rattle.mpeg_scan.specs.declared.units.Unit.{Unit as PictureUnit}
use Rattle.offline_commands.specs.ScanText.{word_if, unit_line, unit_lines}
use Rattle.offline_commands.specs.TextLaws.{IsShortUnit}

-- the words at the end of a unit's line
abbrev pub marks : Bool → Bool → List ℕ
marks sequence group = word_if sequence (codes " sequence") ++ word_if group (codes " group") ++ codes "\n"

unit_lines-append : (number : ℕ) (units more : List PictureUnit) →
    unit_lines number (units ++ more) ≡ unit_lines number units ++ unit_lines (number + length units) more
unit_lines-append number [] more = ap (λ (n : ℕ). unit_lines n more) (sym (add-zero number))
unit_lines-append number (first ∷ units) more =
    ap (λ (l : List ℕ). unit_line number first ++ l) (unit_lines-append (number + 1) units more)
    ∙ ap (λ (n : ℕ). unit_line number first ++ (unit_lines (number + 1) units ++ unit_lines n more)) (omega arith)
    ∙ sym (append_assoc (unit_line number first) (unit_lines (number + 1) units)
    (unit_lines (number + length (first ∷ units)) more))

-- the units up to a place, and a piece more
take-piece : (units : List PictureUnit) (first last : ℕ) → first ≤ last →
    take last units ≡ take first units ++ slice_range units first last
take-piece units first last order =
    ap (λ (n : ℕ). take n units) (omega (arith, order)) ∙ take-add first (last - first) units

-- the lines up to a place after a head, and those of a piece more
pub lines-more : (head : List ℕ) (units : List PictureUnit) (first last : ℕ) → first ≤ last → last ≤ length units →
    (head ++ unit_lines 0 (take first units)) ++ unit_lines first (slice_range units first last)
    ≡ head ++ unit_lines 0 (take last units)
lines-more head units first last order within =
    let at : first ≡ 0 + length (take first units) =
    omega (arith, length-take-le first units (omega (arith, order, within))) in
    append_assoc head (unit_lines 0 (take first units)) (unit_lines first (slice_range units first last))
    ∙ ap (λ (l : List ℕ). head ++ l)
    (ap (λ (n : ℕ). unit_lines 0 (take first units) ++ unit_lines n (slice_range units first last)) at
    ∙ sym (unit_lines-append 0 (take first units) (slice_range units first last))
    ∙ ap (unit_lines 0) (sym (take-piece units first last order)))

pub short-more : (units : List PictureUnit) (first last : ℕ) → first ≤ last → All IsShortUnit (take first units)
    → All IsShortUnit (slice_range units first last) → All IsShortUnit (take last units)
short-more units first last order before piece =
    subst (λ us. All IsShortUnit us) (sym (take-piece units first last order))
    (All-append IsShortUnit (take first units) (slice_range units first last) before piece)

-- the lines up to a place that is the end, and a last one
pub lines-end : (head : List ℕ) (units : List PictureUnit) (place : ℕ) (end : List ℕ) → length units ≤ place →
    (head ++ unit_lines 0 (take place units)) ++ end ≡ head ++ unit_lines 0 units ++ end
lines-end head units place end past =
    ap (λ (us : List PictureUnit). head ++ unit_lines 0 us ++ end) (take_all place units past)

-- what stands in a piece from a place on
pub piece-from : (piece : List ℕ) (start : ℕ) → slice_range piece start (length piece) ≡ drop start piece
piece-from piece start = take_all (length piece - start) (drop start piece) (omega (arith, length-drop start piece))

pub written-if : {faults faults' : ℕ} {told told' : Option (List ℕ)} {text : List ℕ} {is is' : Bool} → is ≡ is' →
    IsTextWritten faults faults' told told' text is → IsTextWritten faults faults' told told' text is'
written-if {faults} {faults'} {told} {told'} {text} e said =
    subst (λ b. IsTextWritten faults faults' told told' text b) e said

-- the line of the unit before others, and theirs
pub line-before : {text rest : List ℕ} (first : ℕ) (units : List PictureUnit) (left : ℕ) (unit : PictureUnit) → 0 < left
    → left ≤ length units → text ≡ unit_line (first + (left - 1)) (get_or units (left - 1) unit) ++ rest
    → rest ≡ unit_lines (first + left) (drop left units) → text ≡ unit_lines (first + (left - 1))
    (drop (left - 1) units)
line-before first units left unit some within is after =
    is
    ∙ ap (λ (t : List ℕ). line ++ t) after
    ∙ ap (λ (n : ℕ). line ++ unit_lines n (drop left units)) (omega (arith, some))
    ∙ ap (λ (n : ℕ). line ++ unit_lines (first + (left - 1) + 1) (drop n units)) (omega (arith, some))
    ∙ sym (ap (unit_lines (first + (left - 1))) (drop_more units (left - 1) unit (omega (arith, some, within))))
  where
    line : List ℕ
    line = unit_line (first + (left - 1)) (get_or units (left - 1) unit)

pub short-before : (units : List PictureUnit) (left : ℕ) (unit : PictureUnit) → 0 < left → left ≤ length units →
    IsShortUnit (get_or units (left - 1) unit) → All IsShortUnit (drop left units) →
    All IsShortUnit (drop (left - 1) units)
short-before units left unit some within one rest =
    subst (λ us. All IsShortUnit us) (sym (drop_more units (left - 1) unit (omega (arith, some, within))))
    (All-cons IsShortUnit (get_or units (left - 1) unit) (drop (left - 1 + 1) units) one
    (subst (λ n. All IsShortUnit (drop n units)) (omega (arith, some)) rest))

-- what a write wrote, as a truth value says
pub written-by : {faults faults' : ℕ} {told told' : Option (List ℕ)} {part : List ℕ} {is : Bool}
    (r : Result (Unit {0}) SinkFault) → is ≡ is_ok r → faults ≤ faults' → OnErr r (HasRisen faults faults') →
    OnOk r (told' ≡ told_more told part) → OnErr r (IsWrittenPrefix told told' part) →
    IsTextWritten faults faults' told told' part is
written-by r is count fault whole front = written-if (sym is) (said_by r count fault whole front)
