-- A complete film fed at once.
use Rattle.std.proofs.Common.{ℕ, ◌+◌, ◌^◌, ◌<◌, ◌≤◌, ◌≡◌, List, [], ◌∷◌, ◌++◌, Option}
use Rattle.std.proofs.Common.{Some, None, Result, Err, length, ◌∙◌, ap, refl, arith}
use Rattle.mpeg_scan.specs.declared.faults.FilmFault.{FilmFault}
use Rattle.mpeg_scan.specs.declared.faults.ScanRefused.{ScanRefused}
use Rattle.mpeg_scan.specs.declared.faults.FilmFault.TheVariants.{TooLong}
use Rattle.mpeg_scan.specs.declared.units.Unit.{Unit as PictureUnit}
use Rattle.mpeg_scan.specs.StartCodes.{read_after, codes_of}
use Rattle.mpeg_scan.specs.FilmFaults.{first_refusal, first_fault, end_fault, refusal_of}
use Rattle.mpeg_scan.specs.Calls.{Call, head_call, slice_call, unit_call, calls_of}
use Rattle.mpeg_scan.specs.Films.{units_in, slices_in, refusal}
use Rattle.mpeg_scan.proofs.ScanStepLemmas.{codes-none, refusal-of_codes, refusal-of_many}

-- an answer is one error
pub same-error : {T : Type 0} {e f : ScanRefused} (r : Result T ScanRefused) → r ≡ Err e →
    r ≡ Err f → e ≡ f
same-error r p q = cc

pub length-read : (xs r : List ℕ) → length (read_after r xs) ≡ length r + length xs
length-read [] r = omega arith
length-read (x ∷ xs) r = length-read xs (x ∷ r) ∙ omega arith

pub units_in-append : (a b : List Call) → units_in (a ++ b) ≡ units_in a ++ units_in b
units_in-append [] b = refl
units_in-append (head_call from to ∷ a) b = units_in-append a b
units_in-append (slice_call from to ∷ a) b = units_in-append a b
units_in-append (unit_call unit ∷ a) b = ap (λ (l : List PictureUnit). unit ∷ l) (units_in-append a b)

pub slices_in-append : (a b : List Call) → slices_in (a ++ b) ≡ slices_in a ++ slices_in b
slices_in-append [] b = refl
slices_in-append (head_call from to ∷ a) b = slices_in-append a b
slices_in-append (slice_call from to ∷ a) b = ap (λ (l : List ℕ). from ∷ l) (slices_in-append a b)
slices_in-append (unit_call unit ∷ a) b = slices_in-append a b

-- no bytes give no calls
pub calls-none : calls_of (codes_of []) ≡ []
unfolding calls_of
calls-none = ap calls_of codes-none

first_fault-none : first_fault (codes_of []) ≡ None
unfolding first_fault
first_fault-none = ap first_fault codes-none

-- a refusal at a code is the film's
refusal-some : (r : List ℕ) (f : FilmFault) → 0 < length r → length r ≤ 2 ^ 40
    → first_fault (codes_of r) ≡ Some f → refusal_of r ≡ Some f
refusal-some r f some short is =
    refusal-of_codes r some short
    ∙ ap (λ (o : Option FilmFault). first_refusal o (end_fault (codes_of r) (length r))) is

apart : (f : FilmFault) → first_fault (codes_of []) ≡ Some f → ⊥
apart f is = let none = first_fault-none in cc

refusal-at : (r : List ℕ) (f : FilmFault) → length r ≤ 2 ^ 40 → first_fault (codes_of r) ≡ Some f
    → refusal_of r ≡ Some f
refusal-at [] f short is = absurd (apart f is)
refusal-at (x ∷ r) f short is = refusal-some (x ∷ r) f (omega arith) short is

pub refusal-at_code : (bytes : List ℕ) (f : FilmFault) → length bytes ≤ 2 ^ 40
    → first_fault (codes_of (read_after [] bytes)) ≡ Some f → refusal bytes ≡ Some f
refusal-at_code bytes f short is = refusal-at (read_after [] bytes) f (omega (arith, length-read bytes [])) is

pub refusal-too_long : (bytes : List ℕ) → 2 ^ 40 < length bytes → refusal bytes ≡ Some TooLong
refusal-too_long bytes long = refusal-of_many (read_after [] bytes) (omega (arith, length-read bytes []))
