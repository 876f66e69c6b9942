-- A refusal is read back from its name and its numbers.
use Rattle.std.proofs.Common.{◌≡◌, ℕ, ◌&&◌, not, ◌==◌, if◌then◌else◌, Bool, true, List, [], ◌∷◌, Option, Some}
use Rattle.std.proofs.Common.{None, codes, refl}
use Rattle.std.specs.List.{list_all}
use Rattle.std.specs.Str.{bytes_eq}
use Rattle.wire_curve.specs.declared.film.CurveFault.TheVariants.{NoPictures, TooManySlots, BufferTooSmall}
use Rattle.mpeg_scan.specs.declared.faults.FilmFault.TheVariants.{Empty, NoSequence, SystemCode, Mpeg2, ShortHeader}
use Rattle.mpeg_scan.specs.declared.faults.FilmFault.TheVariants.{BadRate, BadType, PictureWithoutSlices, HeadTooLong}
use Rattle.mpeg_scan.specs.declared.faults.FilmFault.TheVariants.{GroupTooLong, TooLong, HeadWithoutPicture}
use Rattle.sys_demux.specs.declared.faults.SystemFault.TheVariants.{NotPack, BadCode, BadPacket, Truncated}
use Rattle.cli_errors.specs.ErrorLines.{cause_words}
use Rattle.cli_errors.specs.declared.errors.InputError.{InputError}
use Rattle.cli_errors.specs.declared.errors.InputError.TheVariants.{NotFound, BadTrace, Curves, BadCert, BadScript}
use Rattle.cli_errors.specs.declared.errors.InputError.TheVariants.{Film, System, FilmTooLarge, NoConnection}
use Rattle.cli_errors.specs.declared.errors.InputError.TheVariants.{RefusedWith, BadReply, BadFrame, Framing}
use Rattle.cli_errors.specs.declared.errors.InputError.TheVariants.{EndedEarly, TurnsSpent}

-- a refusal with no number, and one with one number
abbrev lone_fault : InputError → List ℕ → Option InputError
lone_fault fault [] = Some fault
lone_fault fault (n ∷ ns) = None

abbrev placed_fault : (ℕ → InputError) → List ℕ → Option InputError
placed_fault fault [] = None
placed_fault fault (n ∷ []) = Some (fault n)
placed_fault fault (n ∷ m ∷ ns) = None

abbrev rate_fault : List ℕ → Option InputError
rate_fault [] = None
rate_fault (place ∷ []) = None
rate_fault (place ∷ code ∷ []) = Some (Film (BadRate place code))
rate_fault (place ∷ code ∷ n ∷ ns) = None

abbrev buffer_fault : List ℕ → Option InputError
buffer_fault [] = None
buffer_fault (slot ∷ []) = None
buffer_fault (slot ∷ used ∷ []) = None
buffer_fault (slot ∷ used ∷ least ∷ []) = Some (Curves (BufferTooSmall slot used least))
buffer_fault (slot ∷ used ∷ least ∷ n ∷ ns) = None

-- the refusal of curves or of a film with that name
abbrev stream_fault : List ℕ → List ℕ → Option InputError
stream_fault name numbers =
    if bytes_eq name (codes "NoPictures") then lone_fault (Curves NoPictures) numbers
    else if bytes_eq name (codes "TooManySlots") then placed_fault (λ n. Curves (TooManySlots n)) numbers
    else if bytes_eq name (codes "BufferTooSmall") then buffer_fault numbers
    else if bytes_eq name (codes "Empty") then lone_fault (Film Empty) numbers
    else if bytes_eq name (codes "NoSequence") then lone_fault (Film NoSequence) numbers
    else if bytes_eq name (codes "SystemCode") then placed_fault (λ n. Film (SystemCode n)) numbers
    else if bytes_eq name (codes "Mpeg2") then placed_fault (λ n. Film (Mpeg2 n)) numbers
    else if bytes_eq name (codes "ShortHeader") then placed_fault (λ n. Film (ShortHeader n)) numbers
    else if bytes_eq name (codes "BadRate") then rate_fault numbers
    else if bytes_eq name (codes "BadType") then placed_fault (λ n. Film (BadType n)) numbers
    else if bytes_eq name (codes "PictureWithoutSlices")
    then placed_fault (λ n. Film (PictureWithoutSlices n)) numbers
    else if bytes_eq name (codes "HeadTooLong") then placed_fault (λ n. Film (HeadTooLong n)) numbers
    else if bytes_eq name (codes "GroupTooLong") then placed_fault (λ n. Film (GroupTooLong n)) numbers
    else if bytes_eq name (codes "TooLong") then lone_fault (Film TooLong) numbers
    else if bytes_eq name (codes "HeadWithoutPicture")
    then placed_fault (λ n. Film (HeadWithoutPicture n)) numbers
    else if bytes_eq name (codes "NotPack") then placed_fault (λ n. System (NotPack n)) numbers
    else if bytes_eq name (codes "BadCode") then placed_fault (λ n. System (BadCode n)) numbers
    else if bytes_eq name (codes "BadPacket") then placed_fault (λ n. System (BadPacket n)) numbers
    else if bytes_eq name (codes "Truncated") then placed_fault (λ n. System (Truncated n)) numbers
    else None

-- the refusal with that name and those numbers
abbrev pub fault_from : List ℕ → List ℕ → Option InputError
fault_from name numbers =
    if bytes_eq name (codes "NotFound") then lone_fault NotFound numbers
    else if bytes_eq name (codes "BadTrace") then placed_fault BadTrace numbers
    else if bytes_eq name (codes "BadCert") then placed_fault BadCert numbers
    else if bytes_eq name (codes "BadScript") then placed_fault BadScript numbers
    else if bytes_eq name (codes "FilmTooLarge") then lone_fault FilmTooLarge numbers
    else if bytes_eq name (codes "NoConnection") then lone_fault NoConnection numbers
    else if bytes_eq name (codes "Refused") then placed_fault RefusedWith numbers
    else if bytes_eq name (codes "BadReply") then placed_fault BadReply numbers
    else if bytes_eq name (codes "BadFrame") then placed_fault BadFrame numbers
    else if bytes_eq name (codes "Framing") then lone_fault Framing numbers
    else if bytes_eq name (codes "EndedEarly") then placed_fault EndedEarly numbers
    else if bytes_eq name (codes "TurnsSpent") then lone_fault TurnsSpent numbers
    else stream_fault name numbers

-- neither a blank nor LF nor a colon
abbrev pub is_plain : ℕ → Bool
is_plain b = not (b == 32) && (not (b == 10) && not (b == 58))

-- a refusal is read back, and its name is one word
pub record IsKnown (fault : InputError) : Type 0 where
  pub from : fault_from (cause_words fault).name (cause_words fault).numbers ≡ Some fault
  pub word : list_all is_plain (cause_words fault).name ≡ true

pub each_is_known : (fault : InputError) → IsKnown fault
each_is_known NotFound = record { from = refl; word = refl }
each_is_known (Curves NoPictures) = record { from = refl; word = refl }
each_is_known (Curves _) = record { from = refl; word = refl }
each_is_known (Film Empty) = record { from = refl; word = refl }
each_is_known (Film _) = record { from = refl; word = refl }
each_is_known (System (NotPack n)) = record { from = refl; word = refl }
each_is_known (System _) = record { from = refl; word = refl }
each_is_known _ = record { from = refl; word = refl }
