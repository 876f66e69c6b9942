-- The line that the program writes on its error stream.
use Rattle.std.specs.Prelude.{ℕ, List, [], ◌∷◌, ◌++◌, codes, flat_map}
use Rattle.wire_curve.specs.declared.film.CurveFault.{CurveFault}
use Rattle.wire_curve.specs.declared.film.CurveFault.TheVariants.{NoPictures, TooManySlots}
use Rattle.wire_curve.specs.declared.film.CurveFault.TheVariants.{BufferTooSmall}
use Rattle.mpeg_scan.specs.declared.faults.FilmFault.{FilmFault}
use Rattle.mpeg_scan.specs.declared.faults.FilmFault.TheVariants.{Empty, NoSequence, SystemCode}
use Rattle.mpeg_scan.specs.declared.faults.FilmFault.TheVariants.{Mpeg2, ShortHeader, BadRate}
use Rattle.mpeg_scan.specs.declared.faults.FilmFault.TheVariants.{BadType, PictureWithoutSlices}
use Rattle.mpeg_scan.specs.declared.faults.FilmFault.TheVariants.{HeadTooLong, GroupTooLong}
use Rattle.mpeg_scan.specs.declared.faults.FilmFault.TheVariants.{TooLong, HeadWithoutPicture}
use Rattle.sys_demux.specs.declared.faults.SystemFault.{SystemFault}
use Rattle.sys_demux.specs.declared.faults.SystemFault.TheVariants.{NotPack, BadCode, BadPacket}
use Rattle.sys_demux.specs.declared.faults.SystemFault.TheVariants.{Truncated}
use Rattle.cli_errors.specs.StreamWrites.{number_text}
use Rattle.cli_errors.specs.declared.errors.InputError.{InputError}
use Rattle.cli_errors.specs.declared.errors.InputError.TheVariants.{NotFound, BadTrace, Curves}
use Rattle.cli_errors.specs.declared.errors.InputError.TheVariants.{BadCert, BadScript, Film}
use Rattle.cli_errors.specs.declared.errors.InputError.TheVariants.{System, FilmTooLarge}
use Rattle.cli_errors.specs.declared.errors.InputError.TheVariants.{NoConnection, RefusedWith}
use Rattle.cli_errors.specs.declared.errors.InputError.TheVariants.{BadReply, BadFrame, Framing}
use Rattle.cli_errors.specs.declared.errors.InputError.TheVariants.{EndedEarly, TurnsSpent}
use Rattle.cli_errors.specs.declared.errors.CliError.{CliError}
use Rattle.cli_errors.specs.declared.errors.CliError.TheVariants.{Usage, Refused, StoreFault}
use Rattle.cli_errors.specs.declared.errors.CliError.TheVariants.{SinkFault, NoMemory, GateFault}
use Rattle.cli_errors.specs.declared.errors.CliError.TheVariants.{LinkFault}

-- a refusal's name and the numbers that go with it
pub record CauseText : Type 0 where
  pub name : List ℕ
  pub numbers : List ℕ

abbrev pub words : List ℕ → List ℕ → CauseText
words name numbers = record { name = name; numbers = numbers }

-- the name followed by the numbers
abbrev pub words_text : CauseText → List ℕ
words_text refusal = refusal.name ++ flat_map number_text refusal.numbers

abbrev pub curve_cause_words : CurveFault → CauseText
curve_cause_words NoPictures = words (codes "NoPictures") []
curve_cause_words (TooManySlots slots) = words (codes "TooManySlots") (slots ∷ [])
curve_cause_words (BufferTooSmall slot used least) =
    words (codes "BufferTooSmall") (slot ∷ used ∷ least ∷ [])

abbrev pub film_cause_words : FilmFault → CauseText
film_cause_words Empty = words (codes "Empty") []
film_cause_words NoSequence = words (codes "NoSequence") []
film_cause_words (SystemCode place) = words (codes "SystemCode") (place ∷ [])
film_cause_words (Mpeg2 place) = words (codes "Mpeg2") (place ∷ [])
film_cause_words (ShortHeader place) = words (codes "ShortHeader") (place ∷ [])
film_cause_words (BadRate place code) = words (codes "BadRate") (place ∷ code ∷ [])
film_cause_words (BadType place) = words (codes "BadType") (place ∷ [])
film_cause_words (PictureWithoutSlices place) = words (codes "PictureWithoutSlices") (place ∷ [])
film_cause_words (HeadTooLong place) = words (codes "HeadTooLong") (place ∷ [])
film_cause_words (GroupTooLong place) = words (codes "GroupTooLong") (place ∷ [])
film_cause_words TooLong = words (codes "TooLong") []
film_cause_words (HeadWithoutPicture place) = words (codes "HeadWithoutPicture") (place ∷ [])

abbrev pub system_cause_words : SystemFault → CauseText
system_cause_words (NotPack place) = words (codes "NotPack") (place ∷ [])
system_cause_words (BadCode place) = words (codes "BadCode") (place ∷ [])
system_cause_words (BadPacket place) = words (codes "BadPacket") (place ∷ [])
system_cause_words (Truncated place) = words (codes "Truncated") (place ∷ [])

abbrev pub cause_words : InputError → CauseText
cause_words NotFound = words (codes "NotFound") []
cause_words (BadTrace place) = words (codes "BadTrace") (place ∷ [])
cause_words (Curves fault) = curve_cause_words fault
cause_words (BadCert line) = words (codes "BadCert") (line ∷ [])
cause_words (BadScript line) = words (codes "BadScript") (line ∷ [])
cause_words (Film fault) = film_cause_words fault
cause_words (System fault) = system_cause_words fault
cause_words FilmTooLarge = words (codes "FilmTooLarge") []
cause_words NoConnection = words (codes "NoConnection") []
cause_words (RefusedWith code) = words (codes "Refused") (code ∷ [])
cause_words (BadReply number) = words (codes "BadReply") (number ∷ [])
cause_words (BadFrame number) = words (codes "BadFrame") (number ∷ [])
cause_words Framing = words (codes "Framing") []
cause_words (EndedEarly pictures) = words (codes "EndedEarly") (pictures ∷ [])
cause_words TurnsSpent = words (codes "TurnsSpent") []

abbrev pub cause_text : InputError → List ℕ
cause_text fault = words_text (cause_words fault)

abbrev pub refusal_text : List ℕ → InputError → List ℕ
refusal_text name fault = codes "vodserve: " ++ name ++ codes ": " ++ cause_text fault ++ codes "\n"

abbrev pub error_text : CliError → List ℕ
error_text Usage = codes "vodserve: usage\n"
error_text (Refused name fault) = refusal_text name.now fault
error_text (StoreFault name) = codes "vodserve: " ++ name.now ++ codes ": StoreFault\n"
error_text SinkFault = codes "vodserve: SinkFault\n"
error_text NoMemory = codes "vodserve: NoMemory\n"
error_text GateFault = codes "vodserve: GateFault\n"
error_text LinkFault = codes "vodserve: LinkFault\n"
