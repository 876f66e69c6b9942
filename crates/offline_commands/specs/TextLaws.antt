-- What a reader of the texts of a scan, a verdict and `--help` can learn from them.
use Rattle.std.specs.Prelude.{ℕ, ◌≡◌, ◌<◌, ◌^◌, ◌==◌, ◌||◌, List, [], ◌∷◌, All, IfSome, codes}
use Rattle.std.specs.Prelude.{decimal, length, slice_index_or}
use Rattle.std.specs.List.{AllZip, list_any, slice_split}
use Rattle.std.specs.Str.{bytes_eq}
use Rattle.mpeg_scan.specs.declared.units.Unit.{Unit as PictureUnit}
use Rattle.cert_check.specs.declared.CertFault.{CertFault}
use Rattle.cert_check.specs.CertFaults.{fault_number}
use Rattle.cli_args.specs.Settings.{values_of}
use Rattle.offline_commands.specs.ScanText.{kind_text}

-- its number, if it has one, has 64 bits
abbrev pub IsShortFault : CertFault → Type 0
IsShortFault fault = IfSome (fault_number fault) (λ n. n < 2 ^ 64)

-- numbers of 64 bits, as those of every scan
pub record IsShortUnit (unit : PictureUnit) : Type 0 where
  pub presentation : unit.presentation < 2 ^ 64
  pub from : unit.from < 2 ^ 64
  pub head_end : unit.head_end < 2 ^ 64
  pub to : unit.to < 2 ^ 64
  pub slices : unit.slices < 2 ^ 64

-- a scan in numbers of 64 bits: its film's size, its rate code, and its units and their count
pub record IsShortScan (size rate : ℕ) (units : List PictureUnit) : Type 0 where
  pub size_short : size < 2 ^ 64
  pub rate_short : rate < 2 ^ 64
  pub count_short : length units < 2 ^ 64
  pub units_short : All IsShortUnit units

-- the units have the same kind and place in presentation order, the same places in the film, as
-- many slices, and the same headers
pub record AreAlike (unit other : PictureUnit) : Type 0 where
  pub kind : unit.kind ≡ other.kind
  pub presentation : unit.presentation ≡ other.presentation
  pub places : (unit.from ≡ other.from) × (unit.head_end ≡ other.head_end) × (unit.to ≡ other.to)
  pub slices : unit.slices ≡ other.slices
  pub headers : (unit.has_sequence ≡ other.has_sequence) × (unit.starts_group ≡ other.starts_group)

-- the words of a line, parted by blanks and by its end
abbrev pub words_in : List ℕ → List (List ℕ)
words_in line = slice_split (λ b. (b == 32) || (b == 10)) line

-- one word of a line is `key=number`, and no other has that key
abbrev pub GivesOnce : List ℕ → List ℕ → ℕ → Type 0
GivesOnce line key number = values_of key (words_in line) ≡ decimal number ∷ []

-- What a line gives of a unit: its number first and its kind second, and by their keys its place in
-- presentation order, the places where it begins, where its first slice begins and where it ends,
-- and its number of slices; `sequence` stands there where a sequence header does, `group` where the
-- unit starts a group.
pub record LineShowsUnit (number : ℕ) (unit : PictureUnit) (line : List ℕ) : Type 0 where
  pub number_told : slice_index_or (words_in line) 0 [] ≡ decimal number
  pub kind_told : slice_index_or (words_in line) 1 [] ≡ kind_text unit.kind
  pub show_told : GivesOnce line (codes "show") unit.presentation
  pub from_told : GivesOnce line (codes "from") unit.from
  pub head_told : GivesOnce line (codes "head") unit.head_end
  pub to_told : GivesOnce line (codes "to") unit.to
  pub slices_told : GivesOnce line (codes "slices") unit.slices
  pub sequence_told : list_any (bytes_eq (codes "sequence")) (words_in line) ≡ unit.has_sequence
  pub group_told : list_any (bytes_eq (codes "group")) (words_in line) ≡ unit.starts_group

-- what the first line of a scan says: the film's bytes, its rate code and its pictures
pub record LineShowsFilm (bytes rate pictures : ℕ) (line : List ℕ) : Type 0 where
  pub bytes_told : GivesOnce line (codes "bytes") bytes
  pub rate_told : GivesOnce line (codes "rate") rate
  pub pictures_told : GivesOnce line (codes "pictures") pictures

-- what a scan says: the film's size, its rate code, and its units in order
pub record IsSameScan (bytes bytes' rate rate' : ℕ) (units units' : List PictureUnit) : Type 0 where
  pub bytes_are : bytes ≡ bytes'
  pub rate_is : rate ≡ rate'
  pub units_are : AllZip AreAlike units units'
