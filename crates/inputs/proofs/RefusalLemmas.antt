-- Refusals whose causes follow from each other.
use Rattle.std.proofs.Common.{◌≡◌, ℕ, List, Option, Some, sym, subst}
use Rattle.vod_base.specs.IoState.{File}
use Rattle.mpeg_scan.specs.declared.faults.FilmFault.{FilmFault}
use Rattle.sys_demux.specs.declared.faults.SystemFault.{SystemFault}
use Rattle.cli_errors.specs.ReadErrors.{IsReadError}
use Rattle.cli_errors.specs.declared.errors.InputError.{InputError}
use Rattle.cli_errors.specs.declared.errors.InputError.TheVariants.{Film, System}
use Rattle.cli_errors.specs.declared.errors.CliError.{CliError}
use Rattle.cli_errors.specs.declared.errors.CliError.TheVariants.{Refused, NoMemory}
use Rattle.inputs.specs.FileReads.{IsThatName}
use Rattle.inputs.specs.LoadErrors.{IsFilmFault, IsFilmError, IsRefusal, IsSystemFault}

-- what is true of each fault of a film that is refused for it; and of each of a system stream
pub each_film_fault : {Refuses : FilmFault → Type 0} (P : InputError → Type 0) (fault : InputError)
    → ((own : FilmFault) → Refuses own → P (Film own)) → IsFilmFault Refuses fault → P fault
each_film_fault P (Film own) holds h = holds own h
each_film_fault P other holds h = absurd h

pub each_system_fault : {Refuses : SystemFault → Type 0} (P : InputError → Type 0) (fault : InputError)
    → ((own : SystemFault) → Refuses own → P (System own)) → IsSystemFault Refuses fault → P fault
each_system_fault P (System own) holds h = holds own h
each_system_fault P other holds h = absurd h

-- a refusal for one reason, as one for another
pub refusal_map : {Refuses Refuses' : InputError → Type 0} (name : List ℕ) (t : CliError) →
    ((fault : InputError) → Refuses fault → Refuses' fault) → IsRefusal name Refuses t → IsRefusal name Refuses' t
refusal_map name (Refused other fault) refuses h = (h.0, refuses fault h.1)
refusal_map name NoMemory refuses h = tt
refusal_map name _ refuses h = absurd h

pub film_trouble_map : {Refuses Refuses' : FilmFault → Type 0} (name : List ℕ) (t : CliError) →
    ((fault : FilmFault) → Refuses fault → Refuses' fault) → IsFilmError name Refuses t →
    IsFilmError name Refuses' t
film_trouble_map {Refuses} {Refuses'} name t refuses h =
    refusal_map name t (λ fault is. each_film_fault (IsFilmFault Refuses') fault refuses is) h

-- a call that reads the file of a name in a library: what the library exposes, and its count of faults before and after
pub record LibraryCall : Type 0 where
  pub told : Option (List File)
  pub name : List ℕ
  pub before : ℕ
  pub after : ℕ

abbrev pub library_call : Option (List File) → List ℕ → ℕ → ℕ → LibraryCall
library_call told name before after = record { told = told; name = name; before = before; after = after }

-- a refusal of what was read, for a reason for which what the library exposes of it is refused
pub refusal_read : {Reason : InputError → Type 0} (Refuses : List File → List ℕ → InputError → Type 0)
    (call : LibraryCall) (t : CliError) → ((held : List File) (fault : InputError) → call.told ≡ Some held →
    Reason fault → Refuses held call.name fault) → IsRefusal call.name Reason t →
    IsReadError (IsThatName call.name) Refuses call.told call.before call.after t
refusal_read Refuses call (Refused other fault) means h =
    (h.0, λ held is. subst (λ (n : List ℕ). Refuses held n fault) (sym h.0) (means held fault is h.1))
refusal_read Refuses call NoMemory means h = tt
refusal_read Refuses call _ means h = absurd h
