-- Errors whose causes follow from each other.
use Rattle.std.proofs.Common.{◌≡◌, ℕ, ◌≤◌, List, Option, Some, true, arith}
use Rattle.vod_base.specs.Names.{good_name}
use Rattle.vod_base.specs.IoState.{File}
use Rattle.cli_errors.specs.ReadErrors.{IsReadError}
use Rattle.cli_errors.specs.ErrorReports.{HasGoodName}
use Rattle.cli_errors.specs.declared.errors.InputError.{InputError}
use Rattle.cli_errors.specs.declared.errors.CliError.{CliError}
use Rattle.cli_errors.specs.declared.errors.CliError.TheVariants.{Refused, StoreFault}
use Rattle.cli_errors.specs.declared.errors.CliError.TheVariants.{NoMemory}

-- what the error of a call that reads a library may come from: the inputs that it reads, what a
-- refusal goes with, what the library exposes, and its count of faults before and after
pub record Causes : Type 1 where
  pub Reads : List ℕ → Type 0
  pub Refuses : List File → List ℕ → InputError → Type 0
  pub told : Option (List File)
  pub before : ℕ
  pub after : ℕ

abbrev pub causes_of : (List ℕ → Type 0) → (List File → List ℕ → InputError → Type 0) → Option (List File) → ℕ → ℕ
    → Causes
causes_of Reads Refuses told before after =
    record { Reads = Reads; Refuses = Refuses; told = told; before = before; after = after }

abbrev pub IsTroubleOf : Causes → CliError → Type 0
IsTroubleOf causes t = IsReadError causes.Reads causes.Refuses causes.told causes.before causes.after t

-- each cause follows from one of the others, over a count that rose no less
pub record AreWider (one other : Causes) : Type 0 where
  pub reads : (name : List ℕ) → one.Reads name → other.Reads name
  pub refuses : (held : List File) (name : List ℕ) (fault : InputError) → other.told ≡ Some held → one.Reads name →
      one.Refuses held name fault →
      other.Refuses held name fault
  pub keeps : (held : List File) → other.told ≡ Some held → one.told ≡ Some held
  pub low : other.before ≤ one.before
  pub high : one.after ≤ other.after

-- an error with one cause has each cause that follows
pub trouble_map : (one other : Causes) (t : CliError) → AreWider one other → IsTroubleOf one t → IsTroubleOf other t
trouble_map one other (Refused name fault) wider h =
    (wider.reads name.now h.0, λ held is. wider.refuses held name.now fault is h.0 (h.1 held (wider.keeps held is)))
trouble_map one other (StoreFault name) wider h =
    (wider.reads name.now h.0, λ end. omega (arith, wider.low, wider.high, h.1 (omega (arith, wider.high, end))))
trouble_map one other NoMemory wider h = tt
trouble_map one other _ wider h = h

-- where the inputs that are read have good names, so has the one that an error names
pub good_input : (causes : Causes) (t : CliError) → ((name : List ℕ) → causes.Reads name → good_name name ≡ true) →
    IsTroubleOf causes t → HasGoodName t
good_input causes (Refused name fault) good h = good name.now h.0
good_input causes (StoreFault name) good h = good name.now h.0
good_input causes _ good h = tt
