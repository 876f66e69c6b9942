-- The exit status that goes with an error.
use Rattle.std.specs.Prelude.{◌≡◌, ◌≤◌, ℕ, List}
use Rattle.std.specs.Borrow.{Bor}
use Rattle.cli_errors.specs.declared.errors.InputError.{InputError}
use Rattle.cli_errors.specs.declared.errors.CliError.{CliError}
use Rattle.cli_errors.specs.declared.errors.CliError.TheVariants.{Usage, Refused, StoreFault}
use Rattle.cli_errors.specs.declared.errors.CliError.TheVariants.{SinkFault, NoMemory, GateFault}
use Rattle.cli_errors.specs.declared.errors.CliError.TheVariants.{LinkFault}

abbrev pub status_of : CliError → ℕ
status_of Usage = 2
status_of (Refused name fault) = 3
status_of (StoreFault name) = 4
status_of SinkFault = 5
status_of NoMemory = 6
status_of GateFault = 7
status_of LinkFault = 8

-- the cause that a status gives: of each status, which error alone ends with it
pub record DeterminesCause (status : ℕ) (error : CliError) : Type 0 where
  pub usage : status ≡ 2 → error ≡ Usage
  pub refused : status ≡ 3 → (name : Bor (List ℕ))
      × ((fault : InputError) × (error ≡ Refused name fault))
  pub store : status ≡ 4 → (name : Bor (List ℕ)) × (error ≡ StoreFault name)
  pub sink : status ≡ 5 → error ≡ SinkFault
  pub memory : status ≡ 6 → error ≡ NoMemory
  pub gate : status ≡ 7 → error ≡ GateFault
  pub link : status ≡ 8 → error ≡ LinkFault
  pub no_other : (2 ≤ status) × (status ≤ 8)
