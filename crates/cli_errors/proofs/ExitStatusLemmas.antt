-- Each status is that of one cause.
use Rattle.std.proofs.Common.{◌≡◌, ◌≢◌, ◌≤◌, ◌∙◌, ℕ, List, [], ◌∷◌, ap, get_or, refl, arith}
use Rattle.std.specs.Borrow.{Bor}
use Rattle.cli_errors.specs.declared.errors.InputError.{InputError}
use Rattle.cli_errors.specs.ExitStatuses.{DeterminesCause, status_of}
use Rattle.cli_errors.specs.declared.errors.CliError.{CliError}
use Rattle.cli_errors.specs.declared.errors.CliError.TheVariants.{Usage, Refused, StoreFault, SinkFault}
use Rattle.cli_errors.specs.declared.errors.CliError.TheVariants.{NoMemory, GateFault, LinkFault}

refused_told : (error : CliError) → status_of error ≡ 3
    → (name : Bor (List ℕ)) × ((fault : InputError) × (error ≡ Refused name fault))
refused_told (Refused name fault) is = (name, (fault, refl))
refused_told _ is = absurd (omega (arith, is))

store_told : (error : CliError) → status_of error ≡ 4 → (name : Bor (List ℕ)) × (error ≡ StoreFault name)
store_told (StoreFault name) is = (name, refl)
store_told _ is = absurd (omega (arith, is))

-- the causes by their statuses; `Usage` fills the places below 2, and those of the causes with a name
causes : List CliError
causes = Usage ∷ Usage ∷ Usage ∷ Usage ∷ Usage ∷ SinkFault ∷ NoMemory ∷ GateFault ∷ LinkFault ∷ []

plain_told : (error : CliError) → status_of error ≢ 3 → status_of error ≢ 4 →
    error ≡ get_or causes (status_of error) Usage
unfolding causes
plain_told (Refused name fault) no_input no_store = absurd (no_input refl)
plain_told (StoreFault name) no_input no_store = absurd (no_store refl)
plain_told _ no_input no_store = refl

cause_at : (error : CliError) (status : ℕ) → status ≢ 3 → status ≢ 4 → status_of error ≡ status →
    error ≡ get_or causes status Usage
cause_at error status no_input no_store is =
    plain_told error (rw is no_input) (rw is no_store) ∙ ap (λ (n : ℕ). get_or causes n Usage) is

one_told : (error : CliError) → (2 ≤ status_of error) × (status_of error ≤ 8)
one_told Usage = (omega arith, omega arith)
one_told _ = (omega arith, omega arith)

pub cause_told : (error : CliError) → DeterminesCause (status_of error) error
unfolding causes
cause_told error = record {
  usage = cause_at error 2 (omega arith) (omega arith);
  refused = refused_told error;
  store = store_told error;
  sink = cause_at error 5 (omega arith) (omega arith);
  memory = cause_at error 6 (omega arith) (omega arith);
  gate = cause_at error 7 (omega arith) (omega arith);
  link = cause_at error 8 (omega arith) (omega arith);
  no_other = one_told error;
}
