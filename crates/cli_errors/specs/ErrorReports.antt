-- What the line of an error states.
use Rattle.std.specs.Prelude.{◌≡◌, ◌≢◌, ℕ, ◌<◌, ◌^◌, true, All, List, ◌++◌, codes}
use Rattle.vod_base.specs.Names.{good_name}
use Rattle.cli_errors.specs.ErrorLines.{cause_words}
use Rattle.cli_errors.specs.declared.errors.InputError.{InputError}
use Rattle.cli_errors.specs.declared.errors.CliError.{CliError}
use Rattle.cli_errors.specs.declared.errors.CliError.TheVariants.{Usage, Refused, StoreFault}
use Rattle.cli_errors.specs.declared.errors.CliError.TheVariants.{SinkFault, NoMemory, GateFault}
use Rattle.cli_errors.specs.declared.errors.CliError.TheVariants.{LinkFault}

-- a cause; with it the name of the input that is refused, or at which the library failed, and why
-- it is refused
pub data ErrorReport : Type 0 where
  no_meaning : ErrorReport
  refused_input : (name : List ℕ) → (fault : InputError) → ErrorReport
  failed_library : (name : List ℕ) → ErrorReport
  failed_output : ErrorReport
  no_memory : ErrorReport
  failed_gate : ErrorReport
  failed_link : ErrorReport

abbrev pub error_report_of : CliError → ErrorReport
error_report_of Usage = no_meaning
error_report_of (Refused name fault) = refused_input name.now fault
error_report_of (StoreFault name) = failed_library name.now
error_report_of SinkFault = failed_output
error_report_of NoMemory = no_memory
error_report_of GateFault = failed_gate
error_report_of LinkFault = failed_link

-- numbers of 64 bits go with a refusal
abbrev pub HasShortNumbers : InputError → Type 0
HasShortNumbers fault = All (λ n. n < 2 ^ 64) (cause_words fault).numbers

-- the input that an error names, if it names one, has a good name
abbrev pub HasGoodName : CliError → Type 0
HasGoodName (Refused name fault) = good_name name.now ≡ true
HasGoodName (StoreFault name) = good_name name.now ≡ true
HasGoodName _ = Unit {0}

-- the errors that there can be: inputs have good names, and numbers have 64 bits
abbrev pub IsPrintableError : CliError → Type 0
IsPrintableError (Refused name fault) = (good_name name.now ≡ true) × HasShortNumbers fault
IsPrintableError (StoreFault name) = good_name name.now ≡ true
IsPrintableError _ = Unit {0}

-- one line of the program's own: it begins with the program's name, and no LF stands before its end
pub record IsErrorLine (text : List ℕ) : Type 0 where
  pub rest : List ℕ
  pub text_is : text ≡ codes "vodserve: " ++ (rest ++ codes "\n")
  pub one_line : All (λ b. b ≢ 10) rest
