-- How a certificate's fault is printed: its name, and its number where it has one.
use Rattle.std.specs.Prelude.{◌≡◌, ℕ, List, ◌++◌, Option, Some, None, codes}
use Rattle.cert_check.specs.declared.CertFault.{CertFault}
use Rattle.cert_check.specs.declared.CertFault.TheVariants.{EmptySegment, WrongLength, WrongTotal}
use Rattle.cert_check.specs.declared.CertFault.TheVariants.{BelowLow, AboveUp, EqualSlopes}
use Rattle.cert_check.specs.declared.CertFault.TheVariants.{RiseOffUpper, FallOffLower}
use Rattle.cert_check.specs.CertFaults.{fault_number}
use Rattle.cli_errors.specs.StreamWrites.{number_text}

abbrev pub fault_name : CertFault → List ℕ
fault_name (EmptySegment i) = codes "EmptySegment"
fault_name WrongLength = codes "WrongLength"
fault_name WrongTotal = codes "WrongTotal"
fault_name (BelowLow t) = codes "BelowLow"
fault_name (AboveUp t) = codes "AboveUp"
fault_name (EqualSlopes i) = codes "EqualSlopes"
fault_name (RiseOffUpper i) = codes "RiseOffUpper"
fault_name (FallOffLower i) = codes "FallOffLower"

abbrev pub IsFaultText : CertFault → List ℕ → Option ℕ → Type 0
IsFaultText fault name number = (name ≡ fault_name fault) × (number ≡ fault_number fault)

abbrev pub with_number : List ℕ → Option ℕ → List ℕ
with_number name None = name
with_number name (Some n) = name ++ number_text n

abbrev pub cert_fault_text : CertFault → List ℕ
cert_fault_text fault = with_number (fault_name fault) (fault_number fault)

-- the line that names a certificate's fault
abbrev pub refused_line : CertFault → List ℕ
refused_line fault = codes "refused " ++ cert_fault_text fault ++ codes "\n"
