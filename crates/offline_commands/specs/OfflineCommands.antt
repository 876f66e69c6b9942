-- What carrying out the arguments gives, as a library holds its files.
use Rattle.std.specs.List.{Contains}
use Rattle.std.specs.Prelude.{◌≡◌, ◌⊎◌, ℕ, Bool, true, false, List, Option, Some, None, codes}
use Rattle.std.specs.Prelude.{Result, Ok, Err}
use Rattle.vod_base.specs.IoState.{File}
use Rattle.plan_cert.specs.declared.Segment.{Segment}
use Rattle.plan_cert.specs.CertFormat.{cert_text}
use Rattle.cert_check.specs.declared.CertFault.{CertFault}
use Rattle.film_make.specs.Generator.{words_of}
use Rattle.film_make.specs.Trace.{trace_of}
use Rattle.film_make.specs.Film.{film_of}
use Rattle.film_make.specs.SystemStream.{system_of}
use Rattle.cli_args.specs.Invocations.{Invocation, help, version, plan_of, check_of, scan_of}
use Rattle.cli_args.specs.Invocations.{make_of, day_of, fair_of, serve_of, watch_of}
use Rattle.cli_args.specs.InvocationViews.{source_name}
use Rattle.cli_args.specs.declared.invocations.MediaKind.{MediaKind}
use Rattle.cli_args.specs.declared.invocations.MediaKind.TheVariants.{Film, Trace, System}
use Rattle.inputs.specs.LoadErrors.{IsServedFilmRefused}
use Rattle.inputs.specs.ChunkScans.{HoldsFilm, IsFilmRefused}
use Rattle.mpeg_scan.specs.declared.units.Unit.{Unit as PictureUnit}
use Rattle.cli_errors.specs.declared.errors.InputError.{InputError}
use Rattle.cli_errors.specs.declared.errors.CliError.{CliError}
use Rattle.cli_errors.specs.declared.errors.CliError.TheVariants.{SinkFault}
use Rattle.cli_errors.specs.ReadErrors.{IsReadError}
use Rattle.cli_errors.specs.StreamWrites.{IsTextWritten}
pub use Rattle.offline_commands.specs.Plans.{IsCertRefused, IsChecked, IsPlanned, IsPlanRefused}
use Rattle.offline_commands.specs.ScanText.{scan_text}
use Rattle.offline_commands.specs.TextLaws.{IsShortFault, IsShortScan}
use Rattle.offline_commands.specs.HelpText.{help_text, version_text}
use Rattle.offline_commands.specs.VerdictText.{refused_line}

-- the film that the library holds is accepted, and its size, rate and units are printed
pub record IsScanned (held : List File) (film text : List ℕ) : Type 0 where
  pub size : ℕ
  pub rate : ℕ
  pub units : List PictureUnit
  pub holds : HoldsFilm held film size rate units
  pub printed : text ≡ scan_text size rate units

-- the text of a number
abbrev pub generated_text : MediaKind → ℕ → ℕ → List ℕ
generated_text Film seed pictures = film_of (words_of seed) pictures
generated_text Trace seed pictures = trace_of (words_of seed) pictures
generated_text System seed pictures = system_of (film_of (words_of seed) pictures)

-- what is true for the files that a library exposes, if it exposes them
abbrev pub IfTold : Option (List File) → (List File → Type 0) → Type 0
IfTold told P = (held : List File) → told ≡ Some held → P held

-- the text is the certificate of the plan
abbrev pub IsCertificateOf : List ℕ → Option (List Segment) → Type 0
IsCertificateOf text plan =
    (segments : List Segment) × ((plan ≡ Some segments) × (text ≡ cert_text segments))

-- the line of a verdict: with status 0 that of the best plan, with status 1 that of a fault, whose
-- number has 64 bits
abbrev pub IsVerdictLine : ℕ → List ℕ → Type 0
IsVerdictLine status text = ((status ≡ 0) × (text ≡ codes "least\n"))
    ⊎ ((fault : CertFault)
    × ((status ≡ 1) × IsShortFault fault × (text ≡ refused_line fault)))

-- the text is that of some film's scan, in numbers of 64 bits
pub record IsSomeScan (text : List ℕ) : Type 0 where
  pub size : ℕ
  pub rate : ℕ
  pub units : List PictureUnit
  pub short : IsShortScan size rate units
  pub printed : text ≡ scan_text size rate units

-- the status, the text for the output and the plan of what is asked for. What `--help`, `--version`
-- and `make` give is the same over every library, also one that exposes nothing; over each library
-- a plan is given with its certificate, and status 1 is that of `check` alone
abbrev pub IsOutputOf : Option (List File) → Invocation → ℕ → List ℕ → Option (List Segment) → Type
    0
IsOutputOf told help status text plan = (status ≡ 0) × (plan ≡ None) × (text ≡ help_text)
IsOutputOf told version status text plan = (status ≡ 0) × (plan ≡ None) × (text ≡ version_text)
IsOutputOf told (plan_of viewer) status text plan = (status ≡ 0)
    × IsCertificateOf text plan × IfTold told (λ held. IsPlanned held viewer text plan)
IsOutputOf told (check_of viewer cert) status text plan = IsVerdictLine status text × (plan ≡ None)
    × IfTold told (λ held. IsChecked held viewer cert status text)
IsOutputOf told (day_of run) status text plan = ⊥
IsOutputOf told (fair_of run) status text plan = ⊥
IsOutputOf told (watch_of watching) status text plan = ⊥
IsOutputOf told (make_of kind seed pictures) status text plan = (status ≡ 0) × (plan ≡ None)
    × (text ≡ generated_text kind seed pictures)
IsOutputOf told (scan_of film) status text plan = (status ≡ 0) × (plan ≡ None)
    × IsSomeScan text × IfTold told (λ held. IsScanned held film text)
IsOutputOf told (serve_of serving) status text plan = ⊥

-- the inputs that are read
abbrev pub IsRead : Invocation → List ℕ → Type 0
IsRead help name = ⊥
IsRead version name = ⊥
IsRead (plan_of viewer) name = name ≡ source_name viewer.source
IsRead (check_of viewer cert) name = (name ≡ source_name viewer.source) ⊎ (name ≡ cert)
IsRead (day_of run) name = ⊥
IsRead (fair_of run) name = ⊥
IsRead (watch_of watching) name = ⊥
IsRead (make_of kind seed pictures) name = ⊥
IsRead (scan_of film) name = name ≡ film
IsRead (serve_of serving) name = Contains serving.films name

-- the input that is refused, and why
abbrev pub IsInputRefused : Invocation → List File → List ℕ → InputError → Type 0
IsInputRefused help held name fault = ⊥
IsInputRefused version held name fault = ⊥
IsInputRefused (plan_of viewer) held name fault = IsPlanRefused held viewer fault
IsInputRefused (check_of viewer cert) held name fault =
    ((name ≡ source_name viewer.source) × IsPlanRefused held viewer fault)
    ⊎ ((name ≡ cert) × IsCertRefused held viewer cert fault)
IsInputRefused (day_of run) held name fault = ⊥
IsInputRefused (fair_of run) held name fault = ⊥
IsInputRefused (watch_of watching) held name fault = ⊥
IsInputRefused (make_of kind seed pictures) held name fault = ⊥
IsInputRefused (scan_of film) held name fault = IsFilmRefused held name fault
IsInputRefused (serve_of serving) held name fault = IsServedFilmRefused held name fault

-- the text of a scan, and what was written of it
pub record IsListed (held : Option (List File)) (film : List ℕ) (faults faults' : ℕ)
    (told told' : Option (List ℕ)) (is_whole : Bool) : Type 0 where
  pub text : List ℕ
  pub done : IsOutputOf held (scan_of film) 0 text None
  pub written : IsTextWritten faults faults' told told' text is_whole

-- a scan was written, or a fault of the output left a prefix of it; any other error came before
-- the first write
abbrev pub IsListedOrFailed : List ℕ → Option (List File) → ℕ → ℕ → ℕ → ℕ → Option (List ℕ)
    → Option (List ℕ) → Result (Unit {0}) CliError → Type 0
IsListedOrFailed film held reads reads' faults faults' told told' (Ok done) =
    IsListed held film faults faults' told told' true
IsListedOrFailed film held reads reads' faults faults' told told' (Err SinkFault) =
    IsListed held film faults faults' told told' false
IsListedOrFailed film held reads reads' faults faults' told told' (Err error) =
    IsReadError (IsRead (scan_of film)) (IsInputRefused (scan_of film)) held reads reads' error
    × (faults' ≡ faults) × (told' ≡ told)
