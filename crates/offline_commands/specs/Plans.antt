-- Plans of traces and films, and verdicts on certificates of them.
use Rattle.std.specs.Prelude.{◌≡◌, ◌⊎◌, ℕ, List, Option, Some, codes}
use Rattle.vod_base.specs.IoState.{File, file_named}
use Rattle.wire_curve.specs.declared.film.Timing.{Timing}
use Rattle.wire_curve.specs.declared.curves.Curves.{Curves as CurvePair}
use Rattle.wire_curve.specs.FilmCurves.{AreFilmCurves}
use Rattle.wire_curve.specs.CurveFaults.{IsAccepted, HasCurveFault}
use Rattle.wire_curve.specs.SoundCurves.{AreSound}
use Rattle.plan_cert.specs.declared.Segment.{Segment}
use Rattle.plan_cert.specs.CertFormat.{cert_text}
use Rattle.plan_cert.specs.CertGrammar.{IsCertificate, IsCertRefusal as IsCertTextRefused}
use Rattle.plan_cert.specs.declared.cert_reader.CertRead.TheVariants.{BadCert as BadCertLine}
use Rattle.cert_check.specs.Optimality.{IsBestPlan}
use Rattle.cert_check.specs.CertFaults.{IsFirstFault}
use Rattle.cert_check.specs.declared.CertFault.{CertFault}
use Rattle.mpeg_scan.specs.PictureRates.{picture_time}
use Rattle.inputs.specs.FileReads.{IsMissing}
use Rattle.inputs.specs.ChunkScans.{HoldsSizes, IsFilmRefused}
use Rattle.inputs.specs.Traces.{IsTraceText, IsBadTraceText}
use Rattle.cli_args.specs.Invocations.{PlanSource, trace_source, film_source, ClientParams}
use Rattle.cli_errors.specs.declared.errors.InputError.{InputError}
use Rattle.cli_errors.specs.declared.errors.InputError.TheVariants.{BadTrace, Curves, BadCert}
use Rattle.offline_commands.specs.VerdictText.{refused_line}

-- ---- the pictures that are planned

-- the sizes of pictures in bytes, and the time of a picture and of a slot in one unit
pub record Pictures : Type 0 where
  pub sizes : List ℕ
  pub picture_units : ℕ
  pub slot_units : ℕ

-- the library holds a trace of these sizes
pub record HoldsTrace (held : List File) (name sizes : List ℕ) : Type 0 where
  pub text : List ℕ
  pub found : file_named held name ≡ Some text
  pub trace : IsTraceText text sizes

-- a trace has one picture a slot
pub record AreOfTrace (held : List File) (name : List ℕ) (pictures : Pictures) : Type 0 where
  pub holds : HoldsTrace held name pictures.sizes
  pub picture_units_are : pictures.picture_units ≡ 1
  pub slot_units_are : pictures.slot_units ≡ 1

-- a film has the wire sizes of its units, each for the time of its rate
pub record AreOfFilm (held : List File) (name : List ℕ) (slot : ℕ) (pictures : Pictures)
    : Type 0 where
  pub rate : ℕ
  pub holds : HoldsSizes held name rate pictures.sizes
  pub picture_units_are : pictures.picture_units ≡ picture_time rate
  pub slot_units_are : pictures.slot_units ≡ slot

abbrev pub ArePictures : List File → PlanSource → Pictures → Type 0
ArePictures held (trace_source name) pictures = AreOfTrace held name pictures
ArePictures held (film_source name slot) pictures = AreOfFilm held name slot pictures

-- nothing of them was sent or played before
abbrev pub timing_of : ClientParams → Pictures → Timing
timing_of viewer pictures = record {
  picture_units = pictures.picture_units;
  slot_units = pictures.slot_units;
  buffer = viewer.buffer;
  delay = viewer.delay;
  played = 0;
  sent = 0;
}

-- the curves of the trace or film that the library holds
pub record HasCurves (held : List File) (viewer : ClientParams) (curves : CurvePair) : Type 0 where
  pub pictures : Pictures
  pub are : ArePictures held viewer.source pictures
  pub accepted : IsAccepted pictures.sizes (timing_of viewer pictures)
  pub curves_are : AreFilmCurves pictures.sizes (timing_of viewer pictures) curves
  pub sound : AreSound curves.from curves.low.items curves.up.items

-- ---- its plan

-- the one that no feasible plan of its curves betters, and its certificate
pub record IsPlanned (held : List File) (viewer : ClientParams) (text : List ℕ)
    (plan : Option (List Segment)) : Type 0 where
  pub curves : CurvePair
  pub has : HasCurves held viewer curves
  pub segments : List Segment
  pub plan_is : plan ≡ Some segments
  pub best : IsBestPlan curves.from curves.low.items curves.up.items segments
  pub certificate : text ≡ cert_text segments

-- its text is no trace
abbrev pub IsNoTrace : List File → List ℕ → InputError → Type 0
IsNoTrace held name (BadTrace place) = (text : List ℕ)
    × ((file_named held name ≡ Some text) × IsBadTraceText text place)
IsNoTrace held name other = ⊥

-- no such file, or no trace
abbrev pub IsTraceRefused : List File → List ℕ → InputError → Type 0
IsTraceRefused held name fault = IsMissing held name fault ⊎ IsNoTrace held name fault

abbrev pub IsSourceRefused : List File → PlanSource → InputError → Type 0
IsSourceRefused held (trace_source name) fault = IsTraceRefused held name fault
IsSourceRefused held (film_source name slot) fault = IsFilmRefused held name fault

-- the pictures have no curves, by the refusal of the curves
abbrev pub HasNoCurves : List File → ClientParams → InputError → Type 0
HasNoCurves held viewer (Curves fault) =
    (pictures : Pictures)
    × (ArePictures held viewer.source pictures
    × HasCurveFault pictures.sizes (timing_of viewer pictures) fault)
HasNoCurves held viewer other = ⊥

-- the trace or film is refused, or it has no curves
abbrev pub IsPlanRefused : List File → ClientParams → InputError → Type 0
IsPlanRefused held viewer fault = IsSourceRefused held viewer.source fault
    ⊎ HasNoCurves held viewer fault

abbrev pub IsSourceError : PlanSource → List File → List ℕ → InputError → Type 0
IsSourceError source held name fault = IsSourceRefused held source fault

abbrev pub IsPlanError : ClientParams → List File → List ℕ → InputError → Type 0
IsPlanError viewer held name fault = IsPlanRefused held viewer fault

-- ---- a verdict

-- the verdict on segments: status 0 where they are the best plan of the curves, and 1 where a fault
-- is there, of which the first is named
abbrev pub IsVerdict : ℕ → List ℕ → List ℕ → List Segment → ℕ → List ℕ → Type 0
IsVerdict from low up segments status text =
    ((status ≡ 0) × IsBestPlan from low up segments × (text ≡ codes "least\n"))
    ⊎ ((fault : CertFault)
    × ((status ≡ 1) × IsFirstFault from low up segments fault
    × (text ≡ refused_line fault)))

-- the segments of the certificate that the library holds
pub record HasSegments (held : List File) (cert : List ℕ) (segments : List Segment) : Type 0 where
  pub written : List ℕ
  pub found : file_named held cert ≡ Some written
  pub slots : ℕ
  pub bytes : ℕ
  pub certificate : IsCertificate written slots bytes segments

-- the verdict on those segments, under the curves of the trace or film
pub record IsChecked (held : List File) (viewer : ClientParams) (cert : List ℕ) (status : ℕ)
    (text : List ℕ) : Type 0 where
  pub curves : CurvePair
  pub has : HasCurves held viewer curves
  pub segments : List Segment
  pub read : HasSegments held cert segments
  pub verdict : IsVerdict curves.from curves.low.items curves.up.items segments status text

-- its text is no certificate
abbrev pub IsNoCert : List File → List ℕ → InputError → Type 0
IsNoCert held cert (BadCert line) =
    (written : List ℕ)
    × ((file_named held cert ≡ Some written) × IsCertTextRefused written (BadCertLine line))
IsNoCert held cert other = ⊥

-- the trace or film has curves, but there is no such certificate, or its text is none
abbrev pub IsCertRefused : List File → ClientParams → List ℕ → InputError → Type 0
IsCertRefused held viewer cert fault = ((curves : CurvePair) × HasCurves held viewer curves)
    × (IsMissing held cert fault ⊎ IsNoCert held cert fault)
