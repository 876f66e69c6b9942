-- A trace or film that the library holds has one plan, one verdict and one scan, and none where it is refused.
use Rattle.std.proofs.Common.{◌≡◌, ℕ, ◌≤◌, ◌^◌, List, [], ◌∷◌, ◌++◌, length, take, map, Option, Some, inl, inr, sym, ap}
use Rattle.std.proofs.Common.{◌∙◌, subst, arith}
use Rattle.std.proofs.lemmas.Grind.{same_number_lists}
use Rattle.std.proofs.lemmas.List.{append_assoc, take_at, length-map, map-append, take-map, length-take}
use Rattle.std.proofs.lemmas.List.Sums.{sum_by-take-le}
use Rattle.std.proofs.lemmas.List.Elements.{All-take}
use Rattle.std.proofs.lemmas.Option.{none-some}
use Rattle.vod_base.specs.Numbers.{number_of}
use Rattle.vod_base.specs.IoState.{File}
use Rattle.mpeg_scan.specs.StartCodes.{codes_of, read_after}
use Rattle.mpeg_scan.specs.Films.{film_calls, units_in}
use Rattle.mpeg_scan.specs.PictureRates.{picture_time}
use Rattle.mpeg_scan.specs.CodeFacts.{rate_of}
use Rattle.mpeg_scan.specs.declared.units.Unit.{Unit as PictureUnit}
use Rattle.wire_curve.specs.declared.curves.Curves.{Curves as CurvePair}
use Rattle.wire_curve.specs.FilmCurves.{AreFilmCurves}
use Rattle.wire_curve.specs.CurveFaults.{IsAccepted}
use Rattle.wire_curve.proofs.FaultExclusion.{accepted-no_fault}
use Rattle.plan_cert.specs.declared.Segment.{Segment}
use Rattle.plan_cert.specs.CertFormat.{cert_text}
use Rattle.cert_check.specs.CertFaults.{IsTaut}
use Rattle.inputs.specs.ChunkScans.{HoldsSizes, IsFilmRefused}
use Rattle.inputs.specs.WireSizes.{sizes_of}
use Rattle.inputs.specs.Traces.{Token, tokens_from, WriteSizes, IsTraceText, IsBadTraceText}
use Rattle.inputs.proofs.ReadLemmas.{one_file}
use Rattle.inputs.proofs.VideoLemmas.{held_not_refused, held_once}
use Rattle.cli_args.specs.Invocations.{PlanSource, trace_source, film_source, ClientParams}
use Rattle.inputs.proofs.TraceLineLemmas.{same_somes}
use Rattle.offline_commands.specs.OfflineCommands.{IsScanned}
use Rattle.offline_commands.specs.Plans.{ArePictures, HasCurves, HoldsTrace, IsPlanned, IsSourceRefused, IsTraceRefused}
use Rattle.offline_commands.specs.Plans.{IsPlanRefused, Pictures, timing_of}
use Rattle.offline_commands.specs.ScanText.{scan_text}
use Rattle.cli_errors.specs.declared.errors.InputError.{InputError}
use Rattle.cli_errors.specs.declared.errors.InputError.TheVariants.{BadTrace, Curves}

pub trace_once : (held : List File) (name xs ys : List ℕ) → HoldsTrace held name xs → HoldsTrace held name ys → xs ≡ ys
trace_once held name xs ys p q =
    same_somes xs ys (sym p.trace.numbers
    ∙ ap (λ (t : List ℕ). map (λ (token : Token). number_of token.bytes) (tokens_from 0 t))
    (one_file held name p.text q.text p.found q.found)
    ∙ q.trace.numbers)

-- a film's sizes and rate are the only ones
record IsSameFilm (rate rate' : ℕ) (sizes sizes' : List ℕ) : Type 0 where
  rates : rate ≡ rate'
  same : sizes ≡ sizes'

film_once : {held : List File} {name : List ℕ} {rate rate' : ℕ} {sizes sizes' : List ℕ}
    → HoldsSizes held name rate sizes → HoldsSizes held name rate' sizes' → IsSameFilm rate rate' sizes sizes'
film_once {held} {name} p q =
    let same : p.video ≡ q.video = held_once held name p.video q.video p.holds q.holds in
    record {
      rates = p.rate_is ∙ ap (λ (v : List ℕ). rate_of (codes_of (read_after [] v))) same ∙ sym q.rate_is;
      same = p.sizes_are ∙ ap sizes_of same ∙ sym q.sizes_are;
    }

pictures_are : (a b : Pictures) → a.sizes ≡ b.sizes → a.picture_units ≡ b.picture_units → a.slot_units ≡ b.slot_units
    → a ≡ b
pictures_are a b sizes picture_units slot_units =
    ap (λ (s : List ℕ). record { sizes = s; picture_units = a.picture_units; slot_units = a.slot_units }) sizes
    ∙ ap (λ (n : ℕ). record { sizes = b.sizes; picture_units = n; slot_units = a.slot_units }) picture_units
    ∙ ap (λ (n : ℕ). record { sizes = b.sizes; picture_units = b.picture_units; slot_units = n }) slot_units

-- so are the pictures of a source
pictures_once : (held : List File) (source : PlanSource) (a b : Pictures) → ArePictures held source a
    → ArePictures held source b → a ≡ b
pictures_once held (trace_source name) a b p q =
    pictures_are a b (trace_once held name a.sizes b.sizes p.holds q.holds)
    (p.picture_units_are ∙ sym q.picture_units_are)
    (p.slot_units_are ∙ sym q.slot_units_are)
pictures_once held (film_source name slot) a b p q =
    let same : IsSameFilm p.rate q.rate a.sizes b.sizes = film_once p.holds q.holds in
    pictures_are a b same.same (p.picture_units_are ∙ ap picture_time same.rates ∙ sym q.picture_units_are)
    (p.slot_units_are ∙ sym q.slot_units_are)

-- the numbers of a film's curves
pub record AreSame (a b : CurvePair) : Type 0 where
  pub from : a.from ≡ b.from
  pub low : a.low.items ≡ b.low.items
  pub up : a.up.items ≡ b.up.items

pub curves_once : (held : List File) (viewer : ClientParams) (a b : CurvePair) → HasCurves held viewer a
    → HasCurves held viewer b → AreSame a b
curves_once held viewer a b p q =
    let same : p.pictures ≡ q.pictures = pictures_once held viewer.source p.pictures q.pictures p.are q.are in
    let p' : AreFilmCurves q.pictures.sizes (timing_of viewer q.pictures) a =
    subst (λ (s : Pictures). AreFilmCurves s.sizes (timing_of viewer s) a) same p.curves_are in
    record {
      from = p'.from_is ∙ sym q.curves_are.from_is;
      low = same_number_lists a.low.items b.low.items (p'.low_slots ∙ sym q.curves_are.low_slots)
          (λ k h. p'.low_is k (omega (arith, h, p'.low_slots))
          ∙ sym (q.curves_are.low_is k (omega (arith, h, p'.low_slots))));
      up = same_number_lists a.up.items b.up.items (p'.up_slots ∙ sym q.curves_are.up_slots)
          (λ k h. p'.up_is k (omega (arith, h, p'.up_slots))
          ∙ sym (q.curves_are.up_is k (omega (arith, h, p'.up_slots))));
    }

-- the plan and its text are the only ones
pub planned_once : {held : List File} {viewer : ClientParams} {t t' : List ℕ} {plan plan' : Option (List Segment)} →
    IsPlanned held viewer t plan → IsPlanned held viewer t' plan' → (t ≡ t') × (plan ≡ plan')
planned_once {held} {viewer} p q =
    let same : AreSame q.curves p.curves = curves_once held viewer q.curves p.curves q.has p.has in
    let taut : IsTaut p.curves.from p.curves.low.items p.curves.up.items q.segments =
    subst (λ (from : ℕ). IsTaut from p.curves.low.items p.curves.up.items q.segments) same.from
    (subst (λ (low : List ℕ). IsTaut q.curves.from low p.curves.up.items q.segments) same.low
    (subst (λ (up : List ℕ). IsTaut q.curves.from q.curves.low.items up q.segments) same.up q.best.taut)) in
    let one : q.segments ≡ p.segments = p.best.only q.segments taut in (
      p.certificate ∙ ap cert_text (sym one) ∙ sym q.certificate,
      p.plan_is ∙ ap (λ (s : List Segment). Some s) (sym one) ∙ sym q.plan_is,
    )

-- a trace's first tokens are a trace
front_trace : (front rest : List Token) (sizes : List ℕ) → WriteSizes (front ++ rest) sizes
    → WriteSizes front (take (length front) sizes)
front_trace front rest sizes trace = record {
  numbers = sym
      (take_at (map (λ (t : Token). number_of t.bytes) front) (map (λ (t : Token). number_of t.bytes) rest)
      (length front) (length-map front (λ (t : Token). number_of t.bytes)))
      ∙ ap (take (length front)) (sym (map-append (λ (t : Token). number_of t.bytes) front rest) ∙ trace.numbers)
      ∙ take-map (λ (s : ℕ). Some s) (length front) sizes;
  small = All-take (λ (s : ℕ). s ≤ 2 ^ 32) (length front) sizes trace.small;
  few_bytes = omega (arith, trace.few_bytes, sum_by-take-le (λ (s : ℕ). s) sizes (length front));
  few = omega (arith, trace.few, length-take (length front) sizes);
}

bad_no_trace : (text sizes : List ℕ) (place : ℕ) → IsTraceText text sizes → IsBadTraceText text place → ⊥
bad_no_trace text sizes place trace bad =
    let split : tokens_from 0 text ≡ (bad.good ++ bad.bad ∷ []) ++ bad.rest =
    bad.tokens ∙ sym (append_assoc bad.good (bad.bad ∷ []) bad.rest) in
    bad.ends (take (length (bad.good ++ bad.bad ∷ [])) sizes)
    (front_trace (bad.good ++ bad.bad ∷ []) bad.rest sizes
    (subst (λ (ts : List Token). WriteSizes ts sizes) split trace))

pub trace_not_refused : (held : List File) (name sizes : List ℕ) (fault : InputError) → HoldsTrace held name sizes
    → IsTraceRefused held name fault → ⊥
trace_not_refused held name sizes fault holds (inl missing) = none-some holds.text (sym missing.1 ∙ holds.found)
trace_not_refused held name sizes (BadTrace place) holds (inr refused) =
    bad_no_trace refused.0 sizes place
    (subst (λ (t : List ℕ). IsTraceText t sizes)
    (one_file held name holds.text refused.0 holds.found refused.1.0) holds.trace) refused.1.1
trace_not_refused held name sizes other holds (inr refused) = refused

source_not_refused : (held : List File) (source : PlanSource) (pictures : Pictures) (fault : InputError)
    → ArePictures held source pictures → IsSourceRefused held source fault → ⊥
source_not_refused held (trace_source name) pictures fault are refused =
    trace_not_refused held name pictures.sizes fault are.holds refused
source_not_refused held (film_source name slot) pictures fault are refused =
    held_not_refused held name are.holds.video fault are.holds.holds refused

-- what has curves isn't refused
pub curves_not_refused : (held : List File) (viewer : ClientParams) (curves : CurvePair) (fault : InputError)
    → HasCurves held viewer curves → IsPlanRefused held viewer fault → ⊥
curves_not_refused held viewer curves fault has (inl refused) =
    source_not_refused held viewer.source has.pictures fault has.are refused
curves_not_refused held viewer curves (Curves fault) has (inr refused) =
    accepted-no_fault refused.0.sizes (timing_of viewer refused.0) fault
    (subst (λ (s : Pictures). IsAccepted s.sizes (timing_of viewer s))
    (pictures_once held viewer.source has.pictures refused.0 has.are refused.1.0) has.accepted) refused.1.1
curves_not_refused held viewer curves other has (inr refused) = refused

-- a film's scan is the only one
pub scanned_once : (held : List File) (film t t' : List ℕ) → IsScanned held film t → IsScanned held film t' → t ≡ t'
scanned_once held film t t' p q =
    let same : p.holds.video ≡ q.holds.video =
    held_once held film p.holds.video q.holds.video p.holds.holds q.holds.holds in
    let sizes : p.size ≡ q.size = p.holds.sized ∙ ap (λ (v : List ℕ). length v) same ∙ sym q.holds.sized in
    let rates : p.rate ≡ q.rate =
    p.holds.grammar.rate ∙ ap (λ (v : List ℕ). rate_of (codes_of (read_after [] v))) same ∙ sym q.holds.grammar.rate in
    let units : p.units ≡ q.units =
    p.holds.grammar.units ∙ ap (λ (v : List ℕ). units_in (film_calls v)) same ∙ sym q.holds.grammar.units in
    p.printed ∙ ap (λ n. scan_text n p.rate p.units) sizes ∙ ap (λ n. scan_text q.size n p.units) rates
    ∙ ap (λ (u : List PictureUnit). scan_text q.size q.rate u) units ∙ sym q.printed

pub scan_not_refused : (held : List File) (film t : List ℕ) (fault : InputError) → IsScanned held film t
    → IsFilmRefused held film fault → ⊥
scan_not_refused held film t fault p refused = held_not_refused held film p.holds.video fault p.holds.holds refused
