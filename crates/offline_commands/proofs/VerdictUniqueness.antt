-- A certificate of a trace or film that the library holds has one verdict, and none where one of the two is refused.
use Rattle.std.proofs.Common.{◌≡◌, ℕ, List, [], ◌∷◌, ◌++◌, Some, inl, inr, refl, sym, ap, ◌∙◌, subst, get_or, unwrap_or}
use Rattle.std.specs.Prelude.{codes}
use Rattle.std.proofs.lemmas.Bool.{cases_order}
use Rattle.std.proofs.lemmas.Option.{none-some}
use Rattle.vod_base.specs.IoState.{File, file_named}
use Rattle.plan_cert.specs.declared.Segment.{Segment}
use Rattle.plan_cert.specs.CertGrammar.{IsBadLine, IsCertificate}
use Rattle.plan_cert.proofs.CertUniqueness.{certificate_has_no_bad_line, one_certificate}
use Rattle.cert_check.specs.CertFaults.{IsFirstFault, IsTaut, HasCertFault, kind_of, fault_number}
use Rattle.cert_check.specs.declared.CertFault.{CertFault}
use Rattle.cert_check.specs.declared.CertFault.TheVariants.{EmptySegment, WrongLength, WrongTotal, BelowLow, AboveUp}
use Rattle.cert_check.specs.declared.CertFault.TheVariants.{EqualSlopes, RiseOffUpper, FallOffLower}
use Rattle.inputs.proofs.ReadLemmas.{one_file}
use Rattle.cli_args.specs.Invocations.{ClientParams, check_of}
use Rattle.cli_errors.specs.declared.errors.InputError.{InputError}
use Rattle.cli_errors.specs.declared.errors.InputError.TheVariants.{BadCert}
use Rattle.offline_commands.specs.OfflineCommands.{IsInputRefused}
use Rattle.offline_commands.specs.Plans.{IsChecked, IsNoCert, IsVerdict}
use Rattle.offline_commands.specs.VerdictText.{cert_fault_text}
use Rattle.offline_commands.proofs.PlanUniqueness.{AreSame, curves_not_refused, curves_once}

-- what is taut has no fault
no_fault : {from : ℕ} {low up : List ℕ} {segments : List Segment} (fault : CertFault)
    → IsTaut from low up segments → HasCertFault from low up segments fault → ⊥
no_fault {from} {low} (EmptySegment i) taut there = taut.no_empty i there
no_fault {from} {low} WrongLength taut there = taut.right_length there
no_fault {from} {low} WrongTotal taut there = taut.right_total there
no_fault {from} {low} (BelowLow t) taut there = taut.above t there
no_fault {from} {low} (AboveUp t) taut there = taut.below t there
no_fault {from} {low} (EqualSlopes i) taut there = taut.no_equal i there
no_fault {from} {low} (RiseOffUpper i) taut there = taut.no_rise_off i there
no_fault {from} {low} (FallOffLower i) taut there = taut.no_fall_off i there

-- the fault of a kind and a number
abbrev fault_at : ℕ → ℕ → CertFault
fault_at kind n =
    get_or (EmptySegment n ∷ WrongLength ∷ WrongTotal ∷ BelowLow n ∷ AboveUp n ∷ EqualSlopes n ∷ RiseOffUpper n
    ∷ FallOffLower n ∷ []) kind WrongLength

fault_is : (fault : CertFault) → fault_at (kind_of fault) (unwrap_or (fault_number fault) 0) ≡ fault
fault_is (EmptySegment i) = refl
fault_is _ = refl

same_kind : {from : ℕ} {low up : List ℕ} {segments : List Segment} {f g : CertFault}
    → IsFirstFault from low up segments f → IsFirstFault from low up segments g → kind_of f ≡ kind_of g
same_kind {from} {low} {f} {g} p q = elim (cases_order (kind_of f) (kind_of g)) [
  | inl h ↦ h
  | inr (inl h) ↦ absurd (q.no_earlier_kind f h p.there)
  | inr (inr h) ↦ absurd (p.no_earlier_kind g h q.there)
]

-- there is one first fault
first_once : {from : ℕ} {low up : List ℕ} {segments : List Segment} {f g : CertFault}
    → IsFirstFault from low up segments f → IsFirstFault from low up segments g → f ≡ g
first_once {from} {low} {f} {g} p q =
    let kinds : kind_of f ≡ kind_of g = same_kind p q in
    let numbers : unwrap_or (fault_number f) 0 ≡ unwrap_or (fault_number g) 0 =
    elim (cases_order (unwrap_or (fault_number f) 0) (unwrap_or (fault_number g) 0)) [
      | inl h ↦ h
      | inr (inl h) ↦ absurd (q.no_lesser_number f kinds h p.there)
      | inr (inr h) ↦ absurd (p.no_lesser_number g (sym kinds) h q.there)
    ] in
    sym (fault_is f) ∙ ap (λ (k : ℕ). fault_at k (unwrap_or (fault_number f) 0)) kinds
    ∙ ap (λ (n : ℕ). fault_at (kind_of g) n) numbers ∙ fault_is g

verdict_once : {status status' : ℕ} {text text' : List ℕ} (from : ℕ) (low up : List ℕ)
    (segments : List Segment) → IsVerdict from low up segments status text →
    IsVerdict from low up segments status' text' → (status ≡ status') × (text ≡ text')
verdict_once {text} from low up segments (inl p) (inl q) = (p.0 ∙ sym q.0, p.2 ∙ sym q.2)
verdict_once {text} from low up segments (inl p) (inr q) = absurd (no_fault q.0 p.1.taut q.1.1.there)
verdict_once {text} from low up segments (inr p) (inl q) = absurd (no_fault p.0 q.1.taut p.1.1.there)
verdict_once {text} from low up segments (inr p) (inr q) =
    let same : p.0 ≡ q.0 = first_once p.1.1 q.1.1 in (
      p.1.0 ∙ sym q.1.0,
      p.1.2 ∙ ap (λ (f : CertFault). codes "refused " ++ cert_fault_text f ++ codes "\n") same
          ∙ sym q.1.2,
    )

pub checked_once : {held : List File} {viewer : ClientParams} {cert : List ℕ} {status status' : ℕ} {text text' : List ℕ}
    → IsChecked held viewer cert status text → IsChecked held viewer cert status' text' → (status ≡ status')
    × (text ≡ text')
checked_once {held} {viewer} {cert} {status'} {text'} p q =
    let same : AreSame q.curves p.curves = curves_once held viewer q.curves p.curves q.has p.has in
    let one : q.read.written ≡ p.read.written = one_file held cert _ _ q.read.found p.read.found in
    let segments : q.segments ≡ p.segments = one_certificate
    (subst (λ (t : List ℕ). IsCertificate t q.read.slots q.read.bytes q.segments) one q.read.certificate)
    p.read.certificate in
    verdict_once p.curves.from p.curves.low.items p.curves.up.items p.segments p.verdict
    (subst (λ (s : List Segment). IsVerdict p.curves.from p.curves.low.items p.curves.up.items s status' text') segments
    (subst (λ (from : ℕ). IsVerdict from p.curves.low.items p.curves.up.items q.segments status' text') same.from
    (subst (λ (low : List ℕ). IsVerdict q.curves.from low p.curves.up.items q.segments status' text') same.low
    (subst (λ (up : List ℕ). IsVerdict q.curves.from q.curves.low.items up q.segments status' text')
    same.up q.verdict))))

-- a certificate that is there is no other text
cert_not_refused : {written : List ℕ} {slots bytes : ℕ} {segments : List Segment} (held : List File) (cert : List ℕ)
    (fault : InputError) → file_named held cert ≡ Some written →
    IsCertificate written slots bytes segments → IsNoCert held cert fault → ⊥
cert_not_refused {written} {slots} {bytes} {segments} held cert (BadCert line) found certificate refused =
    certificate_has_no_bad_line line certificate
    (subst (λ (t : List ℕ). IsBadLine t line) (one_file held cert refused.0 written refused.1.0 found) refused.1.1)
cert_not_refused {written} held cert other found certificate refused = refused

pub checked_not_refused : {held : List File} {viewer : ClientParams} {cert : List ℕ} {status : ℕ} {text : List ℕ}
    (name : List ℕ) (fault : InputError) → IsChecked held viewer cert status text →
    IsInputRefused (check_of viewer cert) held name fault → ⊥
checked_not_refused {held} {viewer} name fault p (inl refused) =
    curves_not_refused held viewer p.curves fault p.has refused.1
checked_not_refused {held} {cert} name fault p (inr refused) = elim refused.1.1 [
  | inl missing ↦ none-some p.read.written (sym missing.1 ∙ p.read.found)
  | inr bad ↦ cert_not_refused held cert fault p.read.found p.read.certificate bad
]
