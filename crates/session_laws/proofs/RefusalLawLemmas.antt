-- The refusals that all methods share, by their codes; a PLAY with a Range in Playing, and what one
-- without a Range, or from now on, plays.
use Rattle.std.proofs.Common.{◌≡◌, ℕ, Bool, true, List, Option, Some, None, is_some, Err, sym, ap, subst, ◌∙◌, arith}
use Rattle.session.proofs.SharedTerms.{code_of, FitsSession, HasCode, Hears, IsJudged, IsPlannedRun, IsReadAs}
use Rattle.session.proofs.SharedTerms.{IsRefused, IsSpan, IsTimely, Method, option_of, Refusal, refusal_text, Request}
use Rattle.session.proofs.SharedTerms.{required_of, Run, SessionState, Span, Stored, with_reply}
use Rattle.session.specs.declared.commands.Ask.{Ask}
use Rattle.session.specs.declared.plans.Planned.{Planned}
use Rattle.rtsp_fields.specs.declared.ranges.Origin.TheVariants.{Now}
use Rattle.rtsp_methods.specs.declared.methods.Method.TheVariants.{Play}
use Rattle.rtsp_methods.specs.declared.refusals.Refusal.TheVariants.{Method as Unknown, Option as Required, Session}
use Rattle.rtsp_methods.specs.declared.refusals.Refusal.TheVariants.{Film as NoFilm, State as NotNow}
use Rattle.film_streams.specs.declared.setups.Setup.{Setup as SetupIs}
use Rattle.session.specs.Laws.{Resumes}
use Rattle.session_laws.specs.PlayLaws.{PassesEarlierChecks, HasRangeInPlaying, IsDeclined}
use Rattle.session_laws.specs.RefusalLaws.{BeginsFilm, IsInvalidMethod, IsKnownMethod, IsOfNoFilm, IsOfNoSession}
use Rattle.session_laws.specs.RefusalLaws.{IsRefusedBy, LacksSession, RequiresSomeOption}
use Rattle.session.proofs.InitialStateLemmas.{HeardMessage, heard_by}
use Rattle.session.proofs.ResumedPlayLemmas.{span_of_once}
use Rattle.session_laws.proofs.RequestReadings.{refused_in, IsStopped, IsTakenUp, heard_method}
use Rattle.session_laws.proofs.RtpNumberLemmas.{goes_on_from_now}
use Rattle.session.proofs.ReplyCodeLemmas.{one_code, own_code, refusal_code}

-- a refusal, by its code
pub refused_as : (h : HeardMessage) (sequence : ℕ) (refusal : Refusal) (option : List ℕ)
    → IsRefused h.old (Some sequence) refusal option h.ask h.new
    → IsRefusedBy h.old (code_of refusal) sequence h.ask h.new
refused_as h sequence refusal option is = grind arith

requires : (request : Request) → RequiresSomeOption request → is_some (required_of request.head.now) ≡ true
requires request some = grind arith

lacking : (method : Method) (exists : Bool) (id : List ℕ) (named : Option (List ℕ))
    → LacksSession method exists id named → ¬ FitsSession method exists id named
lacking method exists id named given = grind arith

untimely : (method : Method) (old : SessionState) (request : Request) → IsInvalidMethod method old
    → ¬ IsTimely old.state request method
untimely method old request given = grind arith

-- a received request, read so
module _ (old new : SessionState) (message : List ℕ) (ask : Ask) (request : Request) (hears : Hears old message ask new)
    (is : IsReadAs message request) where
  -- one that is judged so is refused so
  pub refused_by : (refusal : Refusal) → IsJudged old.films old.id old.state request (Err refusal)
      → IsRefusedBy old (code_of refusal) request.sequence ask new
  refused_by refusal own =
      refused_as (heard_by hears) request.sequence refusal (option_of request.head.now)
      (refused_in (heard_by hears) request refusal is own)

  pub unknown_refused : ¬ IsKnownMethod request → IsRefusedBy old 501 request.sequence ask new
  unknown_refused unknown = refused_by Unknown (record { none = λ method is. unknown (method, is) })

  pub option_refused : IsKnownMethod request → RequiresSomeOption request
      → IsRefusedBy old 551 request.sequence ask new
  option_refused known some =
      refused_by Required (record { method = known.0; named = known.1; required = requires request some })

  pub session_refused : IsOfNoSession old request → IsRefusedBy old 454 request.sequence ask new
  session_refused wrong = refused_by Session (search (arith, lacking wrong.method _ _ _ wrong.lacks, lacking))

  pub film_refused : IsOfNoFilm old request → IsRefusedBy old 404 request.sequence ask new
  film_refused wrong = refused_by NoFilm (record {
    method = wrong.method;
    talk = wrong.talk;
    asked = wrong.asks_film;
    none = λ has. wrong.none has.0 has.1.0 has.1.1.named;
  })

  pub state_refused : (method : Method) → PassesEarlierChecks method old request → IsInvalidMethod method old
      → IsRefusedBy old 455 request.sequence ask new
  state_refused method good wrong =
      refused_by NotNow (search (arith, untimely method old request wrong, untimely))

-- ---- from now on, where no run or one is paused

pub now_begins : (old : SessionState) (stored : Stored) (setup : SetupIs) (value : List ℕ) (span : Span)
    (planned : Planned) → IsSpan value span → span.from ≡ Now
    → IsPlannedRun old stored setup None (Some value) planned → BeginsFilm stored.film planned.run
now_begins old stored setup value span planned is now planned_is =
    let asked = planned_is.asked in
    let from : asked.span.from ≡ Now =
    ap (λ (s : Span). s.from) (span_of_once (Some value) asked.span span asked.is_span is) ∙ now in
    rw planned_is.run_is (grind arith)

pub now_resumes : (old : SessionState) (stored : Stored) (setup : SetupIs) (paused : Run) (value : List ℕ)
    (span : Span) (planned : Planned) → IsSpan value span → span.from ≡ Now
    → IsPlannedRun old stored setup (Some paused) (Some value) planned → Resumes old paused planned
now_resumes old stored setup paused value span planned is now planned_is =
    let asked = planned_is.asked in
    goes_on_from_now old planned_is
    (ap (λ (s : Span). s.from) (span_of_once (Some value) asked.span span asked.is_span is) ∙ now)

-- ---- a PLAY with a Range in Playing

-- no refusal has the code 200
not_ok : (refusal : Refusal) → code_of refusal ≡ 200 → ⊥
not_ok refusal given = grind arith

pub refused : (h : HeardMessage) (sequence : Option ℕ) (refusal : Refusal) (option : List ℕ)
    → IsRefused h.old sequence refusal option h.ask h.new → IsDeclined h.old h.ask h.new
refused h sequence refusal option is =
    let text : h.new.text ≡ refusal_text sequence refusal option = ap (λ (s : SessionState). s.text) is.1 in
    record {
      command = is.0;
      leaves = is.1 ∙ ap (λ (t : List ℕ). with_reply h.old t) (sym text);
      no_ok = λ ok. not_ok refusal (one_code (refusal_text sequence refusal option) (own_code refusal).small
          (omega arith) (refusal_code sequence refusal option) (subst (HasCode 200) text ok));
    }

module _ (old new : SessionState) (message : List ℕ) (ask : Ask) (request : Request) (hears : Hears old message ask new)
    (is : HasRangeInPlaying old message request) where
  pub range_refused : IsDeclined old ask new
  range_refused =
      elim (heard_method (heard_by hears) request Play is.is_request is.method) [
        | IsStopped refusal place judged done ↦ search (refused (heard_by hears))
        | IsTakenUp up ↦ absurd (grind arith)
      ]

  -- its code, where no other refusal comes before
  pub range_455 : PassesEarlierChecks Play old request → HasCode 455 new.text
  range_455 good = search (
    arith,
    refused_in (heard_by hears) request NotNow is.is_request (search (arith)),
    refusal_code (Some request.sequence) NotNow (option_of request.head.now),
  )
