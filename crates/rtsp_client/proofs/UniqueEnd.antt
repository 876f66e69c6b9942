-- What stands next in the bytes that wait gives one answer, or lets the watching go on.
use Rattle.std.proofs.Common.{◌≡◌, ◌≢◌, ℕ, ◌++◌, ◌∷◌, [], List, take}
use Rattle.std.proofs.Common.{Result, Ok, Err, is_ok, refl, sym, ap, subst, ◌∙◌, arith, inl, inr}
use Rattle.std.proofs.lemmas.Bool.{both_ways}
use Rattle.std.proofs.lemmas.List.{append-nil}
use Rattle.std.proofs.lemmas.List.Concat.{flat_map-append}
use Rattle.interleave.specs.Elements.{IsFirst}
use Rattle.interleave.specs.Streams.{AreInputElements}
use Rattle.interleave.specs.declared.elements.Step.{Step}
use Rattle.interleave.specs.declared.elements.Step.TheVariants.{More}
use Rattle.interleave.specs.declared.elements.DemuxFault.{DemuxFault}
use Rattle.interleave.proofs.StreamElements.{TwoCuts, cuts_agree, element_once, tells_none}
use Rattle.interleave.proofs.ElementUniqueness.{answer_once}
use Rattle.rtsp_text.proofs.StatusTexts.{line_once}
use Rattle.rtsp_client.specs.declared.watch_request.Wish.{Wish}
use Rattle.rtsp_client.specs.declared.watch_request.WatchEnd.{WatchEnd}
use Rattle.rtsp_client.specs.declared.watch_request.WatchEnd.TheVariants.{Done, Fault}
use Rattle.rtsp_client.specs.declared.watch_request.WatchFault.TheVariants.{Framing, Refused}
use Rattle.rtsp_client.specs.ClientHistory.{History, ClientEvent, Frame, Reply}
use Rattle.rtsp_client.specs.Films.{is_good_frame}
use Rattle.rtsp_client.specs.Answers.{Gives, GoOn, GoesOn, IsBadReply, IsGoodReply, IsOrderly, has_fields}
use Rattle.rtsp_client.specs.Answers.{history_after, events_of_elements, element_events, payloads_of, requests_after}
use Rattle.rtsp_client.specs.WatchCourses.{IsNext, WatchStage, Stops, StopsAt, stage}
use Rattle.rtsp_client.specs.Outcomes.{IsDecided}

-- ---- replies

orderly-once : {h : History} {message : List ℕ} {c d : ℕ} → IsOrderly h message c → IsOrderly h message d → c ≡ d
orderly-once a b = (line_once a.answer.line b.answer.line).0

bad-not-good : {h : History} {message : List ℕ} → IsBadReply h message → IsGoodReply h message → ⊥
bad-not-good (inl none) good = none 200 good.0
bad-not-good {h} {message} (inr lacking) good = both_ways (has_fields h message) lacking.1 good.1

bad-not-other : {h : History} {message : List ℕ} {code : ℕ} → IsBadReply h message → IsOrderly h message code
    → code ≢ 200 → ⊥
bad-not-other {code} (inl none) orderly other = none code orderly
bad-not-other (inr lacking) orderly other = other (orderly-once orderly lacking.0)

-- ---- moments

-- a moment gives one answer
pub gives-once : {one other : WatchEnd} (wish : Wish) (h : History) (moment : ClientEvent) → Gives wish h moment one
    → Gives wish h moment other → one ≡ other
gives-once wish h (Reply message) (inl (bad, is)) (inl (bad', is')) = is ∙ sym is'
gives-once wish h (Reply message) (inl (bad, is)) (inr (inl (code, (refused, is')))) =
    absurd (bad-not-other bad refused.0 refused.1)
gives-once wish h (Reply message) (inl (bad, is)) (inr (inr (good, two, is'))) = absurd (bad-not-good bad good)
gives-once wish h (Reply message) (inr (inl (code, (refused, is)))) (inl (bad, is')) =
    absurd (bad-not-other bad refused.0 refused.1)
gives-once wish h (Reply message) (inr (inl (code, (refused, is)))) (inr (inl (code', (refused', is')))) =
    is ∙ (ap (λ c. Fault (Refused c)) (orderly-once refused.0 refused'.0) ∙ sym is')
gives-once wish h (Reply message) (inr (inl (code, (refused, is)))) (inr (inr (good, two, is'))) =
    absurd (refused.1 (orderly-once refused.0 good.0))
gives-once wish h (Reply message) (inr (inr (good, two, is))) (inl (bad, is')) = absurd (bad-not-good bad good)
gives-once wish h (Reply message) (inr (inr (good, two, is))) (inr (inl (code, (refused, is')))) =
    absurd (refused.1 (orderly-once refused.0 good.0))
gives-once wish h (Reply message) (inr (inr (good, two, is))) (inr (inr (good', two', is'))) = is ∙ sym is'
gives-once wish h (Frame block) one other = one.1 ∙ sym other.1
gives-once wish h _ one other = absurd one

-- and then the watching doesn't go on
pub gives-not-on : (wish : Wish) (h : History) (end : WatchEnd) (moment : ClientEvent) → Gives wish h moment end
    → GoesOn h moment → ⊥
gives-not-on wish h end (Reply message) (inl (bad, is)) on = bad-not-good bad on.0
gives-not-on wish h end (Reply message) (inr (inl (code, (refused, is)))) on = refused.1 (orderly-once refused.0 on.0.0)
gives-not-on wish h end (Reply message) (inr (inr (good, two, is))) on = omega (arith, two, on.1)
gives-not-on wish h end (Frame block) given on = both_ways (is_good_frame h block) given.0 on
gives-not-on wish h end _ given on = given

good-later : (h : History) (a b : List ClientEvent) → GoOn h (a ++ b) → GoOn (history_after h a) b
good-later h [] b good = good
good-later h (m ∷ a) b good = good-later (m ∷ h) a b good.1

-- ---- what stands next

-- the bytes that wait give the answer: they begin no element, or the next moment gives it
pub data Quits (wish : Wish) (h : History) (rest : List ℕ) (end : WatchEnd) : Type 0 where
  AtFraming : end ≡ Fault Framing → (fault : DemuxFault) → IsFirst rest (Err fault) → Quits wish h rest end
  AtMoment : (moment : ClientEvent) → IsNext rest moment → Gives wish h moment end → Quits wish h rest end

-- such an answer, with nothing sent and nothing handed on
pub record QuitsAlone (wish : Wish) (old : WatchStage) (end : WatchEnd) (sent out : List ℕ) : Type 0 where
  pub quits : Quits wish old.history old.rest end
  pub no_sent : sent ≡ []
  pub no_out : out ≡ []

pub quits-alone : {wish : Wish} {sent out : List ℕ} (at : WatchStage) (end : WatchEnd) → IsDecided end
    → Stops wish at end sent out → QuitsAlone wish at end sent out
quits-alone at end decided (inl (is, (fault, first), no_sent, no_out)) =
    record { quits = AtFraming is fault first; no_sent = no_sent; no_out = no_out }
quits-alone at end decided (inr (moment, (next, inl (given, no_sent, no_out)))) =
    record { quits = AtMoment moment next given; no_sent = no_sent; no_out = no_out }
quits-alone at (Done watched) decided (inr (moment, (next, inr (on, failed)))) = absurd failed
quits-alone at (Fault fault) decided (inr (moment, (next, inr (on, failed)))) = absurd failed
quits-alone at _ decided (inr (moment, (next, inr (on, failed)))) = absurd decided

abbrev first_moment : ClientEvent → List ClientEvent → ClientEvent
first_moment other [] = other
first_moment other (moment ∷ moments) = moment

-- one moment is next
next-once : {rest : List ℕ} {m m' : ClientEvent} → IsNext rest m → IsNext rest m' → m ≡ m'
next-once {rest} {m} (n, (element, is)) (n', (element', is')) =
    ap (first_moment m) (sym is ∙ ap (λ k. element_events (take k rest)) (element_once rest n n' element element') ∙
    is')

quits-once : {wish : Wish} {old : WatchStage} {one other : WatchEnd} → Quits wish old.history old.rest one
    → Quits wish old.history old.rest other → one ≡ other
quits-once (AtFraming is fault first) (AtFraming is' fault' first') = is ∙ sym is'
quits-once {old = old} (AtFraming is fault first) (AtMoment moment (n, (element, _)) given) =
    absurd (tells_none old.rest (Err fault) first n element)
quits-once {old = old} (AtMoment moment (n, (element, _)) given) (AtFraming is fault first) =
    absurd (tells_none old.rest (Err fault) first n element)
quits-once {wish} {old} {one} (AtMoment moment next given) (AtMoment moment' next' given') =
    gives-once wish old.history moment' (subst (λ m. Gives wish old.history m one) (next-once next next') given) given'

-- where bytes that wait give the answer, something stands before them
pub quits-not-idle : {wish : Wish} {h : History} {rest : List ℕ} {end : WatchEnd} → Quits wish h rest end
    → IsFirst rest (Ok More) → ⊥
quits-not-idle {rest} (AtFraming is fault first) idle =
    let tells = λ (answer : Result Step DemuxFault). is_ok answer in
    both_ways (tells (Err fault)) refl (ap tells (answer_once rest (Err fault) (Ok More) first idle))
quits-not-idle {rest} (AtMoment moment (n, (element, _)) given) idle = tells_none rest (Ok More) idle n element

-- ---- elements, one after another

-- elements of the bytes that wait, which let the watching go on
pub record Passed (old : WatchStage) : Type 0 where
  pub elements : List (List ℕ)
  pub rest : List ℕ
  pub cut : AreInputElements old.rest elements rest
  pub good : GoOn old.history (events_of_elements elements)

-- where they leave the watching
abbrev pub stage_after : (old : WatchStage) → List (List ℕ) → List ℕ → WatchStage
stage_after old elements rest = stage (history_after old.history (events_of_elements elements)) rest

-- and then the answer
pub record Quitting (wish : Wish) (old : WatchStage) : Type 0 where
  pub passed : Passed old
  pub end : WatchEnd
  pub quits : Quits wish (history_after old.history (events_of_elements passed.elements)) passed.rest end

-- elements leave the watching where others do
record AreSamePassed {old : WatchStage} (one other : Passed old) : Type 0 where
  elements_are : one.elements ≡ other.elements
  rest_is : one.rest ≡ other.rest

-- others go further
abbrev IsFurther : {old : WatchStage} → Passed old → Passed old → Type 0
IsFurther one other = (more : List (List ℕ))
    × ((other.elements ≡ one.elements ++ more) × AreInputElements one.rest more other.rest)

-- no further element is processed after the answer
no-further : {wish : Wish} {old : WatchStage} (quit : Quitting wish old) (other : Passed old)
    → IsFurther quit.passed other → AreSamePassed quit.passed other
no-further quit other ([], (is, cut)) = record {
  elements_are = sym (is ∙ append-nil quit.passed.elements);
  rest_is = cut;
}
no-further {wish} {old} quit other (element ∷ more, (is, (n, cut))) = absurd (not-on quit.quits)
  where
    at : WatchStage
    at = stage_after old quit.passed.elements quit.passed.rest

    good : GoOn at.history (events_of_elements (element ∷ more))
    good = good-later old.history (events_of_elements quit.passed.elements) (events_of_elements (element ∷ more))
        (subst (GoOn old.history)
        (ap events_of_elements is ∙ flat_map-append element_events quit.passed.elements (element ∷ more)) other.good)

    not-on : Quits wish at.history at.rest quit.end → ⊥
    not-on (AtFraming is fault first) = tells_none at.rest (Err fault) first n cut.0
    not-on (AtMoment moment (m, (front, is)) given) =
        let same : element_events element ≡ moment ∷ [] =
        ap element_events cut.1 ∙ ap (λ k. element_events (take k at.rest)) (element_once at.rest n m cut.0 front)
        ∙ is in
        let on : GoOn at.history (moment ∷ events_of_elements more) =
        subst (λ (ms : List ClientEvent). GoOn at.history (ms ++ events_of_elements more)) same good in
        gives-not-on wish at.history quit.end moment given on.0

-- where no complete element is first, none is processed
idle-stays : {rest later : List ℕ} (more : List (List ℕ)) → IsFirst rest (Ok More) → AreInputElements rest more later
    → IsFirst later (Ok More)
idle-stays [] idle cut = subst (λ r. IsFirst r (Ok More)) cut idle
idle-stays {rest} (element ∷ more) idle (n, cut) = absurd (tells_none rest (Ok More) idle n cut.0)

two-cuts : {old : WatchStage} (one other : Passed old)
    → TwoCuts old.rest one.elements other.elements one.rest other.rest
two-cuts one other = record { one = one.cut; other = other.cut }

-- bytes that give the answer are not all processed
pub quit-not-passed : {wish : Wish} {old : WatchStage} (quit : Quitting wish old) (other : Passed old)
    → IsFirst other.rest (Ok More) → ⊥
quit-not-passed quit other idle =
    elim (cuts_agree (two-cuts quit.passed other)) [
      | inl further ↦
          quits-not-idle quit.quits
          (subst (λ r. IsFirst r (Ok More)) (sym (no-further quit other further).rest_is) idle)
      | inr (more, (is, cut)) ↦ quits-not-idle quit.quits (idle-stays more idle cut)
    ]

-- bytes give one answer, after the same elements
record AreSameQuits {wish : Wish} {old : WatchStage} (one other : Quitting wish old) : Type 0 where
  elements_are : one.passed.elements ≡ other.passed.elements
  end_is : one.end ≡ other.end

quit-once : {wish : Wish} {old : WatchStage} (one other : Quitting wish old) → AreSameQuits one other
quit-once {wish} {old} one other =
    let same : AreSamePassed one.passed other.passed = elim (cuts_agree (two-cuts one.passed other.passed)) [
      | inl further ↦ no-further one other.passed further
      | inr further ↦
          let back = no-further other one.passed further in
          record { elements_are = sym back.elements_are; rest_is = sym back.rest_is }
    ] in
    let at = stage_after old other.passed.elements in
    let there : Quits wish (at other.passed.rest).history other.passed.rest one.end =
    subst (λ r. Quits wish (at r).history r one.end) same.rest_is
    (subst (λ es. Quits wish (stage_after old es one.passed.rest).history one.passed.rest one.end) same.elements_are
    one.quits) in
    record { elements_are = same.elements_are; end_is = quits-once {old = at other.passed.rest} there other.quits }

-- ---- what the client did

abbrev pub stops-quit : {wish : Wish} {old : WatchStage} {end : WatchEnd} {sent out : List ℕ} → IsDecided end
    → StopsAt wish old end sent out → Quitting wish old
stops-quit {wish} {old} {end} decided stops = record {
  passed = record { elements = stops.elements; rest = stops.mid; cut = stops.cut; good = stops.good };
  end = end;
  quits = (quits-alone (stage_after old stops.elements stops.mid) end decided stops.stops).quits;
}

-- an answer that the events decide, after what was sent and handed on
pub record Stopping (wish : Wish) (old : WatchStage) : Type 0 where
  pub end : WatchEnd
  pub sent : List ℕ
  pub out : List ℕ
  pub decided : IsDecided end
  pub stops : StopsAt wish old end sent out

pub record AreSameStops {wish : Wish} {old : WatchStage} (a b : Stopping wish old) : Type 0 where
  pub end_is : a.end ≡ b.end
  pub sent_is : a.sent ≡ b.sent
  pub out_is : a.out ≡ b.out

pub stops-once : {wish : Wish} {old : WatchStage} (a b : Stopping wish old) → AreSameStops a b
stops-once {wish} {old} a b =
    let one = a.stops in
    let other = b.stops in
    let alone = quits-alone {wish = wish} (stage_after old one.elements one.mid) a.end a.decided one.stops in
    let alone' = quits-alone {wish = wish} (stage_after old other.elements other.mid) b.end b.decided other.stops in
    let same = quit-once (stops-quit a.decided one) (stops-quit b.decided other) in
    let requests = λ (es : List (List ℕ)). requests_after wish old.history (events_of_elements es) in
    let payloads = λ (es : List (List ℕ)). payloads_of (events_of_elements es) in
    record {
      end_is = same.end_is;
      sent_is = one.sent_is ∙ ap (λ x. requests one.elements ++ x) (alone.no_sent ∙ sym alone'.no_sent)
          ∙ ap (λ es. requests es ++ other.more_sent) same.elements_are ∙ sym other.sent_is;
      out_is = one.out_is ∙ ap (λ x. payloads one.elements ++ x) (alone.no_out ∙ sym alone'.no_out)
          ∙ ap (λ es. payloads es ++ other.more_out) same.elements_are ∙ sym other.out_is;
    }
