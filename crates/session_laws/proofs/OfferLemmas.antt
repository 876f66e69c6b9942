-- What an offer asks for and reports, and the least buffer.
use Rattle.std.proofs.lemmas.Grind.{common_steps}
use Rattle.std.proofs.Common.{◌≡◌, ℕ, List, [], ◌∷◌, ◌++◌, map, flat_map, codes, Option, refl, sym, ap, subst, ◌∙◌}
use Rattle.std.proofs.Common.{arith}
use Rattle.std.proofs.lemmas.List.Concat.{flat_map-cons}
use Rattle.session.proofs.SharedTerms.{after_offer, curve_refusal, CurveRefused, HasNoPlan, header_value, IsWaitOf}
use Rattle.session.proofs.SharedTerms.{offer_body, OfferNote, Offers, playback_of, refusal_text, rest_sizes, Run}
use Rattle.session.proofs.SharedTerms.{run_of, Segment, sequence_of, SessionState, Setup, stored_sizes, Timing}
use Rattle.session.proofs.SharedTerms.{timing_of}
use Rattle.rtsp_text.specs.Replies.{value_named}
use Rattle.wire_curve.specs.declared.film.CurveFault.TheVariants.{BufferTooSmall}
use Rattle.wire_curve.specs.declared.film.CurveRefused.TheVariants.{Fault}
use Rattle.wire_curve.specs.CurveFaults.{IsRefused as HaveNoCurves}
use Rattle.early_start.specs.declared.Tried.{Tried}
use Rattle.session.specs.declared.commands.Ask.TheVariants.{Offer as AskOffer}
use Rattle.rtsp_methods.specs.declared.refusals.Refusal.TheVariants.{Buffer}
use Rattle.session.specs.OfferLaws.{IsLeastBuffer, IsLeastBufferReply, IsOfferAsked, IsOfferReply, IsWaitIn, found_line}
use Rattle.session.specs.OfferLaws.{tried_line}
use Rattle.rtsp_replies.specs.Replies.{over_line}
use Rattle.session.proofs.InitialStateLemmas.{HeardMessage}
use Rattle.session.proofs.RequestCaseAnalysis.{Answer, SeeksOffer, answer_to, asks_as}

-- ---- what is asked

pub wait_in : (head : List ℕ) (value : Option (List ℕ)) (wait : ℕ) → header_value head (codes "x-Wait") ≡ value
    → IsWaitOf value wait → IsWaitIn head wait
wait_in head value wait given given' = grind arith

answer_asks : {plan : List Segment} {offers : Offers} (h : HeardMessage) → h.ask ≡ AskOffer plan offers → Answer h
    → IsOfferAsked h.old h.message plan offers h.new
answer_asks {plan} {offers} h offers_ask (SeeksOffer offer planned is asks) =
    let request = offer.taken.request in
    let same : offers ≡ asks.offers = cc (asks.command, offers_ask) in
    let its = wait_in request.head.now (header_value request.head.now (codes "x-Wait")) offer.wait refl
    offer.has_wait in
    record {
      request = request;
      setup = offer.setup;
      paused = offer.paused;
      stored = is.0;
      planned = planned;
      asked_by = assumption;
      ready = offer.ready;
      wait = subst (λ w. IsWaitIn request.head.now w) (sym (ap (λ (o : Offers). o.wait) same ∙ asks.wait_is)) its;
      planned_is = is.1;
      plan_is = cc (asks.command, offers_ask);
      not_found = ap (λ (o : Offers). o.start) same ∙ asks.start_is;
      not_tried = ap (λ (o : Offers). o.tried) same ∙ asks.tried_is;
      leaves = asks.state;
    }
answer_asks h offers_ask answer = absurd (let no : ⊥ = cc (asks_as answer, offers_ask) in no)

pub offer_asked : {plan : List Segment} {offers : Offers} (h : HeardMessage) → h.ask ≡ AskOffer plan offers
    → IsOfferAsked h.old h.message plan offers h.new
offer_asked h offers_ask = answer_asks h offers_ask (answer_to h)

-- ---- what is reported

overs_are : (tried : List Tried)
    → flat_map over_line tried ≡ flat_map (λ (line : List ℕ). line ++ codes "\r\n") (map tried_line tried)
overs_are [] = refl
overs_are (first ∷ tried) = grind (arith, common_steps, overs_are tried)

offer_lines : (start : Option ℕ) (tried : List Tried) → offer_body start tried
    ≡ flat_map (λ (line : List ℕ). line ++ codes "\r\n") (found_line start ∷ map tried_line tried)
offer_lines start tried = grind (arith, overs_are tried, flat_map-cons)

pub offer_told : (old : SessionState) (note : OfferNote)
    → IsOfferReply (sequence_of old.awaited) note.offers (after_offer old note).text
unfolding value_named
offer_told old note = grind (arith, offer_lines note.offers.start note.offers.tried)

-- ---- the least buffer

least_of : (sizes : List ℕ) (timing : Timing) (refused : CurveRefused) (least : ℕ) → HaveNoCurves sizes timing refused
    → Buffer least ≡ curve_refusal refused → IsLeastBuffer sizes timing least
least_of sizes timing (Fault (BufferTooSmall slot used most)) least has is =
    let same : least ≡ most = cc (is) in
    rw same (search arith)
least_of sizes timing _ least has is = absurd (let no : ⊥ = cc (is) in no)

pub least_buffer : (old : SessionState) (setup : Setup) (paused : Option Run) (range : Option (List ℕ)) (least : ℕ)
    → (is : HasNoPlan old setup paused range (Buffer least))
    → IsLeastBuffer (rest_sizes (stored_sizes is.stored) (run_of is.wanted))
    (timing_of (playback_of is.stored.film old.settings setup) (run_of is.wanted)) least
least_buffer old setup paused range least is = search least_of

pub least_told : (sequence : Option ℕ) (least : ℕ) (option : List ℕ)
    → IsLeastBufferReply sequence least (refusal_text sequence (Buffer least) option)
unfolding value_named
least_told sequence least option = grind arith
