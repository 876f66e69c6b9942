-- Elements and events, one after another.
use Rattle.std.proofs.Common.{◌≡◌, ℕ, suc, ◌<◌, ◌≤◌, ◌==◌, true, false, cond, List, [], ◌∷◌, ◌++◌, length, take, drop}
use Rattle.std.proofs.Common.{map, get_or, Ok, Err, refl, sym, ap, subst, ◌∙◌, append_assoc, arith, inl}
use Rattle.std.proofs.lemmas.Bool.{cond-true, cond-false}
use Rattle.std.proofs.lemmas.List.{append-nil, get_or-take, length-take-le}
use Rattle.std.proofs.lemmas.List.Concat.{flat_map-append}
use Rattle.interleave.specs.Heads.{is_line_end}
use Rattle.interleave.specs.Elements.{AreLineEnds, IsFirst}
use Rattle.interleave.specs.Streams.{AreInputElements, IsElementLength, WholeBlock, WholeMessage}
use Rattle.interleave.specs.declared.elements.Step.TheVariants.{Block, Request, Skip}
use Rattle.interleave.specs.declared.elements.DemuxFault.{DemuxFault}
use Rattle.interleave.proofs.StreamElements.{next_elements}
use Rattle.rtsp_client.specs.declared.clients.Client.{Client}
use Rattle.rtsp_client.specs.declared.watch_request.Wish.{Wish}
use Rattle.rtsp_client.specs.declared.watch_request.WatchEnd.{WatchEnd}
use Rattle.rtsp_client.specs.declared.watch_request.WatchEnd.TheVariants.{Fault}
use Rattle.rtsp_client.specs.declared.watch_request.WatchFault.TheVariants.{Framing}
use Rattle.rtsp_client.specs.ClientHistory.{History, ClientEvent, Frame, Reply}
use Rattle.rtsp_client.specs.Answers.{GoOn, history_after, block_events, events_of_elements, element_events}
use Rattle.rtsp_client.specs.Answers.{payload_of, payloads_of, request_after, requests_after}
use Rattle.rtsp_client.specs.WatchCourses.{Stops, StopsAt, WatchStage, stage}
use Rattle.rtsp_client.specs.HistoryInvariant.{HistoryInvariant}
use Rattle.rtsp_client.specs.ClientSteps.{HasTakenEvents, HasStopped, HasTaken, Observed, observed_more}
use Rattle.rtsp_client.proofs.ObservedSteps.{ObservedChange, Watcher, observed-none, observed-on}

-- ---- lists of moments

pub after-on : (h : History) (a b : List ClientEvent) → history_after h (a ++ b) ≡ history_after (history_after h a) b
after-on h [] b = refl
after-on h (m ∷ a) b = after-on (m ∷ h) a b

good-on : (h : History) (a b : List ClientEvent) → GoOn h a → GoOn (history_after h a) b → GoOn h (a ++ b)
good-on h [] b first second = second
good-on h (m ∷ a) b first second = (first.0, good-on (m ∷ h) a b first.1 second)

requests-on : (wish : Wish) (h : History) (a b : List ClientEvent)
    → requests_after wish h (a ++ b) ≡ requests_after wish h a ++ requests_after wish (history_after h a) b
requests-on wish h [] b = refl
requests-on wish h (m ∷ a) b =
    ap (λ t. request_after wish h m ++ t) (requests-on wish (m ∷ h) a b)
    ∙ sym (append_assoc (request_after wish h m) (requests_after wish (m ∷ h) a)
    (requests_after wish (history_after (m ∷ h) a) b))

-- bytes were split, and then their rest
record CutsInTurn (bytes mid end : List ℕ) (p q : List (List ℕ)) : Type 0 where
  first : AreInputElements bytes p mid
  next : AreInputElements mid q end

cut-on : {bytes mid end : List ℕ} {p q : List (List ℕ)} → CutsInTurn bytes mid end p q → AreInputElements bytes (p ++ q)
    end
cut-on {end} {p = []} {q} cuts = subst (λ b. AreInputElements b q end) (sym cuts.first) cuts.next
cut-on {bytes} {mid} {end} {p = element ∷ p} {q} cuts =
    let cut = cuts.first.1 in
    let later : CutsInTurn (drop cuts.first.0 bytes) mid end p q = record { first = cut.2; next = cuts.next } in
    (cuts.first.0, (cut.0, cut.1, cut-on later))

-- ---- the first elements

element-start : (rest : List ℕ) (n : ℕ) → 0 < n → get_or (take n rest) 0 0 ≡ get_or rest 0 0
element-start rest n some = get_or-take n rest 0 0 some

pub block-of : (rest : List ℕ) (n : ℕ) → 4 ≤ n → get_or rest 0 0 ≡ 36
    → element_events (take n rest) ≡ block_events (get_or rest 1 0) (take n rest)
block-of rest n long starts =
    let front : get_or (take n rest) 0 0 ≡ 36 = element-start rest n (omega (arith, long)) ∙ starts in
    let second : get_or (take n rest) 1 0 ≡ get_or rest 1 0 = get_or-take n rest 1 0 (omega (arith, long)) in
    let inside : ℕ → List ClientEvent = λ b.
    cond (is_line_end b) []
    (cond (b == 36) (block_events (get_or (take n rest) 1 0) (take n rest)) (Reply (take n rest) ∷ [])) in
    ap inside front ∙ ap (λ c. block_events c (take n rest)) second

pub reply-of : (rest : List ℕ) (n : ℕ) → 0 < n → is_line_end (get_or rest 0 0) ≡ false → (get_or rest 0 0 == 36) ≡ false
    → element_events (take n rest) ≡ Reply (take n rest) ∷ []
reply-of rest n some no_end no_block =
    let inside : ℕ → List ClientEvent = λ b.
    cond (is_line_end b) []
    (cond (b == 36) (block_events (get_or (take n rest) 1 0) (take n rest)) (Reply (take n rest) ∷ [])) in
    ap inside (element-start rest n some)
    ∙ (cond-false (is_line_end (get_or rest 0 0)) _ _ no_end ∙ cond-false (get_or rest 0 0 == 36) _ _ no_block)

ends-none : (bytes : List ℕ) → ((k : ℕ) → k < length bytes → is_line_end (get_or bytes k 0) ≡ true)
    → events_of_elements (map (λ c. c ∷ []) bytes) ≡ []
ends-none [] all = refl
ends-none (b ∷ bytes) all =
    let first : is_line_end b ≡ true = all 0 (omega arith) in
    ap (λ t. t ++ events_of_elements (map (λ c. c ∷ []) bytes)) (cond-true (is_line_end b) [] _ first)
    ∙ ends-none bytes (λ k few. all (suc k) (omega (arith, few)))

-- ---- elements were processed

pub keeps-moved : {w : Watcher} {input : List ℕ} → HistoryInvariant w.wish w.history w.client
    → HistoryInvariant w.wish w.history (record w.client { input = input })
keeps-moved k = record { replies_are = k.replies_are; session_is = k.session_is; state = k.state }

pub passed-none : {w : Watcher} {input : List ℕ} {s : Observed} → HistoryInvariant w.wish w.history w.client
    → HasTakenEvents w.wish w.history [] (record w.client { input = input }) s s
passed-none {w} {s = s} k = record { good = tt; keeps = keeps-moved {w = w} k; sight_is = observed-none s }

-- the first element of bytes, with its moments
pub record Element : Type 0 where
  pub rest : List ℕ
  pub n : ℕ
  pub moments : List ClientEvent
  pub whole : IsElementLength rest n
  pub moments_are : element_events (take n rest) ≡ moments

abbrev pub block-element : {channel n : ℕ} (rest : List ℕ) → IsFirst rest (Ok (Block channel n)) → Element
block-element {channel} {n} rest first = record {
  rest = rest;
  n = n;
  moments = block_events channel (take n rest);
  whole = WholeBlock first.0 first.1 first.3 first.4;
  moments_are = block-of rest n (omega (arith, first.3)) first.0.1
      ∙ ap (λ k. block_events k (take n rest)) (sym first.2);
}

abbrev pub frame-element : {channel n : ℕ} (rest : List ℕ) → IsFirst rest (Ok (Block channel n)) → channel ≡ 0 → Element
frame-element {n = n} rest first zero_ = record (block-element rest first) {
  moments = Frame (take n rest) ∷ [];
  moments_are = (block-element rest first).moments_are ∙ ap (λ k. block_events k (take n rest)) zero_;
}

abbrev pub reply-element : {n : ℕ} (rest : List ℕ) → IsFirst rest (Ok (Request n)) → Element
reply-element {n} rest first = record {
  rest = rest;
  n = n;
  moments = Reply (take n rest) ∷ [];
  whole = WholeMessage first.0 first.1 first.2;
  moments_are = reply-of rest n (omega (arith, first.1.is_head.some, first.1.total_is)) first.0.1 first.0.2;
}

-- it was processed and dropped
pub taken-element : {w : Watcher} {input : List ℕ} {e : ObservedChange} (x : Element)
    → HasTakenEvents w.wish w.history x.moments w.client e.before e.after → input ≡ drop x.n x.rest
    → HasTaken w.wish w.history x.rest (record w.client { input = input }) e.before e.after
taken-element {w} {input} {e} x passed dropped = record {
  elements = take x.n x.rest ∷ [];
  cut = (x.n, (x.whole, refl, sym dropped));
  passed =
      subst (λ ms. HasTakenEvents w.wish w.history ms (record w.client { input = input }) e.before e.after)
      (sym (append-nil (element_events (take x.n x.rest)) ∙ x.moments_are))
      (record { good = passed.good; keeps = keeps-moved passed.keeps; sight_is = passed.sight_is });
}

pub taken-ends : {w : Watcher} {n : ℕ} {s : Observed} → IsFirst w.client.input (Ok (Skip n))
    → HistoryInvariant w.wish w.history w.client
    → HasTaken w.wish w.history w.client.input (record w.client { input = drop n w.client.input }) s s
taken-ends {w} {n} {s} first k =
    let rest = w.client.input in
    let ends : AreLineEnds rest n = first.1 in
    let long : length (take n rest) ≡ n = length-take-le n rest ends.within in
    let none : events_of_elements (map (λ c. c ∷ []) (take n rest)) ≡ [] =
    ends-none (take n rest) (λ k few.
    let few' : k < n = omega (arith, few, long) in
    ap is_line_end (get_or-take n rest k 0 few') ∙ ends.line_ends k few') in
    record {
      elements = map (λ c. c ∷ []) (take n rest);
      cut = next_elements rest (Ok (Skip n)) first rest [] refl;
      passed = subst (λ ms. HasTakenEvents w.wish w.history ms (record w.client { input = drop n rest }) s s) (sym none)
          (passed-none {w = w} k);
    }

pub taken-none : {w : Watcher} {input : List ℕ} {s : Observed} → HistoryInvariant w.wish w.history w.client
    → input ≡ w.client.input → HasTaken w.wish w.history w.client.input (record w.client { input = input }) s s
taken-none {w} k same = record { elements = []; cut = sym same; passed = passed-none {w = w} k }

-- elements that were processed, and what they leave
pub record TakenElements : Type 0 where
  pub watcher : Watcher
  pub rest : List ℕ
  pub change : ObservedChange
  pub taken : HasTaken watcher.wish watcher.history rest watcher.client change.before change.after

abbrev pub taken-so : {w : Watcher} {rest : List ℕ} {e : ObservedChange}
    → HasTaken w.wish w.history rest w.client e.before e.after → TakenElements
taken-so {w} {rest} {e} taken = record { watcher = w; rest = rest; change = e; taken = taken }

-- elements were processed, and then others
pub taken-on : {new : Client} {u : Observed} (x : TakenElements)
    → ((g : History) → HistoryInvariant x.watcher.wish g x.watcher.client
    → HasTaken x.watcher.wish g x.watcher.client.input new x.change.after u)
    → HasTaken x.watcher.wish x.watcher.history x.rest new x.change.before u
taken-on {new} {u} x next =
    let w = x.watcher in
    let s = x.change.before in
    let rest = x.rest in
    let first = x.taken in
    let a = events_of_elements first.elements in
    let g = history_after w.history a in
    let second = next g first.passed.keeps in
    let b = events_of_elements second.elements in
    let cuts : CutsInTurn rest w.client.input new.input first.elements second.elements =
    record { first = first.cut; next = second.cut } in
    let both : HasTakenEvents w.wish w.history (a ++ b) new s u = record {
      good = good-on w.history a b first.passed.good second.passed.good;
      keeps = subst (λ x. HistoryInvariant w.wish x new) (sym (after-on w.history a b)) second.passed.keeps;
      sight_is = second.passed.sight_is
          ∙ (ap (λ x. observed_more x (requests_after w.wish g b) (payloads_of b)) first.passed.sight_is
          ∙ (observed-on s (requests_after w.wish w.history a) (requests_after w.wish g b) (payloads_of a)
          (payloads_of b)
          ∙ (ap (λ x. observed_more s x (payloads_of a ++ payloads_of b)) (sym (requests-on w.wish w.history a b))
          ∙ ap (observed_more s (requests_after w.wish w.history (a ++ b))) (sym (flat_map-append payload_of a b)))));
    } in
    record {
      elements = first.elements ++ second.elements;
      cut = cut-on cuts;
      passed =
          subst (λ ms. HasTakenEvents w.wish w.history ms new s u)
          (sym (flat_map-append element_events first.elements second.elements)) both;
    }

-- ---- nothing more was processed

pub stop-here : {wish : Wish} {old : WatchStage} {end : WatchEnd} {sent out : List ℕ} → Stops wish old end sent out
    → StopsAt wish old end sent out
stop-here {old = old} {sent = sent} {out} stops = record {
  elements = [];
  mid = old.rest;
  cut = refl;
  good = tt;
  more_sent = sent;
  more_out = out;
  stops = stops;
  sent_is = refl;
  out_is = refl;
}

pub stopped-framing : {wish : Wish} {old : WatchStage} {s : Observed} (fault : DemuxFault)
    → IsFirst old.rest (Err fault) → HasStopped wish old.history old.rest (Fault Framing) s s
stopped-framing {old = old} {s} fault first = record {
  sent = [];
  out = [];
  stops = stop-here {old = old} (inl (refl, (fault, first), refl, refl));
  sight_is = observed-none s;
}

-- what two lists of elements send, hand on and leave, one after the other
requests-in : (wish : Wish) (h : History) (x y : List (List ℕ)) → requests_after wish h (events_of_elements x)
    ++ requests_after wish (history_after h (events_of_elements x)) (events_of_elements y)
    ≡ requests_after wish h (events_of_elements (x ++ y))
requests-in wish h x y =
    sym (requests-on wish h (events_of_elements x) (events_of_elements y))
    ∙ ap (requests_after wish h) (sym (flat_map-append element_events x y))

payloads-in : (x y : List (List ℕ))
    → payloads_of (events_of_elements x) ++ payloads_of (events_of_elements y) ≡ payloads_of (events_of_elements (x ++
    y))
payloads-in x y =
    sym (flat_map-append payload_of (events_of_elements x) (events_of_elements y))
    ∙ ap payloads_of (sym (flat_map-append element_events x y))

after-in : (h : History) (x y : List (List ℕ))
    → history_after (history_after h (events_of_elements x)) (events_of_elements y)
    ≡ history_after h (events_of_elements (x ++ y))
after-in h x y =
    sym (after-on h (events_of_elements x) (events_of_elements y))
    ∙ ap (history_after h) (sym (flat_map-append element_events x y))

pub stopped-on : {end : WatchEnd} {u : Observed} (x : TakenElements)
    → ((g : History) → HistoryInvariant x.watcher.wish g x.watcher.client
    → HasStopped x.watcher.wish g x.watcher.client.input end x.change.after u)
    → HasStopped x.watcher.wish x.watcher.history x.rest end x.change.before u
stopped-on {end} x next =
    let first = x.taken in
    let wish = x.watcher.wish in
    let h = x.watcher.history in
    let a = events_of_elements first.elements in
    let g = history_after h a in
    let second = next g first.passed.keeps in
    let st = second.stops in
    let b = events_of_elements st.elements in
    let cuts : CutsInTurn x.rest x.watcher.client.input st.mid first.elements st.elements =
    record { first = first.cut; next = st.cut } in
    record {
      sent = requests_after wish h a ++ second.sent;
      out = payloads_of a ++ second.out;
      stops = record {
        elements = first.elements ++ st.elements;
        mid = st.mid;
        cut = cut-on cuts;
        good = subst (GoOn h) (sym (flat_map-append element_events first.elements st.elements))
            (good-on h a b first.passed.good st.good);
        more_sent = st.more_sent;
        more_out = st.more_out;
        stops = subst (λ x. Stops wish (stage x st.mid) end st.more_sent st.more_out)
            (after-in h first.elements st.elements) st.stops;
        sent_is = ap (λ x. requests_after wish h a ++ x) st.sent_is
            ∙ (sym (append_assoc (requests_after wish h a) (requests_after wish g b) st.more_sent)
            ∙ ap (λ x. x ++ st.more_sent) (requests-in wish h first.elements st.elements));
        out_is = ap (λ x. payloads_of a ++ x) st.out_is
            ∙ (sym (append_assoc (payloads_of a) (payloads_of b) st.more_out)
            ∙ ap (λ x. x ++ st.more_out) (payloads-in first.elements st.elements));
      };
      sight_is = second.sight_is
          ∙ (ap (λ x. observed_more x second.sent second.out) first.passed.sight_is
          ∙ observed-on x.change.before (requests_after wish h a) second.sent (payloads_of a) second.out);
    }
