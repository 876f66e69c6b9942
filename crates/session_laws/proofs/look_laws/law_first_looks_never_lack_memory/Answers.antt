-- There is room for the first looks of a connection.
use Rattle.std.proofs.Common.{◌≡◌, ℕ, ◌+◌, ◌<◌, ◌≤◌, List, [], ◌∷◌, inl, inr, arith}
use Rattle.std.proofs.lemmas.List.Sums.{sum_by-cons}
use Rattle.session.proofs.SharedTerms.{MayRunOutOfMemory, new_session_state, request_once, SessionState}
use Rattle.rtsp_methods.specs.declared.topics.Topic.TheVariants.{Booked, Offer as OfferTopic}
use Rattle.session.specs.LookLaws.{SessionEvent, Message, AreAfter, AsksBooked, IsAfter, looks_asked, looks_in}
use Rattle.session.specs.LookLaws.{looks_of}
use Rattle.session.proofs.InitialStateLemmas.{heard_by}
use Rattle.session.proofs.RequestUniqueness.{topic_once}
use Rattle.session.proofs.ReplyCodeLemmas.{hears_may}
use Rattle.session.proofs.RequestCaseAnalysis.{answer_to, by_answer}
use Rattle.session_laws.proofs.look_laws.law_first_looks_never_lack_memory.Goals as goal

-- the room that a session has lost is that of the looks that were asked for
abbrev Keeps : ℕ → SessionState → SessionState → Type 0
Keeps looks old new = old.looks_left ≤ new.looks_left + looks

happening_room : (old : SessionState) (happening : SessionEvent) (new : SessionState) → IsAfter old happening new
    → Keeps (looks_of happening) old new
happening_room old (Message message ask) new is =
    let answer = answer_to (heard_by is) in by_answer (λ a s. Keeps (looks_in a) old s) answer (grind arith)
happening_room old happening new is = grind arith

all_room : (happenings : List SessionEvent) (old new : SessionState) → AreAfter old happenings new
    → Keeps (looks_asked happenings) old new
all_room [] old new is = grind arith
all_room (happening ∷ rest) old new is = search (
  arith,
  happening_room old happening is.0 is.1.0,
  all_room rest is.0 new is.1.1,
  sum_by-cons looks_of happening rest,
)

-- ---- a message for what is booked

-- where there is room for a look, memory doesn't run out for it
never_lacks : (old : SessionState) (message : List ℕ) → 0 < old.looks_left → AsksBooked message
    → ¬ MayRunOutOfMemory old message
never_lacks old message some is (inl play) = grind arith
never_lacks old message some is (inr (inl offer)) =
    let body = rw (request_once offer.offer.is_request is.is_request).body_is at offer.offer.body in
    let topics : OfferTopic ≡ Booked = topic_once is.request.body.now Booked OfferTopic is.body body in
    cc
never_lacks old message some is (inr (inr look)) = let none = look.none in omega (arith, some, none)

pub returns : goal.returns
returns c = λ films settings words old new message ask has is hears lacks.
    let room = all_room has.happenings (new_session_state films settings words) old has.are in
    never_lacks old message (omega (arith, room, has.few)) is (hears_may old new message ask hears lacks)
