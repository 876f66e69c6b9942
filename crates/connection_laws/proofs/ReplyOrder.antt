-- Parts that are sent are the film's bytes with the texts among them. Replies are sent in the order of their requests,
-- each once, but for the one that waits.
use Rattle.std.specs.Prelude.{⊤}
use Rattle.std.proofs.Common.{◌≡◌, ℕ, ◌+◌, ◌-◌, ◌≤◌, ◌++◌, List, ◌∷◌, length, refl, ap, sym, arith, if◌then◌else◌, Bool}
use Rattle.std.proofs.Common.{true, map, []}
use Rattle.std.proofs.lemmas.List.{append-nil, append_assoc}
use Rattle.std.proofs.Math.Seq.{drop-append-add, take-append-add}
use Rattle.connection_laws.proofs.Terms.{round_parts, rounds_parts, takings_parts, Round, takings_bytes, rounds_bytes}
use Rattle.connection_laws.proofs.Terms.{Course, course_film, Answered, SentPart, Passed, Stage, ElementStep, Text}
use Rattle.connection_laws.proofs.Terms.{film_bytes, parts_bytes, Outcome, PlacedText, placed_texts, insert_texts}
use Rattle.connection_laws.proofs.Terms.{text_of, waiting_reply, course_texts, course_replies, can_reply, sent_reply}
use Rattle.connection_laws.proofs.Terms.{SessionState}
use Rattle.conn.specs.InputSteps.{Film, part_bytes}
use Rattle.connection_laws.proofs.RequestEffects.{answered_after}
use Rattle.connection_laws.proofs.CourseSteps.{Stands, IsKeptStanding, film_written_is, all_kept, slot_asks, film_sent}
use Rattle.connection_laws.proofs.CourseSteps.{Finished, finish_by}
use Rattle.connection_laws.proofs.StationAnswers.{SlotTo, slot_to}
use Rattle.connection_laws.proofs.CourseInduction.{event_piece, Piece, AnsweredRequest}
use Rattle.conn.proofs.StationAnswers.{ComesAs, BytesCame, SlotCame}
use Rattle.connection_laws.proofs.Lists.{joins_parts}

-- the first text stands at or after a place
abbrev IsFrom : ℕ → List PlacedText → Type 0
IsFrom place [] = ⊤
IsFrom place (placed ∷ texts) = place ≤ placed.place

places_from : (place : ℕ) (parts : List SentPart) → IsFrom place (placed_texts place parts)
places_from place [] = tt
places_from place (Film bytes ∷ parts) = grind (arith, places_from (place + length bytes) parts)
places_from place (Text text ∷ parts) = omega arith

woven_front : (place : ℕ) (bytes film : List ℕ) (texts : List PlacedText) → IsFrom (place + length bytes) texts
    → insert_texts place (bytes ++ film) texts ≡ bytes ++ insert_texts (place + length bytes) film texts
woven_front place bytes film texts given = search (arith, drop-append-add, take-append-add, append_assoc)

pub parts_woven : (place : ℕ) (parts : List SentPart)
    → parts_bytes parts ≡ insert_texts place (film_bytes parts) (placed_texts place parts)
parts_woven place [] = refl
parts_woven place (Film bytes ∷ parts) =
    let at : ℕ = place + length bytes in
    cc (parts_woven at parts, woven_front place bytes (film_bytes parts) (placed_texts at parts) (places_from at parts))
parts_woven place (Text text ∷ parts) = search (arith, parts_woven place parts)

-- all bytes of the parts are those of the rounds
parts_bytes_append : (xs ys : List SentPart) → parts_bytes (xs ++ ys) ≡ parts_bytes xs ++ parts_bytes ys
parts_bytes_append = joins_parts parts_bytes (record { one = part_bytes; none = refl; more = λ x xs. refl })

takings_sent : (takings : List ElementStep) → takings_bytes takings ≡ parts_bytes (takings_parts takings)
takings_sent [] = refl
takings_sent (Passed n ∷ takings) = takings_sent takings
takings_sent (Answered message outcome parts ∷ takings) =
    cc (takings_sent takings, parts_bytes_append parts (takings_parts takings))

pub rounds_sent : (rounds : List Round) → rounds_bytes rounds ≡ parts_bytes (rounds_parts rounds)
rounds_sent [] = refl
rounds_sent (round ∷ rounds) =
    rw (takings_sent round.takings, ← (parts_bytes_append round.due (takings_parts round.takings)))
    (rw (rounds_sent rounds, ← (parts_bytes_append (round_parts round) (rounds_parts rounds))))

-- the texts among parts
abbrev texts_in : List SentPart → List (List ℕ)
texts_in [] = []
texts_in (Film bytes ∷ parts) = texts_in parts
texts_in (Text text ∷ parts) = text ∷ texts_in parts

texts_placed : (place : ℕ) (parts : List SentPart) → map text_of (placed_texts place parts) ≡ texts_in parts
texts_placed place [] = refl
texts_placed place (Film bytes ∷ parts) = texts_placed (place + length bytes) parts
texts_placed place (Text text ∷ parts) = ap (λ ts. text ∷ ts) (texts_placed place parts)

texts_append : (xs ys : List SentPart) → texts_in (xs ++ ys) ≡ texts_in xs ++ texts_in ys
texts_append [] ys = refl
texts_append (Film bytes ∷ xs) ys = texts_append xs ys
texts_append (Text text ∷ xs) ys = ap (λ ts. text ∷ ts) (texts_append xs ys)

-- these texts were sent, and these are replies to requests that were processed meanwhile
abbrev RepliesOn : SessionState → Piece → SessionState → Type 0
RepliesOn old piece new = texts_in piece.parts ++ waiting_reply new ≡ waiting_reply old ++ piece.replies

-- a request
reply_cases : (goes : Bool) (s : SessionState) → s.waits ≡ true
    → texts_in (if goes then Text s.text ∷ [] else []) ++ waiting_reply (if goes then sent_reply s else s) ≡ s.text ∷ []
reply_cases goes s given = grind arith

answered_replies : {old new : Stage} (request : AnsweredRequest old new) → Stands old.session
    → texts_in request.parts ++ waiting_reply new.session
    ≡ waiting_reply old.session ++ (request.replied.answered.text ∷ [])
answered_replies {old} request stands =
    let after = answered_after replied.heard stands.rest in cc (
      replied.new_is,
      replied.parts_are,
      reply_cases (can_reply replied.answered) replied.answered after.waits,
      ap (λ w. if w then old.session.text ∷ [] else []) replied.next.replied,
    )
  where
    open request use {outcome, parts, replied}

-- a play that is done is halted without a reply
finished_waiting : {s new : SessionState} {halt : Outcome} → Finished s halt new → waiting_reply new ≡ waiting_reply s
finished_waiting given = grind arith

sent_texts : {old s : SessionState} {slot : ℕ} {parts : List SentPart} → SlotTo old slot s parts
    → texts_in parts ++ waiting_reply s ≡ waiting_reply old
sent_texts given = grind arith

comes_replies : {old opened : Stage} {round : Round} → ComesAs old round opened → Stands old.session
    → RepliesOn old.session (event_piece old.session round) opened.session
comes_replies {old} BytesCame stands = sym (append-nil (waiting_reply old.session))
comes_replies {old} (SlotCame {slot = slot} finish) stands =
    let to = slot_to old.session slot in
    let finished = finish_by (slot_asks to stands.rest) refl finish in
    cc (finished_waiting finished, sent_texts to, append-nil (waiting_reply old.session))

replies_kept : IsKeptStanding RepliesOn
replies_kept = grind (arith, texts_append, append_assoc, answered_replies, comes_replies)

-- in a connection's course
pub replies_in_order : (course : Course)
    → map text_of (course_texts course) ++ waiting_reply course.last.session ≡ course_replies course
replies_in_order course = rw (texts_placed 0 (rounds_parts course.rounds), all_kept replies_kept course)

pub bytes_woven : (course : Course)
    → rounds_bytes course.rounds ≡ insert_texts 0 (course_film course) (course_texts course)
bytes_woven course = grind (arith, rounds_sent, parts_woven, rounds_parts, film_sent, film_written_is)
