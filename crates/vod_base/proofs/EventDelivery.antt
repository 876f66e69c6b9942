-- What a link in memory hands out, by its cursor.
use Rattle.std.proofs.Common.{◌≡◌, ℕ, ◌+◌, ◌-◌, ◌<◌, ◌≤◌, min, List, [], ◌∷◌, length, take, drop, get_or, map, refl}
use Rattle.std.proofs.Common.{sym, ap, ◌∙◌, Vec, Global}
use Rattle.std.proofs.lemmas.List.{drop_more, drop_all, drop-drop, length-drop, length-map, get_or-map, take_min}
use Rattle.std.proofs.lemmas.List.{drop_min}
use Rattle.vod_base.specs.declared.memory_links.Event.{Event}
use Rattle.vod_base.specs.declared.memory_links.Event.TheVariants.{Bytes}
use Rattle.vod_base.specs.declared.memory_links.EventCursor.{EventCursor}
use Rattle.vod_base.specs.Links.{IoEvent, HeardBytes, HeardSlot, HeardEnd, Sent}
use Rattle.vod_base.specs.MemoryLinks.{heard_whole, without_first_bytes, left_from, without_empty_front, first_out}
use Rattle.vod_base.specs.MemoryLinks.{rest_left, next_doing, left_after}

whole : (events : List IoEvent) → without_first_bytes 0 events ≡ events
whole [] = refl
whole (HeardBytes bytes ∷ events) = refl
whole (HeardSlot slot ∷ events) = refl
whole (HeardEnd ∷ events) = refl
whole (Sent byte ∷ events) = refl

-- the events after the first
abbrev pub rest_from : List Event → EventCursor → List IoEvent
rest_from events front = drop (front.event + 1) (map heard_whole events)

-- the event at a place
pub record IsAt (events : List Event) (place : ℕ) (event : Event) : Type 0 where
  pub inside : place < length events
  pub is : event ≡ get_or events place event

-- the first event, and the rest
left_here : (events : List Event) (front : EventCursor) (event : Event) → IsAt events front.event event →
    left_from events front ≡ without_first_bytes front.offset (heard_whole event ∷ rest_from events front)
left_here events front event at =
    let all : List IoEvent = map heard_whole events in
    ap (without_first_bytes front.offset)
    (drop_more all front.event (heard_whole event) (rw length-map at.inside)
    ∙ ap (λ d. d ∷ rest_from events front)
    (get_or-map heard_whole events front.event event (heard_whole event) at.inside ∙ ap heard_whole (sym at.is)))

-- a first event that was passed
pub record IsPassed (front new : EventCursor) : Type 0 where
  pub event : new.event ≡ front.event + 1
  pub offset : new.offset ≡ 0

pub left_passed : (events : List Event) {front new : EventCursor} → IsPassed front new
    → left_from events new ≡ rest_from events front
left_passed events {front} passed = rw (passed.event, passed.offset) (whole (rest_from events front))

-- an event of which no bytes are left is passed over
pub empty_passed : {events : List Event} {front : EventCursor} {bytes : Vec ℕ Global}
    → IsAt events front.event (Bytes bytes) → length bytes.items ≤ front.offset
    → without_empty_front (rest_from events front) ≡ without_empty_front (left_from events front)
empty_passed {events} {front} {bytes} is none =
    sym (ap without_empty_front (left_here events front (Bytes bytes) is)
    ∙ ap (λ (bs : List ℕ). without_empty_front (HeardBytes bs ∷ rest_from events front))
    (drop_all front.offset bytes.items none))

-- what comes first once events of no bytes were passed over
pub record IsInFront (events : List Event) (first front : EventCursor) (event : Event) : Type 0 where
  pub passed : without_empty_front (left_from events front) ≡ without_empty_front (left_from events first)
  pub is : IsAt events front.event event

pub in_front : {events : List Event} {first front : EventCursor} {event : Event} → IsInFront events first front event →
    without_empty_front (left_from events first)
    ≡ without_empty_front (without_first_bytes front.offset (heard_whole event ∷ rest_from events front))
in_front {events} {front} {event} at = sym at.passed ∙ ap without_empty_front (left_here events front event at.is)

-- a first event of which so many bytes were handed out
pub record IsFrontOut (bytes into : List ℕ) (offset count : ℕ) : Type 0 where
  pub some : offset < length bytes
  pub most : count ≡ min (length into) (length bytes - offset)
  pub front : take count into ≡ take count (drop offset bytes)

some_passed : (bytes : List ℕ) (offset : ℕ) (rest : List IoEvent) → offset < length bytes →
    without_empty_front (HeardBytes (drop offset bytes) ∷ rest) ≡ HeardBytes (drop offset bytes) ∷ rest
some_passed bytes offset rest some = rw (drop_more bytes offset 0 some) refl

pub bytes_out : {events : List Event} {first front : EventCursor} {bytes : Vec ℕ Global} {into : List ℕ} {count : ℕ} →
    IsInFront events first front (Bytes bytes) → IsFrontOut bytes.items into front.offset count →
    (HeardBytes (take count into) ≡ next_doing (length into) (left_from events first))
    × (left_from events (record { event = front.event; offset = front.offset + count })
    ≡ left_after (length into) (left_from events first))
bytes_out {events} {first} {front} {bytes} {into} {count} at out =
    let left : List ℕ = drop front.offset bytes.items in
    let rest : List IoEvent = rest_from events front in
    let here : without_empty_front (left_from events first) ≡ HeardBytes left ∷ rest =
    in_front at ∙ some_passed bytes.items front.offset rest out.some in
    let most : min (length into) (length left) ≡ count = rw (length-drop front.offset bytes.items) (sym out.most) in
    let handed_out : take count into ≡ take (length into) left =
    out.front ∙ ap (λ n. take n left) (sym most) ∙ take_min (length into) left in
    let stays : drop (front.offset + count) bytes.items ≡ drop (length into) left =
    sym (drop-drop count front.offset bytes.items) ∙ ap (λ n. drop n left) (sym most) ∙ drop_min (length into) left in (
      ap HeardBytes handed_out ∙ sym (ap (first_out (length into)) here),
      left_here events (record { event = front.event; offset = front.offset + count }) (Bytes bytes) at.is
          ∙ ap (λ (bs : List ℕ). HeardBytes bs ∷ rest) stays ∙ sym (ap (rest_left (length into)) here),
    )

-- after the last event
pub none_out : (events : List Event) (first front : EventCursor) (room : ℕ) →
    without_empty_front (left_from events front) ≡ without_empty_front (left_from events first) →
    length events ≤ front.event →
    (HeardEnd ≡ next_doing room (left_from events first))
    × (left_from events front ≡ left_after room (left_from events first))
none_out events first front room passed past =
    let left : left_from events front ≡ [] =
    ap (without_first_bytes front.offset) (drop_all front.event (map heard_whole events) (rw length-map past)) in
    let none : without_empty_front (left_from events first) ≡ [] = sym passed ∙ ap without_empty_front left in
    (sym (ap (first_out room) none), left ∙ sym (ap (rest_left room) none))
