-- What a link carries from a server to a client, slot by slot, by what each end's link exposed.
use Rattle.std.specs.Prelude.{◌≡◌, ℕ, ◌+◌, ◌-◌, ◌≤◌, max, List, [], ◌∷◌, ◌++◌, length}
use Rattle.vod_base.specs.Links.{IoEvent, HeardBytes, HeardSlot, Sent}
use Rattle.conn.specs.EventSteps.{IsPrefixOf, rounds_doings}
use Rattle.connection_laws.specs.Courses.{Course, slot_in}
use Rattle.connection_laws.specs.Replies.{course_texts}

-- the bytes that were received, and those that were sent, in order
abbrev pub heard_bytes : List IoEvent → List ℕ
heard_bytes [] = []
heard_bytes (HeardBytes bytes ∷ doings) = bytes ++ heard_bytes doings
heard_bytes (_ ∷ doings) = heard_bytes doings

abbrev pub sent_bytes : List IoEvent → List ℕ
sent_bytes [] = []
sent_bytes (Sent byte ∷ doings) = byte ∷ sent_bytes doings
sent_bytes (_ ∷ doings) = sent_bytes doings

-- the greatest slot up to LATEST_SLOT that was received, 0 where there is none
abbrev pub latest_slot : List IoEvent → ℕ
latest_slot [] = 0
latest_slot (doing ∷ doings) = max (slot_in doing) (latest_slot doings)

-- A server had written these bytes at a moment between its step of a slot and the next one: the
-- slot was the latest that it had received, and what it had begun to send was sent.
pub record IsWrittenBy (served : List IoEvent) (slot : ℕ) (bytes : List ℕ) : Type 0 where
  pub front : List IoEvent
  pub rest : List IoEvent
  pub parts : served ≡ front ++ rest
  pub whole : (byte : ℕ) (later : List IoEvent) → rest ≡ Sent byte ∷ later → ⊥
  pub slot_is : latest_slot front ≡ slot
  pub bytes_are : bytes ≡ sent_bytes front

-- A link carries a play that begins in a slot of the server's, and in another of the client's: the
-- bytes that the client receives are the first that the server sent. Where the client receives one
-- of the play's slots, it has received what the server had written by its own slot of that number
-- of the play.
pub record IsCarried (served heard : List IoEvent) (start begin : ℕ) : Type 0 where
  pub front : IsPrefixOf (heard_bytes heard) (sent_bytes served)
  pub each : (before after : List IoEvent) (slot : ℕ) → heard ≡ before ++ HeardSlot slot ∷ after
      → begin ≤ slot → IsWrittenBy served (start + (slot - begin)) (heard_bytes before)

-- All that a server sent on a connection, the reply to its client's third request with it, was
-- received.
pub record IsDelivered (course : Course) (heard : List IoEvent) : Type 0 where
  pub replies : length (course_texts course) ≡ 3
  pub all : heard_bytes heard ≡ sent_bytes (rounds_doings course.rounds)
