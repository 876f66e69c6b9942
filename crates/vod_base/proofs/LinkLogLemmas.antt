-- What a link in memory notes, and the bytes among it that were sent.
use Rattle.std.proofs.Common.{◌≡◌, ℕ, ◌+◌, ◌<◌, List, [], ◌∷◌, ◌++◌, length, take, get_or, map, refl, sym, ap, ◌∙◌}
use Rattle.std.proofs.lemmas.List.{append_assoc, map-append, append-nil, take_more}
use Rattle.vod_base.specs.declared.links.Heard.{Heard}
use Rattle.vod_base.specs.declared.links.Heard.TheVariants.{Bytes, Slot, End}
use Rattle.vod_base.specs.declared.memory_links.Event.{Event}
use Rattle.vod_base.specs.declared.memory_links.LinkLogEntry.{LinkLogEntry}
use Rattle.vod_base.specs.declared.memory_links.LinkLogEntry.TheVariants.{Gone}
use Rattle.vod_base.specs.Links.{IoEvent, HeardBytes, HeardSlot, HeardEnd, Sent, io_event_of, sends}
use Rattle.vod_base.specs.MemoryLinks.{sent_of, io_event_logged}

pub sent_of-append : (xs ys : List IoEvent) → sent_of (xs ++ ys) ≡ sent_of xs ++ sent_of ys
sent_of-append [] ys = refl
sent_of-append (Sent byte ∷ xs) ys = ap (λ bytes. byte ∷ bytes) (sent_of-append xs ys)
sent_of-append (HeardBytes bytes ∷ xs) ys = sent_of-append xs ys
sent_of-append (HeardSlot slot ∷ xs) ys = sent_of-append xs ys
sent_of-append (HeardEnd ∷ xs) ys = sent_of-append xs ys

pub sent_of-sends : (bytes : List ℕ) → sent_of (sends bytes) ≡ bytes
sent_of-sends [] = refl
sent_of-sends (byte ∷ bytes) = ap (λ bs. byte ∷ bs) (sent_of-sends bytes)

sent_of-heard : (heard : Heard) (into : List ℕ) → sent_of (io_event_of heard into ∷ []) ≡ []
sent_of-heard (Bytes n) into = refl
sent_of-heard (Slot t) into = refl
sent_of-heard End into = refl

noted_bytes : (events : List Event) (bytes : List ℕ) → map (io_event_logged events) (map Gone bytes) ≡ sends bytes
noted_bytes events [] = refl
noted_bytes events (byte ∷ bytes) = ap (λ doings. Sent byte ∷ doings) (noted_bytes events bytes)

-- one event more is noted: the history has it, and the sent bytes stay
pub heard_more : (events : List Event) (notes : List LinkLogEntry) (noted : LinkLogEntry) (heard : Heard) (into : List
    ℕ) →
    io_event_logged events noted ≡ io_event_of heard into →
    (map (io_event_logged events) (notes ++ noted ∷ []) ≡ map (io_event_logged events) notes ++ io_event_of heard into ∷
    [])
    × (sent_of (map (io_event_logged events) (notes ++ noted ∷ [])) ≡ sent_of (map (io_event_logged events) notes))
heard_more events notes noted heard into is =
    let told = map-append (io_event_logged events) notes (noted ∷ [])
    ∙ ap (λ d. map (io_event_logged events) notes ++ d ∷ []) is in (
      told,
      rw told
          (sent_of-append (map (io_event_logged events) notes) (io_event_of heard into ∷ [])
          ∙ ap (λ b. sent_of (map (io_event_logged events) notes) ++ b) (sent_of-heard heard into)
          ∙ append-nil (sent_of (map (io_event_logged events) notes))),
    )

-- more bytes are noted: the history has them as sent, and they stand at the end of the sent bytes
pub sent_more : (events : List Event) (old new : List LinkLogEntry) (bytes : List ℕ) → new ≡ old ++ map Gone bytes →
    (map (io_event_logged events) new ≡ map (io_event_logged events) old ++ sends bytes)
    × (sent_of (map (io_event_logged events) new) ≡ sent_of (map (io_event_logged events) old) ++ bytes)
sent_more events old new bytes are =
    let told = ap (map (io_event_logged events)) are ∙ map-append (io_event_logged events) old (map Gone bytes)
    ∙ ap (λ d. map (io_event_logged events) old ++ d) (noted_bytes events bytes) in (
      told,
      rw told
          (sent_of-append (map (io_event_logged events) old) (sends bytes)
          ∙ ap (λ b. sent_of (map (io_event_logged events) old) ++ b) (sent_of-sends bytes)),
    )

-- one byte more is noted as sent
pub noted_more : {now : List LinkLogEntry} (old : List LinkLogEntry) (bytes : List ℕ) (i : ℕ) → i < length bytes
    → now ≡ old ++ map Gone (take i bytes)
    → now ++ Gone (get_or bytes i 0) ∷ [] ≡ old ++ map Gone (take (i + 1) bytes)
noted_more old bytes i inside was =
    let one : List LinkLogEntry = Gone (get_or bytes i 0) ∷ [] in
    ap (λ (l : List LinkLogEntry). l ++ one) was ∙ append_assoc old (map Gone (take i bytes)) one
    ∙ ap (λ (l : List LinkLogEntry). old ++ l)
    (sym (ap (map Gone) (take_more bytes i 0 inside) ∙ map-append Gone (take i bytes) (get_or bytes i 0 ∷ [])))
