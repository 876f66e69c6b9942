-- A client that receives a server's stream goes on at each reply, frame and report of it, up to the
-- reply to TEARDOWN, which ends the watching.
use Rattle.std.proofs.lemmas.Grind.{common_steps}
use Rattle.std.proofs.Common.{◌≡◌, ℕ, ◌+◌, ◌<◌, ◌≤◌, ◌⊎◌, ◌^◌, true, List, [], ◌∷◌, ◌++◌, length, drop, Some, is_some}
use Rattle.std.proofs.Common.{Err, refl, sym, ap, ◌∙◌, arith, inl, inr}
use Rattle.std.proofs.lemmas.List.{append-nil, drop_at, take-append-drop, take-append-le, take_at}
use Rattle.connection_laws.proofs.Terms.{IsFirst, AreInputElements, Film, Identity, framed_bytes, length_ms, Wish}
use Rattle.connection_laws.proofs.Terms.{Gives, GoesOn, events_of_elements, element_events, frames_heard, frames_of}
use Rattle.connection_laws.proofs.Terms.{watched_in, IsAnswer, play_range, play_start, setup_session, History}
use Rattle.connection_laws.proofs.Terms.{ClientEvent, Reply, end_ms, replies, IsNext, AreAnswers, AreGoodReplies}
use Rattle.interleave.specs.declared.elements.DemuxFault.{DemuxFault}
use Rattle.interleave.proofs.ElementStability.{whole_stays}
use Rattle.interleave.proofs.StreamElements.{TwoCuts, cut_grows, cuts_agree, element_once, element_stays}
use Rattle.interleave.proofs.StreamElements.{element_within, tells_none}
use Rattle.rtsp_client.specs.declared.watch_request.WatchEnd.TheVariants.{Done}
use Rattle.rtsp_client.specs.Films.{is_good_frame}
use Rattle.rtsp_client.specs.WholeFilms.{AwaitsFilm, frames_of_film}
use Rattle.connection_laws.proofs.ClientInput.{no_sum, HasGoneOn, frames_parts, moments_parts}
use Rattle.connection_laws.proofs.ElementStreams.{AreAlone, no_element, FramedFront}
use Rattle.connection_laws.proofs.FilmReading.{units_all, units_told, WholeStream, run_from}
use Rattle.connection_laws.proofs.HistorySums.{AreOneBlocks, Sum, blocks_same, steps, sum_of}
use Rattle.connection_laws.proofs.MeterInput.{AreTexts, Stream, all_of, begun_sum, two_moments, After, Later, Within}
use Rattle.connection_laws.proofs.MeterInput.{stands_in, third_reply}
use Rattle.connection_laws.proofs.PlayReplyReading.{film_counted}

-- ---- where a client stands in a stream

-- elements, each of them alone, are the elements of their bytes
pub all_cut : (ps : List (List ℕ)) → AreAlone ps → AreInputElements (framed_bytes ps) ps []
all_cut [] alone = refl
all_cut (p ∷ ps) alone =
    let t = framed_bytes ps in (
      length p,
      (
        element_stays p t (length p) alone.0.whole,
        sym (take_at p t (length p) refl),
        rw (drop_at p t (length p) refl) (all_cut ps alone.1),
      ),
    )

-- elements that were received of others, the ones after them, and the bytes that come after those
-- that wait
pub record IsPlaceIn (all elements : List (List ℕ)) (rest : List ℕ) : Type 0 where
  pub more : List (List ℕ)
  pub tail : List ℕ
  pub all_is : all ≡ elements ++ more
  pub cut : AreInputElements (rest ++ tail) more []

pub none_more : (more : List (List ℕ)) (end : List ℕ) → AreInputElements [] more end → (more ≡ []) × ([] ≡ end)
none_more [] end cut = (refl, cut)
none_more (element ∷ more) end cut = absurd (no_element cut.0 cut.1.0)

pub place_in : {bytes rest : List ℕ} {elements all : List (List ℕ)} → FramedFront bytes all
    → AreInputElements bytes elements rest → IsPlaceIn all elements rest
place_in {bytes} {rest} {elements} {all} front cut =
    let tail = drop count (framed_bytes all) in
    let whole : bytes ++ tail ≡ framed_bytes all = rw (front_is, take-append-drop count (framed_bytes all)) in
    let grown : AreInputElements (framed_bytes all) elements (rest ++ tail) =
    rw whole at (cut_grows bytes tail elements rest cut) in
    let cuts : TwoCuts (framed_bytes all) elements all (rest ++ tail) [] = search all_cut in
    elim (cuts_agree cuts) [
      | inl (more, (all_is, after)) ↦ record { more = more; tail = tail; all_is = all_is; cut = after }
      | inr (more, (is_all, after)) ↦ search (arith, append-nil all, none_more)
    ]
  where
    open front use {count, alone, front_is}

faultless : (fault : DemuxFault) (w : List ℕ) (more : List (List ℕ)) → IsFirst w (Err fault)
    → AreInputElements w more [] → ⊥
faultless fault w [] first cut = grind arith
faultless fault w (element ∷ more) first cut = tells_none w (Err fault) first cut.0 cut.1.0

pub no_fault : {all elements : List (List ℕ)} {rest : List ℕ} (fault : DemuxFault) → IsPlaceIn all elements rest
    → IsFirst rest (Err fault) → ⊥
no_fault {rest = rest} fault place first =
    faultless fault (rest ++ place.tail) place.more (whole_stays rest place.tail (Err fault) first tt) place.cut

-- the element that is next, of which this is the only moment
pub record IsNextIn (all elements : List (List ℕ)) (moment : ClientEvent) : Type 0 where
  pub element : List ℕ
  pub more : List (List ℕ)
  pub all_is : all ≡ elements ++ element ∷ more
  pub moment_is : element_events element ≡ moment ∷ []

pub next_in : {all elements : List (List ℕ)} {rest : List ℕ} {moment : ClientEvent} → IsPlaceIn all elements rest
    → IsNext rest moment → IsNextIn all elements moment
next_in {all} {elements} {rest} {moment} place (n, (whole, moment_is)) =
    in_more place.more place.all_is place.cut
  where
    in_more : (more : List (List ℕ)) → all ≡ elements ++ more → AreInputElements (rest ++ place.tail) more []
        → IsNextIn all elements moment
    in_more [] all_is cut = absurd (no_element n (rw (← cut) (element_stays rest place.tail n whole)))
    in_more (element ∷ more) all_is cut = search (
      arith,
      element_once (rest ++ place.tail) cut.0 n cut.1.0 (element_stays rest place.tail n whole),
      take-append-le n rest place.tail (element_within rest n whole),
    )

-- ---- replies

-- a moment lets a watching go on, or ends it with `Done`
abbrev pub IsAccepted : Wish → History → ClientEvent → Type 0
IsAccepted wish h moment = GoesOn h moment ⊎ Gives wish h moment (Done (watched_in wish h))

-- the two first replies let it go on
first_good : {h : History} {message : List ℕ} → replies h ≡ 0 → IsAnswer message 1 200
    → is_some (setup_session message) ≡ true → GoesOn h (Reply message)
first_good none answer session = grind (arith, common_steps)

second_good : {ms : ℕ} {h : History} {message : List ℕ} → replies h ≡ 1 → IsAnswer message 2 200
    → play_range message ≡ Some ms → is_some (play_start message) ≡ true → GoesOn h (Reply message)
second_good one answer range start = grind (arith, common_steps)

-- at most two replies let a watching go on
pub two_replies : (h : History) → HasGoneOn h → replies h ≤ 2
two_replies [] gone = omega arith
two_replies (Reply message ∷ h) gone = let few = gone.0.1 in omega (arith, few)
two_replies (_ ∷ h) gone = two_replies h gone.1

-- ---- the film

-- the clauses of `law_whole_film_ends_in_done` that are used here
abbrev pub AcceptsFrames : Type 0
AcceptsFrames = (film : Film) (identity : Identity) (h : History) (block : List ℕ) (rest : List (List ℕ))
    → identity.ssrc < 2 ^ 32 → AwaitsFilm film h → frames_of_film film identity ≡ frames_heard h ++ block ∷ rest
    → is_good_frame h block ≡ true

abbrev pub EndsInDone : Type 0
EndsInDone = (film : Film) (identity : Identity) (wish : Wish) (h : History) (message : List ℕ)
    → identity.ssrc < 2 ^ 32 → AwaitsFilm film h → frames_of_film film identity ≡ frames_heard h → replies h ≡ 2
    → IsAnswer message 3 200 → Gives wish h (Reply message) (Done (watched_in wish h))

pub record FilmClauses : Type 0 where
  pub accepts : AcceptsFrames
  pub done : EndsInDone

abbrev pub film_clauses : AcceptsFrames → EndsInDone → FilmClauses
film_clauses accepts done = record { accepts = accepts; done = done }

-- a film's stream, and what a client makes of its frames
pub record FilmStream : Type 0 where
  pub stream : WholeStream
  pub small : stream.identity.ssrc < 2 ^ 32
  pub readable : AreGoodReplies stream.film stream.x.first stream.x.second stream.x.later
  pub clauses : FilmClauses

-- what a client has gone on at
pub record HasAccepted (elements : List (List ℕ)) (h : History) : Type 0 where
  pub sum : sum_of h ≡ steps no_sum (events_of_elements elements)
  pub frames : frames_heard h ≡ frames_of (events_of_elements elements)
  pub gone : HasGoneOn h

stream_frames : (s : WholeStream) → frames_of (events_of_elements s.x.blocks) ≡ frames_of_film s.film s.identity
stream_frames s =
    let starts = film.slice_starts.items in cc (blocks, units_told starts (run_from s) film.units.items, units_all film)
  where
    open s use {film, identity, blocks}

-- a client that has gone on at the two first replies, and at some of the blocks after them
record IsInFilm (film : Film) (h : History) (qs : List (List ℕ)) : Type 0 where
  awaits : AwaitsFilm film h
  two : replies h ≡ 2
  frames : frames_heard h ≡ frames_of (events_of_elements qs)

in_film : {h : History} (s : FilmStream) (qs : List (List ℕ)) → AreOneBlocks qs
    → HasAccepted (s.stream.x.first ∷ s.stream.x.second ∷ qs) h → IsInFilm s.stream.film h qs
in_film {h} s qs are accepted =
    let x = s.stream.x in
    let sum : sum_of h ≡ steps (begun_sum x) (events_of_elements qs) = accepted.sum ∙ two_moments x qs in
    let same = blocks_same qs (begun_sum x) are in
    let two : replies h ≡ 2 = ap (λ (s : Sum). s.replies) sum ∙ same.replies in
    let end : end_ms h ≡ length_ms s.stream.film = search arith in
    record {
      awaits = search (arith, film_counted);
      two = two;
      frames = accepted.frames ∙ rw (x.first_is.moment, x.second_is.moment);
    }

-- no third reply was accepted
pub no_third : {h : History} (x : Stream) (y : List ℕ) (ys : List (List ℕ))
    → HasAccepted (x.first ∷ x.second ∷ (x.blocks ++ y ∷ ys)) h → element_events y ≡ Reply y ∷ [] → ⊥
no_third {h} x y ys accepted reply =
    omega (arith, two_replies h accepted.gone, ap (λ (s : Sum). s.replies) accepted.sum, third_reply x y ys reply)

-- ---- each next moment of a film's stream is accepted

-- a film's stream that a client watches, with what it has gone on at, and the next moment
pub record FilmWatch : Type 0 where
  pub wish : Wish
  pub s : FilmStream
  pub h : History
  pub moment : ClientEvent

module _ (w : FilmWatch) where
  open w use {wish, s, h, moment}
  open s use {stream, small, readable, clauses}
  open stream use {film, identity, x}

  -- the moment of an element, by what the element is
  its_moment : {all elements : List (List ℕ)} {other : ClientEvent} (next : IsNextIn all elements moment)
      → element_events next.element ≡ other ∷ [] → IsAccepted wish h other → IsAccepted wish h moment
  its_moment {other = other} next is accepted = search arith

  -- after the two first replies: a block of the film, or the reply after it
  later_moment : (qs : List (List ℕ)) → HasAccepted (x.first ∷ x.second ∷ qs) h
      → IsNextIn (x.blocks ++ x.later) qs moment → IsAccepted wish h moment
  later_moment qs accepted next =
      elim (stands_in x.blocks x.later qs e es x.blocks_are x.later_are next.all_is) [
        | Within rest within front one ↦ search (arith, stream_frames stream, in_film, moments_parts, frames_parts)
        | After past after ↦
            let inside = in_film s x.blocks x.blocks_are (rw past at accepted) in
            let texts : AreTexts (e ∷ es) = rw after at x.later_are in
            let answers : AreAnswers (e ∷ es) = rw after at readable.later_are in
            its_moment next texts.0.moment (inr (clauses.done film identity wish h e small inside.awaits
            (cc (stream_frames stream, inside.frames)) inside.two answers.0))
        | Later y more past text ↦ absurd (no_third x y more (rw past at accepted) text)
      ]
    where
      open next use {element as e, more as es}

  -- each next moment of a film's stream is accepted
  pub moment_accepted : (elements : List (List ℕ)) → HasAccepted elements h
      → IsNextIn (all_of s.stream.x) elements moment → IsAccepted wish h moment
  moment_accepted [] accepted next = search (arith, first_good)
  moment_accepted (a ∷ []) accepted next =
      let first : a ≡ x.first = cc next.all_is in
      let single : steps no_sum (events_of_elements (a ∷ [])) ≡ steps no_sum (Reply x.first ∷ []) = search arith in
      let one : replies h ≡ 1 = ap (λ (s : Sum). s.replies) (accepted.sum ∙ single) in
      its_moment {other = Reply x.second} next (cc (next.all_is, x.second_is.moment))
      (inl (second_good one readable.played_is readable.range readable.start))
  moment_accepted (a ∷ b ∷ qs) accepted next = search (arith, later_moment)
