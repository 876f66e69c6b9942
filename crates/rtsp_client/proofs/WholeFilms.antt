-- A client accepts each frame of a film that it waits for, and then has all of it.
use Rattle.std.proofs.Common.{◌≡◌, ℕ, suc, ◌+◌, ◌-◌, ◌%◌, ◌^◌, ◌<◌, ◌≤◌, ◌==◌, ◌&&◌, Bool, true, false, not, nat_lt}
use Rattle.std.proofs.Common.{cond, min, List, [], ◌∷◌, ◌++◌, append_assoc, length, take, drop, get_or, is_some, Some}
use Rattle.std.proofs.Common.{slice_get, refl, sym, ap, subst, ◌∙◌, arith, inl, inr}
use Rattle.std.proofs.lemmas.Bool.{and_from, and_right, cases_eq, cond-false, cond-true, eq-eqb, le-leb, le-ltb}
use Rattle.std.proofs.lemmas.Bool.{lt-ltb, ne_eqb, or_right}
use Rattle.std.proofs.lemmas.List.{append-nil, get_or-drop, get_or-take, get_or_append_left, get_or_default}
use Rattle.std.proofs.lemmas.List.{length-append, length-drop, length-take, nil_from_length, take_all}
use Rattle.mpeg_scan.specs.declared.films.Film.{Film}
use Rattle.mpeg_scan.specs.declared.units.Unit.{Unit as PictureUnit}
use Rattle.mpeg_scan.specs.StartCodes.{read_after}
use Rattle.mpeg_scan.specs.Layout.{AreLaid, BeginsSequence}
use Rattle.mpeg_scan.specs.PictureRates.{picture_time}
use Rattle.mpeg_scan.proofs.FilmBoundLemmas.{film-rate}
use Rattle.mpeg_scan.proofs.FirstHeadLemmas.{first-head}
use Rattle.mpeg_scan.proofs.FirstUnitLemmas.{film-begins, film-some}
use Rattle.rtp_pack.specs.declared.payloads.Packet.{Packet}
use Rattle.rtp_pack.specs.declared.reports.Identity.{Identity}
use Rattle.rtp_pack.specs.Laws.{ForAllCutPoints, IsUncut}
use Rattle.film_frames.specs.Laws.{AreConsecutive, frames_among, sequence_of}
use Rattle.film_frames.specs.Pieces.{pieces_of}
use Rattle.film_frames.specs.FramedRuns.{FramedRun, blocks_from, payload, run_of}
use Rattle.film_frames.proofs.FilmPieceLemmas.{film-few, laid-film}
use Rattle.rtsp_client.specs.declared.watch_request.Wish.{Wish}
use Rattle.rtsp_client.specs.declared.watch_request.WatchEnd.TheVariants.{Done}
use Rattle.rtsp_client.specs.Answers.{Gives, GoOn, has_fields, is_awaited, request_after}
use Rattle.rtsp_client.specs.ClientHistory.{History, ClientEvent, Frame, Reply, Report, Slot, end_ms, first_frame}
use Rattle.rtsp_client.specs.ClientHistory.{frames, is_last, replies, session, bytes_pending, sizes}
use Rattle.rtsp_client.specs.Films.{begins_film, is_complete, is_first_good, is_good_frame, is_next_good, rate_code}
use Rattle.rtsp_client.specs.Films.{time_in, units, units_until}
use Rattle.rtsp_client.specs.MeterGuarantee.{frames_heard, frames_of}
use Rattle.rtsp_client.specs.Meters.{watched_in}
use Rattle.rtsp_client.specs.Replies.{IsAnswer, play_range, play_start, setup_session}
use Rattle.rtsp_client.specs.Requests.{teardown_text}
use Rattle.rtsp_client.specs.WholeFilms.{AwaitsFilm, HaveNoReply, frames_of_film}
use Rattle.rtsp_client.proofs.NextFrames.{heard, next-accepted}
use Rattle.rtsp_client.proofs.RunFrames.{AllFrom, AreFrames, EndsUnit, IsFrom, count-append, count_last, ends-later}
use Rattle.rtsp_client.proofs.RunFrames.{first-frame, first-long, from-at, has-packet, units-frames}

-- ---- the frames of a film

film-units : (film : Film) → take (length film.units.items - 0) (drop 0 film.units.items) ≡ film.units.items
film-units film = take_all (length film.units.items - 0) film.units.items (omega arith)

film-frames : (film : Film) (identity : Identity) → identity.ssrc < 2 ^ 32
    → AreFrames identity.ssrc (length film.units.items) (frames_of_film film identity)
film-frames film identity small =
    let run = run_of film 0 (length film.units.items) identity in
    let starts = film.slice_starts.items in
    let P : List PictureUnit → Type 0 = λ us. AreFrames identity.ssrc (length film.units.items)
    (frames_among (pieces_of starts us) (blocks_from run 0 0 (pieces_of starts us))) in
    subst P (sym (film-units film))
    (units-frames (length film.bytes.items) run starts film.units.items small (laid-film film))

-- ---- the first frame

-- a payload that begins where a sequence header does, and goes past it, begins a film
begins-film : {film : List ℕ} {rate : ℕ} (packet : Packet) → BeginsSequence film rate packet.from
    → packet.from + 12 ≤ packet.to → (1 ≤ rate) × (rate ≤ 8)
    → (begins_film (payload film packet) ≡ true) × (rate_code (payload film packet) ≡ rate)
begins-film {film} {rate} packet begins long bounds =
    let from = packet.from in
    let its = payload film packet in
    let many : length its ≡ min (packet.to - packet.from) (length (drop packet.from film)) =
    length-take (packet.to - packet.from) (drop packet.from film) in
    let rest : length (drop packet.from film) ≡ length film - packet.from = length-drop packet.from film in
    let twelve : 12 ≤ length its = omega (arith, many, rest, long, begins.fits) in
    let byte : (k : ℕ) → k < 12 → get_or its k 0 ≡ get_or film (from + k) 0 =
    λ k few. get_or-take (packet.to - packet.from) (drop packet.from film) k 0 (omega (arith, few, long))
    ∙ get_or-drop packet.from film k 0 in
    let same : (k : ℕ) → k < 12 → get_or film (from + k) 0 ≡ get_or film (from + k) 256 =
    λ k few. get_or_default film (from + k) 0 256 (omega (arith, few, begins.fits)) in
    let zero_is : get_or its 0 0 ≡ 0 =
    byte 0 (omega arith) ∙ same 0 (omega arith) ∙ ap (λ n. get_or film n 256) (omega arith) ∙ begins.code.first in
    let one_is : get_or its 1 0 ≡ 0 = byte 1 (omega arith) ∙ same 1 (omega arith) ∙ begins.code.second in
    let two_is : get_or its 2 0 ≡ 1 = byte 2 (omega arith) ∙ same 2 (omega arith) ∙ begins.code.third in
    let three_is : get_or its 3 0 ≡ 179 = byte 3 (omega arith) ∙ same 3 (omega arith) ∙ begins.code.fourth in
    let code : rate_code its ≡ rate = ap (λ n. n % 16) (byte 7 (omega arith)) ∙ begins.rate_is in (
      and_from _ _ (and_from _ _ (and_from _ _ (le-leb 12 (length its) twelve)
          (and_from _ _ (and_from _ _ (and_from _ _ (eq-eqb _ 0 zero_is) (eq-eqb _ 0 one_is)) (eq-eqb _ 1 two_is))
          (eq-eqb _ 179 three_is)))
          (le-leb 1 (rate_code its) (omega (arith, code, bounds.0))))
          (le-leb (rate_code its) 8 (omega (arith, code, bounds.1))),
      code,
    )

-- no packet is cut in the headers of a unit
abbrev pub HeadsUncut : Type 0
HeadsUncut = ForAllCutPoints (λ from headers_end slices cuts. IsUncut from headers_end cuts)

-- a film whose frames are sent under the identity of a sender
pub record SentFilm : Type 0 where
  pub film : Film
  pub identity : Identity
  pub uncut : HeadsUncut
  pub numbers : AreConsecutive identity.sequence (frames_of_film film identity)
  pub small : identity.ssrc < 2 ^ 32

abbrev frames_sent : SentFilm → List (List ℕ)
frames_sent s = frames_of_film s.film s.identity

sent-frames : (s : SentFilm) → AreFrames s.identity.ssrc (length s.film.units.items) (frames_sent s)
sent-frames s = film-frames s.film s.identity s.small

-- the film's first frame begins it, and gives its rate
pub record FirstIs (film : Film) (frames : List (List ℕ)) : Type 0 where
  pub block : List ℕ
  pub more : List (List ℕ)
  pub are : frames ≡ block ∷ more
  pub begins : begins_film (drop 20 block) ≡ true
  pub time_is : time_in block ≡ picture_time film.rate

film-first : (s : SentFilm) → FirstIs s.film (frames_of_film s.film s.identity)
film-first s = by-units film.units.items refl
  where
    open s use {film, identity, uncut}

    run : FramedRun
    run = run_of film 0 (length film.units.items) identity

    by-units : (items : List PictureUnit) → items ≡ film.units.items → FirstIs film (frames_of_film film identity)
    by-units [] are =
        absurd (omega (
          arith,
          ap (λ (l : List PictureUnit). length l) are,
          film-some film.bytes.items film.rate film.units.items film.slice_starts.items film.grammar,
        ))
    by-units (unit ∷ items) are =
        let starts = film.slice_starts.items in
        let at : slice_get film.units.items 0 ≡ Some unit = ap (λ us. slice_get us 0) (sym are) in
        let L : List PictureUnit → Type 0 = λ us. AreLaid (length film.bytes.items) starts us in
        let laid = subst L (sym are) (laid-film film) in
        let there = has-packet starts unit in
        let first = first-frame run starts unit items there in
        let long = first-long there uncut laid.0.1 in
        let r = read_after [] film.bytes.items in
        let bounds = film-rate r film.grammar.accepted in
        let good = begins-film there.packet
        (subst (BeginsSequence film.bytes.items film.rate) (sym long.0) (film-begins film.grammar unit at))
        (omega (arith, first-head film unit at, long.0, long.1))
        (omega (arith, bounds.0, film.grammar.rate), omega (arith, bounds.1, film.grammar.rate)) in
        let frames_are : frames_of_film film identity ≡ first.block ∷ first.more =
        ap (λ us. frames_among (pieces_of starts us) (blocks_from run 0 0 (pieces_of starts us)))
        (film-units film ∙ sym are) ∙ first.are in
        record {
          block = first.block;
          more = first.more;
          are = frames_are;
          begins = ap begins_film first.payload_is ∙ good.0;
          time_is = ap picture_time (ap rate_code first.payload_is ∙ good.1);
        }

-- ---- what a client counts

sizes-count : (h : History) → length (sizes h) ≡ count_last (frames_heard h)
sizes-count [] = refl
sizes-count (Frame b ∷ h) =
    by-last (sizes h) (bytes_pending h + length b) (is_last b) (sizes-count h)
    ∙ sym (count-append (frames_heard h) (b ∷ []))
  where
    by-last : {n : ℕ} (all : List ℕ) (size : ℕ) (last : Bool) → length all ≡ n
        → length (cond last (all ++ size ∷ []) all) ≡ n + cond last 1 0
    by-last all size true is = omega (arith, is, length-append all (size ∷ []))
    by-last all size false is = omega (arith, is)
sizes-count (_ ∷ h) = sizes-count h

-- the first frame that was received
record BeginsHeard (h : History) : Type 0 where
  more : List (List ℕ)
  are : frames_heard h ≡ first_frame h ∷ more

begins-heard : (h : History) → 0 < frames h → BeginsHeard h
begins-heard [] some = absurd (omega (arith, some))
begins-heard (Frame b ∷ h) some =
    elim (cases_eq (frames h) 0) [
      | inl none ↦ record {
        more = [];
        are = ap (λ (l : List (List ℕ)). l ++ b ∷ [])
            (nil_from_length (frames_heard h) (omega (arith, none, (heard h).count)))
            ∙ ap (λ (f : List ℕ). f ∷ [])
            (sym (cond-true (frames h == 0) b (first_frame h) (eq-eqb (frames h) 0 none)));
      }
      | inr there ↦
          let is = begins-heard h (omega (arith, there)) in
          record {
            more = is.more ++ b ∷ [];
            are = ap (λ (l : List (List ℕ)). l ++ b ∷ []) is.are
                ∙ ap (λ (f : List ℕ). f ∷ (is.more ++ b ∷ []))
                (sym (cond-false (frames h == 0) b (first_frame h) (ne_eqb (frames h) 0 there)));
          }
    ]
begins-heard (_ ∷ h) some = let is = begins-heard h some in record { more = is.more; are = is.are }

-- the first frame of a list, and the first that was received, are the film's first one
same-first : {block : List ℕ} {more : List (List ℕ)} (s : SentFilm) → frames_sent s ≡ block ∷ more
    → (begins_film (drop 20 block) ≡ true) × (time_in block ≡ picture_time s.film.rate)
same-first {block} s are =
    let first = film-first s in
    let both : first.block ∷ first.more ≡ block ∷ _ = sym first.are ∙ are in
    let same : first.block ≡ block = cc in (
      subst (λ b. begins_film (drop 20 b) ≡ true) same first.begins,
      subst (λ b. time_in b ≡ picture_time s.film.rate) same first.time_is,
    )

-- a client that received some of a film's first frames knows its number of units
units-known : {h : History} (s : SentFilm) (rest : List (List ℕ)) → AwaitsFilm s.film h
    → frames_sent s ≡ frames_heard h ++ rest → 0 < frames h → units h ≡ length s.film.units.items
units-known {h} s rest awaits are some =
    let begun = begins-heard h some in
    let first = same-first s (are ∙ ap (λ (l : List (List ℕ)). l ++ rest) begun.are) in
    cond-false (frames h == 0) 0 (units_until (end_ms h) (time_in (first_frame h)))
    (ne_eqb (frames h) 0 (λ none. omega (arith, none, some)))
    ∙ (ap (units_until (end_ms h)) first.1 ∙ awaits.end_is)

-- ---- a film's next frame

-- these frames were received of a film, from its first one on, and this one is the next
pub record IsNext (s : SentFilm) (h : History) (block : List ℕ) : Type 0 where
  pub rest : List (List ℕ)
  pub awaits : AwaitsFilm s.film h
  pub are : frames_sent s ≡ frames_heard h ++ block ∷ rest

-- units are missing then
open-yet : {h : History} {block : List ℕ} (s : SentFilm) → IsNext s h block → is_complete h ≡ false
open-yet {h} {block} s next =
    let all = sent-frames s in
    let counted : count_last (frames_sent s) ≡ count_last (frames_heard h) + count_last (block ∷ next.rest) =
    ap count_last next.are ∙ count-append (frames_heard h) (block ∷ next.rest) in
    let later = ends-later (frames_heard h) block next.rest (subst EndsUnit next.are all.ends) in
    elim (cases_eq (frames h) 0) [
      | inl none ↦ ap (λ b. b && (length (sizes h) == units h)) (le-ltb 0 (frames h) (omega (arith, none)))
      | inr there ↦
          let known = units-known s (block ∷ next.rest) next.awaits next.are (omega (arith, there)) in
          and_right (nat_lt 0 (frames h)) (length (sizes h) == units h)
          (ne_eqb (length (sizes h)) (units h)
          (λ same. omega (arith, same, known, sizes-count h, counted, later, all.count)))
    ]

-- the film's first frame, where none came before it
first-accepted : {h : History} {block : List ℕ} (s : SentFilm) → IsNext s h block → frames h ≡ 0
    → is_first_good h block ≡ true
first-accepted {h} {block} s next none =
    let film = s.film in
    let nothing : frames_heard h ≡ [] = nil_from_length (frames_heard h) (omega (arith, none, (heard h).count)) in
    let first = same-first s (next.are ∙ ap (λ (l : List (List ℕ)). l ++ block ∷ next.rest) nothing) in
    let count : units_until (end_ms h) (time_in block) ≡ length film.units.items =
    ap (units_until (end_ms h)) first.1 ∙ next.awaits.end_is in
    let some = film-some film.bytes.items film.rate film.units.items film.slice_starts.items film.grammar in
    and_from _ _ first.0
    (and_from _ _ (le-leb 1 (units_until (end_ms h) (time_in block)) (omega (arith, count, some)))
    (le-leb (units_until (end_ms h) (time_in block)) 4194304 (omega (arith, count, film-few film))))

-- the first frame that came is of the film's source, where one did
first-from : {h : History} {block : List ℕ} (s : SentFilm) → IsNext s h block → 0 < frames h
    → IsFrom s.identity.ssrc (first_frame h)
first-from {h} {block} s next there =
    let begun = begins-heard h there in
    let whole : frames_sent s ≡ (first_frame h ∷ begun.more) ++ block ∷ next.rest =
    next.are ∙ ap (λ (l : List (List ℕ)). l ++ block ∷ next.rest) begun.are in
    from-at [] (first_frame h) (begun.more ++ block ∷ next.rest)
    (subst (AllFrom s.identity.ssrc) whole (sent-frames s).all)

numbers-heard : {h : History} {block : List ℕ} (s : SentFilm) → IsNext s h block
    → AreConsecutive s.identity.sequence (frames_heard h ++ block ∷ [])
numbers-heard {h} {block} s next =
    let parts : frames_sent s ≡ (frames_heard h ++ block ∷ []) ++ next.rest =
    next.are ∙ sym (append_assoc (frames_heard h) (block ∷ []) next.rest) in
    let count : length (frames_sent s) ≡ length (frames_heard h ++ block ∷ []) + length next.rest =
    ap (λ (l : List (List ℕ)). length l) parts ∙ length-append (frames_heard h ++ block ∷ []) next.rest in
    λ k few. ap sequence_of (sym (get_or_append_left (frames_heard h ++ block ∷ []) next.rest [] k few)
    ∙ ap (λ l. get_or l k []) (sym parts))
    ∙ s.numbers k (omega (arith, few, count))

pub next-good : {h : History} {block : List ℕ} (s : SentFilm) → IsNext s h block
    → is_good_frame h block ≡ true
next-good {h} {block} s next =
    let from = from-at (frames_heard h) block next.rest
    (subst (AllFrom s.identity.ssrc) next.are (sent-frames s).all) in
    let missing = open-yet s next in
    elim (cases_eq (frames h) 0) [
      | inl none ↦
          and_from _ _ next.awaits.playing (and_from _ _ (ap not missing) (and_from _ _ from.is_read
          (cond-true (frames h == 0) (is_first_good h block) (is_next_good h block) (eq-eqb (frames h) 0 none)
          ∙ first-accepted s next none)))
      | inr there ↦
          let begun : 0 < frames h = omega (arith, there) in
          next-accepted h block s.identity.sequence next.awaits.playing missing begun from.is_read
          (from.source_is ∙ sym (first-from s next begun).source_is) (numbers-heard s next)
    ]

-- ---- and its end

pub film-complete : {h : History} (s : SentFilm) → AwaitsFilm s.film h → frames_sent s ≡ frames_heard h
    → is_complete h ≡ true
film-complete {h} s awaits are =
    let first = film-first s in
    let count : length (frames_heard h) ≡ suc (length first.more) =
    ap (λ (l : List (List ℕ)). length l) (sym are ∙ first.are) in
    let some : 0 < frames h = omega (arith, (heard h).count, count) in
    let known = units-known s [] awaits (are ∙ sym (append-nil (frames_heard h))) some in
    let sizes_are : length (sizes h) ≡ length s.film.units.items =
    sizes-count h ∙ (ap count_last (sym are) ∙ (sent-frames s).count) in
    and_from _ _ (lt-ltb 0 (frames h) some) (eq-eqb (length (sizes h)) (units h) (sizes_are ∙ sym known))

-- a client that waits for a film does so after events that are no reply
pub awaits-on : {film : Film} {h : History} (event : ClientEvent) → HaveNoReply (event ∷ []) → AwaitsFilm film h
    → AwaitsFilm film (event ∷ h)
awaits-on (Reply m) none awaits = absurd none
awaits-on _ none awaits = record { playing = awaits.playing; end_is = awaits.end_is }

-- the frames of events, in order, each accepted
pub all-accepted : (s : SentFilm) (h : History) (events : List ClientEvent) → AwaitsFilm s.film h → HaveNoReply events
    → (rest : List (List ℕ)) × (frames_of_film s.film s.identity ≡ (frames_heard h ++ frames_of events) ++ rest)
    → GoOn h events
all-accepted s h [] awaits none are = tt
all-accepted s h (Reply m ∷ events) awaits none are = absurd none
all-accepted s h (Frame b ∷ events) awaits none (rest, are) = (
  next-good s (record {
    rest = frames_of events ++ rest;
    awaits = awaits;
    are = are ∙ append_assoc (frames_heard h) (b ∷ frames_of events) rest;
  }),
  all-accepted s (Frame b ∷ h) events (awaits-on (Frame b) tt awaits) none (
    rest,
    are ∙ ap (λ (l : List (List ℕ)). l ++ rest) (sym (append_assoc (frames_heard h) (b ∷ []) (frames_of events))),
  ),
)
all-accepted s h (Report b ∷ events) awaits none are =
    (tt, all-accepted s (Report b ∷ h) events (awaits-on (Report b) tt awaits) none are)
all-accepted s h (Slot t cut ∷ events) awaits none are =
    (tt, all-accepted s (Slot t cut ∷ h) events (awaits-on (Slot t cut) tt awaits) none are)

-- TEARDOWN is sent after the last frame, and nothing before
pub teardown-last : (s : SentFilm) (wish : Wish) (h : History) (block : List ℕ) → AwaitsFilm s.film h
    → frames_of_film s.film s.identity ≡ frames_heard h ++ block ∷ []
    → request_after wish h (Frame block) ≡ teardown_text wish (session h)
teardown-last s wish h block awaits are =
    cond-true (is_complete (Frame block ∷ h)) (teardown_text wish (session h)) []
    (film-complete {h = Frame block ∷ h} s (awaits-on (Frame block) tt awaits) are)

pub nothing-before : {h : History} {block next : List ℕ} (s : SentFilm) (wish : Wish) → IsNext s (Frame block ∷ h) next
    → request_after wish h (Frame block) ≡ []
nothing-before {h} {block} s wish more =
    cond-false (is_complete (Frame block ∷ h)) (teardown_text wish (session h)) [] (open-yet s more)

-- with the reply to TEARDOWN the watching is done
pub film-done : {h : History} {message : List ℕ} (wish : Wish) → is_complete h ≡ true → replies h ≡ 2
    → IsAnswer message 3 200 → Gives wish h (Reply message) (Done (watched_in wish h))
film-done {h} {message} wish complete two answer =
    let awaited : is_awaited h ≡ true = or_right (nat_lt (replies h) 2) (is_complete h) complete in
    let fields : has_fields h message ≡ true = ap (λ n. cond (n == 0) (is_some (setup_session message))
    (cond (n == 1) (is_some (play_range message) && is_some (play_start message)) true)) two in
    let third : 3 ≡ replies h + 1 = omega (arith, two) in
    inr (inr (
      (
        record { awaited = awaited; answer = subst (λ n. IsAnswer message n 200) third answer },
        fields,
      ),
      two,
      refl,
    ))
