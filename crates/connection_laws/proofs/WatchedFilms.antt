-- A film that is watched over a link that carries it slot by slot comes back complete. A client that receives a film's
-- stream refuses none of it, and comes to `Done` once all of it came.
use Rattle.std.proofs.Common.{◌≡◌, ℕ, ◌-◌, ◌<◌, ◌≤◌, List, [], ◌∷◌, ◌++◌, length, take, drop, Some, refl, sym, ap}
use Rattle.std.proofs.Common.{subst, ◌∙◌, append_assoc, arith, inl, Ok, inr, ◌+◌, ◌^◌, map}
use Rattle.std.proofs.lemmas.List.{append-nil, length-map}
use Rattle.std.proofs.lemmas.List.Concat.{flat_map-append}
use Rattle.connection_laws.proofs.Terms.{IoEvent, HeardBytes, sends, picture_time, wire_size, framed_bytes, Wish}
use Rattle.connection_laws.proofs.Terms.{Watched, WatchEnd, Gives, history_after, events_of_elements, payloads_of, Ends}
use Rattle.connection_laws.proofs.Terms.{HasCourse, IsNext, RunsAll, WatchStage, StopsAt, events_of_rounds, first_slot}
use Rattle.connection_laws.proofs.Terms.{History, ClientEvent, replies, IsBetweenAlways, setup_text, IsWish}
use Rattle.connection_laws.proofs.Terms.{heard_bytes, Stored, rounds_doings, IsPrefixOf, watched_in, IsCarried}
use Rattle.connection_laws.proofs.Terms.{sent_bytes, Course, HasPlayedWhole, IsFirst, AreInputElements, More}
use Rattle.connection_laws.proofs.Terms.{AreGoodReplies, PlacedText, text_of}
use Rattle.mpeg_scan.proofs.FirstUnitLemmas.{film-some}
use Rattle.rtsp_client.specs.declared.watch_request.WatchEnd.TheVariants.{Done}
use Rattle.rtsp_client.specs.Answers.{payload_of, requests_after}
use Rattle.rtsp_client.specs.WatchCourses.{Round, Stops, rounds_doings as client_doings, stage}
use Rattle.rtsp_client.proofs.MeterBounds.{quiet-always}
use Rattle.rtsp_client.proofs.ElementSteps.{after-on}
use Rattle.rtsp_client.proofs.EventCourses.{history-later}
use Rattle.connection_laws.proofs.FilmReading.{film_comes_back, film_sizes, whole_of, done_sum, WholeStream}
use Rattle.connection_laws.proofs.ClientInput.{Heard, IsDrained, at_done, heard_all, heard_more, heard_none}
use Rattle.connection_laws.proofs.ClientInput.{replies_later, rounds_heard}
use Rattle.connection_laws.proofs.MeterInput.{all_of, AreTexts}
use Rattle.connection_laws.proofs.MeterBounds.{AreFed, always_all, always_elements, front_of}
use Rattle.connection_laws.proofs.HistorySums.{steps_payloads, sum_after}
use Rattle.connection_laws.specs.ClientRequests.{HasWatchedWhole, EndsWhole}
use Rattle.connection_laws.specs.LinkDelivery.{IsDelivered}
use Rattle.connection_laws.proofs.EndToEndMeter.{all_sent, fed, front_again, stream_of, all_sent_whole, stream_replies}
use Rattle.connection_laws.proofs.EndToEndMeter.{third_of, played_stream, IsFrontOf}
use Rattle.interleave.proofs.StreamElements.{TwoStreams, stream_once, tells_none}
use Rattle.rtsp_client.specs.Outcomes.{IsDecided}
use Rattle.rtsp_client.proofs.UniqueEnd.{Quits, AtFraming, AtMoment, gives-not-on, gives-once, stops-quit}
use Rattle.connection_laws.specs.WatchEnds.{RefusesNothing}
use Rattle.connection_laws.proofs.AcceptedMoments.{HasAccepted, IsPlaceIn, all_cut, moment_accepted, next_in, no_fault}
use Rattle.connection_laws.proofs.AcceptedMoments.{no_third, place_in, FilmStream, FilmClauses}
use Rattle.rtp_pack.specs.Packets.{OfUnit}
use Rattle.connection_laws.proofs.ElementStreams.{no_element}

-- ---- how the course ends

-- the next moment gives the answer, and nothing more is handed on
record IsGiven (wish : Wish) (watched : Watched) (at : WatchStage) (out : List ℕ) : Type 0 where
  pub moment : ClientEvent
  pub next : IsNext at.rest moment
  pub gives : Gives wish at.history moment (Done watched)
  pub out_none : out ≡ []

stop_of : (wish : Wish) (watched : Watched) (at : WatchStage) (sent out : List ℕ)
    → Stops wish at (Done watched) sent out → IsGiven wish watched at out
stop_of wish watched at sent out given = search arith

-- bytes in which a watching that is done ended
abbrev IsEnd : Wish → Watched → WatchStage → List IoEvent → List ℕ → Type 0
IsEnd wish watched mid doings out = (bytes : List ℕ) × ((sent : List ℕ)
    × (StopsAt wish (stage mid.history (mid.rest ++ bytes)) (Done watched) sent out
    × (doings ≡ HeardBytes bytes ∷ sends sent)))

end_of : {wish : Wish} {watched : Watched} {count : ℕ} {doings : List IoEvent} {out : List ℕ} (mid : WatchStage)
    → Ends wish mid count (Done watched) doings out → IsEnd wish watched mid doings out
end_of mid given = search arith

-- all of a course: the bytes that were received, and where it is done
pub record HasWatchedAll (wish : Wish) (watched : Watched) (rounds : List Round) (mid : WatchStage)
    (bytes out : List ℕ) : Type 0 where
  pub done : IsDrained wish watched (rounds_heard rounds ++ bytes) out
  pub elements : List (List ℕ)
  pub history : done.at.history ≡ history_after mid.history (events_of_elements elements)

all_watched : {wish : Wish} {watched : Watched} {heard : List IoEvent} {out : List ℕ}
    (client : HasCourse wish (Done watched) (Some []) (Some heard) (Some []) (Some out))
    (end : IsEnd wish watched client.mid client.last_doings client.last_out)
    → HasWatchedAll wish watched client.rounds client.mid end.0 out
all_watched {wish} {watched} {out = out} client (bytes, (sent, (stops, doings_are))) =
    let moments = events_of_rounds rounds in
    let at = stage (history_after mid.history (events_of_elements stops.elements)) stops.mid in
    let heard : Heard (rounds_heard rounds) mid = heard_all [] (stage [] []) mid rounds heard_none runs in
    let h : Heard (rounds_heard rounds ++ bytes) at = heard_more bytes stops.elements heard stops.cut stops.good in
    let told : at.history ≡ history_after [] (moments ++ events_of_elements stops.elements) =
    rw (history-later (stage [] []) mid rounds runs, after-on [] moments (events_of_elements stops.elements)) in
    let given = stop_of wish watched at stops.more_sent stops.more_out stops.stops in
    let last = events_of_elements stops.elements in
    let all_out : out ≡ payloads_of (moments ++ last) =
    search (append-nil (payloads_of last), flat_map-append payload_of moments last) in
    let done = at_done (moments ++ events_of_elements stops.elements) h given.next given.gives told all_out in
    record { done = done.0; elements = stops.elements; history = ap (λ (s : WatchStage). s.history) done.1 }
  where
    open client use {rounds, mid, runs}

-- ---- the promise

-- a stream's film for a wish, with some time for its pictures
pub record WishedStream : Type 0 where
  pub wish : Wish
  pub stream : WholeStream
  pub wished : IsWish wish
  pub timed : 0 < picture_time stream.film.rate

pub kept_promise : {watched : Watched} {rounds : List Round} {mid : WatchStage} {bytes out : List ℕ} (c : ℕ)
    (s : WishedStream) → RunsAll (stage [] []) rounds mid → HasWatchedAll s.wish watched rounds mid bytes out →
    rounds_heard rounds ++ bytes ≡ take c (framed_bytes (all_of s.stream.x)) →
    AreFed s.wish s.stream.film s.stream.x (first_slot mid.history) [] rounds
    → (watched.over ≡ 0) × (watched.under ≡ 0) × (watched.most ≤ s.wish.buffer)
    × OfUnit s.stream.film.units.items 0 (λ first.
    OfUnit s.stream.film.units.items (length s.stream.film.units.items - 1) (λ last.
    out ≡ take (last.to - first.from) (drop first.from s.stream.film.bytes.items)))
kept_promise {rounds} {mid} {bytes} {out} c s runs all front fed =
    let done = all.done in
    let h = done.at.history in
    let sum = done_sum x c done front in
    let whole = whole_of stream done.heard.gone sum done.complete in
    let few : replies mid.history ≤ 2 = grind (arith, replies_later mid.history (events_of_elements all.elements)) in
    let mine : rounds_heard rounds ≡ take (length (rounds_heard rounds)) (framed_bytes (all_of x)) = search front_of in
    let always =
    always_all (record { wish = wish; stream = stream; begin = first_slot mid.history; count = whole.count })
    (record { heard = heard_none; idle = inl refl; count = length (rounds_heard rounds); front = mine }) runs
    (record { few = few; begins = refl }) fed tt in
    let A : History → Type 0 = λ g. IsBetweenAlways wish (film_sizes film) (picture_time film.rate) g in
    let last = subst A (sym all.history)
    (always_elements wish (film_sizes film) (picture_time film.rate) mid.history all.elements always) in
    let some = film-some film.bytes.items film.rate film.units.items film.slice_starts.items film.grammar in
    let quiet = quiet-always wish (film_sizes film) h
    (record { slot_lasts = omega (arith, wished.some_units); picture_lasts = timed })
    (omega (arith, some, length-map film.units.items (λ u. wire_size film.slice_starts.items u))) last in (
      ap (λ (w : Watched). w.over) done.watched_is ∙ quiet.over_none,
      ap (λ (w : Watched). w.under) done.watched_is ∙ quiet.under_none,
      omega (arith, ap (λ (w : Watched). w.most) done.watched_is, quiet.most_fits),
      grind (arith, sum_after, steps_payloads, film_comes_back),
    )
  where
    open s use {wish, stream, wished, timed}
    open stream use {film, x}

-- ---- what the link exposed

heard_append : (a b : List IoEvent) → heard_bytes (a ++ b) ≡ heard_bytes a ++ heard_bytes b
heard_append [] b = refl
heard_append (HeardBytes bytes ∷ a) b = rw (heard_append a b, append_assoc bytes (heard_bytes a) (heard_bytes b))
heard_append (_ ∷ a) b = heard_append a b

heard_sends : (bytes : List ℕ) → heard_bytes (sends bytes) ≡ []
heard_sends [] = refl
heard_sends (b ∷ bytes) = heard_sends bytes

heard_rounds : (wish : Wish) (h : History) (rounds : List Round) → heard_bytes (client_doings wish h rounds)
    ≡ rounds_heard rounds
heard_rounds wish h [] = refl
heard_rounds wish h (round ∷ rounds) = search (
  arith,
  heard_sends (requests_after wish h round.moments),
  heard_rounds wish (history_after h round.moments) rounds,
  heard_append,
)

split_at : (wish : Wish) (h : History) (before later : List Round) (round : Round) → (rest : List IoEvent)
    × (client_doings wish h (before ++ round ∷ later) ≡ client_doings wish h before ++ round.event ∷ rest)
split_at wish h [] later round = (_, refl)
split_at wish h (first ∷ before) later round =
    let its = split_at wish (history_after h first.moments) before later round in (its.0, rw (its.1, append_assoc))

-- what it exposed before a round, and after it
told_split : {wish : Wish} {end : WatchEnd} {heard : List IoEvent} {out : List ℕ}
    (client : HasCourse wish end (Some []) (Some heard) (Some []) (Some out)) (before later : List Round)
    (round : Round) → client.rounds ≡ before ++ round ∷ later → (front : List IoEvent) × ((rest : List IoEvent)
    × ((heard ≡ front ++ round.event ∷ rest) × (heard_bytes front ≡ rounds_heard before)))
told_split {wish} {heard = heard} client before later round is =
    let its = split_at wish [] before later round in
    let setup = sends (setup_text wish) in
    let mine = client_doings wish [] before in
    let doings = ap (client_doings wish []) is ∙ its.1 in
    let told : heard ≡ setup ++ (client_doings wish [] client.rounds ++ client.last_doings) = cc in (
      setup ++ mine,
      (
        its.0 ++ client.last_doings,
        (
          cc (
            told,
            doings,
            append_assoc mine (round.event ∷ its.0) client.last_doings,
            append_assoc setup mine (round.event ∷ (its.0 ++ client.last_doings)),
          ),
          cc (heard_append setup mine, heard_sends (setup_text wish), heard_rounds wish [] before),
        ),
      ),
    )

-- what the link exposed that was received, whatever the answer is
pub told_bytes : {wish : Wish} {end : WatchEnd} {heard : List IoEvent} {out : List ℕ}
    (client : HasCourse wish end (Some []) (Some heard) (Some []) (Some out))
    → heard_bytes heard ≡ rounds_heard client.rounds ++ heard_bytes client.last_doings
told_bytes {wish} {end} {heard} {out} client =
    search (arith, heard_sends (setup_text wish), heard_rounds wish, heard_append)

-- the bytes that came last
pub last_bytes : {doings : List IoEvent} (bytes sent : List ℕ) → doings ≡ HeardBytes bytes ∷ sends sent
    → heard_bytes doings ≡ bytes
last_bytes bytes sent is = cc (is, heard_sends sent, append-nil bytes)

-- a client watched to the end what a course played, over a link that carried it slot by slot
pub record IsWatched (wish : Wish) (stored : Stored) (watched : Watched) (out : List ℕ) : Type 0 where
  pub course : Course
  pub heard : List IoEvent
  pub wished : IsWish wish
  pub played : HasPlayedWhole wish stored course
  pub client : HasCourse wish (Done watched) (Some []) (Some heard) (Some []) (Some out)
  pub carried : IsCarried (rounds_doings course.rounds) heard played.play.start (first_slot client.mid.history)

pub watched_whole : (wish : Wish) (stored : Stored) (watched : Watched) (out : List ℕ)
    → IsWatched wish stored watched out → HasWatchedWhole wish stored watched out
watched_whole wish stored watched out is =
    let x = stream_of played in
    let end = end_of client.mid client.ends in
    let front = front_again (heard_bytes heard) (sent_bytes (rounds_doings is.course.rounds))
    (framed_bytes (all_of x)) carried.front.0 carried.front.1.1 (all_sent played) in
    let feeds : AreFed wish stored.film x (first_slot client.mid.history) [] client.rounds = λ before later round slot
    split event after_begin.
    let its = told_split client before later round split in
    rw (← its.1.1.1)
    (fed played (carried.each its.0 its.1.0 slot (its.1.1.0 ∙ ap (λ e. its.0 ++ e ∷ its.1.0) event) after_begin)) in
    let heard_is : rounds_heard client.rounds ++ end.0 ≡ heard_bytes heard =
    cc (told_bytes client, last_bytes end.0 end.1.0 end.1.1.1) in
    kept_promise front.count (record {
      wish = wish;
      stream = played_stream played;
      wished = is.wished;
      timed = played.whole.sending.can_play.playback_is.some_picture_units;
    })
    client.runs (all_watched client end) (heard_is ∙ front.is) feeds
  where
    open is use {heard, played, client, carried}

accepted_of : {bytes : List ℕ} {at : WatchStage} (heard : Heard bytes at) → HasAccepted heard.elements at.history
accepted_of heard = record { sum = heard.sum; frames = heard.frames; gone = heard.gone }

-- ---- how a watching stops

-- where what waits gives the answer, it is `Done`
quits_done : {bytes : List ℕ} {at : WatchStage} {end : WatchEnd} (wish : Wish) (s : FilmStream) (heard : Heard bytes at)
    → IsPlaceIn (all_of s.stream.x) heard.elements at.rest → Quits wish at.history at.rest end
    → end ≡ Done (watched_in wish at.history)
quits_done wish s heard place (AtFraming is fault first) = absurd (no_fault fault place first)
quits_done {at = at} {end = end} wish s heard place (AtMoment moment next given) =
    elim (moment_accepted (record { wish = wish; s = s; h = at.history; moment = moment }) heard.elements
    (accepted_of heard) (next_in place next)) [
      | inl on ↦ absurd (gives-not-on wish at.history end moment given on)
      | inr gives ↦ gives-once wish at.history moment given gives
    ]

-- a watching, as its link exposed it
pub record Watching (wish : Wish) : Type 0 where
  pub end : WatchEnd
  pub heard : List IoEvent
  pub out : List ℕ
  pub client : HasCourse wish end (Some []) (Some heard) (Some []) (Some out)

-- what it received is a prefix of a film's stream
abbrev pub IsReceived : FilmStream → List IoEvent → Type 0
IsReceived s heard = IsFrontOf (heard_bytes heard) (framed_bytes (all_of s.stream.x))

-- the answer after the last bytes
stopped_done : {wish : Wish} {out : List ℕ} (s : FilmStream) (w : Watching wish) → IsReceived s w.heard
    → (bytes sent : List ℕ) → StopsAt wish (stage w.client.mid.history (w.client.mid.rest ++ bytes)) w.end sent out
    → w.client.last_doings ≡ HeardBytes bytes ∷ sends sent → IsDecided w.end
    → (watched : Watched) × (w.end ≡ Done watched)
stopped_done {wish} s w received bytes sent stops doings decided =
    let mid = w.client.mid in
    let rounds = w.client.rounds in
    let front : rounds_heard rounds ++ bytes ≡ take received.count (framed_bytes (all_of s.stream.x)) =
    cc (last_bytes bytes sent doings, told_bytes w.client, received.is) in
    let heard = heard_more bytes stops.elements
    (heard_all [] (stage [] []) mid rounds heard_none w.client.runs) stops.cut stops.good in
    let at = stage (history_after mid.history (events_of_elements stops.elements)) stops.mid in
    let place : IsPlaceIn (all_of s.stream.x) heard.elements at.rest = search place_in in
    (watched_in wish at.history, quits_done wish s heard place (stops-quit decided stops).quits)

-- an answer that is `Done` where the events decide it refuses nothing
refuses_none : (end : WatchEnd) → (IsDecided end → (watched : Watched) × (end ≡ Done watched)) → RefusesNothing end
refuses_none end given = grind arith

-- ---- the entire watching

-- where nothing came last, the rounds are all that came
last_none : {wish : Wish} (w : Watching wish) → heard_bytes w.client.last_doings ≡ []
    → rounds_heard w.client.rounds ≡ heard_bytes w.heard
last_none w none = cc (append-nil (rounds_heard w.client.rounds), none, told_bytes w.client)

-- how it ended
ended : {wish : Wish} (s : FilmStream) (w : Watching wish) → IsReceived s w.heard
    → Ends wish w.client.mid (length w.client.rounds) w.end w.client.last_doings w.client.last_out
    → RefusesNothing w.end × (IsDecided w.end → (rounds_heard w.client.rounds ≡ heard_bytes w.heard → ⊥)
    → (watched : Watched) × (w.end ≡ Done watched))
ended s w received (inl (inl lost, none, empty)) = search arith
ended s w received (inl (inr spent, none, empty)) = search (arith, last_none w (ap heard_bytes none))
ended s w received (inr (inl early)) =
    (rw early.0 tt, λ decided waits. absurd (waits (last_none w (ap heard_bytes early.2))))
ended s w received (inr (inr (bytes, (sent, (stops, doings, few))))) =
    let done = stopped_done s w received bytes sent stops doings in
    (refuses_none w.end done, λ decided waits. done decided)

-- ---- all of it came

runs_idle : (old new : WatchStage) (rounds : List Round) → IsFirst old.rest (Ok More) → RunsAll old rounds new
    → IsFirst new.rest (Ok More)
runs_idle old new [] idle all = rw all idle
runs_idle old new (round ∷ rounds) idle all = runs_idle all.0 new rounds all.1.1 all.1.2

-- a client doesn't wait for more after the last reply, where that was received, and all before it
not_waiting : {wish : Wish} (s : FilmStream) (w : Watching wish) (last : List ℕ) (others : List (List ℕ))
    → s.stream.x.later ≡ last ∷ others → heard_bytes w.heard ≡ framed_bytes (all_of s.stream.x)
    → rounds_heard w.client.rounds ≡ heard_bytes w.heard → ⊥
not_waiting s w last others later whole all =
    let x = s.stream.x in
    let mid = w.client.mid in
    let rounds = w.client.rounds in
    let runs = w.client.runs in
    let heard : Heard (rounds_heard rounds) mid = heard_all [] (stage [] []) mid rounds heard_none runs in
    let idle : IsFirst mid.rest (Ok More) = runs_idle (stage [] []) mid rounds (inl refl) runs in
    let cut = subst (λ bytes. AreInputElements bytes heard.elements mid.rest) (all ∙ whole) heard.cut in
    let streams : TwoStreams (framed_bytes (all_of x)) heard.elements (all_of x) mid.rest [] =
    record { one = (cut, tells_none mid.rest (Ok More) idle); other = (all_cut (all_of x) x.alone, no_element) } in
    let are : heard.elements ≡ x.first ∷ x.second ∷ (x.blocks ++ last ∷ others) = rw ((stream_once streams).0, later) in
    let texts : AreTexts (last ∷ others) = rw later at x.later_are in
    no_third x last others (rw are at (accepted_of heard)) texts.0.moment

-- an entire film that a course played, with the clauses on its frames
pub record IsServed (wish : Wish) (stored : Stored) (course : Course) : Type 0 where
  pub played : HasPlayedWhole wish stored course
  pub small : played.identity.ssrc < 2 ^ 32
  pub replies : AreGoodReplies stored.film played.setup played.played (map text_of played.later)
  pub clauses : FilmClauses

-- ---- the stream

film_stream : {wish : Wish} {stored : Stored} {course : Course} → IsServed wish stored course → FilmStream
film_stream {wish} {stored} {course} is =
    let played = is.played in
    record {
      stream = played_stream played;
      small = is.small;
      readable = stream_replies played (λ first second later. AreGoodReplies stored.film first second later) is.replies;
      clauses = is.clauses;
    }

received : {wish : Wish} {stored : Stored} {course : Course} (is : IsServed wish stored course) (heard : List IoEvent)
    → IsPrefixOf (heard_bytes heard) (sent_bytes (rounds_doings course.rounds)) → IsReceived (film_stream is) heard
unfolding film_stream
received {course = course} is heard front =
    front_again (heard_bytes heard) (sent_bytes (rounds_doings course.rounds))
    (framed_bytes (all_of (stream_of is.played))) front.0 front.1.1 (all_sent is.played)

pub watched_unrefused : {wish : Wish} {stored : Stored} {course : Course} (is : IsServed wish stored course)
    (w : Watching wish) → IsPrefixOf (heard_bytes w.heard) (sent_bytes (rounds_doings course.rounds))
    → RefusesNothing w.end
watched_unrefused is w front = (ended (film_stream is) w (received is w.heard front) w.client.ends).0

-- ---- `Done`

pub watched_done : {wish : Wish} {stored : Stored} {course : Course} (is : IsServed wish stored course)
    (w : Watching wish) → IsWish wish → IsDelivered course w.heard → IsDecided w.end
    → IsCarried (rounds_doings course.rounds) w.heard is.played.play.start (first_slot w.client.mid.history)
    → EndsWhole wish stored w.end w.out
unfolding film_stream
watched_done {wish} {stored} {course} is w wished delivered decided carried =
    let played = is.played in
    let three : length played.later + 2 ≡ 3 =
    omega (arith, delivered.replies, ap (λ (l : List PlacedText). length l) played.texts) in
    let third = third_of played.later three in
    let L : List ℕ → List ℕ → List (List ℕ) → Type 0 = λ first second later.
    later ≡ third.last.text ∷ map text_of third.others in
    let later = stream_replies played L (ap (λ l. map text_of l) third.are) in
    let s = film_stream is in
    let done = (ended s w (received is w.heard carried.front) w.client.ends).1 decided
    (not_waiting s w third.last.text (map text_of third.others) later (delivered.all ∙ all_sent_whole played third)) in
    let W : WatchEnd → Type 0 = λ e. (its : HasCourse wish e (Some []) (Some w.heard) (Some []) (Some w.out))
    → IsCarried (rounds_doings course.rounds) w.heard is.played.play.start (first_slot its.mid.history)
    → HasWatchedWhole wish stored done.0 w.out in
    let whole : W (Done done.0) = search watched_whole in
    (done.0, (done.1, subst W (sym done.1) whole w.client carried))
