-- What a client keeps, one moment after another.
use Rattle.std.proofs.Common.{◌≡◌, ℕ, ◌+◌, ◌-◌, ◌%◌, ◌<◌, ◌≤◌, ◌==◌, ◌&&◌, Bool, true, false, not, nat_lt, nat_le, cond}
use Rattle.std.proofs.Common.{List, [], ◌∷◌, ◌++◌, length, drop, sum, get_or, Option, Some, None, Result, Ok, Err}
use Rattle.std.proofs.Common.{is_some, is_ok, unwrap_or, if◌then◌else◌, refl, sym, ap, subst, ◌∙◌, arith, inl, inr}
use Rattle.std.proofs.lemmas.Bool.{and_parts, cases_lt, cond-true, cond-false, cond_both, eq-eqb, ne_eqb, lt-ltb}
use Rattle.std.proofs.lemmas.Bool.{le-ltb, true≢false}
use Rattle.std.proofs.lemmas.Option.{cond_some}
use Rattle.std.proofs.lemmas.List.{length-append, length-drop, take-append-le, take_all}
use Rattle.std.proofs.lemmas.List.Sums.{sum_by-append}
use Rattle.std.proofs.Math.ListN.{get_or-append}
use Rattle.std.proofs.Math.Seq.{get_or-append_seam}
use Rattle.rtp_pack.specs.declared.heads.Head.{Head}
use Rattle.rtp_pack.specs.declared.heads.HeadFault.{HeadFault}
use Rattle.rtp_pack.specs.Heads.{head_at, head_of}
use Rattle.rtsp_client.specs.declared.clients.Client.{Client}
use Rattle.rtsp_client.specs.declared.frames.RtpSource.{RtpSource}
use Rattle.rtsp_client.specs.declared.play_reply.Play.{Play}
use Rattle.rtsp_client.specs.declared.watch_request.Wish.{Wish}
use Rattle.rtsp_client.specs.declared.watch_request.Watched.{Watched}
use Rattle.rtsp_client.specs.Replies.{play_range, play_start}
use Rattle.rtsp_client.specs.ClientHistory.{History, ClientEvent, Frame, Reply, Report, end_ms, first_frame, frames}
use Rattle.rtsp_client.specs.ClientHistory.{latest_frame, is_inside, is_last, is_playing, last_slot, payloads}
use Rattle.rtsp_client.specs.ClientHistory.{bytes_pending, bytes_received, replies, reports, sizes, slot_before, start}
use Rattle.rtsp_client.specs.Films.{is_complete, is_first_good, is_good_frame, is_next_good, time_in, units}
use Rattle.rtsp_client.specs.Films.{units_until}
use Rattle.rtsp_client.specs.Meters.{watched_in}
use Rattle.rtsp_client.specs.States.{State, after_frame, after_play, after_report, has_all, is_all, is_between}
use Rattle.rtsp_client.specs.States.{new_state, report_in, source_after, source_played, after_slot, place_of}
use Rattle.rtsp_client.specs.States.{reading_at, source_read, source_with}
use Rattle.rtsp_client.specs.ClientState.{replies_in}
use Rattle.rtsp_client.specs.HistoryInvariant.{AreSumsOf, IsPlayOf, IsSource, IsSourceOf, StateInvariant}

-- a state that is kept, with the wish and the history that it has
pub record KeptState : Type 0 where
  pub wish : Wish
  pub history : History
  pub state : State

-- ---- nothing was received

pub keeps-new : (wish : Wish) → StateInvariant wish [] new_state
keeps-new wish = record {
  last_slot_is = refl;
  play_is = refl;
  source_is = refl;
  begun = λ some. absurd (omega (arith, some));
  inside = refl;
  ends_are = record { count = refl; each = λ k few. absurd (omega (arith, few)) };
  received_is = refl;
  taken_is = refl;
  watched_is = refl;
}

-- ---- replies

-- as many replies were received, where the same is known of the play
pub replies-same : (c : Client) (state : State) → state.play ≡ c.watching.play
    → replies_in (record c { watching = state }) ≡ replies_in c
replies-same c state play = ap (λ p. if is_some p then 2 else (if is_some c.session then 1 else 0)) play

report-in-play : (play : Option Play) (s : State) (length : ℕ) → (report_in play s length).play ≡ s.play
report-in-play None s length = refl
report-in-play (Some play) s length = refl

pub report-play : (s : State) (length : ℕ) → (after_report s length).play ≡ s.play
report-play s length = report-in-play s.play s length

reading-play : (wish : Wish) (s : State) (place : Option ℕ) (cut : ℕ) → (reading_at wish s place cut).play ≡ s.play
reading-play wish s None cut = refl
reading-play wish s (Some place) cut = refl

pub slot-play : (wish : Wish) (s : State) (slot cut : ℕ) → (after_slot wish s slot cut).play ≡ s.play
slot-play wish s slot cut =
    let later : State = record s { last_slot = slot } in
    cond_both (nat_le slot s.last_slot) s (reading_at wish later (place_of s.play slot) cut) (λ x. x.play ≡ s.play)
    (λ e. refl) (λ e. reading-play wish later (place_of s.play slot) cut)

no-play : (h : History) → replies h ≤ 1 → is_playing h ≡ false
no-play h few = le-ltb 1 (replies h) few

play-first : (play : Option Play) (h : History) (m : List ℕ) → IsPlayOf play h → replies h ≡ 0
    → IsPlayOf play (Reply m ∷ h)
play-first None h m is none = le-ltb 1 (replies h + 1) (omega (arith, none))
play-first (Some play) h m is none = absurd (true≢false (sym is.playing ∙ no-play h (omega (arith, none))))

source-first : (source : Option RtpSource) (h : History) (m : List ℕ) → IsSourceOf source h
    → (0 < frames h → is_playing h ≡ true) → replies h ≤ 1 → IsSourceOf source (Reply m ∷ h)
source-first None h m is begun few = is
source-first (Some source) h m is begun few = absurd (true≢false (sym (begun is.some) ∙ no-play h few))

-- one of the first two replies, after which this is known of the play
keeps-reply : {x : KeptState} {m : List ℕ} {play : Option Play} → StateInvariant x.wish x.history x.state
    → replies x.history ≤ 1 → IsPlayOf play (Reply m ∷ x.history)
    → StateInvariant x.wish (Reply m ∷ x.history) (record x.state { play = play })
keeps-reply {x} {m} k few played = record {
  last_slot_is = k.last_slot_is;
  play_is = played;
  source_is = source-first x.state.source x.history m k.source_is k.begun few;
  begun = λ some. absurd (true≢false (sym (k.begun some) ∙ no-play x.history few));
  inside = k.inside;
  ends_are = k.ends_are;
  received_is = k.received_is;
  taken_is = k.taken_is;
  watched_is = k.watched_is;
}

pub keeps-first : {x : KeptState} (m : List ℕ) → StateInvariant x.wish x.history x.state → replies x.history ≡ 0
    → StateInvariant x.wish (Reply m ∷ x.history) x.state
keeps-first {x} m k none =
    keeps-reply {x = x} k (omega (arith, none)) (play-first x.state.play x.history m k.play_is none)

second-is : {A : Type 0} (h : History) (x y : A) → replies h ≡ 1 → cond (replies h == 1) x y ≡ x
second-is h x y one = cond-true (replies h == 1) x y (eq-eqb (replies h) 1 one)

-- what the reply to PLAY says
pub record PlayRead (m : List ℕ) : Type 0 where
  pub start : ℕ
  pub end_ms : ℕ
  pub start_is : play_start m ≡ Some start
  pub end_is : play_range m ≡ Some end_ms

pub keeps-play : {x : KeptState} {m : List ℕ} → StateInvariant x.wish x.history x.state → replies x.history ≡ 1
    → (read : PlayRead m)
    → StateInvariant x.wish (Reply m ∷ x.history) (after_play x.state read.start read.end_ms)
keeps-play {x} {m} k one read =
    let h = x.history in
    keeps-reply {x = x} k (omega (arith, one))
    (record {
      playing = lt-ltb 1 (replies h + 1) (omega (arith, one));
      start_is = sym (second-is h (unwrap_or (play_start m) 0) (start h) one ∙ ap (λ o. unwrap_or o 0) read.start_is);
      slot_is = k.last_slot_is ∙ sym (second-is h (last_slot h) (slot_before h) one);
      end_is = sym (second-is h (unwrap_or (play_range m) 0) (end_ms h) one ∙ ap (λ o. unwrap_or o 0) read.end_is);
    })

-- ---- which frames are good

-- what the frames of a film say by its first one and its latest one
abbrev source_from : History → List ℕ → List ℕ → RtpSource
source_from h first latest = record {
  ssrc = (head_at (drop 4 first)).ssrc;
  sequence = (head_at (drop 4 latest)).sequence;
  marker = is_last latest;
  picture_time = time_in first;
  units = units_until (end_ms h) (time_in first);
}

units-begun : (h : History) → 0 < frames h → units h ≡ units_until (end_ms h) (time_in (first_frame h))
units-begun h some = cond-false (frames h == 0) 0 _ (ne_eqb (frames h) 0 (λ none. absurd (omega (arith, some, none))))

source-is : (h : History) (source : RtpSource) → IsSource source h
    → source ≡ source_from h (first_frame h) (latest_frame h)
source-is h source is =
    let ssrc = is.ssrc_is in
    let sequence = is.sequence_is in
    let marker = is.marker_is in
    let time = is.time_is in
    let units = is.units_are ∙ units-begun h is.some in
    let same : record {
      ssrc = source.ssrc;
      sequence = source.sequence;
      marker = source.marker;
      picture_time = source.picture_time;
      units = source.units;
    } ≡ source_from h (first_frame h) (latest_frame h) = cc in same

source-with-frame : (h : History) (b : List ℕ) → IsSource (source_from h (first_frame (Frame b ∷ h)) b) (Frame b ∷ h)
source-with-frame h b = record {
  some = omega arith;
  ssrc_is = refl;
  sequence_is = refl;
  marker_is = refl;
  time_is = refl;
  units_are = sym (units-begun (Frame b ∷ h) (omega arith));
}

-- the frames say this with one more, where that is the film's next one
abbrev found_with : History → List ℕ → Bool → Option RtpSource
found_with h b good = cond good (Some (source_from h (first_frame (Frame b ∷ h)) b)) None

abbrev is_next : History → List ℕ → Bool
is_next h b = cond (frames h == 0) (is_first_good h b) (is_next_good h b)

after-is : (source : Option RtpSource) (h : History) (b : List ℕ) → IsSourceOf source h
    → source_after source (head_at (drop 4 b)) (drop 20 b) (end_ms h) ≡ found_with h b (is_next h b)
after-is None h b is =
    let P : Bool → Type 0 = λ none. source_after None (head_at (drop 4 b)) (drop 20 b) (end_ms h)
    ≡ cond (cond none (is_first_good h b) (is_next_good h b))
    (Some (source_from h (cond none b (first_frame h)) b)) None in
    subst P (sym (eq-eqb (frames h) 0 is)) refl
after-is (Some source) h b is =
    let P : Bool → Type 0 = λ none. source_after (Some source) (head_at (drop 4 b)) (drop 20 b) (end_ms h)
    ≡ cond (cond none (is_first_good h b) (is_next_good h b))
    (Some (source_from h (cond none b (first_frame h)) b)) None in
    subst P (sym (ne_eqb (frames h) 0 (λ none. absurd (omega (arith, is.some, none)))))
    (ap (λ (s : RtpSource). source_after (Some s) (head_at (drop 4 b)) (drop 20 b) (end_ms h)) (source-is h source is))

-- a test that refuses no head
test-passed : {head : Head} (c : Bool) (fault : HeadFault) (rest : Result Head HeadFault)
    → cond c (Err fault) rest ≡ Ok head → rest ≡ Ok head
test-passed {head} true fault rest is = cc
test-passed false fault rest is = is

head-read : (bytes : List ℕ) (head : Head) → head_of bytes ≡ Ok head → head ≡ head_at bytes
head-read bytes head is =
    let long = test-passed (nat_lt (length bytes) 16) _ _ is in
    let version = test-passed (not (get_or bytes 0 0 == 0x80)) _ _ long in
    let read : Ok (head_at bytes) ≡ Ok head = test-passed (not (get_or bytes 1 0 % 128 == 32)) _ _ version in
    cc

read-is : (read : Result Head HeadFault) (source : Option RtpSource) (h : History) (b : List ℕ)
    → IsSourceOf source h → head_of (drop 4 b) ≡ read
    → source_read source read (drop 20 b) (end_ms h) ≡ found_with h b (is_ok read && is_next h b)
read-is (Err fault) source h b is at = refl
read-is (Ok head) source h b is at =
    ap (λ (x : Head). source_after source x (drop 20 b) (end_ms h)) (head-read (drop 4 b) head at)
    ∙ after-is source h b is

all-in : (source : Option RtpSource) (h : History) (whole : ℕ) → IsSourceOf source h → whole ≡ length (sizes h)
    → is_all source whole ≡ is_complete h
all-in None h whole is same = sym (ap (λ n. nat_lt 0 n && (length (sizes h) == units h)) is)
all-in (Some source) h whole is same =
    ap (λ n. n == source.units) same ∙ (ap (λ n. length (sizes h) == n) is.units_are
    ∙ sym (ap (λ c. c && (length (sizes h) == units h)) (lt-ltb 0 (frames h) is.some)))

pub complete-is : (wish : Wish) (h : History) (s : State) → StateInvariant wish h s → has_all s ≡ is_complete h
complete-is wish h s k = all-in s.source h s.watched.units k.source_is (ap (λ (w : Watched). w.units) k.watched_is)

unless : {A : Type 0} (all good : Bool) (x : A) → cond all None (cond good (Some x) None)
    ≡ cond (not all && good) (Some x) None
unless true good x = refl
unless false good x = refl

found-in : {x : KeptState} (play : Option Play) (b : List ℕ) → IsPlayOf play x.history
    → StateInvariant x.wish x.history x.state
    → source_played play x.state b ≡ found_with x.history b (is_good_frame x.history b)
found-in {x} None b is k = sym (ap (λ c. found_with x.history b (c && (not (is_complete x.history) &&
    (is_ok (head_of (drop 4 b)) && is_next x.history b)))) is)
found-in {x} (Some play) b is k =
    let h = x.history in
    let s = x.state in
    let read = head_of (drop 4 b) in
    let good = is_ok read && is_next h b in
    ap (λ ms. cond (has_all s) None (source_read s.source read (drop 20 b) ms)) is.end_is
    ∙ (ap (cond (has_all s) None) (read-is read s.source h b k.source_is refl)
    ∙ (unless (has_all s) good _
    ∙ (ap (λ all. found_with h b (not all && good)) (complete-is x.wish h s k)
    ∙ sym (ap (λ c. found_with h b (c && (not (is_complete h) && good))) is.playing))))

found-is : {x : KeptState} (b : List ℕ) → StateInvariant x.wish x.history x.state
    → source_with x.state b ≡ found_with x.history b (is_good_frame x.history b)
found-is {x} b k = found-in {x = x} x.state.play b k.play_is k

some-cond : {A : Type 0} (c : Bool) (x : A) → is_some (cond c (Some x) None) ≡ c
some-cond true x = refl
some-cond false x = refl

pub good-is : (wish : Wish) (h : History) (s : State) (b : List ℕ) → StateInvariant wish h s
    → is_good_frame h b ≡ is_some (source_with s b)
good-is wish h s b k =
    sym (ap is_some (found-is {x = record { wish = wish; history = h; state = s }} b k)
    ∙ some-cond (is_good_frame h b) _)

-- ---- a frame

-- an event that is no reply
abbrev pub IsNoReply : ClientEvent → Type 0
IsNoReply (Reply m) = ⊥
IsNoReply _ = Unit {0}

pub play-on : (play : Option Play) (event : ClientEvent) (h : History) → IsNoReply event → IsPlayOf play h
    → IsPlayOf play (event ∷ h)
play-on play (Reply m) h other is = absurd other
play-on None _ h other is = is
play-on (Some play) _ h other is =
    record { playing = is.playing; start_is = is.start_is; slot_is = is.slot_is; end_is = is.end_is }

pub sum-one : (sizes : List ℕ) (size : ℕ) → sum (sizes ++ size ∷ []) ≡ sum sizes + size
sum-one sizes size = omega (arith, sum_by-append (λ (x : ℕ). x) sizes (size ∷ []))

ends-more : {ends sizes : List ℕ} {end : ℕ} (size : ℕ) → AreSumsOf ends sizes → end ≡ sum sizes + size
    → AreSumsOf (ends ++ end ∷ []) (sizes ++ size ∷ [])
ends-more {ends} {sizes} {end} size are is =
    let long = length-append ends (end ∷ []) in
    record {
      count = omega (arith, are.count, long, length-append sizes (size ∷ []));
      each = λ k few. elim (cases_lt k (length ends)) [
        | inl less ↦ get_or-append ends (end ∷ []) 0 k less
            ∙ (are.each k less ∙ sym (ap sum
            (take-append-le (k + 1) sizes (size ∷ []) (omega (arith, less, are.count)))))
        | inr more ↦
            let last : k ≡ length ends = omega (arith, more, few, long) in
            let whole : length (sizes ++ size ∷ []) ≤ k + 1 =
            omega (arith, last, are.count, length-append sizes (size ∷ [])) in
            ap (λ i. get_or (ends ++ end ∷ []) i 0) last ∙ (get_or-append_seam ends end [] 0
            ∙ (is ∙ (sym (sum-one sizes size) ∙ sym (ap sum (take_all (k + 1) (sizes ++ size ∷ []) whole)))))
      ];
    }

-- the sizes of the complete units and the sums that are kept of them, with a frame
record UnitSizes : Type 0 where
  ends : List ℕ
  sizes : List ℕ
  pending : ℕ
  taken : ℕ

record AreKept (u : UnitSizes) : Type 0 where
  ends_are : AreSumsOf u.ends u.sizes
  taken_is : u.taken ≡ sum u.sizes + u.pending

abbrev sizes_with : UnitSizes → Bool → ℕ → UnitSizes
sizes_with u last n = record {
  ends = cond last (u.ends ++ (u.taken + n) ∷ []) u.ends;
  sizes = cond last (u.sizes ++ (u.pending + n) ∷ []) u.sizes;
  pending = cond last 0 (u.pending + n);
  taken = u.taken + n;
}

sizes-kept : (u : UnitSizes) (last : Bool) (n : ℕ) → AreKept u → AreKept (sizes_with u last n)
sizes-kept u true n kept = record {
  ends_are = ends-more (u.pending + n) kept.ends_are (omega (arith, kept.taken_is));
  taken_is = omega (arith, kept.taken_is, sum-one u.sizes (u.pending + n));
}
sizes-kept u false n kept = record { ends_are = kept.ends_are; taken_is = omega (arith, kept.taken_is) }

whole-more : (last : Bool) (sizes : List ℕ) (size : ℕ)
    → cond last (length sizes + 1) (length sizes) ≡ length (cond last (sizes ++ size ∷ []) sizes)
whole-more true sizes size = sym (length-append sizes (size ∷ []))
whole-more false sizes size = refl

keeps-good : {x : KeptState} {b : List ℕ} → StateInvariant x.wish x.history x.state
    → is_good_frame x.history b ≡ true → 20 ≤ length b → StateInvariant x.wish (Frame b ∷ x.history)
    (after_frame x.state (source_from x.history (first_frame (Frame b ∷ x.history)) b) (length b))
keeps-good {x} {b} k good long =
    let wish = x.wish in
    let h = x.history in
    let s = x.state in
    let units : UnitSizes =
    record { ends = s.ends; sizes = sizes h; pending = bytes_pending h; taken = s.taken } in
    let kept = sizes-kept units (is_last b) (length b) (record { ends_are = k.ends_are; taken_is = k.taken_is }) in
    let handed : length (payloads h ++ drop 20 b) ≡ length (payloads h) + (length b - 20) =
    omega (arith, length-append (payloads h) (drop 20 b), length-drop 20 b) in
    record {
      last_slot_is = k.last_slot_is;
      play_is = play-on s.play (Frame b) h tt k.play_is;
      source_is = source-with-frame h b;
      begun = λ some. (and_parts (is_playing h) _ good).0;
      inside = refl;
      ends_are = kept.ends_are;
      received_is = ap (λ n. n + length b) k.received_is;
      taken_is = kept.taken_is;
      watched_is =
          let step : Watched → Watched = λ (w : Watched). record w {
            frames = w.frames + 1;
            bytes = w.bytes + (length b - 20);
            units = cond (is_last b) (w.units + 1) w.units;
          } in
          ap step k.watched_is
          ∙ (ap (λ u. record (step (watched_in wish h)) { units = u })
          (whole-more (is_last b) (sizes h) (bytes_pending h + length b))
          ∙ ap (λ n. record (watched_in wish (Frame b ∷ h)) { bytes = n }) (sym handed));
    }

pub keeps-frame : {x : KeptState} {b : List ℕ} {next : RtpSource} → StateInvariant x.wish x.history x.state
    → source_with x.state b ≡ Some next → 20 ≤ length b
    → StateInvariant x.wish (Frame b ∷ x.history) (after_frame x.state next (length b))
keeps-frame {x} {b} {next} k with_it long =
    let good = cond_some (is_good_frame x.history b) _ next (sym (found-is {x = x} b k) ∙ with_it) in
    subst (λ n. StateInvariant x.wish (Frame b ∷ x.history) (after_frame x.state n (length b))) good.1
    (keeps-good {x = x} k good.0 long)

-- ---- a report, and a slot

-- an event that is neither a reply nor a frame
abbrev pub IsBetweenFrames : ClientEvent → Type 0
IsBetweenFrames (Reply m) = ⊥
IsBetweenFrames (Frame b) = ⊥
IsBetweenFrames _ = Unit {0}

pub source-on : (source : Option RtpSource) (event : ClientEvent) (h : History) → IsBetweenFrames event
    → IsSourceOf source h → IsSourceOf source (event ∷ h)
source-on source (Reply m) h other is = absurd other
source-on source (Frame b) h other is = absurd other
source-on None _ h other is = is
source-on (Some source) _ h other is = record {
  some = is.some;
  ssrc_is = is.ssrc_is;
  sequence_is = is.sequence_is;
  marker_is = is.marker_is;
  time_is = is.time_is;
  units_are = is.units_are;
}

between-taken : {taken : ℕ} (m : Bool) (sizes pending n : ℕ) → taken ≡ sizes + pending
    → cond m (taken + n) taken ≡ sizes + cond (not (not m)) (pending + n) pending
between-taken true sizes pending n is = omega (arith, is)
between-taken false sizes pending n is = is

-- the bytes that came, those of the unit that isn't complete, and the counts, after a report
abbrev received_with : History → List ℕ → Bool → ℕ
received_with h b plays = cond plays (bytes_received h + length b) (bytes_received h)

abbrev pending_with : History → List ℕ → Bool → Bool → ℕ
pending_with h b plays inside = cond (plays && not inside) (bytes_pending h + length b) (bytes_pending h)

abbrev watched_with : Wish → History → Bool → Watched
watched_with wish h plays = record (watched_in wish h) { reports = cond plays (reports h + 1) (reports h) }

report-state : {x : KeptState} {b : List ℕ} (play : Option Play) → StateInvariant x.wish x.history x.state
    → IsPlayOf play x.history → StateInvariant x.wish (Report b ∷ x.history) (report_in play x.state (length b))
report-state {x} {b} None k is =
    let received = k.received_is ∙ sym (ap (received_with h b) is) in
    let taken = k.taken_is ∙ sym (ap (λ c. sum (sizes h) + pending_with h b c (is_inside h)) is) in
    let watched = k.watched_is ∙ sym (ap (watched_with wish h) is) in
    assumption (
      received,
      taken,
      watched,
      play-on s.play (Report b) h tt k.play_is,
      source-on s.source (Report b) h tt k.source_is,
      k,
    )
  where
    open x use {wish, history as h, state as s}
report-state {x} {b} (Some play) k is = record {
  last_slot_is = k.last_slot_is;
  play_is = play-on s.play (Report b) h tt k.play_is;
  source_is = source-on s.source (Report b) h tt k.source_is;
  begun = k.begun;
  inside = k.inside;
  ends_are = k.ends_are;
  received_is = ap (λ n. n + length b) k.received_is ∙ sym (ap (received_with h b) is.playing);
  taken_is = between-taken (is_between s.source) (sum (sizes h)) (bytes_pending h) (length b) k.taken_is
      ∙ (sym (ap (λ i. sum (sizes h) + pending_with h b true i) k.inside)
      ∙ sym (ap (λ c. sum (sizes h) + pending_with h b c (is_inside h)) is.playing));
  watched_is = ap (λ (w : Watched). record w { reports = w.reports + 1 }) k.watched_is
      ∙ sym (ap (watched_with wish h) is.playing);
}
  where
    open x use {wish, history as h, state as s}

pub keeps-report : (wish : Wish) (h : History) (s : State) (b : List ℕ) → StateInvariant wish h s
    → StateInvariant wish (Report b ∷ h) (after_report s (length b))
keeps-report wish h s b k = report-state {x = record { wish = wish; history = h; state = s }} s.play k k.play_is
