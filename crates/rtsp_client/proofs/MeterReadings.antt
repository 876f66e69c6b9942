-- What the meter reads of what a client keeps.
use Rattle.std.proofs.Common.{◌≡◌, ℕ, suc, ◌+◌, ◌-◌, ◌*◌, ◌/◌, ◌<◌, ◌≤◌, ◌==◌, ◌&&◌, Bool, true, false, not, nat_lt}
use Rattle.std.proofs.Common.{nat_le, cond, List, [], ◌∷◌, length, take, sum, get_or, max, min, Option, Some, None}
use Rattle.std.proofs.Common.{refl, sym, ap, subst, ◌∙◌, arith, inl, inr}
use Rattle.std.proofs.lemmas.Bool.{and_from, and_left, leb-false, leb-true, and_right, cases_lt, cases_eq, cond-true}
use Rattle.std.proofs.lemmas.Bool.{cond-false, cond_both, eq-eqb, ne_eqb, lt-ltb, le-ltb, le-leb, lt-leb}
use Rattle.std.proofs.lemmas.List.{nil_from_length, take_all}
use Rattle.std.proofs.lemmas.List.Sums.{sum_by-cons}
use Rattle.std.proofs.lemmas.Nat.{le-div, div_below}
use Rattle.std.proofs.Math.Nat.{mul-le-mul_right}
use Rattle.std.proofs.lemmas.Grind.{div_ceil_times}
use Rattle.std.specs.Int.{div_ceil}
use Rattle.rtsp_client.specs.declared.frames.RtpSource.{RtpSource}
use Rattle.rtsp_client.specs.declared.play_reply.Play.{Play}
use Rattle.rtsp_client.specs.declared.watch_request.Wish.{Wish}
use Rattle.rtsp_client.specs.declared.watch_request.Watched.{Watched}
use Rattle.rtsp_client.specs.ClientHistory.{History, Frame, Reply, Slot, first_frame, frames, is_playing, last_slot}
use Rattle.rtsp_client.specs.ClientHistory.{bytes_received, replies, sizes, slot_before, start}
use Rattle.rtsp_client.specs.Films.{is_complete, time_in}
use Rattle.rtsp_client.specs.Meters.{is_read, lacks_picture, place_in, played_before, time, use_slot, used_before}
use Rattle.rtsp_client.specs.Meters.{count_over, count_under, most_waiting, bytes_waiting, watched_in}
use Rattle.rtsp_client.specs.States.{State, after_reading, after_slot, is_lacking, place_of, played_of, reading_at}
use Rattle.rtsp_client.specs.States.{time_of, used_bytes}
use Rattle.rtsp_client.specs.HistoryInvariant.{AreSumsOf, IsPlayOf, IsSourceOf, StateInvariant}
use Rattle.rtsp_client.proofs.HistorySteps.{KeptState, complete-is, play-on, source-on}

-- a slot and a picture last
pub record Durations (slot_units picture_time : ℕ) : Type 0 where
  pub slot_lasts : 0 < slot_units
  pub picture_lasts : 0 < picture_time

-- a unit is used before a slot exactly where its number is below that count
pub used-early : {p : ℕ} (wish : Wish) (j k : ℕ) → Durations wish.slot_units p
    → k < div_ceil ((j - wish.startup) * wish.slot_units) p → use_slot wish p k < j
used-early {p} wish j k lasts few =
    let s = wish.slot_units in
    let d = wish.startup in
    let c = div_ceil ((j - d) * s) p in
    let top = (div_ceil_times ((j - d) * s) p lasts.picture_lasts).1 in
    let rows : (k + 1) * p ≤ c * p = mul-le-mul_right p (omega (arith, few)) in
    let small : k * p < (j - d) * s = omega (arith, top, rows) in
    let below : k * p / s < j - d = div_below (k * p) s (j - d) lasts.slot_lasts small in
    omega (arith, below)

pub used-late : {p : ℕ} (wish : Wish) (j k : ℕ) → Durations wish.slot_units p
    → div_ceil ((j - wish.startup) * wish.slot_units) p ≤ k → j ≤ use_slot wish p k
used-late {p} wish j k lasts many =
    let s = wish.slot_units in
    let d = wish.startup in
    let c = div_ceil ((j - d) * s) p in
    let least = (div_ceil_times ((j - d) * s) p lasts.picture_lasts).0 in
    let rows : c * p ≤ k * p = mul-le-mul_right p many in
    let above : (j - d) * s ≤ k * p = omega (arith, least, rows) in
    let slots : j - d ≤ k * p / s = le-div (j - d) (k * p) s lasts.slot_lasts above in
    omega (arith, slots)

pub used-sum : {p : ℕ} (wish : Wish) (j unit : ℕ) (sizes : List ℕ) → Durations wish.slot_units p
    → used_before wish p j unit sizes ≡ sum (take (div_ceil ((j - wish.startup) * wish.slot_units) p - unit) sizes)
used-sum {p} wish j unit [] lasts =
    sym (ap sum (take_all (div_ceil ((j - wish.startup) * wish.slot_units) p - unit) [] (omega arith)))
used-sum {p} wish j unit (size ∷ sizes) lasts =
    let c = div_ceil ((j - wish.startup) * wish.slot_units) p in
    let rest = used-sum wish j (unit + 1) sizes lasts in
    elim (cases_lt unit c) [
      | inl few ↦
          let one : c - unit ≡ suc (c - (unit + 1)) = omega (arith, few) in
          let used = cond-true (nat_lt (use_slot wish p unit) j) size 0
          (lt-ltb (use_slot wish p unit) j (used-early wish j unit lasts few)) in
          omega (
            arith,
            used,
            rest,
            ap (λ n. sum (take n (size ∷ sizes))) one,
            sum_by-cons (λ (y : ℕ). y) size (take (c - (unit + 1)) sizes),
          )
      | inr many ↦
          let none : c - unit ≡ 0 = omega (arith, many) in
          let after : c - (unit + 1) ≡ 0 = omega (arith, many) in
          let unused = cond-false (nat_lt (use_slot wish p unit) j) size 0
          (le-ltb (use_slot wish p unit) j (used-late wish j unit lasts many)) in
          omega (arith, unused, rest, ap (λ n. sum (take n (size ∷ sizes))) none, ap (λ n. sum (take n sizes)) after)
    ]

ends-sum : (ends sizes : List ℕ) (count : ℕ) → AreSumsOf ends sizes
    → used_bytes ends (min count (length ends)) ≡ sum (take count sizes)
ends-sum ends sizes count are =
    elim (cases_eq (min count (length ends)) 0) [
      | inl none ↦
          cond-true (min count (length ends) == 0) 0 (get_or ends (min count (length ends) - 1) 0) (eq-eqb _ 0 none)
          ∙ elim (cases_lt 0 count) [
            | inl some ↦
                let empty : length sizes ≤ 0 = omega (arith, none, some, are.count) in
                sym (ap sum (take_all count sizes (omega (arith, empty)))
                ∙ ap sum (nil_from_length sizes (omega (arith, empty))))
            | inr zero_ ↦ sym (ap (λ n. sum (take n sizes)) {y = 0} (omega (arith, zero_)))
          ]
      | inr some ↦
          let m = min count (length ends) in
          let below : m - 1 < length ends = omega (arith, some) in
          cond-false (m == 0) 0 (get_or ends (m - 1) 0) (ne_eqb m 0 some)
          ∙ (are.each (m - 1) below
          ∙ elim (cases_lt count (length ends)) [
            | inl few ↦ ap (λ n. sum (take n sizes)) (omega (arith, some, few))
            | inr many ↦
                ap sum (take_all (m - 1 + 1) sizes (omega (arith, some, many, are.count))
                ∙ sym (take_all count sizes (omega (arith, many, are.count))))
          ])
    ]

pub no-units : (h : History) → frames h ≡ 0 → sizes h ≡ []
no-units [] none = refl
no-units (Frame b ∷ h) none = absurd (omega (arith, none))
no-units (_ ∷ h) none = no-units h none

-- a slot lasts, and so do the pictures of a source, where there is one
pub record HasDurations (wish : Wish) (source : Option RtpSource) : Type 0 where
  pub slot_lasts : 0 < wish.slot_units
  pub picture_lasts : (src : RtpSource) → source ≡ Some src → 0 < src.picture_time

played-in : {x : KeptState} (j : ℕ) → StateInvariant x.wish x.history x.state → HasDurations x.wish x.state.source
    → played_of x.wish x.state.source x.state.ends j ≡ played_before x.wish x.history j
played-in {x} j k lasts = by-source x.state.source k.source_is lasts.picture_lasts
  where
    open x use {wish, history}

    by-source : (source : Option RtpSource) → IsSourceOf source history
        → ((src : RtpSource) → source ≡ Some src → 0 < src.picture_time)
        → played_of wish source x.state.ends j ≡ played_before wish history j
    by-source None is last = sym (ap (used_before wish (time history) j 0) (no-units history is))
    by-source (Some source) is last =
        let p = source.picture_time in
        let sizes_are = sizes history in
        let t : time history ≡ p =
        cond-false (frames history == 0) 0 (time_in (first_frame history))
        (ne_eqb (frames history) 0 (λ none. absurd (omega (arith, is.some, none)))) ∙ sym is.time_is in
        ends-sum x.state.ends sizes_are (div_ceil ((j - wish.startup) * wish.slot_units) p) k.ends_are
        ∙ (ap (λ n. sum (take n sizes_are)) {y = div_ceil ((j - wish.startup) * wish.slot_units) p - 0} (omega arith)
        ∙ (sym (used-sum wish j 0 sizes_are
        (record { slot_lasts = lasts.slot_lasts; picture_lasts = last source refl }))
        ∙ sym (ap (λ n. used_before wish n j 0 sizes_are) t)))

time-in : (h : History) (source : Option RtpSource) → IsSourceOf source h → time_of source ≡ time h
time-in h None is = sym (cond-true (frames h == 0) 0 (time_in (first_frame h)) (eq-eqb (frames h) 0 is))
time-in h (Some source) is =
    is.time_is ∙ sym
    (cond-false (frames h == 0) 0 (time_in (first_frame h))
    (ne_eqb (frames h) 0 (λ none. absurd (omega (arith, is.some, none)))))

lacks-in : (wish : Wish) (h : History) (s : State) (j : ℕ) → StateInvariant wish h s
    → is_lacking wish s j ≡ lacks_picture wish h j
lacks-in wish h s j k =
    ap (λ c. not c && nat_le (s.watched.units * time_of s.source / wish.slot_units + wish.startup) j)
    (complete-is wish h s k)
    ∙ (ap (λ n. not (is_complete h) && nat_le (n * time_of s.source / wish.slot_units + wish.startup) j)
    (ap (λ (w : Watched). w.units) k.watched_is)
    ∙ ap (λ n. not (is_complete h) && nat_le (length (sizes h) * n / wish.slot_units + wish.startup) j)
    (time-in h s.source k.source_is))

-- ---- a slot

slot-late : (h : History) → slot_before h ≤ last_slot h
slot-late [] = omega arith
slot-late (Reply m ∷ h) =
    cond_both (replies h == 1) (last_slot h) (slot_before h) (λ n. n ≤ last_slot h) (λ e. omega arith)
    (λ e. slot-late h)
slot-late (Slot t cut ∷ h) = omega (arith, slot-late h)
slot-late (_ ∷ h) = slot-late h

-- the counts after a slot, at which the meter is read or isn't
abbrev counts_with : Wish → History → ℕ → ℕ → Bool → Watched
counts_with wish h t cut read =
    let waiting = bytes_waiting wish h t cut in
    record (watched_in wish h) {
      most = cond read (max (most_waiting wish h) waiting) (most_waiting wish h);
      over = cond (read && nat_lt wish.buffer waiting) (count_over wish h + 1) (count_over wish h);
      under = cond (read && lacks_picture wish h (place_in h t)) (count_under wish h + 1) (count_under wish h);
    }

unread : (wish : Wish) (h : History) (t cut : ℕ) → is_read h t ≡ false
    → watched_in wish h ≡ watched_in wish (Slot t cut ∷ h)
unread wish h t cut missed = sym (ap (counts_with wish h t cut) missed)

-- a slot that comes to a state that is kept, while so many bytes are cut
record SlotAt (x : KeptState) : Type 0 where
  t : ℕ
  cut : ℕ
  keeps : StateInvariant x.wish x.history x.state
  lasts : HasDurations x.wish x.state.source

-- the history with it, and the counts then
abbrev history_at : {x : KeptState} → SlotAt x → History
history_at {x} s = Slot s.t s.cut ∷ x.history

read-at : {x : KeptState} (s : SlotAt x) → is_read x.history s.t ≡ true
    → (after_reading x.wish x.state (place_in x.history s.t) s.cut).watched ≡ watched_in x.wish (history_at s)
read-at {x} slot reads =
    let wish = x.wish in
    let h = x.history in
    let s = x.state in
    let t = slot.t in
    let cut = slot.cut in
    let k = slot.keeps in
    let j = place_in h t in
    let amount : (s.received + cut) - played_of wish s.source s.ends j ≡ bytes_waiting wish h t cut =
    ap (λ n. (n + cut) - played_of wish s.source s.ends j) k.received_is
    ∙ ap (λ n. (bytes_received h + cut) - n) (played-in {x = x} j k slot.lasts) in
    let step : Watched → ℕ → Bool → Watched = λ (w : Watched) (n : ℕ) (l : Bool). record w {
      most = max w.most n;
      over = cond (nat_lt wish.buffer n) (w.over + 1) w.over;
      under = cond l (w.under + 1) w.under;
    } in
    ap (λ (w : Watched). step w ((s.received + cut) - played_of wish s.source s.ends j) (is_lacking wish s j))
    k.watched_is
    ∙ (ap (λ n. step (watched_in wish h) n (is_lacking wish s j)) amount
    ∙ (ap (λ b. step (watched_in wish h) (bytes_waiting wish h t cut) b) (lacks-in wish h s j k)
    ∙ sym (ap (counts_with wish h t cut) reads)))

slot-with : {x : KeptState} {last : ℕ} {w : Watched} (s : SlotAt x) → last ≡ max s.t (last_slot x.history)
    → w ≡ watched_in x.wish (history_at s)
    → StateInvariant x.wish (history_at s) (record x.state { last_slot = last; watched = w })
slot-with {x} s greatest is =
    assumption (
      greatest,
      play-on x.state.play (Slot s.t s.cut) x.history tt k.play_is,
      source-on x.state.source (Slot s.t s.cut) x.history tt k.source_is,
      is,
      k,
    )
  where
    open s use {keeps as k}

keeps-later : {x : KeptState} (s : SlotAt x) (play : Option Play) → last_slot x.history < s.t → IsPlayOf play x.history
    → StateInvariant x.wish (history_at s)
    (reading_at x.wish (record x.state { last_slot = s.t }) (place_of play s.t) s.cut)
keeps-later {x} s None later is =
    slot-with s (omega (arith, later))
    (s.keeps.watched_is ∙ unread x.wish x.history s.t s.cut (and_left (is_playing x.history) _ is))
keeps-later {x} s (Some play) later is =
    let h = x.history in
    let late = slot-late h in
    let j = (s.t - play.slot_before) - play.start in
    let P : Option ℕ → Type 0 = λ place. StateInvariant x.wish (history_at s)
    (reading_at x.wish (record x.state { last_slot = s.t }) place s.cut) in
    cond_both (nat_le play.start (s.t - play.slot_before)) (Some j) None P
    (λ due.
    let from : play.start ≤ s.t - play.slot_before = leb-true play.start (s.t - play.slot_before) due in
    let reads : is_read h s.t ≡ true = and_from _ _ is.playing (and_from _ _
    (le-leb (start h + slot_before h) s.t (omega (arith, from, is.start_is, is.slot_is, late, later)))
    (lt-ltb (last_slot h) s.t later)) in
    let place : place_in h s.t ≡ j = omega (arith, from, is.start_is, is.slot_is) in
    subst (λ n. P (Some n)) place (slot-with s (omega (arith, later)) (read-at s reads)))
    (λ early.
    let before : s.t - play.slot_before < play.start = leb-false play.start (s.t - play.slot_before) early in
    slot-with s (omega (arith, later))
    (s.keeps.watched_is ∙ unread x.wish h s.t s.cut (and_right (is_playing h) _ (and_left _ (nat_lt (last_slot h) s.t)
    (lt-leb (start h + slot_before h) s.t (omega (arith, before, is.start_is, is.slot_is, late, later)))))))

pub keeps-slot : {x : KeptState} (t cut : ℕ) → StateInvariant x.wish x.history x.state
    → HasDurations x.wish x.state.source
    → StateInvariant x.wish (Slot t cut ∷ x.history) (after_slot x.wish x.state t cut)
keeps-slot {x} t cut k lasts =
    let wish = x.wish in
    let h = x.history in
    let s = x.state in
    let slot : SlotAt x = record { t = t; cut = cut; keeps = k; lasts = lasts } in
    cond_both (nat_le t s.last_slot) s (reading_at wish (record s { last_slot = t }) (place_of s.play t) cut)
    (StateInvariant wish (Slot t cut ∷ h))
    (λ known.
    let old : t ≤ last_slot h = omega (arith, leb-true t s.last_slot known, k.last_slot_is) in
    slot-with slot (omega (arith, old, k.last_slot_is))
    (k.watched_is ∙ unread wish h t cut (and_right (is_playing h) _ (and_right _ _ (le-ltb (last_slot h) t old)))))
    (λ new_. keeps-later slot s.play (omega (arith, leb-false t s.last_slot new_, k.last_slot_is)) k.play_is)
