-- What lists of plays book, as a play is added or cut.
use Rattle.std.proofs.Common.{◌≡◌, ◌≤◌, ◌+◌, ◌-◌, ℕ, zero, suc, min, map, sum_by, List, [], ◌∷◌, ◌++◌, arith, sym}
use Rattle.std.proofs.Common.{ap, ◌∙◌}
use Rattle.std.specs.List.{range_with_len}
use Rattle.std.proofs.lemmas.List.{map-id}
use Rattle.std.proofs.lemmas.List.FromFn.{sum_by-map-range_with_len_more}
use Rattle.std.proofs.lemmas.List.Sums.{sum_by-append, sum_by-cons, sum_by_push}
use Rattle.plan_cert.specs.declared.Segment.{Segment}
use Rattle.slot_calendar.specs.Plays.{Play, sent_before, asked_at, released_at, whole_play, truncated_play, share_at}
use Rattle.slot_calendar.specs.Plays.{booked_by}
use Rattle.slot_calendar.specs.Calendars.{CalendarState, booked_at, Represents}
use Rattle.slot_calendar.proofs.PlanSlots.{sent-none, sent-rises, sent-most}

share-parts : (a b k : ℕ) → a ≤ b → min b k - min a k + ((b - k) - (a - k)) ≡ b - a
share-parts a b k rises = omega arith

share_whole : (a b k : ℕ) → a ≤ k → b ≤ k → min b k - min a k ≡ b - a
share_whole a b k left right = omega arith

pub share-whole : (segments : List Segment) (start t : ℕ)
    → share_at t (whole_play start segments) ≡ asked_at segments start t
share-whole segments start t = search (share_whole, sent-most)

pub share-cut : (segments : List Segment) (start keep t : ℕ)
    → share_at t (truncated_play start segments keep) + released_at segments start keep t ≡ asked_at segments start t
share-cut segments start keep t =
    share-parts (sent_before segments start t) (sent_before segments start (t + 1)) keep
    (sent-rises segments start t (t + 1) (omega arith))

shares-more : (f : ℕ → ℕ) (t : ℕ) → sum_by f (range_with_len 0 (suc t)) ≡ sum_by f (range_with_len 0 t) + f t
shares-more f t =
    let at : 0 + t ≡ t = omega arith in
    let count : suc t ≡ t + 1 = omega arith in
    ap (sum_by f) (sym (map-id (range_with_len 0 (suc t))))
    ∙ ap (λ n. sum_by f (map (λ (u : ℕ). u) (range_with_len 0 n))) count
    ∙ sum_by-map-range_with_len_more f (λ (u : ℕ). u) 0 t t at
    ∙ ap (λ l. sum_by f l + f t) (map-id (range_with_len 0 t))

min-next : (a b k n : ℕ) → a ≤ b → n ≡ min a k → n + (min b k - min a k) ≡ min b k
min-next a b k n rises is = omega (arith, is)

-- up to a slot it books what its plan has sent by then, and no more than it keeps
pub shares-first : (segments : List Segment) (start keep t : ℕ)
    → sum_by (λ u. share_at u (truncated_play start segments keep)) (range_with_len 0 t)
    ≡ min (sent_before segments start t) keep
shares-first segments start keep zero = omega (arith, sent-none segments start 0 (omega arith))
shares-first segments start keep (suc t) =
    let at : t + 1 ≡ suc t = omega arith in
    shares-more (λ u. share_at u (truncated_play start segments keep)) t
    ∙ min-next (sent_before segments start t) (sent_before segments start (t + 1)) keep
    (sum_by (λ u. share_at u (truncated_play start segments keep)) (range_with_len 0 t))
    (sent-rises segments start t (t + 1) (omega arith)) (shares-first segments start keep t)
    ∙ ap (λ n. min (sent_before segments start n) keep) at

-- a play more
pub booked-push : (plays : List Play) (segments : List Segment) (start t : ℕ)
    → booked_by (plays ++ whole_play start segments ∷ []) t ≡ booked_by plays t + asked_at segments start t
booked-push plays segments start t = search (sum_by_push, share-whole)

-- the plays before one, that one, and the plays after it
pub booked-around : (before after : List Play) (play : Play) (t : ℕ)
    → booked_by (before ++ play ∷ after) t ≡ booked_by before t + (share_at t play + booked_by after t)
booked-around before after play t =
    sum_by-append (share_at t) before (play ∷ after)
    ∙ ap (λ n. booked_by before t + n) (sum_by-cons (share_at t) play after)

-- a play that is stopped early
pub booked-cut : (before after : List Play) (play : Play) (t : ℕ)
    → booked_by (before ++ play ∷ after) t + released_at play.segments play.start play.keep t
    ≡ booked_by (before ++ whole_play play.start play.segments ∷ after) t
booked-cut before after play t =
    omega (
      arith,
      booked-around before after play t,
      booked-around before after (whole_play start segments) t,
      share-whole segments start t,
      share-cut segments start keep t,
    )
  where
    open play use {start, segments, keep}

-- ---- calendars and the lists of plays that they represent
pub stands-push : {old new : CalendarState} {plays : List Play} (segments : List Segment) (start : ℕ) →
    new.first ≡ old.first →
    ((t : ℕ) → old.first ≤ t → booked_at new t ≡ booked_at old t + asked_at segments start t) → Represents old plays →
    Represents new (plays ++ whole_play start segments ∷ [])
stands-push {old} {new} {plays} segments start first totals stands = record {
  each = λ t from. (
      let since : old.first ≤ t = omega (arith, first, from) in
      totals t since ∙ ap (λ n. n + asked_at segments start t) (stands.each t since)
      ∙ sym (booked-push plays segments start t)
      );
}

-- a calendar after a play was stopped early
pub record HasCut : Type 0 where
  pub old : CalendarState
  pub new : CalendarState
  pub play : Play
  pub first_is : new.first ≡ old.first
  pub totals : (t : ℕ) → old.first ≤ t → booked_at new t + released_at play.segments play.start play.keep t ≡ booked_at
      old t

pub stands-cut : (cut : HasCut) (before after : List Play)
    → Represents cut.old (before ++ whole_play cut.play.start cut.play.segments ∷ after)
    → Represents cut.new (before ++ cut.play ∷ after)
stands-cut cut before after stands = grind (arith, booked-cut)
