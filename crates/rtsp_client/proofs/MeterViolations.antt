-- A meter that was never over and never under: what came lay between the curves at each reading.
use Rattle.std.proofs.Common.{◌≡◌, ℕ, ◌+◌, ◌-◌, ◌*◌, ◌<◌, ◌≤◌, ◌==◌, ◌&&◌, ◌↔◌, Bool, true, false, not, nat_lt, nat_le}
use Rattle.std.proofs.Common.{cond, List, [], ◌∷◌, ◌++◌, length, take, sum, max, refl, sym, ap, ◌∙◌, arith, inl, inr}
use Rattle.std.proofs.lemmas.Bool.{cases_Bool, and_parts, eqb-true, le-ltb}
use Rattle.std.proofs.lemmas.Bool.Decides.{nat_tests}
use Rattle.std.proofs.lemmas.List.Sums.{sum_by-take-le}
use Rattle.std.specs.Int.{div_ceil}
use Rattle.rtsp_client.specs.declared.watch_request.Wish.{Wish}
use Rattle.rtsp_client.specs.ClientHistory.{History, Frame, Report, Slot, bytes_pending, bytes_received, frames}
use Rattle.rtsp_client.specs.ClientHistory.{is_inside, is_last, is_playing, sizes}
use Rattle.rtsp_client.specs.Films.{is_complete, units}
use Rattle.rtsp_client.specs.Meters.{bytes_waiting, count_over, count_under, is_read, lacks_picture, most_waiting}
use Rattle.rtsp_client.specs.Meters.{place_in, played_before, time, use_slot, used_before}
use Rattle.rtsp_client.specs.MeterGuarantee.{IsBetweenAlways, IsFilmHeardAlways, IsFilmHeard}
use Rattle.rtsp_client.proofs.HistorySteps.{sum-one}
use Rattle.rtsp_client.proofs.MeterReadings.{Durations, used-sum}
use Rattle.rtsp_client.proofs.MeterBounds.{FilmPlay, IsBetweenIn, Reading, next-later, place_of, same-used, used-time}

-- the bytes of complete units are among those that came
whole-received : (h : History) → sum (sizes h) + bytes_pending h ≤ bytes_received h
whole-received [] = omega arith
whole-received (Frame b ∷ h) = by-last (is_last b) (whole-received h)
  where
    by-last : (last : Bool) → sum (sizes h) + bytes_pending h ≤ bytes_received h
        → sum (cond last (sizes h ++ (bytes_pending h + length b) ∷ []) (sizes h))
        + cond last 0 (bytes_pending h + length b) ≤ bytes_received h + length b
    by-last true is = omega (arith, is, sum-one (sizes h) (bytes_pending h + length b))
    by-last false is = omega (arith, is)
whole-received (Report b ∷ h) = by-case (is_playing h) (not (is_inside h)) (whole-received h)
  where
    by-case : (playing outside : Bool) → sum (sizes h) + bytes_pending h ≤ bytes_received h
        → sum (sizes h) + cond (playing && outside) (bytes_pending h + length b) (bytes_pending h)
        ≤ cond playing (bytes_received h + length b) (bytes_received h)
    by-case true true is = omega (arith, is)
    by-case true false is = omega (arith, is)
    by-case false outside is = is
whole-received (_ ∷ h) = whole-received h

-- what is used is among all
used-most : {p : ℕ} (wish : Wish) (j : ℕ) (xs : List ℕ) → Durations wish.slot_units p
    → used_before wish p j 0 xs ≤ sum xs
used-most {p} wish j xs lasts =
    let c = div_ceil ((j - wish.startup) * wish.slot_units) p in
    omega (arith, used-sum wish j 0 xs lasts, sum_by-take-le (λ (x : ℕ). x) xs (c - 0))

-- where no picture is missing, the next unit isn't used yet
next-early : (f : FilmPlay) (r : Reading) → IsFilmHeard f.all f.picture_time r.history r.cut
    → lacks_picture f.wish r.history (place_of r) ≡ false → length (sizes r.history) < length f.all
    → place_of r < use_slot f.wish f.picture_time (length (sizes r.history))
next-early f r heard enough fewer =
    let h = r.history in
    let j = place_of r in
    let n = length (sizes h) in
    elim (cases_Bool (is_complete h)) [
      | inl complete ↦
          let parts = and_parts (nat_lt 0 (frames h)) (n == units h) complete in
          let some : nat_lt 0 (frames h) ≡ true = parts.0 in
          let begun : 0 < frames h = grind (arith, nat_tests) in
          absurd (omega (arith, eqb-true n (units h) parts.1, heard.units_are begun, fewer))
      | inr open_ ↦
          let late : nat_le (use_slot f.wish (time h) n) j ≡ false =
          sym (ap (λ b. not b && nat_le (use_slot f.wish (time h) n) j) open_) ∙ enough in
          (next-later f j heard).1 (grind (arith, nat_tests))
    ]

between : (f : FilmPlay) (r : Reading) → IsFilmHeard f.all f.picture_time r.history r.cut
    → nat_lt f.wish.buffer (bytes_waiting f.wish r.history r.slot r.cut) ≡ false
    → lacks_picture f.wish r.history (place_of r) ≡ false
    → IsBetweenIn f (place_of r) (bytes_received r.history + r.cut)
between f r heard not_over not_under =
    let h = r.history in
    let n = length (sizes h) in
    let j = place_of r in
    let same : (k : ℕ) → k ≤ j + 1
    → used_before f.wish f.picture_time k 0 (take n f.all) ≡ used_before f.wish f.picture_time k 0 f.all =
    λ k most. same-used f k n (λ fewer. omega (arith, next-early f r heard not_under fewer, most)) in
    let played : played_before f.wish h j ≡ used_before f.wish f.picture_time j 0 f.all =
    used-time f.wish h f.picture_time j heard.time_is
    ∙ (ap (used_before f.wish f.picture_time j 0) heard.sizes_are ∙ same j (omega arith)) in
    let holds : bytes_waiting f.wish h r.slot r.cut ≤ f.wish.buffer = grind (arith, nat_tests) in
    record {
      low = omega (
        arith,
        same (j + 1) (omega arith),
        used-most f.wish (j + 1) (take n f.all) f.lasts,
        ap sum heard.sizes_are,
        whole-received h,
      );
      up = omega (arith, played, holds);
    }

-- nothing was counted
no-count : (b : Bool) (n : ℕ) → cond b (n + 1) n ≡ 0 → (b ≡ false) × (n ≡ 0)
no-count true n none = absurd (omega (arith, none))
no-count false n none = (refl, none)

tested : (a b : Bool) → a ≡ true → (a && b) ≡ false → b ≡ false
tested a b is none = sym (ap (λ c. c && b) is) ∙ none

-- no reading was over or under
pub record HasNoCounts (wish : Wish) (h : History) : Type 0 where
  pub over : count_over wish h ≡ 0
  pub under : count_under wish h ≡ 0

pub between-always : (f : FilmPlay) (h : History) → IsFilmHeardAlways f.wish f.all f.picture_time h
    → HasNoCounts f.wish h
    → IsBetweenAlways f.wish f.all f.picture_time h
between-always f [] heard none = tt
between-always f (Slot slot cut ∷ h) heard none =
    let over = nat_lt f.wish.buffer (bytes_waiting f.wish h slot cut) in
    let lacks = lacks_picture f.wish h (place_in h slot) in
    let o = no-count (is_read h slot && over) (count_over f.wish h) none.over in
    let u = no-count (is_read h slot && lacks) (count_under f.wish h) none.under in (
      between-always f h heard.0 (record { over = o.1; under = u.1 }),
      λ read. (
        heard.1 read,
        between f (record { history = h; slot = slot; cut = cut }) (heard.1 read)
            (tested (is_read h slot) over read o.0)
            (tested (is_read h slot) lacks read u.0),
      ),
    )
between-always f (_ ∷ h) heard none = between-always f h heard (record { over = none.over; under = none.under })

-- the most that waited is above the buffer where a reading was over
most_waiting-step : (read : Bool) (before waiting over buffer : ℕ) → ((before ≤ buffer) ↔ (over ≡ 0))
    → (cond read (max before waiting) before ≤ buffer) ↔ (cond (read && nat_lt buffer waiting) (over + 1) over ≡ 0)
most_waiting-step false before waiting over buffer same = same
most_waiting-step true before waiting over buffer same = (
  (λ fits. ap (λ b. cond b (over + 1) over) (le-ltb buffer waiting (omega (arith, fits)))
      ∙ same.0 (omega (arith, fits))),
  (λ none.
      let parts = no-count (nat_lt buffer waiting) over none in
      let small : nat_lt buffer waiting ≡ false = parts.0 in
      let holds : waiting ≤ buffer = grind (arith, nat_tests) in
      omega (arith, same.1 parts.1, holds)),
)

pub most_waiting-tells : (wish : Wish) (h : History) → (most_waiting wish h ≤ wish.buffer) ↔ (count_over wish h ≡ 0)
most_waiting-tells wish [] = ((λ fits. refl), (λ none. omega arith))
most_waiting-tells wish (Slot slot cut ∷ h) =
    most_waiting-step (is_read h slot) (most_waiting wish h) (bytes_waiting wish h slot cut)
    (count_over wish h) wish.buffer (most_waiting-tells wish h)
most_waiting-tells wish (_ ∷ h) = most_waiting-tells wish h
