-- A meter between empty and the buffer.
use Rattle.std.proofs.Common.{◌≡◌, Bool, ℕ, zero, suc, ◌+◌, ◌-◌, ◌*◌, ◌/◌, ◌<◌, ◌≤◌, ◌&&◌, ◌↔◌, true, false, not}
use Rattle.std.proofs.Common.{nat_lt, nat_le, cond, List, [], ◌∷◌, length, take, sum, max, refl, sym, ap, subst, ◌∙◌}
use Rattle.std.proofs.Common.{arith, inl, inr}
use Rattle.std.proofs.lemmas.Bool.{and_from, and_right, cases_Bool, cases_lt, eq-eqb, lt-ltb, le-ltb, lt-leb}
use Rattle.std.proofs.lemmas.List.{take_all, take-take}
use Rattle.std.proofs.Math.Nat.{div-eq_of_lt}
use Rattle.std.specs.Int.{div_ceil}
use Rattle.vod_base.proofs.PrefixSums.{sum-take-rises}
use Rattle.rtsp_client.specs.declared.watch_request.Wish.{Wish}
use Rattle.rtsp_client.specs.ClientHistory.{History, Slot, frames, bytes_received, sizes}
use Rattle.rtsp_client.specs.Films.{is_complete, units}
use Rattle.rtsp_client.specs.Meters.{is_read, lacks_picture, most_waiting, count_over, place_in, played_before, time}
use Rattle.rtsp_client.specs.Meters.{count_under, use_slot, used_before, bytes_waiting}
use Rattle.rtsp_client.specs.MeterGuarantee.{IsBetween, IsBetweenAlways, IsFilmHeard}
use Rattle.rtsp_client.proofs.MeterReadings.{Durations, no-units, used-early, used-late, used-sum}

-- a film's units, played at a wish
pub record FilmPlay : Type 0 where
  pub wish : Wish
  pub all : List ℕ
  pub picture_time : ℕ
  pub lasts : Durations wish.slot_units picture_time

abbrev pub IsBetweenIn : FilmPlay → ℕ → ℕ → Type 0
IsBetweenIn f slot came = IsBetween f.wish f.all f.picture_time slot came

-- the next unit isn't used yet
not-yet : {j came : ℕ} (f : FilmPlay) (n : ℕ) → IsBetweenIn f j came → came < sum (take (n + 1) f.all)
    → j < use_slot f.wish f.picture_time n
not-yet {j} f n between next =
    elim (cases_lt j (use_slot f.wish f.picture_time n)) [
      | inl early ↦ early
      | inr due ↦
          let c = div_ceil ((j + 1 - f.wish.startup) * f.wish.slot_units) f.picture_time in
          let used : used_before f.wish f.picture_time (j + 1) 0 f.all ≡ sum (take (c - 0) f.all) =
          used-sum f.wish (j + 1) 0 f.all f.lasts in
          let many : n < c = elim (cases_lt n c) [
            | inl more ↦ more
            | inr few ↦ absurd (omega (arith, due, used-late f.wish (j + 1) n f.lasts few))
          ] in
          absurd (omega (arith, used, between.low, next, sum-take-rises f.all (n + 1) (c - 0) (omega (arith, many))))
    ]

-- what is used of the complete units is what is used of the film
pub same-used : (f : FilmPlay) (j n : ℕ) → (n < length f.all → j ≤ use_slot f.wish f.picture_time n)
    → used_before f.wish f.picture_time j 0 (take n f.all) ≡ used_before f.wish f.picture_time j 0 f.all
same-used f j n early =
    let c = div_ceil ((j - f.wish.startup) * f.wish.slot_units) f.picture_time in
    elim (cases_lt n (length f.all)) [
      | inl fewer ↦
          let few : c - 0 ≤ n = elim (cases_lt n c) [
            | inl more ↦ absurd (omega (arith, early fewer, used-early f.wish j n f.lasts more))
            | inr less ↦ omega (arith, less)
          ] in
          used-sum f.wish j 0 (take n f.all) f.lasts
          ∙ (ap sum (take-take (c - 0) n f.all few) ∙ sym (used-sum f.wish j 0 f.all f.lasts))
      | inr whole ↦ ap (used_before f.wish f.picture_time j 0) (take_all n f.all whole)
    ]

-- before the first frame any time will do
pub used-time : (wish : Wish) (h : History) (p j : ℕ) → (0 < frames h → time h ≡ p)
    → played_before wish h j ≡ used_before wish p j 0 (sizes h)
used-time wish h p j is =
    elim (cases_lt 0 (frames h)) [
      | inl some ↦ ap (λ t. used_before wish t j 0 (sizes h)) (is some)
      | inr none ↦
          let empty : sizes h ≡ [] = no-units h (omega (arith, none)) in
          ap (used_before wish (time h) j 0) empty ∙ sym (ap (used_before wish p j 0) empty)
    ]

played-is : {h : History} {j cut : ℕ} (f : FilmPlay) → IsFilmHeard f.all f.picture_time h cut
    → IsBetweenIn f j (bytes_received h + cut) → played_before f.wish h j ≡ used_before f.wish f.picture_time j 0 f.all
played-is {h} {j} f heard between =
    let n = length (sizes h) in
    used-time f.wish h f.picture_time j heard.time_is
    ∙ (ap (used_before f.wish f.picture_time j 0) heard.sizes_are
    ∙ same-used f j n (λ fewer. omega (arith, not-yet f n between (heard.next fewer))))

-- the buffer holds what waits
fits : {h : History} {cut : ℕ} (f : FilmPlay) (slot : ℕ) → IsFilmHeard f.all f.picture_time h cut
    → IsBetweenIn f (place_in h slot) (bytes_received h + cut) → bytes_waiting f.wish h slot cut ≤ f.wish.buffer
fits f slot heard between = omega (arith, played-is f heard between, between.up)

zero-times : (t : ℕ) → 0 * t ≡ 0
zero-times t = omega arith

zero-over : (n : ℕ) → 0 / n ≡ 0
zero-over zero = refl
zero-over (suc n) = div-eq_of_lt (omega arith)

pub use-first : (wish : Wish) (t : ℕ) → use_slot wish t 0 ≡ wish.startup
use-first wish t = omega (arith, ap (λ n. n / wish.slot_units) (zero-times t), zero-over wish.slot_units)

-- a slot at which the meter is read, after a history and while bytes of a block wait
pub record Reading : Type 0 where
  pub history : History
  pub slot : ℕ
  pub cut : ℕ

abbrev pub place_of : Reading → ℕ
place_of r = place_in r.history r.slot

-- the next unit is used as late at the time that a client knows, before the first frame too
pub next-later : {h : History} {cut : ℕ} (f : FilmPlay) (j : ℕ) → IsFilmHeard f.all f.picture_time h cut
    → (j < use_slot f.wish f.picture_time (length (sizes h))) ↔ (j < use_slot f.wish (time h) (length (sizes h)))
next-later {h} f j heard =
    let n = length (sizes h) in
    elim (cases_lt 0 (frames h)) [
      | inl begun ↦
          let U : ℕ → Type 0 = λ t. (j < use_slot f.wish f.picture_time n) ↔ (j < use_slot f.wish t n) in
          subst U (sym (heard.time_is begun)) ((λ early. early), (λ early. early))
      | inr none ↦
          let first = use-first f.wish f.picture_time in
          let known = use-first f.wish (time h) in
          let L : ℕ → Type 0 = λ n. (j < use_slot f.wish f.picture_time n) ↔ (j < use_slot f.wish (time h) n) in
          subst L (sym (ap length (no-units h (omega (arith, none)))))
          ((λ early. omega (arith, early, first, known)), (λ early. omega (arith, early, first, known)))
    ]

enough : (f : FilmPlay) (r : Reading) → 0 < length f.all → IsFilmHeard f.all f.picture_time r.history r.cut
    → IsBetweenIn f (place_of r) (bytes_received r.history + r.cut)
    → lacks_picture f.wish r.history (place_of r) ≡ false
enough f r some heard between =
    let h = r.history in
    let j = place_of r in
    let n = length (sizes h) in
    let due = use_slot f.wish (time h) n in
    elim (cases_lt n (length f.all)) [
      | inl fewer ↦
          let late : j < due = (next-later f j heard).0 (not-yet f n between (heard.next fewer)) in
          and_right (not (is_complete h)) _ (lt-leb due j late)
      | inr whole ↦
          let begun : 0 < frames h = elim (cases_lt 0 (frames h)) [
            | inl begun ↦ begun
            | inr none ↦ absurd (omega (arith, whole, some, ap length (no-units h (omega (arith, none)))))
          ] in
          let complete : is_complete h ≡ true = and_from _ _ (lt-ltb 0 (frames h) begun)
          (eq-eqb n (units h) (omega (arith, whole, heard.among, heard.units_are begun))) in
          ap (λ b. not b && nat_le due j) complete
    ]

pub record IsQuiet (wish : Wish) (h : History) : Type 0 where
  pub over_none : count_over wish h ≡ 0
  pub under_none : count_under wish h ≡ 0
  pub most_fits : most_waiting wish h ≤ wish.buffer

-- a slot in which the meter isn't read, and one in which it is
unread-quiet : {wish : Wish} {h : History} {slot cut : ℕ} → IsQuiet wish h → is_read h slot ≡ false
    → IsQuiet wish (Slot slot cut ∷ h)
unread-quiet {wish} {h} {slot} {cut} quiet is = record {
  over_none = ap
      (λ r. cond (r && nat_lt wish.buffer (bytes_waiting wish h slot cut)) (count_over wish h + 1)
      (count_over wish h)) is ∙ quiet.over_none;
  under_none =
      ap (λ r. cond (r && lacks_picture wish h (place_in h slot)) (count_under wish h + 1) (count_under wish h))
      is ∙ quiet.under_none;
  most_fits = omega (
    arith,
    ap (λ r. cond r (max (most_waiting wish h) (bytes_waiting wish h slot cut)) (most_waiting wish h)) is,
    quiet.most_fits,
  );
}

-- what a reading finds: the buffer holds what waits, and no picture is missing
record FindsEnough (wish : Wish) (r : Reading) : Type 0 where
  holds : bytes_waiting wish r.history r.slot r.cut ≤ wish.buffer
  full : lacks_picture wish r.history (place_of r) ≡ false

seen-quiet : {wish : Wish} (r : Reading) → IsQuiet wish r.history → is_read r.history r.slot ≡ true
    → FindsEnough wish r → IsQuiet wish (Slot r.slot r.cut ∷ r.history)
seen-quiet {wish} r quiet is finds =
    let h = r.history in
    let waiting = bytes_waiting wish h r.slot r.cut in
    let over = λ (c : Bool). cond c (count_over wish h + 1) (count_over wish h) in
    let under = λ (c : Bool). cond c (count_under wish h + 1) (count_under wish h) in
    record {
      over_none = ap (λ c. over (c && nat_lt wish.buffer waiting)) is
          ∙ (ap (λ c. over (true && c)) (le-ltb wish.buffer waiting finds.holds) ∙ quiet.over_none);
      under_none = ap (λ c. under (c && lacks_picture wish h (place_of r))) is
          ∙ (ap (λ c. under (true && c)) finds.full ∙ quiet.under_none);
      most_fits = omega (
        arith,
        ap (λ c. cond c (max (most_waiting wish h) waiting) (most_waiting wish h)) is,
        quiet.most_fits,
        finds.holds,
      );
    }

read-quiet : (f : FilmPlay) (r : Reading) → 0 < length f.all → IsQuiet f.wish r.history
    → (is_read r.history r.slot ≡ true → IsFilmHeard f.all f.picture_time r.history r.cut
    × IsBetweenIn f (place_of r) (bytes_received r.history + r.cut))
    → IsQuiet f.wish (Slot r.slot r.cut ∷ r.history)
read-quiet f r some quiet met =
    elim (cases_Bool (is_read r.history r.slot)) [
      | inl is ↦
          let now = met is in
          seen-quiet r quiet is
          (record { holds = fits f r.slot now.0 now.1; full = enough f r some now.0 now.1 })
      | inr is ↦ unread-quiet quiet is
    ]

pub quiet-always : {p : ℕ} (wish : Wish) (all : List ℕ) (h : History) → Durations wish.slot_units p → 0 < length all
    → IsBetweenAlways wish all p h → IsQuiet wish h
quiet-always wish all [] lasts units_some met = record { over_none = refl; under_none = refl; most_fits = omega arith }
quiet-always {p} wish all (Slot slot cut ∷ h) lasts units_some met =
    read-quiet (record { wish = wish; all = all; picture_time = p; lasts = lasts })
    (record { history = h; slot = slot; cut = cut }) units_some
    (quiet-always wish all h lasts units_some met.0) met.1
quiet-always wish all (_ ∷ h) lasts units_some met =
    let q = quiet-always wish all h lasts units_some met in
    record { over_none = q.over_none; under_none = q.under_none; most_fits = q.most_fits }
