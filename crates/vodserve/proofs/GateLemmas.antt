-- How a gate and its parts stand as workers are made and joined.
use Rattle.std.proofs.Common.{◌≡◌, ◌∙◌, ◌+◌, ◌<◌, ◌≤◌, ◌-◌, ◌^◌, ℕ, List, [], ◌∷◌, length, Option, Some, None, inl, inr}
use Rattle.std.proofs.Common.{sym, ap, subst, refl, arith}
use Rattle.std.specs.Prelude.{IfSome, All, option_map, slice_index_or}
use Rattle.std.proofs.lemmas.Bool.{cases_lt}
use Rattle.std.proofs.lemmas.List.Elements.{All-head, All-tail}
use Rattle.vod_base.specs.IoState.{HasRisen}
use Rattle.vod_base.specs.Gates.{Content, Failed, Part, IsOpen, new_part, after_empty_take, after_open, after_rejoin}
use Rattle.vod_base.specs.Gates.{split_off, told_rejoined}
use Rattle.vod_base.specs.declared.gates.Opening.{Opening}
use Rattle.station.specs.Seats.{StationState, SeatState, new_seat}
use Rattle.conn.specs.Parts.{IsServed, IsUntouched}
use Rattle.conn.specs.declared.reports.PartEnd.TheVariants.{AllTaken}
use Rattle.vodserve.specs.WorkerResults.{HasParts, HasTooFewParts, IsIdle, IsOpenAs, IsOpenedOnce}
use Rattle.vodserve.specs.Workers.{ArePartsBack, AreJoined, ArePartsOut, IsFresh, IsNotOpened, IsWorker, split_seat}
use Rattle.vodserve.specs.declared.workers.Worker.{Worker}
use Rattle.vodserve.proofs.WorkerLemmas.{WorkersOf, out_more}

-- so many parts are in the gate
pub counted_parts : (from count workers : ℕ) (gate : Option Content) → IfSome gate (ArePartsOut from count)
    → count ≡ workers → HasParts workers gate
counted_parts from count workers None out same = tt
counted_parts from count workers (Some c) out same = out.counted ∙ same

pub risen_on : (f g h : ℕ) → HasRisen f g → g ≤ h → HasRisen f h
risen_on f g h risen high = λ end. omega (arith, risen (omega (arith, high, end)), high)

pub risen_since : (f g h : ℕ) → HasRisen g h → f ≤ g → HasRisen f h
risen_since f g h risen low = λ end. omega (arith, risen end, low)

pub told_out_more : (count : ℕ) (gate gate' : Option Content) → IfSome gate (ArePartsOut 0 count)
    → gate' ≡ option_map split_off gate → IfSome gate' (ArePartsOut 0 (count + 1))
told_out_more count None gate' are is = subst (λ (c : Option Content). IfSome c (ArePartsOut 0 (count + 1))) (sym is) tt
told_out_more count (Some c) gate' are is =
    subst (λ (c' : Option Content). IfSome c' (ArePartsOut 0 (count + 1))) (sym is) (out_more count c are)

-- a gate that is open stays so as parts are split from it and come back
pub split_still_open : (opening : Opening) (gate gate' : Option Content) → IsOpenAs opening gate
    → gate' ≡ option_map split_off gate → IsOpenAs opening gate'
split_still_open opening None gate' are is = subst (IsOpenAs opening) (sym is) tt
split_still_open opening (Some c) gate' are is = subst (IsOpenAs opening) (sym is) are

pub split_open : (gate gate' : Option Content) → IfSome gate (λ content. IsOpen content)
    → gate' ≡ option_map split_off gate → IfSome gate' (λ content. IsOpen content)
split_open None gate' are is = subst (λ (c : Option Content). IfSome c (λ content. IsOpen content)) (sym is) tt
split_open (Some c) gate' are is = subst (λ (c' : Option Content). IfSome c' (λ content. IsOpen content)) (sym is) are

open_back : (opening : Opening) (part gate : Option Content) → IsOpenAs opening gate →
    IsOpenAs opening (told_rejoined part gate)
open_back opening None None is = tt
open_back opening None (Some c) is = tt
open_back opening (Some p) None is = tt
open_back opening (Some p) (Some c) is = is

pub back_still_open : (opening : Opening) (part gate gate' : Option Content) → IsOpenAs opening gate
    → gate' ≡ told_rejoined part gate → IsOpenAs opening gate'
back_still_open opening part gate gate' is rejoins =
    subst (IsOpenAs opening) (sym rejoins) (open_back opening part gate is)

new_number : (count : ℕ) (gate part : Option Content) → IfSome gate (ArePartsOut 0 count)
    → part ≡ option_map new_part gate → IfSome part (λ content. content.own.number ≡ count)
new_number count None part are is =
    subst (λ (c : Option Content). IfSome c (λ content. content.own.number ≡ count)) (sym is) tt
new_number count (Some c) part are is =
    subst (λ (c' : Option Content). IfSome c' (λ content. content.own.number ≡ count)) (sym is) are.counted

new_untouched : (gate part : Option Content) → part ≡ option_map new_part gate → IfSome part IsUntouched
new_untouched None part is = subst (λ (c : Option Content). IfSome c IsUntouched) (sym is) tt
new_untouched (Some c) part is =
    subst (λ (c' : Option Content). IfSome c' IsUntouched) (sym is) (record { given = refl; back = refl })

-- a worker that was just made: its seat was split from the first seat and its part from the gate,
-- each as the one of the worker's number
pub record IsNew {G : Type 0} (told : G → Option Content) (faults : G → ℕ) (hall : StationState)
    (gate : Option Content) (worker : Worker G) : Type 0 where
  pub seat : worker.seat ≡ new_seat (split_seat hall worker.number)
  pub out : IfSome gate (ArePartsOut 0 worker.number)
  pub part : told worker.part ≡ option_map new_part gate
  pub count : faults worker.part ≡ 0
  pub end : worker.report.end ≡ AllTaken

-- it has the seat after its number and the part of its number
pub new_is_worker : {m : WorkersOf} {gate : Option Content} (worker : Worker m.G)
    → IsNew m.told m.faults m.hall gate worker → IsWorker m.told m.faults m.hall worker
new_is_worker {m} {gate} worker new = record {
  id = ap (λ (s : SeatState). s.id) new.seat;
  steps = ap (λ (s : SeatState). s.steps) new.seat;
  limit = ap (λ (s : SeatState). s.limit) new.seat;
  seat = ap (λ (s : SeatState). s.number) new.seat;
  joined = ap (λ (s : SeatState). s.joined) new.seat;
  part = new_number worker.number gate (m.told worker.part) new.out new.part;
  fault = λ fault. let taken : worker.report.end ≡ AllTaken = new.end in cc;
}

-- and it did nothing yet
pub new_is_fresh : {m : WorkersOf} {gate : Option Content} (worker : Worker m.G)
    → IsNew m.told m.faults m.hall gate worker → IsFresh m.told m.faults worker
new_is_fresh {m} {gate} worker new = record {
  mine = ap (λ (s : SeatState). s.mine) new.seat;
  part = new_untouched gate (m.told worker.part) new.part;
  count = new.count;
}

-- a part that was served keeps its number
pub served_number : (old new : Option Content) (count number : ℕ) → IsServed old new count
    → IfSome old (λ content. content.own.number ≡ number) → IfSome new (λ content. content.own.number ≡ number)
served_number None new count number served is =
    subst (λ (c : Option Content). IfSome c (λ content. content.own.number ≡ number)) (sym served) tt
served_number (Some old) None count number served is = absurd served
served_number (Some old) (Some new) count number served is = served.number ∙ is

pub risen_some : (old new : ℕ) → HasRisen old new → 0 < new
risen_some old new risen = elim (cases_lt new (2 ^ 64 - 1)) [
  | inl below ↦ omega (arith, risen below)
  | inr end ↦ omega (arith, end)
]

-- ---- how often a gate was opened

pub not_opened_here : (gate : Option Content) → IfSome gate (IsNotOpened gate)
not_opened_here None = tt
not_opened_here (Some c) = record { told = c; told_is = refl; openings = refl; own = refl }

-- nothing is exposed of a gate from which nothing was exposed
none_told : (P : Content → Type 0) (gate : Option Content) → gate ≡ None → IfSome gate P
none_told P gate is = subst (λ (g : Option Content). IfSome g P) (sym is) tt

pub not_opened_split : (before gate gate' : Option Content) → IfSome gate (IsNotOpened before)
    → gate' ≡ option_map split_off gate → IfSome gate' (IsNotOpened before)
not_opened_split before None gate' since is = none_told (IsNotOpened before) gate' is
not_opened_split before (Some c) gate' since is = subst (λ (g : Option Content). IfSome g (IsNotOpened before)) (sym is)
    (record { told = since.told; told_is = since.told_is; openings = since.openings; own = since.own })

pub not_opened_back : (before part gate gate' : Option Content) → IfSome gate (IsNotOpened before)
    → gate' ≡ told_rejoined part gate → IfSome gate' (IsNotOpened before)
not_opened_back before None None gate' since is = none_told (IsNotOpened before) gate' is
not_opened_back before (Some p) None gate' since is = none_told (IsNotOpened before) gate' is
not_opened_back before None (Some c) gate' since is = none_told (IsNotOpened before) gate' is
not_opened_back before (Some p) (Some c) gate' since is =
    subst (λ (g : Option Content). IfSome g (IsNotOpened before)) (sym is)
    (record { told = since.told; told_is = since.told_is; openings = since.openings; own = since.own })

pub not_opened_on : (before mid gate : Option Content) → IfSome mid (IsNotOpened before)
    → IfSome gate (IsNotOpened mid) → IfSome gate (IsNotOpened before)
not_opened_on before mid None first since = tt
not_opened_on before mid (Some c) first since =
    let middle : IsNotOpened before since.told =
    subst (λ (g : Option Content). IfSome g (IsNotOpened before)) since.told_is first in
    record {
      told = middle.told;
      told_is = middle.told_is;
      openings = since.openings ∙ middle.openings;
      own = since.own ∙ middle.own;
    }

pub opened_once : (how : Option Opening) (before gate : Option Content)
    → gate ≡ option_map (after_open how) before → IfSome gate (IsOpenedOnce before)
opened_once how None gate is = none_told (IsOpenedOnce None) gate is
opened_once how (Some c) gate is = subst (λ (g : Option Content). IfSome g (IsOpenedOnce (Some c))) (sym is)
    (record { told = c; told_is = refl; openings = refl; own = refl })

pub once_since : (before mid gate : Option Content) → IfSome mid (IsOpenedOnce before)
    → IfSome gate (IsNotOpened mid) → IfSome gate (IsOpenedOnce before)
once_since before mid None once since = tt
once_since before mid (Some c) once since =
    let middle : IsOpenedOnce before since.told =
    subst (λ (g : Option Content). IfSome g (IsOpenedOnce before)) since.told_is once in
    record {
      told = middle.told;
      told_is = middle.told_is;
      openings = since.openings ∙ middle.openings;
      own = since.own ∙ middle.own;
    }

-- ---- parts that gave no connection

-- a gate that was opened just now has no parts
pub opened_few : (count : ℕ) (how : Option Opening) (before gate : Option Content)
    → gate ≡ option_map (after_open how) before → 1 ≤ count → IfSome gate (HasTooFewParts count)
opened_few count how None gate is some = none_told (HasTooFewParts count) gate is
opened_few count how (Some c) gate is some = subst (λ (g : Option Content). IfSome g (HasTooFewParts count)) (sym is)
    (record { fewer = omega (arith, some); idle = λ k inside. absurd (omega (arith, inside)) })

-- the parts of workers that served nothing are back
record FreshBack {G : Type 0} (told : G → Option Content) (faults : G → ℕ) (from : ℕ)
    (workers : List (Worker G)) (gate : Content) : Type 0 where
  back : ArePartsBack told (Some gate) from workers
  fresh : All (IsFresh told faults) workers

-- workers that did nothing gave back parts of which no connection was taken
idle_back : {G : Type 0} {told : G → Option Content} {faults : G → ℕ} {from : ℕ} {gate : Content}
    (workers : List (Worker G)) → FreshBack told faults from workers gate → (k : ℕ) → from ≤ k →
    k < from + length workers → (part : Part) × ((slice_index_or gate.parts k None ≡ Some part) × IsIdle part)
idle_back [] fresh_back k low high = absurd (omega (arith, low, high))
idle_back {told} {faults} {from} {gate} (worker ∷ workers) fresh_back k low high =
    elim (cases_lt from k) [
      | inl after ↦
          idle_back {from = from + 1} {gate = gate} workers
          (record { back = back.1; fresh = All-tail (IsFresh told faults) worker workers fresh }) k
          (omega (arith, after)) (omega (arith, high))
      | inr here ↦
          let is : from ≡ k = omega (arith, here, low) in
          let first : IsFresh told faults worker = All-head (IsFresh told faults) worker workers fresh in
          let untouched : IsUntouched back.0.0 =
          subst (λ (p : Option Content). IfSome p IsUntouched) back.0.1.0 first.part in (
            back.0.0.own,
            (
              subst (λ (n : ℕ). slice_index_or gate.parts n None ≡ Some back.0.0.own) is back.0.1.1,
              record { given = untouched.given; back = untouched.back },
            ),
          )
    ]
  where
    open fresh_back use {back, fresh}

-- workers that served nothing are joined
pub record FreshJoined {G : Type 0} (told : G → Option Content) (faults : G → ℕ) (hall : StationState)
    (workers : List (Worker G)) (seat : SeatState) (gate : Option Content) : Type 0 where
  pub joined : AreJoined told hall (length workers) workers seat gate
  pub fresh : All (IsFresh told faults) workers

pub joined_few : {G : Type 0} {told : G → Option Content} {faults : G → ℕ} {hall : StationState}
    {workers : List (Worker G)} {seat : SeatState} (count : ℕ) (gate : Option Content) →
    FreshJoined told faults hall workers seat gate → length workers < count → IfSome gate (HasTooFewParts count)
joined_few count None fresh_joined fewer = tt
joined_few {workers} count (Some c) fresh_joined fewer = record {
  fewer = omega (arith, joined.out.counted, fewer);
  idle = λ k inside. idle_back {gate = c} workers (record { back = joined.back; fresh = fresh }) k (omega arith)
      (omega (arith, inside, joined.out.counted));
}
  where
    open fresh_joined use {joined, fresh}

-- a gate from which a part was split off, of which a take failed, and to which it came back
pub record FailedGate (gate : Option Content) : Type 0 where
  pub how : Option Opening
  pub before : Option Content
  pub door : Option Content
  pub part : Option Content
  pub split : Option Content
  pub failed : Option Content
  pub opens : door ≡ option_map (after_open how) before
  pub parts : part ≡ option_map new_part door
  pub splits : split ≡ option_map split_off door
  pub fails : failed ≡ option_map (after_empty_take Failed) part
  pub rejoins : gate ≡ told_rejoined failed split

-- a part that failed at once gave no connection
pub failed_few : {gate : Option Content} → FailedGate gate → IfSome gate (HasTooFewParts 2)
failed_few failed_gate =
    subst (λ (g : Option Content). IfSome g (HasTooFewParts 2))
    (ap (λ (o : Option Content). told_rejoined (option_map (after_empty_take Failed) (option_map new_part o))
    (option_map split_off o)) (sym opens)
    ∙ ap (λ (p : Option Content). told_rejoined (option_map (after_empty_take Failed) p) (option_map split_off door))
    (sym parts)
    ∙ ap (λ (s : Option Content). told_rejoined (option_map (after_empty_take Failed) part) s) (sym splits)
    ∙ ap (λ (f : Option Content). told_rejoined f split) (sym fails) ∙ sym rejoins)
    (here how before)
  where
    open failed_gate use {how, before, door, part, split, opens, parts, splits, fails, rejoins}

    here : (how : Option Opening) (before : Option Content)
        → IfSome (told_rejoined (option_map (after_empty_take Failed)
        (option_map new_part (option_map (after_open how) before)))
        (option_map split_off (option_map (after_open how) before))) (HasTooFewParts 2)
    here how None = tt
    here how (Some c) = record {
      fewer = omega arith;
      idle = λ k inside. let first : 0 ≡ k =
          omega (arith, inside) in
          subst (λ (n : ℕ). (part : Part)
          × ((slice_index_or
          (after_rejoin (after_empty_take Failed (new_part (after_open how c))).own
          (split_off (after_open how c))).parts n None ≡ Some part) × IsIdle part)) first
          (_, (refl, record { given = refl; back = refl }));
    }
