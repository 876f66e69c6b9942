-- Workers that are made, run and joined.
use Rattle.std.proofs.Common.{◌≡◌, ◌≢◌, ◌⊎◌, ◌∙◌, ◌+◌, ◌<◌, ◌≤◌, ℕ, List, [], ◌∷◌, ◌++◌, length, Option, Some, None}
use Rattle.std.proofs.Common.{inl, inr, sym, ap, subst, refl, suc, zero, arith, add-zero, zero-add, length-append}
use Rattle.std.specs.Prelude.{IfSome, All, map, slice_index_or, slice_set}
use mathlib.Core.List.{IsPrefix}
use Rattle.std.proofs.Math.ListN.{length-set, get_or-append}
use Rattle.std.proofs.Math.Seq.{get_or-append_seam}
use Rattle.std.proofs.lemmas.Bool.{cases_lt}
use Rattle.std.proofs.lemmas.List.{append-nil, append_assoc, get_or-set_other, get_or-set_same, map-append}
use Rattle.std.proofs.lemmas.List.Elements.{All-cons, All-head, All-push, All-tail}
use Rattle.vod_base.specs.IoState.{HasRisen}
use Rattle.vod_base.specs.Gates.{Content, IsPartOut, Part, after_rejoin, split_off, told_rejoined}
use Rattle.admission.specs.declared.entries.Entry.{Entry}
use Rattle.admission.specs.Makers.{entries_by}
use Rattle.slot_calendar.specs.declared.profiles.CapStep.{CapStep}
use Rattle.turnstile.specs.Passes.{AllJoined, IsJoined}
use Rattle.turnstile.specs.declared.view.Joined.{Joined}
use Rattle.turnstile.proofs.Prefixes.{prefix_trans}
use Rattle.conn.specs.Journals.{Terms}
use Rattle.station.specs.Seats.{StationState, SeatState, after_join}
use Rattle.conn.specs.Parts.{WorkerGate, worker_gate}
use Rattle.conn.specs.declared.reports.ConnReport.{ConnReport}
use Rattle.conn.specs.declared.reports.PartReport.{PartReport}
use Rattle.conn.specs.declared.reports.PartEnd.{PartEnd}
use Rattle.cli_args.specs.Invocations.{ServeArgs}
use Rattle.conn.specs.declared.reports.PartEnd.TheVariants.{AllTaken, GateFault as PartFault, NoMemory}
use Rattle.vodserve.specs.WorkerResults.{AreWorkerResults, AreLeft, IsPartBack, HasOne, IsWorkerResult, IsWorse}
use Rattle.vodserve.specs.WorkerResults.{ServerRun, all_reports, settings_of}
use Rattle.vodserve.specs.Workers.{ArePartsBack, AreJoined, ArePartsOut, AreWorkers, HasFinished, IsWorker, joined_of}
use Rattle.vodserve.specs.Workers.{report_of}
use Rattle.vodserve.specs.declared.workers.Worker.{Worker}

-- how the parts of workers are exposed and their faults counted, and in which hall they are
pub record WorkersOf : Type 1 where
  pub G : Type 0
  pub told : G → Option Content
  pub faults : G → ℕ
  pub hall : StationState

-- a worker of a place
pub record IsPlaced (m : WorkersOf) (place : ℕ) (worker : Worker m.G) : Type 0 where
  pub number : worker.number ≡ place
  pub is : IsWorker m.told m.faults m.hall worker

-- a worker more
pub workers_push : {m : WorkersOf} {worker : Worker m.G} (from : ℕ) (workers : List (Worker m.G))
    → AreWorkers m.told m.faults m.hall from workers → IsPlaced m (from + length workers) worker
    → AreWorkers m.told m.faults m.hall from (workers ++ worker ∷ [])
workers_push from [] all placed = (placed.number ∙ add-zero from, placed.is, tt)
workers_push {m} {worker} from (first ∷ workers) all placed = (
  all.0,
  all.1,
  workers_push {m = m} (from + 1) workers all.2 (record { number = omega (arith, placed.number); is = placed.is }),
)

-- the worker that is taken after others
pub taken_worker : {m : WorkersOf} {worker : Worker m.G} (workers done : List (Worker m.G))
    → AreWorkers m.told m.faults m.hall 0 workers → (length done < length workers)
    × (worker ≡ slice_index_or workers (length done) worker) → IsPlaced m (length done) worker
taken_worker {m} {worker} workers done all turn =
    let here = by-place 0 workers all (length done) turn.0 turn.1 in
    record { number = here.0 ∙ zero-add (length done); is = here.1 }
  where
    by-place : (from : ℕ) (workers : List (Worker m.G)) → AreWorkers m.told m.faults m.hall from workers → (i : ℕ)
        → i < length workers → worker ≡ slice_index_or workers i worker
        → (worker.number ≡ from + i) × IsWorker m.told m.faults m.hall worker
    by-place from [] all i inside is = absurd (omega (arith, inside))
    by-place from (first ∷ workers) all zero inside is =
        let same : worker ≡ first = is in
        let number : worker.number ≡ from + zero =
        ap (λ (w : Worker _). w.number) same ∙ all.0 ∙ sym (add-zero from) in
        (number, subst (IsWorker m.told m.faults m.hall) (sym same) all.1)
    by-place from (first ∷ workers) all (suc i) inside is =
        let here = by-place (from + 1) workers all.2 i (omega (arith, inside)) is in (omega (arith, here.0), here.1)

pub all_workers : (m : WorkersOf) (from : ℕ) (workers : List (Worker m.G))
    → AreWorkers m.told m.faults m.hall from workers → All (IsWorker m.told m.faults m.hall) workers
all_workers m from [] all = λ i d inside. absurd (omega (arith, inside))
all_workers m from (first ∷ workers) all =
    All-cons (IsWorker m.told m.faults m.hall) first workers all.1 (all_workers m (from + 1) workers all.2)

-- as many workers, with the same numbers
pub record SameWorkers (m : WorkersOf) (workers after : List (Worker m.G)) : Type 0 where
  pub long : length after ≡ length workers
  pub numbers : ((i : ℕ) (d : Worker m.G) → i < length workers
      → (slice_index_or after i d).number ≡ (slice_index_or workers i d).number)
  pub each : ((i : ℕ) (d : Worker m.G) → i < length workers
      → IsWorker m.told m.faults m.hall (slice_index_or after i d))

-- workers with the numbers of others
pub same_workers : {m : WorkersOf} (from : ℕ) (workers after : List (Worker m.G))
    → AreWorkers m.told m.faults m.hall from workers → SameWorkers m workers after
    → AreWorkers m.told m.faults m.hall from after
same_workers from [] [] all same = tt
same_workers from [] (other ∷ after) all same = absurd (omega (arith, same.long))
same_workers from (first ∷ workers) [] all same = absurd (omega (arith, same.long))
same_workers {m} from (first ∷ workers) (other ∷ after) all same = (
  same.numbers 0 other (omega arith) ∙ all.0,
  same.each 0 other (omega arith),
  same_workers {m = m} (from + 1) workers after all.2 (record {
    long = omega (arith, same.long);
    numbers = λ i d h. same.numbers (suc i) d (omega (arith, h));
    each = λ i d h. same.each (suc i) d (omega (arith, h));
  }),
)

pub number_of : (part : Option Content) (number from : ℕ) → IfSome part (λ content. content.own.number ≡ number)
    → number ≡ from → IfSome part (λ content. content.own.number ≡ from)
number_of None number from is same = tt
number_of (Some p) number from is same = is ∙ same

set_other : (xs : List (Option Part)) (i k : ℕ) (v d : Option Part) → k ≢ i
    → slice_index_or (slice_set xs i v) k d ≡ slice_index_or xs k d
set_other xs i k v d apart = get_or-set_other xs i k v d apart

-- a part more is out
pub out_more : (count : ℕ) (content : Content) → ArePartsOut 0 count content → ArePartsOut 0 (count + 1) (split_off
    content)
out_more count content are = record {
  counted = length-append content.parts (None ∷ []) ∙ ap (λ (n : ℕ). n + 1) are.counted;
  out = λ k low high. elim (cases_lt k count) [
    | inl before ↦ get_or-append content.parts (None ∷ []) None k (omega (arith, before, are.counted))
        ∙ are.out k low before
    | inr last ↦
        let at : k ≡ length content.parts = omega (arith, last, high, are.counted) in
        ap (λ (j : ℕ). slice_index_or (content.parts ++ None ∷ []) j None) at
        ∙ get_or-append_seam content.parts None [] None
  ];
}

-- a part that came back
pub out_less : (from count : ℕ) (part content : Content) → part.own.number ≡ from → ArePartsOut from count content
    → ArePartsOut (from + 1) count (after_rejoin part.own content)
out_less from count part content number are = record {
  counted = length-set content.parts part.own.number (Some part.own) ∙ are.counted;
  out = λ k low high.
      set_other content.parts part.own.number k (Some part.own) None (omega (arith, number, low))
      ∙ are.out k (omega (arith, low)) high;
}

pub told_less : (from count : ℕ) (part gate : Option Content) → IfSome part (λ content. content.own.number ≡ from)
    → IfSome gate (ArePartsOut from count) → IfSome (told_rejoined part gate) (ArePartsOut (from + 1) count)
told_less from count None None number are = tt
told_less from count None (Some c) number are = tt
told_less from count (Some p) None number are = tt
told_less from count (Some p) (Some c) number are = out_less from count p c number are

-- a part with its number, and a gate from which parts are out
pub record PartOut (from count : ℕ) (part gate : Option Content) : Type 0 where
  pub inside : from < count
  pub number : IfSome part (λ content. content.own.number ≡ from)
  pub out : IfSome gate (ArePartsOut from count)

-- a part that came back is in the gate, and those from before are too
kept_one : (k : ℕ) (told part gate : Option Content) → IfSome gate (IsPartBack k told)
    → IfSome part (λ p. k < p.own.number) → IfSome (told_rejoined part gate) (IsPartBack k told)
kept_one k told None None is apart = tt
kept_one k told None (Some c) is apart = tt
kept_one k told (Some p) None is apart = tt
kept_one k told (Some p) (Some c) is apart =
    (is.0, (is.1.0, set_other c.parts p.own.number k (Some p.own) None (omega (arith, apart)) ∙ is.1.1))

own_back : {k count : ℕ} (part gate : Option Content) → PartOut k count part gate →
    IfSome (told_rejoined part gate) (IsPartBack k part)
own_back None None out_part = tt
own_back None (Some c) out_part = tt
own_back (Some p) None out_part = tt
own_back {k} (Some p) (Some c) out_part = (
  p,
  (
    refl,
    ap (λ (j : ℕ). slice_index_or (slice_set c.parts j (Some p.own)) k None) out_part.number
        ∙ get_or-set_same c.parts k (Some p.own) None (omega (arith, out_part.inside, out_part.out.counted)),
  ),
)

later : (part : Option Content) (k n : ℕ) → IfSome part (λ p. p.own.number ≡ n) → k < n →
    IfSome part (λ p. k < p.own.number)
later None k n number before = tt
later (Some p) k n number before = omega (arith, number, before)

-- how the parts of workers are exposed, and what the gate exposes
record PartsTold : Type 1 where
  G : Type 0
  told : G → Option Content
  gate : Option Content

-- a part with a number after those of workers
record LaterPart (G : Type 0) (part : Option Content) (from : ℕ) (workers : List (Worker G)) : Type 0 where
  place : ℕ
  number : IfSome part (λ p. p.own.number ≡ place)
  before : from + length workers ≤ place

kept_back : {part : Option Content} (p : PartsTold) (from : ℕ) (workers : List (Worker p.G))
    → ArePartsBack p.told p.gate from workers → LaterPart p.G part from workers
    → ArePartsBack p.told (told_rejoined part p.gate) from workers
kept_back p from [] all later_part = tt
kept_back {part} p from (worker ∷ workers) all later_part = (
  kept_one from (p.told worker.part) part p.gate all.0 (later part from n number (omega (arith, before))),
  kept_back p (from + 1) workers all.1 (record { place = n; number = number; before = omega (arith, before) }),
)
  where
    open later_part use {place as n, number, before}

back_push : (p : PartsTold) (from : ℕ) (workers : List (Worker p.G)) (worker : Worker p.G)
    → ArePartsBack p.told p.gate from workers → IfSome p.gate (IsPartBack (from + length workers) (p.told worker.part))
    → ArePartsBack p.told p.gate from (workers ++ worker ∷ [])
back_push p from [] worker all last =
    (subst (λ (k : ℕ). IfSome p.gate (IsPartBack k (p.told worker.part))) (add-zero from) last, tt)
back_push p from (first ∷ workers) worker all last = (
  all.0,
  back_push p (from + 1) workers worker all.1
      (let on : from + length (first ∷ workers) ≡ from + 1 + length workers = omega arith in
      subst (λ (k : ℕ). IfSome p.gate (IsPartBack k (p.told worker.part))) on last),
)

-- a worker more is joined: its seat and its part of the gate go back
pub record WorkerJoins (m : WorkersOf) (workers : List (Worker m.G)) : Type 0 where
  pub worker : Worker m.G
  pub placed : IsPlaced m (length workers) worker
  pub count : ℕ
  pub inside : length workers < count
  pub seat : SeatState
  pub seat' : SeatState
  pub gate : Option Content
  pub gate' : Option Content
  pub seated : seat' ≡ after_join seat worker.seat
  pub rejoins : gate' ≡ told_rejoined (m.told worker.part) gate
  pub longer : IsPrefix seat.seen seat'.seen
  pub seen : IsPrefix worker.seat.seen seat'.seen

pub join_one : {m : WorkersOf} {workers : List (Worker m.G)} (joins : WorkerJoins m workers)
    → AreJoined m.told m.hall joins.count workers joins.seat joins.gate
    → AreJoined m.told m.hall joins.count (workers ++ joins.worker ∷ []) joins.seat' joins.gate'
join_one {m} {workers} joins so_far =
    let own : IfSome (m.told worker.part) (λ content. content.own.number ≡ length workers) =
    number_of (m.told worker.part) worker.number (length workers) placed.is.part placed.number in
    let one_more : length workers + 1 ≡ length (workers ++ worker ∷ []) = sym (length-append workers (worker ∷ [])) in
    let back = told_rejoined (m.told worker.part) gate in
    record {
      id = ap (λ (s : SeatState). s.id) seated ∙ so_far.id;
      steps = ap (λ (s : SeatState). s.steps) seated ∙ so_far.steps;
      limit = ap (λ (s : SeatState). s.limit) seated ∙ so_far.limit;
      number = ap (λ (s : SeatState). s.number) seated ∙ so_far.number;
      mine = ap (λ (s : SeatState). s.mine) seated ∙ so_far.mine;
      splits = ap (λ (s : SeatState). s.splits) seated ∙ so_far.splits;
      joined = ap (λ (s : SeatState). s.joined) seated
          ∙ ap (λ (js : List Joined). seat.joined ++ joined_of worker ∷ js) placed.is.joined
          ∙ ap (λ (js : List Joined). js ++ joined_of worker ∷ []) so_far.joined
          ∙ sym (map-append joined_of workers (worker ∷ []));
      seen = All-push (λ (w : Worker _). IsPrefix w.seat.seen seat'.seen) workers worker
          (λ i d within. prefix_trans (slice_index_or workers i d).seat.seen seat.seen seat'.seen
          (so_far.seen i d within) longer) seen;
      out = subst (λ (c : Option Content). IfSome c (ArePartsOut (length (workers ++ worker ∷ [])) count)) (sym rejoins)
          (subst (λ (k : ℕ). IfSome back (ArePartsOut k count)) one_more
          (told_less (length workers) count (m.told worker.part) gate own so_far.out));
      back = subst (λ (c : Option Content). ArePartsBack m.told c 0 (workers ++ worker ∷ [])) (sym rejoins)
          (back_push (record { G = m.G; told = m.told; gate = back }) 0 workers worker
          (kept_back (record { G = m.G; told = m.told; gate = gate }) 0 workers so_far.back
          (record { place = length workers; number = own; before = omega arith }))
          (subst (λ (k : ℕ). IfSome back (IsPartBack k (m.told worker.part))) (sym (zero-add (length workers)))
          (own_back (m.told worker.part) gate (record { inside = inside; number = own; out = so_far.out }))));
    }
  where
    open joins use {worker, placed, count, inside, seat, seat', gate, seated, rejoins, longer, seen}

-- the part of the worker that is joined next is out
pub part_out : (place count : ℕ) (gate part : Option Content) → PartOut place count part gate →
    IfSome gate (λ content. IfSome part (λ own. IsPartOut own.own.number content))
part_out place count None part out_part = tt
part_out place count (Some content) None out_part = tt
part_out place count (Some content) (Some own) out_part = (
  omega (arith, number, out.counted, inside),
  subst (λ (k : ℕ). slice_index_or content.parts k None ≡ None) (sym number) (out.out place (omega arith) inside),
)
  where
    open out_part use {inside, number, out}

-- every seat that was split is joined
pub all_joined : (m : WorkersOf) {workers : List (Worker m.G)} {seat : SeatState} {gate : Option Content}
    → AreWorkers m.told m.faults m.hall 0 workers → AreJoined m.told m.hall (length workers) workers seat gate
    → AllJoined seat.splits seat.joined
all_joined m {workers} all back = record {
  each = λ k low high. subst (λ (js : List Joined). IsJoined js k) (sym back.joined)
      (by-list k 0 workers all low (omega (arith, high, back.splits)));
}
  where
    by-list : (k from : ℕ) (workers : List (Worker m.G)) → AreWorkers m.told m.faults m.hall from workers → from < k
        → k ≤ from + length workers → IsJoined (map joined_of workers) k
    by-list k from [] all low high = absurd (omega (arith, low, high))
    by-list k from (worker ∷ workers) all low high = elim (cases_lt (from + 1) k) [
      | inl after ↦ inr (by-list k (from + 1) workers all.2 after (omega (arith, high)))
      | inr here ↦ inl (omega (arith, all.1.seat, all.0, here, low))
    ]

-- how the workers ended, and their reports
reports_push : (parts : List PartReport) (part : PartReport)
    → all_reports (parts ++ part ∷ []) ≡ all_reports parts ++ part.reports.items
reports_push [] part = append-nil part.reports.items
reports_push (first ∷ parts) part =
    ap (λ (rs : List ConnReport). first.reports.items ++ rs) (reports_push parts part)
    ∙ sym (append_assoc first.reports.items (all_reports parts) part.reports.items)

one_before : (end : PartEnd) (parts : List PartReport) (part : PartReport) → HasOne end parts →
    HasOne end (parts ++ part ∷ [])
one_before end parts part one = record {
  worker = one.worker;
  inside = omega (arith, one.inside, length-append parts (part ∷ []));
  ended = λ none. ap (λ (r : PartReport). r.end) (get_or-append parts (part ∷ []) none one.worker one.inside)
      ∙ one.ended none;
}

one_last : (end : PartEnd) (parts : List PartReport) (part : PartReport) → part.end ≡ end →
    HasOne end (parts ++ part ∷ [])
one_last end parts part is = record {
  worker = length parts;
  inside = omega (arith, length-append parts (part ∷ []));
  ended = λ none. ap (λ (r : PartReport). r.end) (get_or-append_seam parts part [] none) ∙ is;
}

-- one more worker ran out of memory, or each found it
found_more : (parts : List PartReport) (part : PartReport) (end : PartEnd) →
    All (λ (p : PartReport). p.end ≢ NoMemory) parts → (part.end ≡ NoMemory → end ≡ NoMemory) →
    (end ≡ NoMemory) ⊎ All (λ (p : PartReport). p.end ≢ NoMemory) (parts ++ part ∷ [])
found_more parts part end found none = by part.end refl
  where
    by : (is : PartEnd) → part.end ≡ is →
        (end ≡ NoMemory) ⊎ All (λ (p : PartReport). p.end ≢ NoMemory) (parts ++ part ∷ [])
    by NoMemory is = inl (none is)
    by AllTaken is = inr (All-push (λ (p : PartReport). p.end ≢ NoMemory) parts part found (λ e. other (sym is ∙ e)))
      where
        other : AllTaken ≡ NoMemory → ⊥
        other e = cc
    by PartFault is = inr (All-push (λ (p : PartReport). p.end ≢ NoMemory) parts part found (λ e. other (sym is ∙ e)))
      where
        other : PartFault ≡ NoMemory → ⊥
        other e = cc

pub left_more : {parts : List PartReport} {end end' : PartEnd} {reports : List ConnReport} (part : PartReport) →
    AreLeft parts end reports → IsWorse end part.end end' →
    AreLeft (parts ++ part ∷ []) end' (reports ++ part.reports.items)
left_more {parts} {end} {end'} part left worse = record {
  taken = λ e. All-push (λ (p : PartReport). p.end ≡ AllTaken) parts part (left.taken (worse.taken e).0)
      (worse.taken e).1;
  failed = λ e. elim (worse.fault e) [
    | inl one ↦ one_before PartFault parts part (left.failed one)
    | inr other ↦ one_last PartFault parts part other
  ];
  memory = elim left.memory [
    | inl none ↦ inl (worse.memory (inl none))
    | inr found ↦ found_more parts part end' found (λ none. worse.memory (inr none))
  ];
  whole = elim left.whole [
    | inl none ↦ inl (worse.memory (inl none))
    | inr all ↦ inr (ap (λ (rs : List ConnReport). rs ++ part.reports.items) all ∙ sym (reports_push parts part))
  ];
}

-- a station has the capacity and the limit that the words say
pub record IsStationOf (serving : ServeArgs) (hall : StationState) : Type 0 where
  pub steps : hall.steps ≡ serving.capacity
  pub limit : hall.limit ≡ serving.journal

abbrev terms_with : List CapStep → ℕ → ℕ → Terms
terms_with steps limit maker = record { steps = steps; limit = limit; maker = maker }

-- what a worker has seen of a journal, and its own entries of it
record WorkerJournal {G : Type 0} (worker : Worker G) (journal : List Entry) : Type 0 where
  seen : List Entry
  front : IsPrefix worker.seat.seen seen
  whole : IsPrefix seen journal
  made : worker.seat.mine ≡ entries_by worker.seat.number journal

-- a worker that served, as the closed journal and the gate record it
one_worked : {G : Type 0} {told : G → Option Content} {faults : G → ℕ} {work : ServerRun} {gate gate' : WorkerGate}
    {hall : StationState} {worker : Worker G} → WorkerJournal worker work.journal → IsStationOf work.serving hall
    → IsWorker told faults hall worker → HasFinished told faults work.films (settings_of work.serving) work.seed worker
    → IfSome gate'.told (IsPartBack worker.number (told worker.part))
    → (0 < faults worker.part → HasRisen gate.faults gate'.faults)
    → IsWorkerResult work gate gate' worker.number worker.report
one_worked {told} {faults} {work} {worker} own of_words is finished back counted = record {
  seat = finished.seat;
  left = worker.seat;
  part = finished.part;
  after = worker_gate (faults worker.part) (told worker.part);
  served = finished.served;
  terms = ap (λ (s : List CapStep). terms_with s finished.seat.limit finished.seat.number)
      (sym finished.served.seat.steps ∙ is.steps ∙ of_words.steps)
      ∙ ap (λ (l : ℕ). terms_with work.serving.capacity l finished.seat.number)
      (sym finished.served.seat.limit ∙ is.limit ∙ of_words.limit)
      ∙ ap (λ (n : ℕ). terms_with work.serving.capacity work.serving.journal n)
      (sym finished.served.seat.number ∙ is.seat);
  mine = finished.mine;
  untouched = finished.untouched;
  seen = prefix_trans worker.seat.seen seen work.journal front whole;
  made = made ∙ ap (λ (n : ℕ). entries_by n work.journal) is.seat;
  back = back;
  counted = counted;
}
  where
    open own use {seen, front, whole, made}

-- what workers have seen of a journal, and their own entries of it
pub record WorkersJournal {G : Type 0} (workers : List (Worker G)) (journal : List Entry) : Type 0 where
  pub seen : List Entry
  pub front : All (λ worker. IsPrefix worker.seat.seen seen) workers
  pub whole : IsPrefix seen journal
  pub made : All (λ joined. joined.mine ≡ entries_by joined.number journal) (map joined_of workers)

-- the parts of workers are back, and their faults counted
pub record WorkersBack {G : Type 0} (told : G → Option Content) (faults : G → ℕ) (gate gate' : WorkerGate)
    (from : ℕ) (workers : List (Worker G)) : Type 0 where
  pub back : ArePartsBack told gate'.told from workers
  pub counted : All (λ worker. 0 < faults worker.part → HasRisen gate.faults gate'.faults) workers

-- workers of a station of the words' capacity and limit have finished
pub record HaveFinished {G : Type 0} (told : G → Option Content) (faults : G → ℕ) (hall : StationState)
    (work : ServerRun) (from : ℕ) (workers : List (Worker G)) : Type 0 where
  pub of_words : IsStationOf work.serving hall
  pub all : AreWorkers told faults hall from workers
  pub finished : All (HasFinished told faults work.films (settings_of work.serving) work.seed) workers

pub all_worked : {G : Type 0} {told : G → Option Content} {faults : G → ℕ} {hall : StationState} {from : ℕ}
    {gate gate' : WorkerGate} (work : ServerRun) (workers : List (Worker G)) →
    HaveFinished told faults hall work from workers → WorkersBack told faults gate gate' from workers →
    WorkersJournal workers work.journal → AreWorkerResults work gate gate' from (map report_of workers)
all_worked work [] done backs own = tt
all_worked {told} {faults} {hall} {from} {gate} {gate'} work (worker ∷ workers) done backs own =
    let Ends : Worker _ → Type 0 = HasFinished told faults work.films (settings_of work.serving) work.seed in
    let Saw : Worker _ → Type 0 = λ worker. IsPrefix worker.seat.seen seen in
    let Counts : Worker _ → Type 0 = λ worker. 0 < faults worker.part → HasRisen gate.faults gate'.faults in
    let MediaKind : Joined → Type 0 = λ joined. joined.mine ≡ entries_by joined.number work.journal in
    let first : WorkerJournal worker work.journal = record {
      seen = seen;
      front = All-head Saw worker workers front;
      whole = whole;
      made = All-head MediaKind (joined_of worker) (map joined_of workers) made;
    } in
    let back_first = subst (λ (n : ℕ). IfSome gate'.told (IsPartBack n (told worker.part))) (sym all.0) back.0 in (
      subst (λ (n : ℕ). IsWorkerResult work gate gate' n worker.report) all.0
          (one_worked {work = work} first of_words all.1 (All-head Ends worker workers finished) back_first
          (All-head Counts worker workers counted)),
      all_worked {told = told} {faults = faults} {hall = hall} {from = from + 1} work workers
          (record { of_words = of_words; all = all.2; finished = All-tail Ends worker workers finished })
          (record { back = back.1; counted = All-tail Counts worker workers counted })
          (record {
            seen = seen;
            front = All-tail Saw worker workers front;
            whole = whole;
            made = All-tail MediaKind (joined_of worker) (map joined_of workers) made;
          }),
    )
  where
    open done use {of_words, all, finished}
    open backs use {back, counted}
    open own use {seen, front, whole, made}
