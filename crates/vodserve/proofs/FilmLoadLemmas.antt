-- The films that words name.
use Rattle.std.proofs.Common.{◌≡◌, ◌∙◌, ◌+◌, ◌<◌, ◌≤◌, ℕ, true, List, [], ◌∷◌, ◌++◌, length, drop, get_or, Option, Some}
use Rattle.std.proofs.Common.{None, inl, inr, refl, sym, ap, subst, suc, zero, arith, string_bytes, String, Global}
use Rattle.std.proofs.Common.{add-one, add-zero, zero-add, length-append}
use Rattle.std.specs.Prelude.{All, codes, map, slice_index_or}
use Rattle.std.specs.List.{Contains}
use Rattle.std.specs.Option.{option_to_list}
use Rattle.std.proofs.Math.ListN.{get_or-map}
use Rattle.std.proofs.Math.Seq.{drop-cons, get_or-append_seam}
use Rattle.std.proofs.lemmas.List.{length-map}
use Rattle.std.proofs.lemmas.List.Elements.{All-map}
use Rattle.vod_base.specs.Names.{good_name}
use Rattle.film_frames.specs.declared.stored_films.Stored.{Stored}
use Rattle.film_streams.specs.SettingRanges.{AreFilms, names_of}
use Rattle.turnstile.specs.declared.view.Joined.{Joined}
use Rattle.conn.specs.Parts.{WorkerGate}
use Rattle.conn.specs.declared.reports.ConnReport.{ConnReport}
use Rattle.conn.specs.declared.reports.PartReport.{PartReport}
use Rattle.conn.specs.declared.reports.PartEnd.{PartEnd}
use Rattle.conn.specs.declared.reports.PartEnd.TheVariants.{GateFault as PartFault}
use Rattle.cli_args.specs.Settings.{setting_value, texts, values_of}
use Rattle.cli_args.specs.ArgumentText.{AreValidFilms}
use Rattle.cli_args.specs.Invocations.{are_films, ServeArgs}
use Rattle.cli_args.proofs.FilmLemmas.{films_asked}
use Rattle.vod_base.specs.IoState.{File, HasRisen}
use Rattle.inputs.specs.ChunkScans.{HoldsVideo}
use Rattle.vod_base.specs.Gates.{Content}
use Rattle.vod_base.specs.declared.gates.Opening.{Opening}
use Rattle.slot_calendar.specs.declared.profiles.CapStep.{CapStep}
use Rattle.admission.specs.declared.entries.Entry.{Entry}
use Rattle.admission.specs.Books.{places_taken}
use Rattle.admission.specs.Histories.{IsLegal}
use Rattle.admission.specs.Makers.{entries_by}
use Rattle.station.specs.Seats.{StationState, SeatState, IsJournalOf}
use Rattle.cli_errors.specs.declared.errors.InputError.{InputError}
use Rattle.cli_errors.specs.declared.errors.CliError.{CliError}
use Rattle.cli_errors.specs.declared.errors.CliError.TheVariants.{Usage, Refused, StoreFault, SinkFault, NoMemory}
use Rattle.cli_errors.specs.declared.errors.CliError.TheVariants.{GateFault, LinkFault}
use Rattle.inputs.specs.LoadErrors.{IsServedFilmRefused}
use Rattle.vodserve.specs.IoStates.{IoState}
use Rattle.vodserve.specs.WorkerResults.{AreWorkerResults, AreLeft, AreLoaded, HasOne, IsWorkerResult, IsWorkersResult}
use Rattle.vodserve.specs.WorkerResults.{IsHeld, IsOpenAs, MayBeServed, ServerRun, opening_of}
use Rattle.vodserve.specs.Workers.{AreJoined, IsMakeWorkersError, report_of}
use Rattle.vodserve.specs.ServerOutput.{HasOnlyOpened, IsFilmError, IsFirstRefused, IsJournal, IsNewlyOpen}
use Rattle.vodserve.specs.ServerOutput.{IsServeError, IsWordNamed}
use Rattle.vodserve.specs.declared.workers.Worker.{Worker}
use Rattle.vodserve.proofs.WorkerLemmas.{HaveFinished, WorkersOf, all_worked}
use Rattle.vodserve.proofs.GateLemmas.{counted_parts, risen_since, risen_some}

contains_seam : (xs ys zs : List (List ℕ)) (y : List ℕ) → zs ≡ xs ++ y ∷ ys → Contains zs y
contains_seam xs ys zs y is = subst (λ (l : List (List ℕ)). Contains l y) (sym is)
    (length xs, omega (arith, length-append xs (y ∷ ys)), get_or-append_seam xs y ys y)

-- what a word and the words after it give
pub values_rest : (key : List ℕ) (words : List (String Global)) (i : ℕ) (word : String Global) → i < length words
    → word ≡ get_or words i word → values_of key (texts (drop i words))
    ≡ option_to_list (setting_value key (string_bytes word)) ++ values_of key (texts (drop (i + 1) words))
values_rest key words i word h at =
    ap (λ (ws : List (String Global)). values_of key (texts ws)) (drop-cons words i word h)
    ∙ ap (λ (w : String Global). option_to_list (setting_value key (string_bytes w))
    ++ values_of key (texts (drop (suc i) words))) (sym at)
    ∙ ap (λ (j : ℕ). option_to_list (setting_value key (string_bytes word))
    ++ values_of key (texts (drop j words))) (sym (add-one i))

-- a word at its place among these: it names a film, and the films of the words before it are known
pub record WordAt (words : List (String Global)) (so_far : List (List ℕ)) (name : List ℕ) : Type 0 where
  pub word : String Global
  pub place : ℕ
  pub inside : place < length words
  pub at : word ≡ get_or words place word
  pub whole : values_of (codes "film") (texts words) ≡ so_far ++ values_of (codes "film") (texts (drop place words))
  pub named : IsWordNamed (string_bytes word) name

-- the films of the words, at the film of a word
word_split : {words : List (String Global)} {so_far : List (List ℕ)} {name : List ℕ} (w : WordAt words so_far name)
    → values_of (codes "film") (texts words) ≡ so_far
    ++ name ∷ values_of (codes "film") (texts (drop (w.place + 1) words))
word_split {words} {so_far} w =
    w.whole ∙ ap (λ (vs : List (List ℕ)). so_far ++ vs)
    (values_rest (codes "film") words w.place w.word w.inside w.at
    ∙ ap (λ (o : Option (List ℕ)). option_to_list o
    ++ values_of (codes "film") (texts (drop (w.place + 1) words))) w.named)

-- the film of a word is one of the films
pub word_film : {words : List (String Global)} {so_far : List (List ℕ)} {name : List ℕ} → WordAt words so_far name
    → Contains (values_of (codes "film") (texts words)) name
word_film {words} {so_far} {name} w =
    contains_seam so_far (values_of (codes "film") (texts (drop (w.place + 1) words)))
    (values_of (codes "film") (texts words)) name (word_split w)

-- films that are held may be served
pub all_accepted : (told : Option (List File)) (held : List File) (films : List Stored) → told ≡ Some held
    → All (IsHeld told) films → All (MayBeServed held) (names_of films)
all_accepted told held films told_is all =
    All-map (MayBeServed held) (λ (film : Stored). string_bytes film.name) films
    (λ i d inside. (all i d inside held told_is).1)

-- a store that holds these files, in which a name's file is refused
pub record RefusedHeld (name : List ℕ) : Type 0 where
  pub told : Option (List File)
  pub held : List File
  pub fault : InputError
  pub tells : told ≡ Some held
  pub refused : IsServedFilmRefused held name fault

-- where a film of a word is refused, it is the first one
pub first_refused : {words : List (String Global)} {name : List ℕ} (refused : RefusedHeld name) (films : List Stored)
    → WordAt words (names_of films) name → All (IsHeld refused.told) films
    → IsFirstRefused (values_of (codes "film") (texts words)) refused.held name refused.fault
first_refused {words} {name} refused films w all = record {
  before = names_of films;
  rest = values_of (codes "film") (texts (drop (w.place + 1) words));
  names_are = word_split w;
  accepted = all_accepted refused.told refused.held films refused.tells all;
  refused = refused.refused;
}

-- films of names that may be served
pub films_are : (films : List Stored) (names : List (List ℕ)) → are_films names ≡ true → names ≡ names_of films →
    AreFilms films
films_are films names is named =
    let may : AreValidFilms (names_of films) =
    films_asked (names_of films) (subst (λ (ns : List (List ℕ)). are_films ns ≡ true) named is) in
    let long : length (names_of films) ≡ length films = length-map films (λ (film : Stored). string_bytes film.name) in
    record {
      few = omega (arith, may.few, long);
      good = λ i d inside. subst (λ (n : List ℕ). good_name n ≡ true)
          (get_or-map (λ (film : Stored). string_bytes film.name) films i d)
          (may.good i (string_bytes d.name) (omega (arith, inside, long)));
      differ = λ i j before inside. may.apart i j before (omega (arith, inside, long));
    }

-- a film that the library holds under its name, and that may be served
pub held_film : (told : Option (List File)) (film : Stored) (name : List ℕ) → string_bytes film.name ≡ name →
    ((held : List File) → told ≡ Some held → HoldsVideo held name film.film.bytes.items) →
    ((held : List File) → told ≡ Some held → MayBeServed held name) → IsHeld told film
held_film told film name named is may = λ held told_is. (
  subst (λ (n : List ℕ). HoldsVideo held n film.film.bytes.items) (sym named) (is held told_is),
  subst (MayBeServed held) (sym named) (may held told_is),
)

-- an error of reading stops a server before it opens the gate
pub read_serves : (serving : ServeArgs) (store store' : IoState (List File)) (gate : WorkerGate) (t : CliError) →
    IsFilmError serving store store' t → IsServeError serving store store' gate gate t
read_serves serving store store' gate Usage is = is
read_serves serving store store' gate (Refused name fault) is = (is, refl)
read_serves serving store store' gate (StoreFault name) is = (is, refl)
read_serves serving store store' gate SinkFault is = is
read_serves serving store store' gate NoMemory is = inl refl
read_serves serving store store' gate GateFault is = absurd is
read_serves serving store store' gate LinkFault is = absurd is

-- films that were loaded may be served
pub loaded_accepted : (serving : ServeArgs) (told : Option (List File)) (films : List Stored)
    → AreLoaded told serving.films films → (held : List File) → told ≡ Some held → All (MayBeServed held) serving.films
loaded_accepted serving told films loaded held is =
    subst (All (MayBeServed held)) loaded.names_are (all_accepted told held films is loaded.held)

-- a serving, with its library and its gate before and after
pub record ServingRun : Type 0 where
  pub serving : ServeArgs
  pub store : IoState (List File)
  pub store_after : IoState (List File)
  pub gate : WorkerGate
  pub gate_after : WorkerGate

-- what kept it from its work
abbrev pub Keeps : ServingRun → CliError → Type 0
Keeps served = IsServeError served.serving served.store served.store_after served.gate served.gate_after

-- and so does an error of making workers
pub make_serves : (served : ServingRun) (before : ℕ) (t : CliError)
    → IsMakeWorkersError before served.gate_after.faults t → served.gate.faults ≤ before
    → HasOnlyOpened served.serving served.store.told served.gate.told served.gate_after.told → Keeps served t
make_serves served before Usage is low opened = is
make_serves served before (Refused name fault) is low opened = absurd is
make_serves served before (StoreFault name) is low opened = absurd is
make_serves served before SinkFault is low opened = is
make_serves served before NoMemory is low opened = inr opened
make_serves served before GateFault is low opened = (λ end. omega (arith, is end, low), opened)
make_serves served before LinkFault is low opened = absurd is

pub newly_open_as : (how : Opening) (gate : Option Content) → IsNewlyOpen how gate → IsOpenAs how gate
newly_open_as how None is = tt
newly_open_as how (Some c) is = is.0

-- the workers of a hall that are joined, and the journal of their station
pub record JoinedWorkers (G : Type 0) (hall : StationState) : Type 0 where
  pub told : G → Option Content
  pub workers : List (Worker G)
  pub seat : SeatState
  pub gate : Option Content
  pub entries : List Entry
  pub back : AreJoined told hall (length workers) workers seat gate
  pub whole : IsJournalOf seat entries

-- a station that was closed, of the words' capacity, limit and number of workers
pub record IsClosedFor {G : Type 0} {hall : StationState} (serving : ServeArgs) (joined : JoinedWorkers G hall) : Type 0
  where
    pub steps : hall.steps ≡ serving.capacity
    pub few : places_taken joined.entries ≤ serving.journal
    pub count : length joined.workers ≡ serving.listening.workers

-- its journal
pub closed_journal : {G : Type 0} {hall : StationState} (serving : ServeArgs) (joined : JoinedWorkers G hall)
    → IsClosedFor serving joined → IsJournal serving joined.entries
closed_journal serving joined closed = record {
  legal = subst (λ (s : List CapStep). IsLegal s joined.entries) (joined.back.steps ∙ closed.steps) joined.whole.legal;
  few = closed.few;
  halts = joined.whole.halts;
  first = ap (λ (n : ℕ). entries_by n joined.entries) (sym joined.back.number) ∙ sym joined.whole.mine
      ∙ joined.back.mine;
  others = λ maker high. joined.whole.others maker (omega (arith, joined.back.splits, closed.count, high));
}

-- the workers that were made have finished, and are joined
pub record DoneWorkers (made : WorkersOf) (work : ServerRun) (workers : List (Worker made.G)) (seat : SeatState)
    (gate gate' : WorkerGate) : Type 0 where
  pub done : HaveFinished made.told made.faults made.hall work 0 workers
  pub joined : AreJoined made.told made.hall (length workers) workers seat gate'.told
  pub counted : All (λ worker. 0 < made.faults worker.part → HasRisen gate.faults gate'.faults) workers

-- what the workers of a closed station did
pub have_worked : {made : WorkersOf} {work : ServerRun} {workers : List (Worker made.G)} {seat : SeatState}
    {gate gate' : WorkerGate} {end : PartEnd} {reports : List ConnReport} →
    DoneWorkers made work workers seat gate gate' → IsJournalOf seat work.journal →
    length workers ≡ work.serving.listening.workers → IsOpenAs (opening_of work.serving) gate'.told →
    AreLeft (map report_of workers) end reports → IsWorkersResult work gate gate' end reports
have_worked {work} {workers} {seat} {gate'} all_done whole count open_as left =
    let MediaKind : Joined → Type 0 = λ joined. joined.mine ≡ entries_by joined.number work.journal in
    record {
      parts = map report_of workers;
      count = length-map workers report_of ∙ count;
      each = all_worked work workers done (record { back = joined.back; counted = counted }) (record {
        seen = seat.seen;
        front = joined.seen;
        whole = whole.seen;
        made = subst (All MediaKind) joined.joined whole.joined;
      });
      open_as = open_as;
      split = counted_parts (length workers)
          (length workers) work.serving.listening.workers gate'.told joined.out count;
      left = left;
    }
  where
    open all_done use {done, joined, counted}

-- what workers came to: their work, the gate before and after, and the ends of their parts
pub record WorkersRun : Type 0 where
  pub work : ServerRun
  pub gate : WorkerGate
  pub after : WorkerGate
  pub parts : List PartReport
  pub each : AreWorkerResults work gate after 0 parts

-- a gate, and before it one with an earlier count of faults
pub record Earlier : Type 0 where
  pub before : WorkerGate
  pub gate : WorkerGate
  pub low : before.faults ≤ gate.faults

-- the same from an earlier count of the gate's faults on
pub have_worked_since : {work : ServerRun} {gate' : WorkerGate} {end : PartEnd} {reports : List ConnReport}
    (earlier : Earlier) → IsWorkersResult work earlier.gate gate' end reports
    → IsWorkersResult work earlier.before gate' end reports
have_worked_since {work} {gate'} earlier worked =
    record {
      parts = worked.parts;
      count = worked.count;
      each = by-parts 0 worked.parts worked.each;
      open_as = worked.open_as;
      split = worked.split;
      left = worked.left;
    }
  where
    open earlier use {before, gate, low}

    by-parts : (from : ℕ) (parts : List PartReport) → AreWorkerResults work gate gate' from parts
        → AreWorkerResults work before gate' from parts
    by-parts from [] all = tt
    by-parts from (part ∷ parts) all = (
      record {
        seat = all.0.seat;
        left = all.0.left;
        part = all.0.part;
        after = all.0.after;
        served = all.0.served;
        terms = all.0.terms;
        mine = all.0.mine;
        untouched = all.0.untouched;
        seen = all.0.seen;
        made = all.0.made;
        back = all.0.back;
        counted = λ some. risen_since before.faults gate.faults gate'.faults (all.0.counted some) low;
      },
      by-parts (from + 1) parts all.1,
    )

-- the worker of a number, from 0 on
pub worker_worked : (w : WorkersRun) (worker : ℕ) (none : PartReport) → worker < length w.parts
    → IsWorkerResult w.work w.gate w.after worker (slice_index_or w.parts worker none)
worker_worked w worker none inside =
    subst (λ (n : ℕ). IsWorkerResult w.work w.gate w.after n (slice_index_or w.parts worker none)) (zero-add worker)
    (by-parts 0 w.parts w.each worker inside)
  where
    by-parts : (from : ℕ) (parts : List PartReport) → AreWorkerResults w.work w.gate w.after from parts → (k : ℕ)
        → k < length parts → IsWorkerResult w.work w.gate w.after (from + k) (slice_index_or parts k none)
    by-parts from [] all k inside = absurd (omega (arith, inside))
    by-parts from (part ∷ parts) all zero inside =
        subst (λ (n : ℕ). IsWorkerResult w.work w.gate w.after n part) (sym (add-zero from)) all.0
    by-parts from (part ∷ parts) all (suc k) inside =
        let on : from + 1 + k ≡ from + suc k = omega arith in
        subst (λ (n : ℕ). IsWorkerResult w.work w.gate w.after n (slice_index_or parts k none)) on
        (by-parts (from + 1) parts all.1 k (omega (arith, inside)))

-- a part that failed was counted
fault_counted : (w : WorkersRun) → HasOne PartFault w.parts → HasRisen w.gate.faults w.after.faults
fault_counted w one = by-first w.parts refl
  where
    by-first : (parts : List PartReport) → w.parts ≡ parts → HasRisen w.gate.faults w.after.faults
    by-first [] is = absurd (omega (arith, one.inside, ap (λ (ps : List PartReport). length ps) is))
    by-first (part ∷ parts) is =
        let worked = worker_worked w one.worker part one.inside in
        worked.counted (risen_some 0 worked.after.faults (worked.served.fault (one.ended part)))

pub fault_risen : {work : ServerRun} {gate gate' : WorkerGate} {end : PartEnd} {reports : List ConnReport}
    → IsWorkersResult work gate gate' end reports → end ≡ PartFault → HasRisen gate.faults gate'.faults
fault_risen {work} {gate} {gate'} worked is =
    fault_counted (record { work = work; gate = gate; after = gate'; parts = worked.parts; each = worked.each })
    (worked.left.failed is)
