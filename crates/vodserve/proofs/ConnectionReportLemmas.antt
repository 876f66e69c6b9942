-- Each connection of a server, and what its report says about the journal.
use Rattle.std.proofs.Common.{◌≡◌, ◌≢◌, ◌∙◌, ◌+◌, ◌<◌, ℕ, List, [], ◌∷◌, ◌++◌, length, Option, Some, None, inl, inr}
use Rattle.std.proofs.Common.{sym, ap, subst, refl, suc, zero, arith, get_or}
use Rattle.std.specs.Prelude.{All, IfSome, map, slice_index_or}
use mathlib.Core.List.{IsPrefix}
use Rattle.std.proofs.lemmas.List.Elements.{All-append, All-cons, All-head, All-map, All-nil, All-tail}
use Rattle.vod_base.specs.Gates.{Content, Part, ReturnedConn}
use Rattle.admission.specs.declared.entries.Entry.{Entry}
use Rattle.admission.specs.Histories.{IsLegal}
use Rattle.admission.specs.Makers.{PlacedEntry, entries_by}
use Rattle.session_records.specs.declared.notes.Receipt.{Receipt}
use Rattle.session_records.specs.declared.notes.Receipt.TheVariants.{Entry as EntryReceipt, Full as FullReceipt}
use Rattle.station.specs.Seats.{SeatState}
use Rattle.station.proofs.Makers.{IsAt, all_at}
use Rattle.turnstile.proofs.Prefixes.{prefix_self, prefix_trans}
use Rattle.conn.specs.Agreement.{Agrees, Visit, visit}
use Rattle.conn.specs.Journals.{terms_of}
use Rattle.conn.specs.ReservationInvariant.{Closed, entry_receipts, open_play_from, receipt_for}
use Rattle.conn.specs.Parts.{AreServed, AreReported, HasServed, HasServedOne, WorkerGate, entries_reported}
use Rattle.conn.specs.declared.reports.ConnReport.{ConnReport}
use Rattle.conn.specs.declared.reports.PartEnd.{PartEnd}
use Rattle.conn.specs.declared.reports.PartEnd.TheVariants.{NoMemory as PartNoMemory}
use Rattle.conn.specs.declared.reports.PartReport.{PartReport}
use Rattle.conn.proofs.Journals.{terms_same}
use Rattle.conn.proofs.Visits.{InsideBack, ServedPart, agrees_longer, one_agrees}
use Rattle.vodserve.specs.Laws.{IsConnectionCorrect, IsReceiptIn, IsReportIn, IsServedPart, EveryConnectionIsCorrect}
use Rattle.vodserve.specs.Laws.{ReportsMatchJournal}
use Rattle.vodserve.specs.WorkerResults.{AreLeft, AreWorkerResults, IsWorkerResult, IsOpenedOnce, ServerRun}
use Rattle.vodserve.specs.WorkerResults.{all_reports, settings_of}
use Rattle.vodserve.proofs.FilmLoadLemmas.{worker_worked}
use Rattle.vodserve.proofs.ServeSpecLemmas.{HasRunAll, WorkerRun, back_of, ended_whole, given_back, run_all, work_of}
use Rattle.vodserve.proofs.ServeSpecLemmas.{workers_of}

all_left : {A : Type 0} (P : A → Type 0) (xs ys : List A) → All P (xs ++ ys) → All P xs
all_left P [] ys all = All-nil P
all_left P (x ∷ xs) ys all =
    All-cons P x xs (All-head P x (xs ++ ys) all) (all_left P xs ys (All-tail P x (xs ++ ys) all))

all_right : {A : Type 0} (P : A → Type 0) (xs ys : List A) → All P (xs ++ ys) → All P ys
all_right P [] ys all = all
all_right P (x ∷ xs) ys all = all_right P xs ys (All-tail P x (xs ++ ys) all)

-- ---- receipts

-- what is true of the receipts of entries is true of all, where it says nothing of the others
all_receipts : (journal : List Entry) (seat : ℕ) (receipts : List Receipt)
    → All (IsReceiptIn journal seat) (entry_receipts receipts) → All (IsReceiptIn journal seat) receipts
all_receipts journal seat [] all = all
all_receipts journal seat (EntryReceipt place answer ∷ rest) all =
    All-cons (IsReceiptIn journal seat) (EntryReceipt place answer) rest
    (All-head (IsReceiptIn journal seat) (EntryReceipt place answer) (entry_receipts rest) all)
    (all_receipts journal seat rest
    (All-tail (IsReceiptIn journal seat) (EntryReceipt place answer) (entry_receipts rest) all))
all_receipts journal seat (FullReceipt entries live ∷ rest) all =
    All-cons (IsReceiptIn journal seat) (FullReceipt entries live) rest tt (all_receipts journal seat rest all)

-- the receipt for an entry of a seat records that entry
receipt_in : (journal : List Entry) (seat : ℕ) (placed : PlacedEntry)
    → ((none : Entry) → IsAt 0 seat none journal placed) → IsReceiptIn journal seat (receipt_for placed)
receipt_in journal seat placed at =
    let here : IsAt 0 seat placed.entry journal placed = at placed.entry in (
      omega (arith, here.place_is, here.inside),
      λ none.
          let own : IsAt 0 seat none journal placed = at none in
          let place : placed.place ≡ own.at = omega (arith, own.place_is) in (
            ap (λ (k : ℕ). (get_or journal k none).maker) place ∙ own.maker_is,
            ap (λ (k : ℕ). (get_or journal k none).answer) place ∙ ap (λ (e : Entry). e.answer) (sym own.entry_is),
          ),
    )

made_receipts : (journal : List Entry) (seat : ℕ) →
    All (IsReceiptIn journal seat) (map receipt_for (entries_by seat journal))
made_receipts journal seat =
    All-map (IsReceiptIn journal seat) receipt_for (entries_by seat journal)
    (λ i d inside. receipt_in journal seat (slice_index_or (entries_by seat journal) i d)
    (λ none. all_at 0 seat none journal i d inside))

-- all receipts of reports
told_receipts : (journal : List Entry) (seat : ℕ) (reports : List ConnReport) →
    All (IsReceiptIn journal seat) (entries_reported reports) →
    All (λ (report : ConnReport). All (IsReceiptIn journal seat) report.receipts.items) reports
told_receipts journal seat [] all =
    All-nil (λ (report : ConnReport). All (IsReceiptIn journal seat) report.receipts.items)
told_receipts journal seat (report ∷ reports) all =
    let own : List Receipt = entry_receipts report.receipts.items in
    All-cons (λ (r : ConnReport). All (IsReceiptIn journal seat) r.receipts.items) report reports
    (all_receipts journal seat report.receipts.items
    (all_left (IsReceiptIn journal seat) own (entries_reported reports) all))
    (told_receipts journal seat reports (all_right (IsReceiptIn journal seat) own (entries_reported reports) all))

-- all that a worker's seat made was made by its connections
made_all : {work : ServerRun} {worker : ℕ} {gate gate' : WorkerGate} {report : PartReport}
    (worked : IsWorkerResult work gate gate' worker report) →
    worked.served.entries.made ≡ entries_by (worker + 1) work.journal
made_all worked =
    ap (λ (m : List PlacedEntry). m ++ worked.served.entries.made) (sym worked.mine) ∙ sym worked.served.entries.mine_is
    ∙ worked.made

-- the reports of a worker
part_told : {work : ServerRun} {worker : ℕ} {gate gate' : WorkerGate} {report : PartReport} →
    IsWorkerResult work gate gate' worker report → All (IsReportIn work.journal) report.reports.items
part_told {work} {worker = k} {report} worked =
    let journal = work.journal in
    let reports = report.reports.items in
    let entries : HasServed worked.seat.mine reports worked.left.mine = worked.served.entries in
    let made : entries.made ≡ entries_by (k + 1) journal = made_all worked in
    let receipts : All (IsReceiptIn journal (k + 1)) (entries_reported reports) =
    subst (All (IsReceiptIn journal (k + 1))) (ap (map receipt_for) (sym made) ∙ sym entries.receipts_are)
    (made_receipts journal (k + 1)) in
    let all = told_receipts journal (k + 1) reports receipts in
    λ i none inside.
    subst (λ (n : ℕ). All (IsReceiptIn journal (n + 1)) (slice_index_or reports i none).receipts.items)
    (sym (worked.served.reports.worker_is i none inside)) (all i none inside)

parts_told : (work : ServerRun) (gate gate' : WorkerGate) (from : ℕ) (parts : List PartReport) →
    AreWorkerResults work gate gate' from parts → All (IsReportIn work.journal) (all_reports parts)
parts_told work gate gate' from [] all = All-nil (IsReportIn work.journal)
parts_told work gate gate' from (part ∷ parts) all =
    All-append (IsReportIn work.journal) part.reports.items (all_reports parts) (part_told all.0)
    (parts_told work gate gate' (from + 1) parts all.1)

-- the reports are those of the workers, where none lacked memory
reports_whole : {parts : List PartReport} {end : PartEnd} {reports : List ConnReport} → AreLeft parts end reports
    → end ≢ PartNoMemory → reports ≡ all_reports parts
reports_whole left found = elim left.whole [
  | inl memory ↦ absurd (found memory)
  | inr whole ↦ whole
]

pub tells_its_journal : ReportsMatchJournal
tells_its_journal before after seed serving ended (inl kept) status =
    subst (All (IsReportIn ended.journal.items)) (sym kept.1.2.1) (All-nil (IsReportIn ended.journal.items))
tells_its_journal before after seed serving ended (inr served) status =
    subst (All (IsReportIn ended.journal.items))
    (sym (reports_whole served.worked.left
    (ended_whole (record { before = before; after = after }) _ served.ends status)))
    (parts_told (work_of served) before.gate _ 0 served.worked.parts served.worked.each)

-- ---- connections

-- a connection adds to what its seat made and to what it has seen, under the same terms
pub record GoesOn (old new : SeatState) : Type 0 where
  pub terms : terms_of new ≡ terms_of old
  pub mine : IsPrefix old.mine new.mine
  pub seen : IsPrefix old.seen new.seen

same_on : (old new : SeatState) → new ≡ old → GoesOn old new
same_on old new same =
    subst (GoesOn old) (sym same) (record { terms = refl; mine = prefix_self old.mine; seen = prefix_self old.seen })

one_on : {old new : SeatState} (visit : Visit)
    → HasServedOne visit.films visit.settings visit.returned visit.report old new → GoesOn old new
one_on {old} {new} visit one = elim one.served [
  | inl from ↦ record {
    terms = terms_same from.ended.seat new from.closes.noted.seat
        ∙ terms_same old from.ended.seat from.course.noted.seat;
    mine = prefix_trans old.mine from.ended.seat.mine new.mine (_, sym from.course.noted.mine)
        (_, sym from.closes.noted.mine);
    seen = prefix_trans old.seen from.ended.seat.seen new.seen from.course.noted.seat.longer
        from.closes.noted.seat.longer;
  }
  | inr nothing ↦ same_on old new nothing.seat
]

-- one of the connections that came back, with the report at its place, from a seat on
record IsOne (p : ServedPart) (first : SeatState) (returned : ReturnedConn) (report : ConnReport) : Type 0 where
  old : SeatState
  new : SeatState
  terms : terms_of new ≡ terms_of first
  served : HasServedOne p.films p.settings returned report old new
  on : GoesOn new p.new

all_on : {old : SeatState} (p : ServedPart) (back : List ReturnedConn) (reports : List ConnReport)
    → AreServed p.films p.settings old back reports p.new → GoesOn old p.new
all_on {old} p [] [] served = same_on old p.new served
all_on p [] (report ∷ reports) served = absurd served
all_on p (returned ∷ back) [] served = absurd served
all_on {old} p (returned ∷ back) (report ∷ reports) served =
    let one = one_on (visit p.films p.settings returned report) served.1.0 in
    let rest = all_on {old = served.0} p back reports served.1.1 in
    record {
      terms = rest.terms ∙ one.terms;
      mine = prefix_trans old.mine served.0.mine p.new.mine one.mine rest.mine;
      seen = prefix_trans old.seen served.0.seen p.new.seen one.seen rest.seen;
    }

one_at : (p : ServedPart) (k : ℕ) (here : InsideBack p.back k)
    → IsOne p p.old (slice_index_or p.back k here.none) (slice_index_or p.reports k here.no_report)
one_at p place at = by-lists p.back p.reports p.served place at
  where
    open p use {films, settings, new}

    by-lists : (back : List ReturnedConn) (reports : List ConnReport) {old : SeatState}
        → AreServed films settings old back reports new → (k : ℕ) (here : InsideBack back k)
        → IsOne p old (slice_index_or back k here.none) (slice_index_or reports k here.no_report)
    by-lists [] reports served k here = absurd (omega (arith, here.inside))
    by-lists (returned ∷ back) [] served k here = absurd served
    by-lists (returned ∷ back) (report ∷ reports) {old} served zero here = record {
      old = old;
      new = served.0;
      terms = (one_on (visit films settings returned report) served.1.0).terms;
      served = served.1.0;
      on = all_on p back reports served.1.1;
    }
    by-lists (returned ∷ back) (report ∷ reports) served (suc k) here =
        let rest = by-lists back reports served.1.1 k
        (record { none = here.none; no_report = here.no_report; inside = omega (arith, here.inside) }) in
        record {
          old = rest.old;
          new = rest.new;
          terms = rest.terms ∙ (one_on (visit films settings returned report) served.1.0).terms;
          served = rest.served;
          on = rest.on;
        }

-- the connections of a worker's part
part_of : {gate after : WorkerGate} (r : WorkerRun gate after) → AreServed r.work.films (settings_of r.work.serving)
    r.worked.seat (back_of r).0.own.back r.report.reports.items r.worked.left
part_of r =
    subst (λ (t : Option Content). AreReported r.work.films (settings_of r.work.serving) t r.report.reports.items
    r.worked.seat r.worked.left) (back_of r).1.0 r.worked.served.connections

abbrev served_part : {gate after : WorkerGate} → WorkerRun gate after → ServedPart
served_part r = record {
  films = r.work.films;
  settings = settings_of r.work.serving;
  old = r.worked.seat;
  new = r.worked.left;
  back = (back_of r).0.own.back;
  reports = r.report.reports.items;
  served = part_of r;
}

-- as many as its reports
part_long : {gate after : WorkerGate} (r : WorkerRun gate after)
    → length (back_of r).0.own.back ≡ length r.report.reports.items
part_long r =
    (given_back r.worked.part (back_of r).0 r.worked.after.told (length r.report.reports.items) r.worked.served.served
    (back_of r).1.0).1

-- each of them is correct, as the report at its place says
connection_correct : {gate after : WorkerGate} (r : WorkerRun gate after)
    → IsLegal r.work.serving.capacity r.work.journal
    → (k : ℕ) (here : InsideBack (served_part r).back k) → IsConnectionCorrect r.work r.worker k
    (slice_index_or (served_part r).back k here.none) (slice_index_or r.report.reports.items k here.no_report)
connection_correct r legal k here =
    let p = served_part r in
    let one = one_at p k here in
    let v : Visit = visit p.films p.settings (slice_index_or p.back k here.none)
    (slice_index_or p.reports k here.no_report) in
    let inside : k < length p.reports = omega (arith, here.inside, part_long r) in
    let seen = prefix_trans one.new.seen worked.left.seen work.journal one.on.seen worked.seen in
    record {
      worker_is = worked.served.reports.worker_is k here.no_report inside;
      words_are = worked.served.reports.words_are k here.no_report inside;
      old = one.old;
      new = one.new;
      served = one.served;
      terms = one.terms ∙ worked.terms;
      entries = subst (λ (m : List PlacedEntry). IsPrefix one.new.mine m) worked.made one.on.mine;
      seen = seen;
      agrees = λ told tells found.
          agrees_longer
          (subst (λ t. Agrees v t one.new.seen) (one.terms ∙ worked.terms) (one_agrees v one.served told tells found))
          seen legal;
    }
  where
    open r use {work, worked}

part_served : {gate after : WorkerGate} (r : WorkerRun gate after) → IsLegal r.work.serving.capacity r.work.journal
    → (part : Part) × ((slice_index_or r.content.parts r.worker None ≡ Some part)
    × IsServedPart r.work r.worker part r.report.reports.items)
part_served r legal = (
  (back_of r).0.own,
  (
    (back_of r).1.1,
    record {
      count = sym (part_long r);
      each = λ k none no_report inside.
          connection_correct r legal k (record { none = none; no_report = no_report; inside = inside });
      entries = r.worked.served.entries.receipts_are ∙ ap (map receipt_for) (made_all r.worked);
      halts = ap (open_play_from Closed) (sym (made_all r.worked)) ∙ r.worked.served.entries.open_is;
    },
  ),
)

pub serves_each : EveryConnectionIsCorrect
serves_each before after seed serving ended gate serves told have_run =
    let run : HasRunAll before after seed serving ended = run_all serves told have_run in
    let worked = run.served.worked in
    record {
      films = run.served.films;
      loaded = run.served.loaded;
      journal = run.served.journal;
      once = subst (λ (g : Option Content). IfSome g (IsOpenedOnce before.gate.told)) told run.served.once;
      parts = worked.parts;
      count = worked.count;
      reports = reports_whole worked.left run.found;
      each = λ worker none inside.
          part_served (record {
            work = _;
            worker = worker;
            report = _;
            worked = worker_worked (workers_of run.served) worker none (omega (arith, inside, worked.count));
            content = gate;
            tells = told;
          }) run.served.journal.legal;
    }
