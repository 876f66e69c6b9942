-- What a worker has served of its part of a gate so far, and how the part ends.
use Rattle.std.proofs.lemmas.Grind.{common_steps}
use Rattle.std.proofs.Common.{◌≡◌, ℕ, ◌+◌, ◌<◌, ◌≤◌, List, [], ◌∷◌, ◌++◌, length, get_or, Option, Some, None}
use Rattle.std.proofs.Common.{option_map, refl, sym, subst, arith, inl, inr}
use Rattle.std.specs.Prelude.{IfSome}
use Rattle.std.proofs.lemmas.List.{length-append, get_or_append_left}
use Rattle.std.proofs.lemmas.Bool.{cases_lt}
use Rattle.vod_base.specs.Gates.{Content, ReturnedConn, HasConnOut, after_take, after_return}
use Rattle.vod_base.specs.Links.{IoEvent, told_more}
use Rattle.vod_base.specs.IoState.{HasRisen}
use Rattle.film_frames.specs.declared.stored_films.Stored.{Stored}
use Rattle.film_streams.specs.declared.settings.Settings.{Settings}
use Rattle.session_records.specs.declared.notes.Receipt.{Receipt}
use Rattle.session.specs.RequestSteps.{new_session_state}
use Rattle.station.specs.Seats.{IsSameSeat, SeatState}
use Rattle.station.proofs.SameSeats.{seat_on}
use Rattle.conn.specs.declared.reports.ConnReport.{ConnReport}
use Rattle.conn.specs.declared.reports.ConnEnd.TheVariants.{LinkFault}
use Rattle.conn.specs.Guarantees.{MeetsGuarantee}
use Rattle.conn.specs.ConnectionService.{ConnectionSpec}
use Rattle.conn.specs.ReservationInvariant.{ReservationState, HasAdvanced, at_rest, entry_receipts}
use Rattle.conn.specs.Parts.{AreOf, AreReported, AreServed, HasServed, HasServedOne, IsServed, IsUntouched, WorkerGate}
use Rattle.conn.specs.Parts.{WorkerInput, entries_reported, fresh_history}
use Rattle.conn.specs.Words.{words_of}
use Rattle.conn.proofs.JoinedLists.{joined-append}

-- ---- the entries that a seat made, and the reports that list them

-- a connection with no booking open and nothing noted, and what it noted by the time that none is
-- open again
pub record RestedBusiness (old new : ReservationState) (lists : List Receipt) : Type 0 where
  pub closed : old.booking ≡ None
  pub none : old.receipts ≡ []
  pub open_none : new.booking ≡ None
  pub same : lists ≡ new.receipts

-- a connection from beginning to end: no booking is open before and after
pub gone_whole : {old new : ReservationState} {lists : List Receipt} → RestedBusiness old new lists →
    HasAdvanced old new → HasAdvanced (at_rest old.mine []) (at_rest new.mine lists)
gone_whole rested gone = grind arith

entries_reported-append : (xs ys : List ConnReport)
    → entries_reported (xs ++ ys) ≡ entries_reported xs ++ entries_reported ys
entries_reported-append = joined-append (λ r. entry_receipts r.receipts.items) entries_reported refl (λ x xs. refl)

-- ---- what the part of the gate exposes

-- a connection was taken from a part of the gate, and given back to it
pub record TakenBack (before new : Option Content) (returned : ReturnedConn) : Type 0 where
  pub taken : Option Content
  pub takes : taken ≡ option_map after_take before
  pub returns : new ≡ option_map (after_return returned) taken

pub served_out : (old mid new : Option Content) (count : ℕ) → IsServed old mid count
    → new ≡ option_map after_take mid → IfSome new HasConnOut
served_out old mid new count given given' = grind arith

-- ---- the connections

-- how a connection was served: its films, settings and words, its link as it was given and as it is
-- given back, the seat before and after, the report, and what is true of them
pub record Service : Type 0 where
  pub films : List Stored
  pub settings : Settings
  pub words : List ℕ
  pub given : ReturnedConn
  pub returned : ReturnedConn
  pub seat : SeatState
  pub next : SeatState
  pub report : ConnReport
  pub fresh : (given.faults ≡ 0) × IfSome given.told (λ told. told ≡ [])
  pub words_are : report.words ≡ words
  pub served : ConnectionSpec (new_session_state films settings words) given.told returned.told seat next report
  pub keeps : MeetsGuarantee (new_session_state films settings words) given.told returned.told seat next report
  pub entries : HasAdvanced (at_rest seat.mine []) (at_rest next.mine report.receipts.items)
  pub fault : report.end ≡ LinkFault → HasRisen given.faults returned.faults

pub served_fresh : (s : Service) → HasServedOne s.films s.settings s.returned s.report s.seat s.next
served_fresh s =
    let more : (doings : List IoEvent) × (s.returned.told ≡ told_more s.given.told doings) = grind arith in
    let is : s.given.told ≡ fresh_history s.returned.told = grind (arith, more) in
    record {
      served = grind arith;
      keeps = grind arith;
      entries = s.entries;
      fault = λ is. subst (λ n. HasRisen n s.returned.faults) s.fresh.0 (s.fault is);
    }

-- where a worker stands between two connections: its seat, its part of the gate, and its reports
pub record WorkerState : Type 0 where
  pub seat : SeatState
  pub gate : WorkerGate
  pub reports : List ConnReport

abbrev pub worker_state : SeatState → ℕ → Option Content → List ConnReport → WorkerState
worker_state seat faults told reports =
    record { seat = seat; gate = record { faults = faults; told = told }; reports = reports }

-- each connection that was given came back, and has its report
pub record HasServedSoFar (input : WorkerInput) (old new : WorkerState) : Type 0 where
  pub seat : IsSameSeat old.seat new.seat
  pub entries : HasServed old.seat.mine new.reports new.seat.mine
  pub each : AreOf input.seed input.worker new.reports
  pub served : IsServed old.gate.told new.gate.told (length new.reports)
  pub connections : AreReported input.films input.settings new.gate.told new.reports old.seat new.seat
  pub count : old.gate.faults ≤ new.gate.faults

pub none_served : (input : WorkerInput) (start : WorkerState) → IfSome start.gate.told IsUntouched
    → start.reports ≡ [] → HasServedSoFar input start start
none_served input start untouched none = grind (arith, common_steps)

-- one more connection: it was given, served, and came back
pub record IsOneMore (input : WorkerInput) (mid new : WorkerState) : Type 0 where
  pub report : ConnReport
  pub returned : ReturnedConn
  pub reports_are : new.reports ≡ mid.reports ++ report ∷ []
  pub seat : IsSameSeat mid.seat new.seat
  pub entries : HasAdvanced (at_rest mid.seat.mine []) (at_rest new.seat.mine report.receipts.items)
  pub worker : report.worker ≡ input.worker
  pub words : report.words ≡ words_of input.seed input.worker (length mid.reports)
  pub one : HasServedOne input.films input.settings returned report mid.seat new.seat
  pub back : TakenBack mid.gate.told new.gate.told returned
  pub count : mid.gate.faults ≤ new.gate.faults

-- the entries of its seat then
entries_more : {input : WorkerInput} {old mid new : WorkerState} → HasServedSoFar input old mid
    → (more : IsOneMore input mid new) → HasServed old.seat.mine (mid.reports ++ more.report ∷ []) new.seat.mine
entries_more {old = old} {mid} front more = grind
    (arith, common_steps, entries_reported-append mid.reports (more.report ∷ []))

-- something is true of each report, at its place
abbrev OfReports : (ConnReport → ℕ → Type 0) → List ConnReport → Type 0
OfReports P reports = (k : ℕ) (none : ConnReport) → k < length reports → P (get_or reports k none) k

-- and of one more
at_end : (P : ConnReport → ℕ → Type 0) (reports : List ConnReport) (report : ConnReport) → OfReports P reports
    → P report (length reports) → OfReports P (reports ++ report ∷ [])
at_end P reports report each last = λ k none within.
    elim (cases_lt k (length reports)) [
      | inl before ↦ search get_or_append_left
      | inr after ↦ grind (arith, common_steps)
    ]

-- the connections that came back then
connections_more : {input : WorkerInput} {mid new : WorkerState} (more : IsOneMore input mid new) (old : SeatState)
    (told : Option Content) → AreReported input.films input.settings told mid.reports old mid.seat
    → AreReported input.films input.settings (option_map (after_return more.returned) (option_map after_take told))
    (mid.reports ++ more.report ∷ []) old new.seat
connections_more more old None are = tt
connections_more {input} {mid} {new} more old (Some told) are = by-lists old told.own.back mid.reports are
  where
    by-lists : (old : SeatState) (back : List ReturnedConn) (xs : List ConnReport)
        → AreServed input.films input.settings old back xs mid.seat
        → AreServed input.films input.settings old (back ++ more.returned ∷ []) (xs ++ more.report ∷ []) new.seat
    by-lists old [] [] are = search arith
    by-lists old [] (r ∷ xs) are = absurd are
    by-lists old (b ∷ back) [] are = absurd are
    by-lists old (b ∷ back) (r ∷ xs) are = (are.0, (are.1.0, by-lists are.0 back xs are.1.1))

pub one_served : {input : WorkerInput} {old mid new : WorkerState} → HasServedSoFar input old mid
    → IsOneMore input mid new → HasServedSoFar input old new
one_served {input} {old} {mid} {new} front more =
    let report = more.report in
    let reports : List ConnReport = mid.reports ++ report ∷ [] in
    subst (λ rs. HasServedSoFar input old (record new { reports = rs })) (sym more.reports_are) (record {
      seat = seat_on old.seat mid.seat new.seat front.seat more.seat;
      entries = entries_more front more;
      each = record {
        worker_is = at_end (λ r k. r.worker ≡ input.worker) mid.reports report front.each.worker_is more.worker;
        words_are = at_end (λ r k. r.words ≡ words_of input.seed input.worker k) mid.reports report
            front.each.words_are more.words;
      };
      served = search (arith, length-append);
      connections = rw (more.back.returns, more.back.takes)
          (connections_more more old.seat mid.gate.told front.connections);
      count = omega (arith, front.count, more.count);
    })
