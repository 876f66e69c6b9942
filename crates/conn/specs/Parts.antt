-- What a worker does with its part of a gate: one report for each connection that was given, each
-- given back.
use Rattle.std.specs.Prelude.{◌≡◌, ℕ, ◌<◌, ◌≤◌, List, [], ◌∷◌, ◌++◌, length, map, slice_index_or}
use Rattle.std.specs.Prelude.{Option, Some, None, IfSome, ⊤}
use Rattle.vod_base.specs.IoState.{HasRisen}
use Rattle.vod_base.specs.Gates.{Content, ReturnedConn, NoMore, Failed}
use Rattle.vod_base.specs.Links.{IoEvent}
use Rattle.admission.specs.Makers.{PlacedEntry}
use Rattle.film_frames.specs.declared.stored_films.Stored.{Stored}
use Rattle.session_records.specs.declared.notes.Receipt.{Receipt}
use Rattle.film_streams.specs.declared.settings.Settings.{Settings}
use Rattle.session.specs.RequestSteps.{new_session_state}
use Rattle.station.specs.Seats.{SeatState, IsSameSeat}
use Rattle.conn.specs.declared.reports.ConnReport.{ConnReport}
use Rattle.conn.specs.declared.reports.PartReport.{PartReport}
use Rattle.conn.specs.declared.reports.PartEnd.TheVariants.{AllTaken, GateFault}
use Rattle.conn.specs.ReservationInvariant.{Closed, HasAdvanced, at_rest, open_play_from}
use Rattle.conn.specs.ReservationInvariant.{entry_receipts, receipt_for}
use Rattle.conn.specs.declared.reports.ConnEnd.TheVariants.{LinkFault}
use Rattle.conn.specs.Guarantees.{MeetsGuarantee}
use Rattle.conn.specs.ConnectionService.{ConnectionSpec}
use Rattle.conn.specs.Words.{words_of}

-- a part that no connection was taken of
pub record IsUntouched (part : Content) : Type 0 where
  pub given : part.own.given ≡ 0
  pub back : part.own.back ≡ []

-- so many connections were given and came back; else the part is as it was
pub record Served (old new : Content) (count : ℕ) : Type 0 where
  pub openings : new.openings ≡ old.openings
  pub opening : new.opening ≡ old.opening
  pub parts : new.parts ≡ old.parts
  pub number : new.own.number ≡ old.own.number
  pub given : new.own.given ≡ count
  pub back : length new.own.back ≡ count

-- the same of what is exposed of the part
abbrev pub IsServed : Option Content → Option Content → ℕ → Type 0
IsServed None new count = new ≡ None
IsServed (Some old) None count = ⊥
IsServed (Some old) (Some new) count = Served old new count

-- each report has the worker's number and the random words of its connection
pub record AreOf (seed : List ℕ) (worker : ℕ) (reports : List ConnReport) : Type 0 where
  pub worker_is : (k : ℕ) (none : ConnReport) → k < length reports →
      (slice_index_or reports k none).worker ≡ worker
  pub words_are : (k : ℕ) (none : ConnReport) → k < length reports →
      (slice_index_or reports k none).words ≡ words_of seed worker k

-- the entry receipts of all reports, in order
abbrev pub entries_reported : List ConnReport → List Receipt
entries_reported [] = []
entries_reported (report ∷ reports) = entry_receipts report.receipts.items ++ entries_reported
    reports

-- the entries that the seat made are those that the reports list, in order, and each admission is
-- followed by its halt
pub record HasServed (mine : List PlacedEntry) (reports : List ConnReport) (new : List PlacedEntry)
    : Type 0 where
  pub made : List PlacedEntry
  pub mine_is : new ≡ mine ++ made
  pub receipts_are : entries_reported reports ≡ map receipt_for made
  pub open_is : open_play_from Closed made ≡ Closed

-- before its first event a connection did nothing, where it exposes what it does
abbrev pub fresh_history : Option (List IoEvent) → Option (List IoEvent)
fresh_history None = None
fresh_history (Some told) = Some []

-- a connection that came back, and its report: what it exposes is its course, in which it keeps
-- what it promises; each play that was admitted is halted once, and the report lists the entries;
-- and it failed only where its count rose
pub record HasServedOne (films : List Stored) (settings : Settings) (returned : ReturnedConn)
    (report : ConnReport) (old new : SeatState) : Type 0 where
  pub served : ConnectionSpec (new_session_state films settings report.words)
      (fresh_history returned.told) returned.told old new report
  pub keeps : MeetsGuarantee (new_session_state films settings report.words)
      (fresh_history returned.told) returned.told old new report
  pub entries : HasAdvanced (at_rest old.mine []) (at_rest new.mine report.receipts.items)
  pub fault : report.end ≡ LinkFault → HasRisen 0 returned.faults

-- connections that came back, and their reports, one after another: each with its own
abbrev pub AreServed : List Stored → Settings → SeatState → List ReturnedConn → List ConnReport →
    SeatState → Type 0
AreServed films settings old [] [] new = new ≡ old
AreServed films settings old [] (report ∷ reports) new = ⊥
AreServed films settings old (returned ∷ back) [] new = ⊥
AreServed films settings old (returned ∷ back) (report ∷ reports) new =
    (mid : SeatState) × (HasServedOne films settings returned report old mid
    × AreServed films settings mid back reports new)

-- the same of what is exposed of the part
abbrev pub AreReported : List Stored → Settings → Option Content → List ConnReport →
    SeatState → SeatState → Type 0
AreReported films settings None reports old new = ⊤
AreReported films settings (Some content) reports old new =
    AreServed films settings old content.own.back reports new

-- a part of a gate: its count of faults, and what it exposes
pub record WorkerGate : Type 0 where
  pub faults : ℕ
  pub told : Option Content

abbrev pub worker_gate : ℕ → Option Content → WorkerGate
worker_gate faults told = record { faults = faults; told = told }

-- what a worker is given to serve with: the films, their settings, the seed of all words, and its
-- own number
pub record WorkerInput : Type 0 where
  pub films : List Stored
  pub settings : Settings
  pub seed : List ℕ
  pub worker : ℕ

abbrev pub worker_input : List Stored → Settings → List ℕ → ℕ → WorkerInput
worker_input films settings seed worker =
    record { films = films; settings = settings; seed = seed; worker = worker }

-- all that a worker's part of a gate brings: what it leaves of the seat and of the part, and its
-- report
pub record WorkerSpec (worker_input : WorkerInput) (old_seat new_seat : SeatState)
    (old new : WorkerGate) (result : PartReport) : Type 0 where
  pub seat : IsSameSeat old_seat new_seat
  pub entries : HasServed old_seat.mine result.reports.items new_seat.mine
  pub reports : AreOf worker_input.seed worker_input.worker result.reports.items
  pub served : IsServed old.told new.told (length result.reports.items)
  pub connections : AreReported worker_input.films worker_input.settings new.told
      result.reports.items old_seat new_seat
  -- a part failed only where its count rose; the history exposes the last take
  pub count : old.faults ≤ new.faults
  pub all : result.end ≡ AllTaken → IfSome new.told (λ c. c.own.last ≡ NoMore)
  pub fault : result.end ≡ GateFault → HasRisen old.faults new.faults
  pub failed : result.end ≡ GateFault → IfSome new.told (λ c. c.own.last ≡ Failed)
