-- A connection from its first event to its report.
use Rattle.std.specs.Prelude.{◌≡◌, ◌⊎◌, List, [], ◌∷◌, Option}
use Rattle.vod_base.specs.Links.{IoEvent}
use Rattle.station.specs.Seats.{SeatState}
use Rattle.session.specs.SessionStates.{SessionState, open_of}
use Rattle.conn.specs.InputSteps.{IsClosed, Outcome, stage}
use Rattle.conn.specs.Observations.{AreNoted, HasCourse, Observed}
use Rattle.conn.specs.declared.reports.ConnEnd.TheVariants.{NoMemory}
use Rattle.conn.specs.declared.reports.ConnReport.{ConnReport}

-- the report says what the session noted
pub record IsReportOf (session : SessionState) (report : ConnReport) : Type 0 where
  pub receipts : report.receipts.items ≡ session.receipts
  pub plays : report.plays.items ≡ session.plays
  pub late : report.late ≡ session.late
  pub offers : report.offers.items ≡ session.offers

-- a booking that is open at the end was halted, and keeps what is due
pub record HasClosed (old new : SessionState) (old_seat new_seat : SeatState) : Type 0 where
  pub halt : Outcome
  pub closes : IsClosed (open_of old) old halt new
  pub noted : AreNoted old_seat new_seat (halt ∷ [])

-- a connection with its course, from a session that received nothing yet, and the halt of a booking
-- that is open at its end
pub record HasServedFrom (session : SessionState) (old_told new_told : Option (List IoEvent))
    (old_seat new_seat : SeatState) (report : ConnReport) : Type 0 where
  pub ended : Observed
  pub course : HasCourse report.end (record {
    stage = stage session [];
    told = old_told;
    seat = old_seat;
  }) ended
  pub closed : SessionState
  pub closes : HasClosed ended.stage.session closed ended.seat new_seat
  pub told : new_told ≡ ended.told
  pub report_is : IsReportOf closed report

-- a connection that found no memory: nothing was done
pub record HasDoneNothing (old_told new_told : Option (List IoEvent))
    (old_seat new_seat : SeatState) (report : ConnReport) : Type 0 where
  pub end : report.end ≡ NoMemory
  pub told : new_told ≡ old_told
  pub seat : new_seat ≡ old_seat
  pub receipts : report.receipts.items ≡ []
  pub plays : report.plays.items ≡ []
  pub late : report.late ≡ 0
  pub offers : report.offers.items ≡ []

-- what a connection's service is, from a session on
abbrev pub ConnectionSpec : SessionState → Option (List IoEvent) → Option (List IoEvent) → SeatState
    → SeatState → ConnReport → Type 0
ConnectionSpec session old_told new_told old_seat new_seat report =
    HasServedFrom session old_told new_told old_seat new_seat report
    ⊎ HasDoneNothing old_told new_told old_seat new_seat report
