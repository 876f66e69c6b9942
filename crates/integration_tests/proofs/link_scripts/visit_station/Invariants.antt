use denote.Shadow.{shadow}
use denote.Text.{Utf8}
use Rattle.station.specs.Seats.{IsSameSeat}
use Rattle.integration_tests.proofs.link_scripts.visit_station.Given as goal

abbrev pub invariant-loop : goal.invariant-loop
invariant-loop g l = shadow (Utf8 l.rest) × IsSameSeat l.fn.seat l.seat
