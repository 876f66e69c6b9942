-- Where the reports of a run stand.
use Rattle.std.proofs.Common.{◌≡◌, ℕ, ◌-◌, ◌<◌, ◌≤◌, Bool, true, false, cond, List, [], ◌∷◌, ◌++◌, map, length, take}
use Rattle.std.proofs.Common.{drop, refl, sym, subst, arith}
use Rattle.mpeg_scan.specs.declared.units.Unit.{Unit as PictureUnit}
use Rattle.mpeg_scan.specs.declared.films.Film.{Film}
use Rattle.mpeg_scan.specs.Layout.{AreLaid}
use Rattle.rtp_pack.specs.declared.payloads.Packet.{Packet}
use Rattle.rtp_pack.specs.declared.reports.Identity.{Identity}
use Rattle.rtp_pack.specs.Packets.{AreInOrder, DoCover, IsLaid, next_place, unit_packets, unit_starts}
use Rattle.rtp_pack.proofs.UnitPacketLemmas.{packets-cover}
use Rattle.film_frames.specs.declared.pieces.Piece.{Piece}
use Rattle.film_frames.specs.declared.pieces.Piece.TheVariants.{Report, Frame}
use Rattle.film_frames.specs.Laws.{ReportsPrecedeGroups}
use Rattle.film_frames.specs.Pieces.{pieces_of}
use Rattle.film_frames.specs.FramedRuns.{pieces_in, run_of}
use Rattle.film_frames.proofs.PieceLemmas.{pieces-cons}
use Rattle.film_frames.proofs.FilmPieceLemmas.{laid-film}
use Rattle.film_frames.proofs.PayloadLemmas.{laid-drop, laid-take}

-- frames after a unit's first
later-stand : {at : ℕ} (unit : PictureUnit) (packets : List Packet) (rest : List Piece)
    → DoCover at packets unit.to → unit.from < at → ReportsPrecedeGroups rest
    → ReportsPrecedeGroups (map (λ p. Frame unit p) packets ++ rest)
later-stand {at} unit [] rest cover past stand = stand
later-stand {at} unit (p ∷ packets) rest cover past stand = (
  (λ first. absurd (omega (arith, first, cover.0, past))),
  later-stand {at = p.to} unit packets rest cover.1.1.1 (omega (arith, past, cover.1.0)) stand,
)

-- packets that cover a unit of some bytes
record DoCoverUnit (unit : PictureUnit) (packets : List Packet) : Type 0 where
  some : unit.from < unit.to
  cover : DoCover unit.from packets unit.to

-- a unit's report and frames
frames-stand : {unit : PictureUnit} {packets : List Packet} {starts : Bool} (rest : List Piece) →
    unit.starts_group ≡ starts → DoCoverUnit unit packets → ReportsPrecedeGroups rest →
    ReportsPrecedeGroups ((cond starts (Report unit ∷ []) [] ++ map (λ p. Frame unit p) packets) ++ rest)
frames-stand {packets = []} {starts} rest is all stand = absurd (omega (arith, all.cover, all.some))
frames-stand {unit} {packets = p ∷ packets} {starts = true} rest is all stand =
    ((refl, (all.cover.0, is)), later-stand unit packets rest all.cover.1.1.1 all.cover.1.0 stand)
frames-stand {unit} {packets = p ∷ packets} {starts = false} rest is all stand =
    ((λ first. is), later-stand unit packets rest all.cover.1.1.1 all.cover.1.0 stand)

order-le : (starts : List ℕ) (at to : ℕ) → AreInOrder at starts to → at ≤ to
order-le [] at to order = omega (arith, order)
order-le (s ∷ starts) at to order = omega (arith, order.1.0, order-le starts (next_place to starts) to order.1.1)

unit-some : (starts : List ℕ) (unit : PictureUnit) → IsLaid starts unit → unit.from < unit.to
unit-some starts unit laid =
    omega (arith, laid.head, order-le (unit_starts starts unit) unit.head_end unit.to laid.in_order)

units-stand : (starts : List ℕ) (end : ℕ) (units : List PictureUnit) → AreLaid end starts units
    → ReportsPrecedeGroups (pieces_of starts units)
units-stand starts end [] laid = tt
units-stand starts end (unit ∷ units) laid =
    let all : DoCoverUnit unit (unit_packets starts unit) =
    record { some = unit-some starts unit laid.0.1; cover = packets-cover starts unit laid.0.1 } in
    subst (λ (l : List Piece). ReportsPrecedeGroups l) (sym (pieces-cons starts unit units))
    (frames-stand (pieces_of starts units) refl all (units-stand starts end units laid.1))

pub reports-stand : (film : Film) (first end : ℕ) (identity : Identity)
    → ReportsPrecedeGroups (pieces_in (run_of film first end identity))
reports-stand film first end identity =
    let bytes = length film.bytes.items in
    let starts = film.slice_starts.items in
    units-stand starts bytes (take (end - first) (drop first film.units.items))
    (laid-take bytes starts (drop first film.units.items) (end - first)
    (laid-drop bytes starts film.units.items first (laid-film film)))
