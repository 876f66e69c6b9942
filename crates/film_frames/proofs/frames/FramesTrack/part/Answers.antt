use Rattle.std.proofs.Common.{◌≡◌, ◌+◌, ◌-◌, ◌<◌, List, [], ◌++◌, ℕ, length, take, drop, get_or, Some}
use Rattle.std.proofs.Common.{slice_get, arith, rules, refl, sym, ap, subst, ◌∙◌}
use Rattle.rtp_pack.specs.declared.reports.TheConstants.{REPORT_BYTES}
use Rattle.rtp_pack.specs.declared.sizes.TheConstants.{FRAME_HEAD_BYTES}
use Rattle.film_frames.specs.declared.pieces.Piece.TheVariants.{Report, Frame}
use Rattle.film_frames.specs.Pieces.{octets_in}
use Rattle.film_frames.specs.FramedRuns.{payload, run_pieces, pieces_in}
use Rattle.film_frames.specs.Tracks.{HasHeads, IsNext, begin_of}
use Rattle.film_frames.proofs.TrackLemmas.{IsPart}
use Rattle.film_frames.proofs.HeadEndLemmas.{frame-heads, frame-split, report-heads, report-split}
use Rattle.film_frames.proofs.RunBytesLemmas.{count_ended-is}
use Rattle.film_frames.proofs.NextBytesLemmas.{InFrame, IsIn, count-among, ends-boundary, frame-part, is-in}
use Rattle.film_frames.proofs.NextBytesLemmas.{report-rest, rest-next}
use Rattle.film_frames.proofs.frames.FramesTrack.part.Goals as goal
use Rattle.film_frames.proofs.frames.FramesTrack.part.Goals.{After-begin_of, After-count_ended-number, After-payload}
use Rattle.film_frames.proofs.frames.FramesTrack.part.Goals.{After-put_heads, After-report}

-- ---- where the place lies

among : (c : After-count_ended-number) → c.count_ended-number.result < length (pieces_in c.args.self.now)
among c =
    count-among c.args.self.now c.args.at c.count_ended-number.result c.count_ended-number.ensures.count_ended
    c.requires

in-report : (c : After-report) → IsIn c.args.self.now c.args.at c.count_ended-number.result (Report c.in-Report.unit)
in-report c =
    is-in c.count_ended-number.ensures.count_ended c.requires c.in-Report.ensures.piece c.in-Report.ensures.sound

in-frame : (c : After-put_heads)
    → IsIn c.args.self.now c.args.at c.count_ended-number.result (Frame c.in-Frame.unit c.in-Frame.packet)
in-frame c = is-in c.count_ended-number.ensures.count_ended c.requires c.in-Frame.ensures.piece c.in-Frame.ensures.sound

-- what is taken of the frame: its bytes from the place on, and how many they are
taken : (c : After-payload)
    → (take (FRAME_HEAD_BYTES - c.min.result) (drop c.min.result c.put_heads.new.head) ++ c.payload.result.now
    ≡ drop (c.args.at - c.begin_of.result)
    (take FRAME_HEAD_BYTES c.put_heads.new.head ++ payload c.args.self.now.film c.in-Frame.packet))
    × (FRAME_HEAD_BYTES - c.min.result + length c.payload.result.now + (c.args.at - c.begin_of.result)
    ≡ FRAME_HEAD_BYTES + (c.in-Frame.packet.to - c.in-Frame.packet.from))
taken c =
    let lies : IsIn c.args.self.now c.args.at c.count_ended-number.result (Frame c.in-Frame.unit c.in-Frame.packet) =
    is-in c.count_ended-number.ensures.count_ended c.requires c.in-Frame.ensures.piece c.in-Frame.ensures.sound in
    let cut = c.in-Frame.ensures.sound in
    let inside : InFrame c.args.self.now.film c.put_heads.new.head c.in-Frame.packet (c.args.at - c.begin_of.result) =
    record {
      long = c.payload.array_long;
      order = omega (arith, cut.some);
      within = cut.within;
      inside = omega (arith, lies.inside, c.begin_of.ensures.begin);
    } in
    frame-part inside c.min.ensures c.max.ensures c.payload.ensures

-- what is left of the piece there is next
next-in : (c : After-begin_of) (bytes : List ℕ)
    → bytes ≡ get_or (run_pieces c.args.self.now) c.count_ended-number.result []
    → IsNext (run_pieces c.args.self.now) c.args.at (drop (c.args.at - c.begin_of.result) bytes)
next-in c bytes are =
    let pieces = run_pieces c.args.self.now in
    let k = c.count_ended-number.result in
    let o = c.args.at - c.begin_of.result in
    let same : drop o bytes ≡ drop (c.args.at - begin_of pieces k) (get_or pieces k []) =
    ap (λ (l : List ℕ). drop o l) are
    ∙ ap (λ n. drop (c.args.at - n) (get_or pieces k [])) c.begin_of.ensures.begin in
    subst (IsNext pieces c.args.at) (sym same)
    (rest-next pieces c.args.at k c.count_ended-number.ensures.count_ended c.requires)

-- ---- the answers

pub begin_of-requires : goal.begin_of-requires
begin_of-requires c = omega (arith, among (goal.at.begin_of-requires c).After-count_ended-number)

pub piece-requires : goal.piece-requires
piece-requires c = omega (arith, among (goal.at.piece-requires c).After-count_ended-number)

pub report-requires : goal.report-requires
report-requires c = omega (arith, among (goal.at.report-requires c).After-count_ended-number)

pub put_heads-requires-clause-number : goal.put_heads-requires-clause-number
put_heads-requires-clause-number c =
    omega (arith, among (goal.at.put_heads-requires-clause-number c).After-count_ended-number)

pub payload-requires-clause-front : goal.payload-requires-clause-front
payload-requires-clause-front c =
    let lies = in-frame (goal.at.payload-requires-clause-front c).After-put_heads in
    omega (arith, lies.inside, c.begin_of.ensures.begin, c.max.ensures, c.in-Frame.ensures.sound.some)

pub returns-in-Report : goal.returns-in-Report
returns-in-Report c =
    let run = c.args.self.now in
    let pieces = run_pieces run in
    let k = c.count_ended-number.result in
    let o = c.args.at - c.begin_of.result in
    let begin = c.begin_of.ensures.begin in
    let lies = in-report (goal.at.returns-in-Report c).After-report in
    let long : length c.report.result ≡ REPORT_BYTES = ap (λ (l : List ℕ). length l) c.report.ensures in
    let part : IsPart pieces k c.args.at (REPORT_BYTES - o + 0) = record {
      among = lies.number;
      begins = lies.begins;
      ends = omega (arith, lies.inside, lies.ends, lies.begins, begin);
    } in record {
      order = omega (arith, lies.inside, begin);
      within = search rules;
      bytes = subst (IsNext pieces c.args.at)
          (sym (report-rest c.report.result o long (omega (arith, lies.inside, begin))))
          (next-in (goal.at.returns-in-Report c).After-begin_of _ (c.report.ensures ∙ sym lies.bytes));
      heads = report-split _ 0 part
          (λ heads. report-heads run _ _ c.in-Report.unit (subst HasHeads lies.bytes heads)) refl;
      whole = ends-boundary pieces k _ lies.number (omega (arith, lies.inside, lies.ends, lies.begins, begin));
      report = search rules;
    }

pub returns-in-Frame : goal.returns-in-Frame
returns-in-Frame c =
    let run = c.args.self.now in
    let pieces = run_pieces run in
    let k = c.count_ended-number.result in
    let begin = c.begin_of.ensures.begin in
    let lies = in-frame (goal.at.returns-in-Frame c).After-put_heads in
    let part = taken (goal.at.returns-in-Frame c).After-payload in
    let whole = c.put_heads.ensures (octets_in (take k (pieces_in run))) in
    let its : IsPart pieces k c.args.at (FRAME_HEAD_BYTES - c.min.result + length c.payload.result.now) = record {
      among = lies.number;
      begins = lies.begins;
      ends = omega (arith, part.1, lies.inside, lies.ends, lies.begins, begin);
    } in record {
      order = search rules;
      within = search rules;
      bytes = subst (IsNext pieces c.args.at) (sym part.0)
          (next-in (goal.at.returns-in-Frame c).After-begin_of _ (whole ∙ sym lies.bytes));
      heads = frame-split _ _ its (subst HasHeads (sym lies.bytes) (frame-heads run _ 0 c.in-Frame.ensures.sound))
          (omega (arith, c.min.ensures, begin));
      whole = ends-boundary pieces k _ lies.number
          (omega (arith, part.1, lies.inside, lies.ends, lies.begins, begin));
      report = λ other at.
          let count = ap (λ n. slice_get (pieces_in run) n)
          (count_ended-is pieces c.args.at k c.count_ended-number.ensures.count_ended) in
          let same : Some (Report other) ≡ Some (Frame c.in-Frame.unit c.in-Frame.packet) =
          sym at ∙ count ∙ c.in-Frame.ensures.piece in cc;
    }
