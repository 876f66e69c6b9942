-- What is counted after a run that was sent in full.
use Rattle.std.proofs.Common.{◌≡◌, ◌+◌, length, subst, arith}
use Rattle.std.proofs.lemmas.List.{take_all}
use Rattle.session.proofs.SharedTerms.{counts_after, framed_bytes, FramedRun, GoesOn, identity_of, kept_of, run_pieces}
use Rattle.session.proofs.SharedTerms.{sending_of}
use Rattle.film_frames.specs.Pieces.{frames_in, octets_in}
use Rattle.film_frames.specs.FramedRuns.{count_ended, pieces_in, sent_by}
use Rattle.film_frames.proofs.RunBytesLemmas.{blocks_from-count, count_ended-is}
use Rattle.film_frames.proofs.TrackLemmas.{begin-all}
use Rattle.session.specs.RequestSteps.{halted_counts}
use Rattle.session_laws.proofs.RtpNumberLemmas.{identity_goes_on}
use Rattle.session_laws.proofs.play_laws.law_done_run_is_counted_in_full.Goals as goal

-- all pieces of a run have ended at its end
all_sent : (sending : FramedRun) → sent_by sending (length (framed_bytes (run_pieces sending))) ≡ pieces_in sending
all_sent sending =
    let blocks = run_pieces sending in
    let count : length blocks ≡ length (pieces_in sending) = blocks_from-count sending 0 0 (pieces_in sending) in
    let ended : count_ended (length (framed_bytes blocks)) blocks
    ≡ length blocks = search (arith, begin-all blocks, count_ended-is) in
    take_all (count_ended (length (framed_bytes blocks)) blocks) (pieces_in sending) (omega (arith, count, ended))

pub returns : goal.returns
returns c = λ old place stored setup play sound playing none at all.
    let sending = sending_of stored.film old.source setup old.counts play.run in
    let end = length (framed_bytes (run_pieces sending)) in
    let full : play.run.sent + kept_of old.awaited play.pacer.due ≡ end = grind arith in
    let counts : halted_counts old old.state ≡ counts_after old.counts sending end = grind arith in
    rw counts (subst (λ p. GoesOn (identity_of old.source setup old.counts)
    (identity_of old.source setup (counts_after old.counts sending end)) (frames_in p) (octets_in p)) (all_sent sending)
    (identity_goes_on old.source setup old.counts sending end))
