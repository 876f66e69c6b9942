-- The frame whose sequence number is the next one is accepted.
use Rattle.std.proofs.Common.{◌≡◌, ℕ, ◌+◌, ◌-◌, ◌%◌, ◌^◌, ◌<◌, ◌==◌, true, false, not, cond, List, [], ◌∷◌, ◌++◌}
use Rattle.std.proofs.Common.{length, drop, get_or, is_ok, refl, sym, ap, ◌∙◌, arith}
use Rattle.std.proofs.lemmas.Bool.{and_from, cond-false, eq-eqb, ne_eqb}
use Rattle.std.proofs.lemmas.List.{get_or_append_left, length-append}
use Rattle.std.proofs.Math.Seq.{get_or-append_seam}
use Rattle.rtp_pack.specs.Heads.{head_at, head_of}
use Rattle.film_frames.specs.Laws.{AreConsecutive, sequence_of}
use Rattle.rtsp_client.specs.ClientHistory.{History, Frame, first_frame, frames, is_playing, latest_frame}
use Rattle.rtsp_client.specs.Films.{is_complete, is_first_good, is_good_frame, is_next_good}
use Rattle.rtsp_client.specs.MeterGuarantee.{frames_heard}

pub record AreHeard (h : History) (all : List (List ℕ)) : Type 0 where
  pub count : frames h ≡ length all
  pub latest : 0 < length all → latest_frame h ≡ get_or all (length all - 1) []

pub heard : (h : History) → AreHeard h (frames_heard h)
heard [] = record { count = refl; latest = λ some. absurd (omega (arith, some)) }
heard (Frame b ∷ h) =
    let all = frames_heard h in
    let is = heard h in
    let long : length (all ++ b ∷ []) ≡ length all + 1 = length-append all (b ∷ []) in
    let last : length (all ++ b ∷ []) - 1 ≡ length all = omega (arith, long) in
    record {
      count = omega (arith, is.count, long);
      latest = λ some. sym (ap (λ k. get_or (all ++ b ∷ []) k []) last ∙ get_or-append_seam all b [] []);
    }
heard (_ ∷ h) = let is = heard h in record { count = is.count; latest = is.latest }

pub next-accepted : (h : History) (block : List ℕ) (first : ℕ) → is_playing h ≡ true → is_complete h ≡ false
    → 0 < frames h → is_ok (head_of (drop 4 block)) ≡ true
    → (head_at (drop 4 block)).ssrc ≡ (head_at (drop 4 (first_frame h))).ssrc
    → AreConsecutive first (frames_heard h ++ block ∷ []) → is_good_frame h block ≡ true
next-accepted h block first playing open_ some read source consecutive =
    let all = frames_heard h in
    let is = heard h in
    let long : length (all ++ block ∷ []) ≡ length all + 1 = length-append all (block ∷ []) in
    let more : 0 < length all = omega (arith, some, is.count) in
    let number : sequence_of block ≡ (first + length all) % 2 ^ 16 =
    sym (ap sequence_of (get_or-append_seam all block [] [])) ∙ consecutive (length all) (omega (arith, long)) in
    let before : sequence_of (latest_frame h) ≡ (first + (length all - 1)) % 2 ^ 16 =
    ap sequence_of (is.latest more ∙ sym (get_or_append_left all (block ∷ []) [] (length all - 1) (omega (
      arith,
      more,
    ))))
    ∙ consecutive (length all - 1) (omega (arith, long)) in
    let next : sequence_of block ≡ (sequence_of (latest_frame h) + 1) % 2 ^ 16 =
    omega (arith, number, before, more) in
    let later : cond (frames h == 0) (is_first_good h block) (is_next_good h block) ≡ true =
    cond-false (frames h == 0) _ _ (ne_eqb (frames h) 0 (λ none. omega (arith, none, some)))
    ∙ and_from _ _ (eq-eqb _ _ source) (eq-eqb _ _ next) in
    and_from _ _ playing (and_from _ _ (ap not open_) (and_from _ _ read later))
