-- Bytes CR and LF at the start are skipped also where more bytes come.
use Rattle.std.proofs.Common.{◌≡◌, ℕ, ◌<◌, ◌≤◌, ◌++◌, List, Result, Ok, Err, length, get_or, arith, inl, inr, true}
use Rattle.std.proofs.lemmas.Bool.{both_ways, cases_lt}
use Rattle.std.proofs.lemmas.List.{get_or_append_left, length-append}
use Rattle.interleave.specs.Heads.{is_line_end}
use Rattle.interleave.specs.Elements.{AreLineEnds, IsFirst, IsLongerSkip}
use Rattle.interleave.specs.declared.elements.Step.{Step}
use Rattle.interleave.specs.declared.elements.Step.TheVariants.{Request, Block, Skip, More}
use Rattle.interleave.specs.declared.elements.DemuxFault.{DemuxFault}
use Rattle.interleave.specs.declared.elements.DemuxFault.TheVariants.{HeadTooLong, BodyTooLong}
use Rattle.interleave.proofs.ElementUniqueness.{clash_end_block}

-- the first byte stays
pub front_line_end : (w v : List ℕ) (n : ℕ) → (0 < n) × AreLineEnds w n → is_line_end (get_or (w ++ v) 0 0) ≡ true
front_line_end w v n h =
    let inside : 0 < length w = omega (arith, h.0, h.1.within) in
    rw (get_or_append_left w v 0 0 inside) (h.1.line_ends 0 h.0)

pub as_many : (w v : List ℕ) (n m : ℕ) → AreLineEnds w n → AreLineEnds (w ++ v) m → n ≤ m
as_many w v n m h k =
    elim (cases_lt m n) [
      | inl less ↦
          let inside : m < length w = omega (arith, h.within, less) in
          let here : is_line_end (get_or (w ++ v) m 0) ≡ true =
          rw (get_or_append_left w v 0 m inside) (h.line_ends m less) in
          absurd (both_ways (is_line_end (get_or (w ++ v) m 0))
          (k.last (omega (arith, inside, length-append w v))) here)
      | inr least ↦ least
    ]

pub skip_stays : (w v : List ℕ) (n : ℕ) (answer : Result Step DemuxFault) → IsFirst w (Ok (Skip n))
    → IsFirst (w ++ v) answer → IsLongerSkip n answer
skip_stays w v n (Ok (Skip m)) h k = as_many w v n m h.1 k.1
skip_stays w v n (Ok (Block c m)) h k = clash_end_block (w ++ v) (front_line_end w v n h) k.0
skip_stays w v n (Ok (Request m)) h k = both_ways (is_line_end (get_or (w ++ v) 0 0)) k.0.1 (front_line_end w v n h)
skip_stays w v n (Ok More) h (inl e) = omega (arith, h.0, h.1.within, length-append w v, e)
skip_stays w v n (Ok More) h (inr (inl b)) = clash_end_block (w ++ v) (front_line_end w v n h) b.0
skip_stays w v n (Ok More) h (inr (inr r)) =
    both_ways (is_line_end (get_or (w ++ v) 0 0)) r.0.1 (front_line_end w v n h)
skip_stays w v n (Err HeadTooLong) h k = both_ways (is_line_end (get_or (w ++ v) 0 0)) k.0.1 (front_line_end w v n h)
skip_stays w v n (Err BodyTooLong) h k = both_ways (is_line_end (get_or (w ++ v) 0 0)) k.0.1 (front_line_end w v n h)
