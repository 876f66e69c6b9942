-- A complete element stays first as more bytes come.
use Rattle.std.proofs.Common.{◌≡◌, ℕ, ◌<◌, ◌≤◌, ◌++◌, List, Result, Ok, Err, length, refl, arith}
use Rattle.std.proofs.lemmas.List.{get_or_append_left, length-append}
use Rattle.interleave.specs.declared.message_heads.TheConstants.{MAX_HEAD_BYTES}
use Rattle.interleave.specs.Elements.{StartsBlock, StartsMessage, AreLineEnds, block_length, IsFirst, IsWholeElement}
use Rattle.interleave.specs.declared.elements.Step.{Step}
use Rattle.interleave.specs.declared.elements.Step.TheVariants.{Request, Block, Skip, More}
use Rattle.interleave.specs.declared.elements.DemuxFault.{DemuxFault}
use Rattle.interleave.specs.declared.elements.DemuxFault.TheVariants.{HeadTooLong, BodyTooLong}
use Rattle.interleave.proofs.LaterBytes.{HasNoHead-append, IsMessageLength-append, IsBodyTooLong-append}

pub StartsBlock-append : (w v : List ℕ) → StartsBlock w → StartsBlock (w ++ v)
StartsBlock-append w v h = (omega (arith, length-append w v, h.0), rw (get_or_append_left w v 0 0 h.0) h.1)

pub StartsMessage-append : (w v : List ℕ) → StartsMessage w → StartsMessage (w ++ v)
StartsMessage-append w v h = (
  omega (arith, length-append w v, h.0),
  rw (get_or_append_left w v 0 0 h.0) h.1,
  rw (get_or_append_left w v 0 0 h.0) h.2,
)

pub AreLineEnds-append : (w v : List ℕ) (n : ℕ) → n < length w → AreLineEnds w n → AreLineEnds (w ++ v) n
AreLineEnds-append w v n more h = record {
  within = omega (arith, length-append w v);
  line_ends = λ k below. let inside : k < length w = omega arith in
      rw (get_or_append_left w v 0 k inside) (h.line_ends k below);
  last = λ _. rw (get_or_append_left w v 0 n more) (h.last more);
}

pub block_length-append : (w v : List ℕ) → 4 ≤ length w → block_length (w ++ v) ≡ block_length w
block_length-append w v h = rw (get_or_append_left w v 0 2 (omega arith), get_or_append_left w v 0 3 (omega arith)) refl

pub whole_stays : (w v : List ℕ) (answer : Result Step DemuxFault) → IsFirst w answer → IsWholeElement w answer
    → IsFirst (w ++ v) answer
whole_stays w v (Ok (Skip n)) h whole = (h.0, AreLineEnds-append w v n whole h.1)
whole_stays w v (Ok (Block channel n)) h whole = (
  StartsBlock-append w v h.0,
  omega (arith, length-append w v, h.1),
  rw (get_or_append_left w v 0 1 (omega (arith, h.1))) h.2,
  rw (block_length-append w v h.1) h.3,
  omega (arith, length-append w v, h.4),
)
whole_stays w v (Ok (Request n)) h whole =
    (StartsMessage-append w v h.0, IsMessageLength-append w v n h.1, omega (arith, length-append w v, h.2))
whole_stays w v (Ok More) h whole = absurd whole
whole_stays w v (Err HeadTooLong) h whole =
    (StartsMessage-append w v h.0, omega (arith, length-append w v, h.1), HasNoHead-append w v MAX_HEAD_BYTES h.1 h.2)
whole_stays w v (Err BodyTooLong) h whole = (StartsMessage-append w v h.0, IsBodyTooLong-append w v h.1)
