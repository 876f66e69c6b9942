-- The first element of bytes that are put together from their parts.
use Rattle.std.proofs.Common.{◌≡◌, ◌≢◌, ℕ, ◌+◌, ◌-◌, ◌*◌, ◌/◌, ◌%◌, ◌^◌, ◌<◌, ◌∷◌, ◌++◌, List, Ok, length, get_or, All}
use Rattle.std.proofs.Common.{refl, ap, ◌∙◌, arith, inl, inr, ne_eqb, true, false}
use Rattle.std.proofs.lemmas.List.{length-append, get_or_append_left, get_or-append_right}
use Rattle.interleave.specs.declared.elements.TheConstants.{BLOCK_START}
use Rattle.interleave.specs.Heads.{is_line_end}
use Rattle.interleave.specs.Elements.{IsFirst}
use Rattle.interleave.specs.Laws.{IsCrOrLf, BeginsOtherwise}
use Rattle.interleave.specs.declared.elements.Step.TheVariants.{Block, Skip}

ends_line : (byte : ℕ) → IsCrOrLf byte → is_line_end byte ≡ true
ends_line byte (inl cr) = rw cr refl
ends_line byte (inr lf) = rw lf refl

ends_none : (byte : ℕ) → byte ≢ 13 → byte ≢ 10 → is_line_end byte ≡ false
ends_none byte no_cr no_lf = rw (ne_eqb byte 13 no_cr, ne_eqb byte 10 no_lf) refl

-- all bytes CR and LF at the start are skipped, and no other
pub skips : (ends rest : List ℕ) → 0 < length ends → All IsCrOrLf ends → BeginsOtherwise rest
    → IsFirst (ends ++ rest) (Ok (Skip (length ends)))
skips ends rest some all other = (
  some,
  record {
    within = omega (arith, length-append ends rest);
    line_ends = λ k below. ap is_line_end (get_or_append_left ends rest 0 k below)
        ∙ ends_line (get_or ends k 0) (all k 0 below);
    last = λ more.
        let here : get_or (ends ++ rest) (length ends) 0 ≡ get_or rest 0 0 =
        get_or-append_right ends rest (length ends) (length ends) 0 refl (omega arith)
        ∙ ap (λ k. get_or rest k 0) (let k : length ends - length ends ≡ 0 = omega arith in k) in
        let some_rest : 0 < length rest = omega (arith, more, length-append ends rest) in
        ap is_line_end here ∙ ends_none (get_or rest 0 0) (other.no_cr some_rest) (other.no_lf some_rest);
  },
)

-- a block's head and data are a block
pub is_block : (channel : ℕ) (content later : List ℕ) → length content < 2 ^ 16 →
    IsFirst (BLOCK_START ∷ channel ∷ (length content / 256) ∷ (length content % 256) ∷ (content ++ later))
    (Ok (Block channel (4 + length content)))
is_block channel content later short =
    let number : length content / 256 * 256 + length content % 256 ≡ length content = omega arith in (
      (omega arith, refl),
      omega arith,
      refl,
      omega (arith, number),
      omega (arith, length-append content later),
    )
