-- Bytes that are given to `send` part by part.
use Rattle.std.proofs.Common.{◌≡◌, ℕ, ◌+◌, ◌-◌, ◌≤◌, List, [], ◌∷◌, ◌++◌, length, take, drop, refl, sym, ap, ◌∙◌}
use Rattle.std.proofs.Common.{append_assoc, arith, length-append, Bool, true, ◌==◌}
use Rattle.std.proofs.lemmas.Bool.{eqb-true}
use Rattle.std.proofs.lemmas.List.{append-nil, map-append, take-append-drop, take_all, length-drop}
use Rattle.std.proofs.Math.Seq.{take-append_seam}
use Rattle.vod_base.specs.Links.{IoEvent, Sent, sends}

-- what was done so far, and the bytes to be given
pub record Giving : Type 0 where
  pub doings : List IoEvent
  pub bytes : List ℕ

-- bytes in front were given, and the others are left
pub record IsPart (old new : Giving) : Type 0 where
  pub given : List ℕ
  pub bytes_are : old.bytes ≡ given ++ new.bytes
  pub told : new.doings ≡ old.doings ++ sends given

pub part_first : (old : Giving) → IsPart old old
part_first old = record { given = []; bytes_are = refl; told = sym (append-nil old.doings) }

pub part_on : {old mid : Giving} {doings : List IoEvent} (count : ℕ) → IsPart old mid →
    doings ≡ mid.doings ++ sends (take count mid.bytes) → IsPart old (record {
      doings = doings;
      bytes = take (length mid.bytes - count) (drop count mid.bytes);
    })
part_on {old} {mid} count part new_is =
    let rest = mid.bytes in
    let enough : length (drop count rest) ≤ length rest - count = let l = length-drop count rest in omega (arith, l) in
    let left_is : take (length rest - count) (drop count rest) ≡ drop count rest = take_all (length rest - count) (drop
    count rest) enough in
    record {
      given = part.given ++ take count rest;
      bytes_are = part.bytes_are
          ∙ ap (λ (l : List ℕ). part.given ++ l) (sym (take-append-drop count rest))
          ∙ sym (append_assoc part.given (take count rest) (drop count rest))
          ∙ ap (λ (l : List ℕ). (part.given ++ take count rest) ++ l) (sym left_is);
      told = new_is ∙ ap (λ (d : List IoEvent). d ++ sends (take count rest)) part.told
          ∙ append_assoc old.doings (sends part.given) (sends (take count rest))
          ∙ ap (λ (d : List IoEvent). old.doings ++ d) (sym (map-append Sent part.given (take count rest)));
    }

pub no_bytes : (bytes : List ℕ) → length bytes ≡ 0 → bytes ≡ []
no_bytes [] none = refl
no_bytes (byte ∷ bytes) none = cc

pub part_whole : {old new : Giving} {empty : Bool} → IsPart old new → empty ≡ (length new.bytes == 0) → empty ≡ true →
    new.doings ≡ old.doings ++ sends old.bytes
part_whole {old} {new} part tested yes_ =
    let none : length new.bytes ≡ 0 = eqb-true (length new.bytes) 0 (sym tested ∙ yes_) in
    let is : old.bytes ≡ part.given = part.bytes_are ∙ ap (λ (l : List ℕ). part.given ++ l) (no_bytes new.bytes none) ∙
    append-nil part.given in
    part.told ∙ ap (λ (l : List ℕ). old.doings ++ sends l) (sym is)

pub part_front : {old new : Giving} → IsPart old new →
    (count : ℕ) × ((count ≤ length old.bytes) × (new.doings ≡ old.doings ++ sends (take count old.bytes)))
part_front {old} {new} part =
    let len : length old.bytes ≡ length part.given + length new.bytes =
    ap (λ (l : List ℕ). length l) part.bytes_are ∙ length-append part.given new.bytes in
    let front : take (length part.given) old.bytes ≡ part.given =
    ap (take (length part.given)) part.bytes_are ∙ take-append_seam part.given new.bytes in (
      length part.given,
      (omega (arith, len), part.told ∙ ap (λ (l : List ℕ). old.doings ++ sends l) (sym front)),
    )
