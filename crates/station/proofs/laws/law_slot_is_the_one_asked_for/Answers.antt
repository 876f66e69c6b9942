use Rattle.std.proofs.Common.{◌≡◌, ℕ, ◌≤◌, ◌^◌, min, ap, arith}
use Rattle.admission.specs.declared.entries.Command.TheVariants.{Look, Play}
use Rattle.station.proofs.laws.law_slot_is_the_one_asked_for.Goals as goal

early : (slot latest : ℕ) → slot ≤ latest → min slot latest ≡ slot
early slot latest small = omega (arith, small)

late : (slot latest : ℕ) → latest ≤ slot → min slot latest ≡ latest
late slot latest great = omega (arith, great)

pub returns : goal.returns
returns c = record {
  play = λ heard plan small. ap (λ (s : ℕ). Play s plan) (early heard (2 ^ 62) small);
  late_play = λ heard plan great. ap (λ (s : ℕ). Play s plan) (late heard (2 ^ 62) great);
  look = λ slot small. ap (λ (s : ℕ). Look s) (early slot (2 ^ 62) small);
  late_look = λ slot great. ap (λ (s : ℕ). Look s) (late slot (2 ^ 62) great);
}
