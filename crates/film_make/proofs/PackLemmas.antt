-- The bytes of a pack, as the code takes them.
use Rattle.std.proofs.Common.{ℕ, min, ◌-◌, ◌*◌, ◌≡◌, List, length, take, drop, ◌∙◌, ap, arith}
use Rattle.std.proofs.lemmas.List.{take_rest, take_min}
use Rattle.std.proofs.Math.Nat.{mul_comm}

pub part-taken : (video : List ℕ) (i n : ℕ)
    → n ≡ min (length (take (length video - i * 2000) (drop (i * 2000) video))) 2000
    → take n (take (length video - i * 2000) (drop (i * 2000) video)) ≡ take 2000 (drop (2000 * i) video)
part-taken video i n least =
    let rest = take_rest video (i * 2000) in
    let swapped : min (length (take (length video - i * 2000) (drop (i * 2000) video))) 2000
    ≡ min 2000 (length (take (length video - i * 2000) (drop (i * 2000) video))) = omega arith in
    ap (λ m. take m (take (length video - i * 2000) (drop (i * 2000) video))) (least ∙ swapped)
    ∙ take_min 2000 (take (length video - i * 2000) (drop (i * 2000) video))
    ∙ ap (take 2000) rest
    ∙ ap (λ m. take 2000 (drop m video)) (mul_comm i 2000)
