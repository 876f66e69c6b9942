-- The last edge of a chain, by places in its list.
use Rattle.std.proofs.Common.{◌≡◌, ℕ, ◌+◌, ◌-◌, ◌<◌, ◌≤◌, List, [], ◌∷◌, ◌++◌, length, take, get_or, arith, sym, refl}
use Rattle.std.proofs.Common.{subst, ap, ◌∙◌, inl, inr}
use Rattle.std.proofs.lemmas.List.{take_more, take_all, take_at, length-append}
use Rattle.taut_plan.specs.declared.points.Point.{Point}
use Rattle.taut_plan.specs.Slopes.{IsWithin, IsInside}
use Rattle.taut_plan.specs.Chain.{ReadCurve, last_point, IsLastEdge, IsLastDropped, CanAppend, EdgesAscend}
use Rattle.taut_plan.proofs.ChainLemmas.{IsOpen, ChainOf, next_of, and_next, open_pops, open_joins, open_joins_alone}

pub last_point-push : (o : Point) (chain : List Point) (p : Point) → last_point o (chain ++ p ∷ []) ≡ p
last_point-push o [] p = refl
last_point-push o (q ∷ rest) p = last_point-push q rest p

-- the edge to the last point of a list, from what the list has before it
pub edge_to_end : {o : Point} {chain : List Point} {last : Point} (b : ℕ) → length chain ≡ b + 1
    → last ≡ get_or chain b last → IsLastEdge o chain (last_point o (take b chain)) last
edge_to_end {chain} {last} b many is = record {
  front = take b chain;
  is = sym (take_all (b + 1) chain (omega (arith, many)))
      ∙ (take_more chain b last (omega (arith, many)) ∙ ap (λ (p : Point). take b chain ++ p ∷ []) (sym is));
  begins = refl;
}

pub last_of_more : (o : Point) (chain : List Point) (b : ℕ) (p : Point) → b < length chain
    → last_point o (take (b + 1) chain) ≡ get_or chain b p
last_of_more o chain b p inside =
    ap (last_point o) (take_more chain b p inside) ∙ last_point-push o (take b chain) (get_or chain b p)

-- the edges of an open chain
open_ascends : (read : ReadCurve) (o : Point) (front : List Point) (q : Point) → IsOpen read o (front ++ q ∷ [])
    → ((last_point o front).place ≤ q.place) × (q.place ≤ read.last + 1)
open_ascends read o [] q open_ = let later = open_.0.later in let near =
    open_.0.near in (omega (arith, later), omega (arith, near))
open_ascends read o (p ∷ front) q open_ = open_ascends read p front q open_.1

pub edges_ascend : (read : ReadCurve) {o : Point} {chain : List Point} → IsOpen read o chain
    → EdgesAscend o chain (next_of read)
edges_ascend read {o} open_ first second edge =
    let up = open_ascends read o edge.front second (subst (IsOpen read o) edge.is open_) in
    (subst (λ (p : Point). p.place ≤ second.place) (sym edge.begins) up.0, up.1)

-- what is left without the last point
pub without_last : (chain front : List Point) (q : Point) → chain ≡ front ++ q ∷ []
    → take (length chain - 1) chain ≡ front
without_last chain front q is =
    let n : length front ≡ length (front ++ q ∷ []) - 1 = omega (arith, length-append front (q ∷ [])) in
    subst (λ c. take (length c - 1) c ≡ front) (sym is) (take_at front (q ∷ []) (length (front ++ q ∷ []) - 1) n)

-- a point that is passed leaves
pub pop_step : (read : ReadCurve) {o : Point} {old : List Point} → IsOpen read o old
    → IsLastDropped read.side o old (next_of read) → IsOpen read o (take (length old - 1) old)
pop_step read {o} {old} open_ passed =
    let edge = passed.edge in
    let out = subst (λ f. IsWithin read.side f passed.second (next_of read)) edge.begins passed.passed in
    subst (IsOpen read o) (sym (without_last old edge.front passed.second edge.is))
    (open_pops read o edge.front passed.second (subst (IsOpen read o) edge.is open_) out)

-- the new point joins
pub join_step : (read : ReadCurve) {o : Point} {old : List Point} → IsOpen read o old
    → CanAppend read.side o old (next_of read) → ChainOf (and_next read) o (old ++ next_of read ∷ [])
join_step read {o} {old} open_ ready =
    elim ready [
      | inl none ↦
          subst (λ c. ChainOf (and_next read) o (c ++ next_of read ∷ [])) (sym none)
          (open_joins_alone read o (subst (IsOpen read o) none open_))
      | inr held ↦ (
          let edge = held.edge in
          let inside = subst (λ f. IsInside read.side f (next_of read) held.second) edge.begins held.held in
          let all = open_joins edge.front held.second (subst (IsOpen read o) edge.is open_) inside in
          subst (λ c. ChainOf (and_next read) o (c ++ next_of read ∷ [])) (sym edge.is) all.joined
          )
    ]
