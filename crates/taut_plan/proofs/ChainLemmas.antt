-- How the next place joins a chain: points leave at its end until it turns the right way; then the new one joins.
use Rattle.std.proofs.Common.{◌≡◌, ℕ, ◌+◌, ◌<◌, ◌≤◌, List, [], ◌∷◌, ◌++◌, arith, sym, refl, subst, inl, inr}
use Rattle.std.proofs.lemmas.Bool.{cases_lt}
use Rattle.taut_plan.specs.declared.points.Point.{Point}
use Rattle.taut_plan.specs.Slopes.{IsWithin, IsInside}
use Rattle.taut_plan.specs.Chain.{on_curve, ReadCurve, read_to, IsFurthest, IsChain, last_point}
use Rattle.taut_plan.proofs.SlopeLemmas.{Seen, SeenCorner, within_within, within_itself, inside_weaker, turns_on}

-- the point of the next place
abbrev pub next_of : ReadCurve → Point
next_of read = on_curve read.curve (read.last + 1)

abbrev pub and_next : ReadCurve → ReadCurve
and_next read = read_to read.side read.curve (read.last + 1)

abbrev pub ChainOf : ReadCurve → Point → List Point → Type 0
ChainOf read o chain = IsChain read.side read.curve read.last o chain

-- A chain that the next place is to join: beyond its last point, that place is the furthest out.
abbrev pub IsOpen : ReadCurve → Point → List Point → Type 0
IsOpen read o [] = (o.place ≤ read.last)
    × ((j : ℕ) → o.place < j → j ≤ read.last → IsWithin read.side o (on_curve read.curve j) (next_of read))
IsOpen read o (p ∷ rest) = IsFurthest read o p × IsOpen read p rest

pub chain_opens : (read : ReadCurve) (o : Point) (chain : List Point) → ChainOf read o chain → IsOpen read o chain
chain_opens read o [] at_end = (omega (arith, at_end), λ j later near. absurd (omega (arith, at_end, later, near)))
chain_opens read o (p ∷ rest) chain = (chain.0, chain_opens read p rest chain.1)

-- the last point leaves, since the next place stands at least as far out as it
pub open_pops : (read : ReadCurve) (o : Point) (front : List Point) (q : Point) → IsOpen read o (front ++ q ∷ [])
    → IsWithin read.side (last_point o front) q (next_of read) → IsOpen read o front
open_pops read o [] q open_ out =
    let edge = open_.0 in
    let later = edge.later in
    let near = edge.near in (
      omega (arith, later, near),
      λ j after upto.
          let seen : Seen = record { from = o; first = on_curve read.curve j; second = q; third = next_of read } in
          elim (cases_lt q.place j) [
            | inl beyond ↦
                within_within read.side seen later
                (inside_weaker read.side o (on_curve read.curve j) q (edge.beyond j beyond upto)) out
            | inr before ↦ within_within read.side seen later (edge.before j after before) out
          ],
    )
open_pops read o (p ∷ front) q open_ out = (open_.0, open_pops read p front q open_.1 out)

-- where no point is left, the chain is the next place alone
pub open_joins_alone : (read : ReadCurve) (o : Point) → IsOpen read o [] → ChainOf (and_next read) o (next_of read ∷ [])
open_joins_alone read o open_ =
    let near = open_.0 in (
      record {
        later = omega (arith, near);
        near = omega arith;
        on = refl;
        before = λ j after upto. elim (cases_lt read.last j) [
          | inl past ↦ let e : read.last + 1 ≡ j =
              omega (arith, past, upto) in
              subst (λ i. IsWithin read.side o (on_curve read.curve i) (next_of read)) e
              (within_itself read.side o (next_of read))
          | inr within ↦ open_.1 j after within
        ];
        beyond = λ j past upto. absurd (omega (arith, past, upto));
      },
      refl,
    )

-- the next place stands inside the first edge of what is beyond p
abbrev pub FirstTurns : ReadCurve → Point → List Point → Type 0
FirstTurns read p [] = ⊥
FirstTurns read p (x ∷ rest) = IsInside read.side p (next_of read) x

-- so it stands inside the edge to p
turns_before : {read : ReadCurve} {o p : Point} (rest : List Point) → IsFurthest read o p
    → IsOpen read p rest × FirstTurns read p rest → IsInside read.side o (next_of read) p
turns_before [] edge known = absurd known.1
turns_before {read} {o} {p} (x ∷ rest) edge known =
    let next = known.0.0 in
    let one = edge.later in
    let two = next.later in
    let three = next.near in
    let beyond = edge.beyond x.place two three in
    let seen : SeenCorner = record {
      from = o;
      corner = p;
      one = x;
      other = next_of read;
      ahead = one;
      one_beyond = omega (arith, two);
      other_beyond = omega (arith, two, three);
    } in
    turns_on read.side seen (omega (arith, two, three))
    (subst (λ y. IsInside read.side o (record { place = x.place; height = y }) p) (sym next.on) beyond) known.1

-- the edge of a point that the next place stands inside of goes on
longer : {read : ReadCurve} {o p : Point} → IsFurthest read o p → IsInside read.side o (next_of read) p
    → IsFurthest (and_next read) o p
longer {read} {o} {p} edge turns = record {
  later = edge.later;
  near = let near = edge.near in omega (arith, near);
  on = edge.on;
  before = edge.before;
  beyond = λ j past upto. elim (cases_lt read.last j) [
    | inl new ↦ let e : read.last + 1 ≡ j =
        omega (arith, new, upto) in subst (λ i. IsInside read.side o (on_curve read.curve i) p) e turns
    | inr old ↦ edge.beyond j past old
  ];
}

pub record Joined (read : ReadCurve) (o : Point) (chain : List Point) : Type 0 where
  pub first_turns : FirstTurns read o chain
  pub joined : ChainOf (and_next read) o (chain ++ next_of read ∷ [])

-- where the next place stands inside the last edge, it joins
pub open_joins : {read : ReadCurve} {o : Point} (front : List Point) (q : Point) → IsOpen read o (front ++ q ∷ [])
    → IsInside read.side (last_point o front) (next_of read) q → Joined read o (front ++ q ∷ [])
open_joins {read} {o} [] q open_ turns = record {
  first_turns = turns;
  joined = (longer open_.0 turns, open_joins_alone read q open_.1);
}
open_joins {read} {o} (p ∷ front) q open_ turns =
    let rest = open_joins {read = read} {o = p} front q open_.1 turns in
    let here = turns_before (front ++ q ∷ []) open_.0 (open_.1, rest.first_turns) in
    record { first_turns = here; joined = (longer open_.0 here, rest.joined) }
