-- The points of a queue, by the list that holds them.
use Rattle.std.proofs.Common.{◌≡◌, ℕ, ◌+◌, ◌-◌, ◌<◌, ◌≤◌, List, [], ◌∷◌, ◌++◌, length, take, drop, get_or, arith}
use Rattle.std.proofs.Common.{sym, ap, ◌∙◌, subst, inl, inr}
use Rattle.std.proofs.Math.ListN.{get_or-map, get_or-append}
use Rattle.std.proofs.lemmas.Bool.{cases_lt}
use Rattle.std.proofs.lemmas.List.{get_or_push, length-append}
use Rattle.std.proofs.lemmas.List.{get_or-drop, drop_more, get_or_default, length-map, length-drop}
use Rattle.taut_plan.specs.declared.points.Point.{Point}
use Rattle.taut_plan.specs.declared.points.Link.{Link}
use Rattle.taut_plan.specs.Chain.{IsLastEdge, IsFirstPoint, last_point}
use Rattle.taut_plan.specs.Links.{points_of, IsEdge, AreLinked, IsLastLink, IsLinkedTo}
use Rattle.taut_plan.proofs.EdgeLemmas.{edge_to_end, last_of_more, last_point-push}

pub without_first : (points : List Point) (passed : ℕ) → 0 < length (drop passed points)
    → drop (passed + 1) points ≡ drop 1 (drop passed points)
without_first points passed some =
    let left = length-drop passed points in
    sym (ap (drop 1) (drop_more points passed (record { place = 0; height = 0 }) (omega (arith, left, some))))

-- The same for links. Each holds the edge from the link before.

point_at_place : (links : List Link) (place : ℕ) (link : Link) → place < length links → link ≡ get_or links place link
    → (p : Point) → get_or (points_of links) place p ≡ link.point
point_at_place links place link inside is p =
    get_or_default (points_of links) place p link.point
    (omega (arith, inside, length-map links (λ (l : Link). l.point)))
    ∙ (get_or-map (λ (l : Link). l.point) links place link ∙ sym (ap (λ (l : Link). l.point) is))

-- how many points are left
pub length_left : (links : List Link) (passed : ℕ) → length (drop passed (points_of links)) ≡ length links - passed
length_left links passed = omega (arith, length-drop passed (points_of links), length-map links (λ (l : Link). l.point))

-- the point of a link, counted from the first that is left
point_left : (links : List Link) (passed i : ℕ) (link : Link) → passed + i < length links
    → link ≡ get_or links (passed + i) link → get_or (drop passed (points_of links)) i link.point ≡ link.point
point_left links passed i link inside is =
    get_or-drop passed (points_of links) i link.point ∙ point_at_place links (passed + i) link inside is link.point

-- the last of some links is the end of an edge
pub edge_to_last : (o : Point) (last : Link) (links : List Link) (passed : ℕ) → passed < length links
    → last ≡ get_or links (length links - 1) last
    → IsLastEdge o (drop passed (points_of links))
    (last_point o (take (length links - 1 - passed) (drop passed (points_of links)))) last.point
edge_to_last o last links passed some is =
    let b = length links - 1 - passed in
    let at : length links - 1 ≡ passed + b = omega (arith, some) in
    let here = point_left links passed b last (omega (arith, some)) (subst (λ i. last ≡ get_or links i last) at is) in
    edge_to_end b (omega (arith, length_left links passed, some)) (sym here)

-- with two links or more it has the edge of the last one
pub link_of_two : (o : Point) {link : Link} (links : List Link) (passed : ℕ)
    → AreLinked passed links × (passed + 2 ≤ length links) → link ≡ get_or links (length links - 1) link
    → IsLastLink o (drop passed (points_of links)) link
link_of_two o {link} links passed known is =
    let many = known.1 in
    let points = drop passed (points_of links) in
    let b = length links - 2 - passed in
    let before : Link = get_or links (passed + b) link in
    let next : passed + b + 1 ≡ length links - 1 = omega (arith, many) in
    let same = get_or_default links (passed + b) link before (omega (arith, many)) in
    let start = last_of_more o points b before.point (omega (arith, length_left links passed, many)) in
    let front : last_point o (take (length links - 1 - passed) points) ≡ before.point =
    ap (λ n. last_point o (take n points)) (omega (arith, many))
    ∙ start ∙ point_left links passed b before (omega (arith, many)) same in
    let edge = known.0 (passed + b) link (omega arith) (omega (arith, many)) in
    record {
      first = before.point;
      edge = subst (λ (p : Point). IsLastEdge o points p link.point) front
          (edge_to_last o link links passed (omega (arith, many)) is);
      is = subst (IsEdge before.point) (ap (λ j. get_or links j link) next ∙ sym is) edge;
    }

-- the point of the first link
pub first_of : {link : Link} (links : List Link) (passed : ℕ) → passed < length links
    → link ≡ get_or links passed link → IsFirstPoint (drop passed (points_of links)) link.point
first_of {link} links passed inside is =
    let long : passed < length (points_of links) = omega (arith, inside, length-map links (λ (l : Link). l.point)) in
    record {
      rest = drop (passed + 1) (points_of links);
      is = drop_more (points_of links) passed link.point long
          ∙ ap (λ (p : Point). p ∷ drop (passed + 1) (points_of links))
          (point_at_place links passed link inside is link.point);
    }

-- a link joins whose edge comes from the last point
pub linked_join : (links : List Link) (passed : ℕ) (link : Link) → AreLinked passed links
    → IsLinkedTo (drop passed (points_of links)) link → AreLinked passed (links ++ link ∷ [])
linked_join links passed link linked edge = λ j d upto inside.
    let long = length-append links (link ∷ []) in
    let here : get_or (links ++ link ∷ []) j d ≡ get_or links j d =
    get_or-append links (link ∷ []) d j (omega (arith, long, inside)) in
    subst (λ (l : Link). IsEdge l.point (get_or (links ++ link ∷ []) (j + 1) d)) (sym here)
    (elim (cases_lt (j + 1) (length links)) [
      | inl before ↦
          subst (IsEdge (get_or links j d).point) (sym (get_or-append links (link ∷ []) d (j + 1) before))
          (linked j d upto before)
      | inr le ↦
          let end : length links ≡ j + 1 = omega (arith, le, long, inside) in
          let within : j < length links = omega (arith, end) in
          let at_end : j ≡ length links - 1 = omega (arith, end) in
          let last : Link = get_or links j d in
          let is_last : last ≡ get_or links (length links - 1) last =
          subst (λ k. last ≡ get_or links k last) at_end (get_or_default links j d last within) in
          let its = edge_to_last last.point last links passed (omega (arith, upto, end)) is_last in
          subst (IsEdge (get_or links j d).point) (sym (get_or_push links link d (j + 1) end))
          (edge last.point (last_point last.point (take (length links - 1 - passed) (drop passed (points_of links))))
          last.point its)
    ])

-- the last point of a chain is one
pub linked_to_last : {o : Point} {chain : List Point} {last next : Link} → IsLastLink o chain last
    → IsEdge last.point next → IsLinkedTo chain next
linked_to_last {o} {chain} {last} {next} its edge = λ other first second end.
    let here : last_point o chain ≡ last.point =
    ap (last_point o) its.edge.is ∙ last_point-push o its.edge.front last.point in
    let there : last_point o chain ≡ second = ap (last_point o) end.is ∙ last_point-push o end.front second in
    subst (λ (p : Point). IsEdge p next) (sym here ∙ there) edge
