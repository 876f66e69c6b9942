use Rattle.std.proofs.Common.{◌≡◌, ◌≤◌, ◌+◌, ◌-◌, ◌++◌, [], ℕ, List, length, take, drop, refl, sym}
use Rattle.std.proofs.Common.{ap, subst, ◌∙◌, arith, rules}
use Rattle.std.proofs.lemmas.List.{append_assoc, append-nil, take-take, take-append-drop}
use Rattle.std.proofs.lemmas.List.{length-take, length-drop, take_rest, nil_from_length}
use Rattle.std.specs.Prelude.{MatchResult}
use Rattle.std.proofs.lemmas.Bool.{eqb-true}
use Rattle.sys_demux.specs.SystemStreams.{IsSystem, IsBadStream}
use Rattle.sys_demux.specs.ParserStates.{WasFed}
use Rattle.sys_demux.proofs.tests.unwrapped.Goals as goal

joined : (seen rest : List ℕ) (k taken : ℕ) → taken ≤ k
    → (seen ++ take taken (take k rest)) ++ drop taken rest ≡ seen ++ rest
joined seen rest k taken few =
    append_assoc seen (take taken (take k rest)) (drop taken rest)
    ∙ ap (λ (l : List ℕ). seen ++ (l ++ drop taken rest)) (take-take taken k rest few)
    ∙ ap (λ (l : List ℕ). seen ++ l) (take-append-drop taken rest)

pub loop-rest-preserved : goal.loop-rest-preserved
loop-rest-preserved c =
    let rest = c.loop-rest.rest.now in
    let k = c.min.result in
    let taken = c.in-Ok.fed.taken in
    let inv = c.loop-rest.invariant.fed in
    let few : taken ≤ k = omega (arith, c.in-Ok.ensures.taken, length-take k rest) in
    let next = c.in-Ok.ensures.next inv.0 c.loop-rest.video.items inv.1.1 in
    rw (take_rest rest taken) (record {
      room = omega (
        arith,
        c.loop-rest.invariant.room,
        c.in-Ok.ensures.count,
        c.in-Ok.ensures.taken,
        length-drop taken rest,
        length-take k rest,
      );
      fed = (
        inv.0 ++ take taken (take k rest),
        (
          joined inv.0 rest k taken few ∙ inv.1.0,
          subst (λ (v : List ℕ). WasFed c.feed.new.self (inv.0 ++ take taken (take k rest)) v)
              (sym c.in_ok-extend_from_slice-in-Ok.ensures.items) next,
        ),
      );
    })

pub returns : goal.returns
returns c =
    let inv = c.loop-rest.invariant.fed in
    let rest = c.loop-rest.rest.now in
    let none : rest ≡ [] =
    nil_from_length rest (eqb-true (length rest) 0 (sym c.is_empty.ensures ∙ c.loop-rest-test.false)) in
    let same : inv.0 ≡ c.args.bytes.now =
    sym (append-nil inv.0) ∙ ap (λ (l : List ℕ). inv.0 ++ l) (sym none) ∙ inv.1.0 in
    subst (λ (b : List ℕ). MatchResult c.finish.result (λ _. IsSystem b c.loop-rest.video.items)
    (λ fault. IsBadStream b fault)) same (c.finish.ensures.end inv.0 c.loop-rest.video.items inv.1.1)

pub returns-in-Err : goal.returns-in-Err
returns-in-Err c =
    let inv = c.loop-rest.invariant.fed in
    let rest = c.loop-rest.rest.now in
    let k = c.min.result in
    let whole : (inv.0 ++ take k rest) ++ drop k rest ≡ c.args.bytes.now =
    append_assoc inv.0 (take k rest) (drop k rest) ∙ ap (λ (l : List ℕ). inv.0 ++ l) (take-append-drop k rest)
    ∙ inv.1.0 in
    subst (λ (b : List ℕ). IsBadStream b c.in-Err.fault) whole
    (c.in-Err.ensures.fault inv.0 c.loop-rest.video.items inv.1.1 (drop k rest))
