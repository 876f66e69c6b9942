use Rattle.std.proofs.Common.{◌≡◌, List, length, ◌∙◌, ◌+◌, ◌-◌, Bool, true, false, Some, None, ℕ, cond, eqb, eq-eqb}
use Rattle.std.proofs.Common.{get_or, sym, ap}
use Rattle.std.proofs.lemmas.Bool.{ne_eqb}
use Rattle.inputs.proofs.PackSearchLemmas.{OpenBefore, found_step, not_whole, open_step}
use Rattle.inputs.specs.PackSearch.{HasNoCode}
use Rattle.inputs.proofs.pack_search.open_chunk.Goals.{In-loop-index}
use Rattle.inputs.proofs.pack_search.open_chunk.Goals as goal

-- the bytes before the next one
abbrev open_before : (c : In-loop-index) (seen : List ℕ) → length seen ≡ c.args.at → HasNoCode c.args.before seen
    → OpenBefore
open_before c seen long so_far = record {
  prefix = c.loop-index.prefix;
  seen = seen;
  chunk = c.args.chunk.now;
  index = c.loop-index.index;
  at = c.args.at;
  inside = c.loop-index-test.true;
  long = long;
  so_far = c.loop-index.invariant seen long so_far;
}

pub returns-in-Whole-clause-opening : goal.returns-in-Whole-clause-opening
returns-in-Whole-clause-opening c = λ seen long so_far.
    let byte : eqb (get_or c.args.chunk.now c.loop-index.index 0) 0xba ≡ true =
    eq-eqb (get_or c.args.chunk.now c.loop-index.index 0) 0xba c.if-byte.true in
    let before = open_before (goal.at.returns-in-Whole-clause-opening c).In-loop-index seen long so_far in
    found_step before c.in-Whole.is
    (ap (λ (b : Bool). cond b (Some (c.args.at + c.loop-index.index - 3)) None) byte
    ∙ ap (λ (n : ℕ). Some n) (sym c.saturating_sub.ensures))

pub returns-in-Whole-2-clause-opening : goal.returns-in-Whole-2-clause-opening
returns-in-Whole-2-clause-opening c = λ seen long so_far.
    let byte : eqb (get_or c.args.chunk.now c.loop-index.index 0) 0xba ≡ false =
    ne_eqb (get_or c.args.chunk.now c.loop-index.index 0) 0xba c.if-byte.false in
    let before = open_before (goal.at.returns-in-Whole-2-clause-opening c).In-loop-index seen long so_far in
    found_step before c.in-Whole.is
    (ap (λ (b : Bool). cond b (Some (c.args.at + c.loop-index.index - 3)) None) byte)

pub loop-index-preserved : goal.loop-index-preserved
loop-index-preserved c = λ seen long so_far.
    let before = open_before (goal.at.loop-index-preserved c).In-loop-index seen long so_far in
    open_step before
    (not_whole c.loop-index.prefix c.in_default.not-Whole) c.next-prefix.ensures
