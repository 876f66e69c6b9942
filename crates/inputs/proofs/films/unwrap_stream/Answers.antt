use Rattle.std.proofs.Common.{◌≡◌, ◌∙◌, ℕ, ◌+◌, List, [], ◌++◌, take, arith, rules, subst, sym}
use Rattle.std.proofs.lemmas.List.{append-nil, take_all}
use Rattle.sys_demux.specs.ParserStates.{WasFed}
use Rattle.sys_demux.specs.SystemStreams.{IsBadStream, IsSystem}
use Rattle.inputs.proofs.ScanLemmas.{handed_on}
use Rattle.inputs.proofs.StreamLemmas.{parts_joined, rest_joined}
use Rattle.inputs.proofs.TokenLemmas.{taken_within}
use Rattle.inputs.proofs.films.unwrap_stream.Goals as goal

pub loop-at-init : goal.loop-at-init
loop-at-init c = record {
  within = omega arith;
  count = omega (arith, c.new-unwrapper.ensures.count);
  fed = subst (λ (l : List ℕ). WasFed c.new-unwrapper.result [] l)
      (sym c.new-video.ensures.items) c.new-unwrapper.ensures;
}

pub loop-at-preserved : goal.loop-at-preserved
loop-at-preserved c =
    let pushed : c.extend_from_slice.new.self.items ≡ c.loop-at.video.items ++ c.in_ok-fed.fed.video.now =
    search rules in
    record {
      within = taken_within c.args.stream.now c.loop-at.at c.loop-at.invariant.within
          (c.in_ok-fed.ensures {u = tt}).taken.1;
      count = omega (arith, (c.in_ok-fed.ensures {u = tt}).count, c.loop-at.invariant.count);
      fed = subst (λ (l : List ℕ). WasFed c.feed.new.self
          (take (c.loop-at.at + c.in_ok-fed.fed.taken) c.args.stream.now) l) (sym pushed)
          (subst (λ (l : List ℕ). WasFed c.feed.new.self l (c.loop-at.video.items ++ c.in_ok-fed.fed.video.now))
          (parts_joined [] c.args.stream.now c.loop-at.at c.in_ok-fed.fed.taken)
          ((c.in_ok-fed.ensures {u = tt}).next (take c.loop-at.at c.args.stream.now) c.loop-at.video.items
          c.loop-at.invariant.fed));
    }

pub returns-clause-video : goal.returns-clause-video
returns-clause-video c =
    subst (λ (l : List ℕ). IsSystem l c.loop-at.video.items)
    (take_all c.loop-at.at c.args.stream.now (omega (arith, c.loop-at-test.false)))
    ((c.in_ok-finish.ensures {u = tt}).end
    (take c.loop-at.at c.args.stream.now) c.loop-at.video.items c.loop-at.invariant.fed)

pub returns-in_err-fed-clause-refused : goal.returns-in_err-fed-clause-refused
returns-in_err-fed-clause-refused c =
    handed_on _ c.from_residual.result c.from_residual.ensures.1
    (subst (λ (l : List ℕ). IsBadStream l c.in_err-fed.field-0.0)
    (rest_joined [] c.args.stream.now [] c.loop-at.at ∙ append-nil c.args.stream.now)
    ((c.in_err-fed.ensures {u = tt}).fault (take c.loop-at.at c.args.stream.now) c.loop-at.video.items
    c.loop-at.invariant.fed []))

pub returns-in_err-extend_from_slice-clause-refused : goal.returns-in_err-extend_from_slice-clause-refused
returns-in_err-extend_from_slice-clause-refused c =
    handed_on _ c.from_residual-in_err-extend_from_slice.result c.from_residual-in_err-extend_from_slice.ensures.1 tt

pub returns-in_err-finish-clause-refused : goal.returns-in_err-finish-clause-refused
returns-in_err-finish-clause-refused c =
    handed_on _ c.from_residual-in_err-finish.result c.from_residual-in_err-finish.ensures.1
    (subst (λ (l : List ℕ). IsBadStream l c.in_err-finish.field-0.0)
    (take_all c.loop-at.at c.args.stream.now (omega (arith, c.loop-at-test.false)))
    ((c.in_err-finish.ensures {u = tt}).end
    (take c.loop-at.at c.args.stream.now) c.loop-at.video.items c.loop-at.invariant.fed))
