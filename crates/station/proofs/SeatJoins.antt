-- A seat to which another was joined.
use Rattle.std.proofs.Common.{◌≡◌, List, length, ltb, cond, Bool, true, false, sym, subst}
use Rattle.slot_calendar.specs.declared.profiles.CapStep.{CapStep}
use Rattle.admission.specs.declared.entries.Entry.{Entry}
use Rattle.admission.specs.Histories.{IsLegal}
use Rattle.admission.specs.Makers.{AreHaltsOwn, entries_by}
use Rattle.turnstile.specs.Passes.{PassState, after_join as after}
use Rattle.station.specs.Seats.{IsSeat}
use Rattle.station.specs.Inside.{seat_of}

either_of : (P : List Entry → Type 0) (b : Bool) (xs ys : List Entry) → P xs → P ys → P (cond b ys xs)
either_of P true xs ys p q = q
either_of P false xs ys p q = p

-- another pass of the same turnstile was joined to a pass
pub record IsJoinOf (pass other back : PassState) : Type 0 where
  pub same_steps : other.terms.steps ≡ pass.terms.steps
  pub is : back ≡ after pass other
  pub own : back.mine ≡ entries_by back.number back.seen

pub seat_joins : {back : PassState} (pass other : PassState) → IsSeat (seat_of pass) → IsSeat (seat_of other)
    → IsJoinOf pass other back → IsSeat (seat_of back)
seat_joins {back} pass other p q join = record {
  legal = subst (λ (b : PassState). IsLegal b.terms.steps b.seen) (sym join.is)
      (either_of (IsLegal pass.terms.steps) (ltb (length pass.seen) (length other.seen)) pass.seen other.seen
      p.legal (subst (λ (s : List CapStep). IsLegal s other.seen) join.same_steps q.legal));
  halts = subst (λ (b : PassState). AreHaltsOwn b.seen) (sym join.is)
      (either_of AreHaltsOwn (ltb (length pass.seen) (length other.seen)) pass.seen other.seen p.halts q.halts);
  own = join.own;
}
