use Rattle.std.proofs.Common.{ℕ, sym, ap, subst, ◌∙◌, get_or}
use Rattle.admission.specs.Books.{Journal}
use Rattle.admission.specs.declared.entries.Command.{Command}
use Rattle.admission.specs.declared.entries.Command.TheVariants.{Halt, Look, Play}
use Rattle.admission.specs.Makers.{IsOpenAmong, entries_by}
use Rattle.station.proofs.EntryLemmas.{halts_noted}
use Rattle.station.proofs.Makers.{maker_of}
use Rattle.station.proofs.ledger.Ledger.halt.Goals as goal

abbrev halted_or : ℕ → Command → ℕ
halted_or d (Halt number keep) = number
halted_or d (Look slot) = d
halted_or d (Play slot segments) = d

pub halt-requires : goal.halt-requires
halt-requires c =
    c.law_own_open_play_can_be_halted.ensures c.self.inside.book.steps c.self.inside.book.entries c.args.maker
    c.args.number
    c.args.keep c.entries-entries.ensures.legal c.self.invariant
    (subst (λ (j : Journal). IsOpenAmong (entries_by c.args.maker j.entries) c.args.number c.args.keep)
    (sym c.self.view_is) c.requires)

pub invariant_of-self : goal.invariant_of-self
invariant_of-self c =
    let open_ = subst (λ (j : Journal). IsOpenAmong (entries_by c.args.maker j.entries) c.args.number c.args.keep)
    (sym c.self.view_is) c.requires in
    halts_noted (record { old = _; new = _; maker = _; command = _ }) c.halt.ensures.noted c.self.invariant
    (λ number keep none e. sym (maker_of c.self.inside.book.entries c.args.maker c.args.number c.args.keep none open_)
    ∙ ap (λ (k : ℕ). (get_or c.self.inside.book.entries k none).maker) (ap (halted_or 0) e))
