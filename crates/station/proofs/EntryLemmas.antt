-- What a call at the book leaves of the seat that made it.
use Rattle.std.proofs.Common.{◌≡◌, ℕ, [], ◌∷◌, ◌++◌, get_or, sym, ap, subst, ◌∙◌, Result}
use Rattle.std.proofs.Common.{Ok, Err, IfOk, OnErr, false, true≢false}
use mathlib.Core.List.{IsPrefix}
use Rattle.admission.specs.declared.entries.Command.{Command}
use Rattle.admission.specs.declared.entries.Command.TheVariants.{Halt}
use Rattle.admission.specs.declared.entries.Entry.{Entry}
use Rattle.admission.specs.declared.entries.Noted.{Noted}
use Rattle.admission.specs.Books.{IsNoted, Journal}
use Rattle.admission.specs.Histories.{IsLegal, is_halt}
use Rattle.admission.specs.Makers.{AreHaltsOwn, entries_by}
use Rattle.station.specs.Seats.{SeatState}
use Rattle.station.proofs.Halts.{halts_push}

-- a maker's call at the book
pub record BookCall : Type 0 where
  pub old : Journal
  pub new : Journal
  pub maker : ℕ
  pub command : Command

-- its entry keeps each play halted by its own maker
pub halts_noted : (call : BookCall) {noted : Noted} → IsNoted call.old call.maker call.command noted call.new
    → AreHaltsOwn call.old.entries
    → ((number keep : ℕ) (none : Entry) → call.command ≡ Halt number keep
    → call.maker ≡ (get_or call.old.entries number none).maker)
    → AreHaltsOwn call.new.entries
halts_noted call {noted} e own mine =
    let last : Entry = record { maker = call.maker; command = call.command; answer = noted.answer } in
    let entries : call.new.entries ≡ call.old.entries ++ last ∷ [] = ap (λ (j : Journal). j.entries) e.journal_is in
    subst AreHaltsOwn (sym entries)
    (halts_push record { legal = subst (IsLegal call.new.steps) entries e.legal; own = own; last = mine })

-- a call that halts nothing
pub record HaltlessCall : Type 0 where
  pub call : BookCall
  pub open call use *
  pub no_halt : is_halt command ≡ false

-- so does such a call, with or without an entry
pub halts_told : {E : Type 0} (r : Result Noted E) (call : HaltlessCall)
    → IfOk r (λ noted. IsNoted call.old call.maker call.command noted call.new) → OnErr r (call.new ≡ call.old)
    → AreHaltsOwn call.old.entries → AreHaltsOwn call.new.entries
halts_told (Ok noted) call is left own = halts_noted call.call is own
    (λ number keep none e. absurd (true≢false (sym (ap is_halt e) ∙ call.no_halt)))
halts_told (Err why) call is left own = subst (λ (j : Journal). AreHaltsOwn j.entries) (sym left) own

-- a seat at a book that begins with what it has seen
pub record IsAt (seat : SeatState) (book : Journal) : Type 0 where
  pub steps : book.steps ≡ seat.steps
  pub limit : book.limit ≡ seat.limit
  pub longer : IsPrefix seat.seen book.entries
  pub own : seat.mine ≡ entries_by seat.number book.entries

-- the seat once it gave the book back
abbrev pub seat_after : SeatState → Journal → SeatState
seat_after seat book = record seat { seen = book.entries; mine = entries_by seat.number book.entries }
