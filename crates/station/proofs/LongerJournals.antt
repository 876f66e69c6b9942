-- A longer journal, and the last entry of a seat.
use Rattle.std.proofs.Common.{◌≡◌, ◌<◌, ◌≤◌, ◌+◌, ℕ, List, [], ◌∷◌, length, get_or, take, arith, sym, ap, ◌∙◌}
use mathlib.Core.List.{IsPrefix}
use Rattle.std.proofs.lemmas.List.{get_or_append_left, get_or_push, length-append, take-append-le}
use Rattle.admission.specs.declared.entries.Answer.{Answer}
use Rattle.admission.specs.declared.entries.Command.{Command}
use Rattle.admission.specs.declared.entries.Entry.{Entry}
use Rattle.admission.specs.Makers.{entries_by, made_from}
use Rattle.turnstile.proofs.Prefixes.{made_more}
use Rattle.station.specs.Answers.{HasMadeEntry}
use Rattle.station.specs.Seats.{SeatState}

pub prefix_at : (seen journal : List Entry) → IsPrefix seen journal → (i : ℕ) (none : Entry) → i < length seen
    → get_or journal i none ≡ get_or seen i none
prefix_at seen journal p i none inside =
    ap (λ (xs : List Entry). get_or xs i none) (sym p.1) ∙ get_or_append_left seen p.0 none i inside

pub prefix_take : (seen journal : List Entry) → IsPrefix seen journal → (n : ℕ) → n ≤ length seen
    → take n journal ≡ take n seen
prefix_take seen journal p n le = ap (take n) (sym p.1) ∙ take-append-le n seen p.0 le

pub prefix_made : (seen journal : List Entry) → IsPrefix seen journal → (maker : ℕ)
    → IsPrefix (entries_by maker seen) (entries_by maker journal)
prefix_made seen journal p maker =
    (made_from (0 + length seen) maker p.0, sym (made_more maker 0 seen p.0) ∙ ap (entries_by maker) p.1)

pub last_entry : {old new : SeatState} {more : ℕ} {command : Command} {place : ℕ} {answer : Answer}
    → HasMadeEntry old new more command place answer → (none : Entry)
    → get_or new.seen place none
    ≡ (let e : Entry = record { maker = old.number; command = command; answer = answer } in e)
last_entry {old} {command} {place} {answer} m none =
    ap (λ (xs : List Entry). get_or xs place none) m.seen
    ∙ get_or_push m.before (let e : Entry =
    record { maker = old.number; command = command; answer = answer } in e) none place (sym m.place_is)

pub last_place : {old new : SeatState} {more : ℕ} {command : Command} {place : ℕ} {answer : Answer}
    → HasMadeEntry old new more command place answer → place + 1 ≡ length new.seen
last_place {old} {new} {command} {place} {answer} m =
    let e : Entry = record { maker = old.number; command = command; answer = answer } in
    let long = ap (λ (xs : List Entry). length xs) m.seen in let more_ =
    length-append m.before (e ∷ []) in let at = m.place_is in omega arith
