-- A seat that took the lock and gave it back.
use Rattle.std.proofs.Common.{◌++◌, length, arith, ◌≡◌, ℕ, List, [], ◌∷◌, refl, sym, ap, subst, ◌∙◌}
use Rattle.std.proofs.Common.{Result, Ok, Err, IfOk, IfErr}
use mathlib.Core.List.{IsPrefix}
use Rattle.plan_cert.specs.declared.Segment.{Segment}
use Rattle.admission.specs.declared.entries.Answer.{Answer}
use Rattle.admission.specs.declared.entries.Answer.TheVariants.{Admitted, Looked}
use Rattle.admission.specs.declared.entries.Command.{Command}
use Rattle.admission.specs.declared.entries.Entry.{Entry}
use Rattle.admission.specs.declared.entries.Full.{Full}
use Rattle.admission.specs.Books.{Journal}
use Rattle.slot_calendar.specs.declared.profiles.CapStep.{CapStep}
use Rattle.admission.specs.Histories.{open_count, state_after}
use Rattle.admission.specs.Machine.{IsAnswer}
use Rattle.admission.specs.Makers.{PlacedEntry, entries_by}
use Rattle.turnstile.specs.declared.view.Terms.{Terms}
use Rattle.turnstile.specs.Passes.{PassState}
use Rattle.turnstile.proofs.Prefixes.{made_own, prefix_self, prefix_trans}
use Rattle.station.specs.Bookings.{Booking}
use Rattle.station.specs.declared.answers.Looked.{Looked as Seen}
use Rattle.station.specs.declared.answers.PlayRefused.{PlayRefused}
use Rattle.station.specs.declared.answers.PlayRefused.TheVariants.{JournalFull, Overflow as PlayOverflow}
use Rattle.station.specs.Ledgers.{IsEntered, IsFullFor, IsPlayRefused, look_at, play_of}
use Rattle.station.specs.Answers.{IsFull, IsSeatRefused, HasMadeEntry}
use Rattle.station.specs.Inside.{seat_of}
use Rattle.station.specs.Seats.{IsSameSeat, SeatState}
use Rattle.station.proofs.EntryLemmas.{IsAt, seat_after}
use Rattle.station.proofs.SameSeats.{seat_seen}

-- a pass took the lock, and `old` is the book as it was then
pub record HasTakenTurn (p taken : PassState) (old : Journal) : Type 0 where
  pub pass : taken ≡ record p { seen = old.entries }
  pub longer : IsPrefix p.seen old.entries
  pub own : p.mine ≡ entries_by p.number old.entries
  pub terms : (let t : Terms = record { steps = old.steps; limit = old.limit } in t) ≡ p.terms

-- it was lent the book and gave the lock back, with the book as it is now
pub record HasGivenBack (taken back : PassState) (old lent last new : Journal) : Type 0 where
  pub left : back ≡ record taken { seen = last.entries; mine = entries_by taken.number last.entries }
  pub last_is : last ≡ new
  pub lent_is : lent ≡ old

-- an entire call: the seat took the lock, was lent the book, and gave it back
pub record Visit : Type 0 where
  pub seat : SeatState
  pub back : PassState
  pub lent : Journal
  pub new : Journal
  pub maker : ℕ
  pub at : IsAt seat lent
  pub back_is : seat_of back ≡ seat_after seat new
  pub maker_is : maker ≡ seat.number

abbrev pub visit : {p taken back : PassState} {seat : SeatState} {old lent last new : Journal} {maker : ℕ}
    → HasTakenTurn p taken old → HasGivenBack taken back old lent last new → maker ≡ p.number → seat_of p ≡ seat → Visit
visit {p} {back} {seat} {lent} {last} {new} {maker} turn given maker_is is = record {
  seat = seat;
  back = back;
  lent = lent;
  new = new;
  maker = maker;
  at = subst (λ (x : SeatState × Journal). IsAt x.0 x.1) (λ i. (is i, sym given.lent_is i)) (record {
    steps = ap (λ (t : Terms). t.steps) turn.terms;
    limit = ap (λ (t : Terms). t.limit) turn.terms;
    longer = turn.longer;
    own = turn.own;
  });
  back_is = ap seat_of given.left
      ∙ (ap (λ (x : PassState). seat_of (record x { seen = last.entries; mine = entries_by x.number last.entries }))
      turn.pass
      ∙ (ap (seat_after (seat_of p)) given.last_is ∙ ap (λ (s : SeatState). seat_after s new) is));
  maker_is = maker_is ∙ ap (λ (s : SeatState). s.number) is;
}

pub visit_same : (v : Visit) → IsPrefix v.lent.entries v.new.entries → IsSameSeat v.seat (seat_of v.back)
visit_same v longer = subst (IsSameSeat v.seat) (sym v.back_is)
    (seat_seen v.seat v.new.entries (entries_by v.seat.number v.new.entries)
    (prefix_trans v.seat.seen v.lent.entries v.new.entries v.at.longer longer))

pub visit_made : (v : Visit) {more : ℕ} {command : Command} {place : ℕ} {answer : Answer}
    → IsEntered v.lent v.new v.maker more command place answer
    → HasMadeEntry v.seat (seat_of v.back) more command place answer
visit_made v {more} {command} {place} {answer} made =
    let old = v.lent.entries in
    let e = subst (λ k. IsEntered v.lent v.new k more command place answer) v.maker_is made in
    let last : Entry = record { maker = v.seat.number; command = command; answer = answer } in
    let entries : v.new.entries ≡ old ++ last ∷ [] = ap (λ (j : Journal). j.entries) e.noted.journal_is in
    subst (λ s. HasMadeEntry v.seat s more command place answer) (sym v.back_is) record {
      before = old;
      place_is = e.noted.place_is;
      seen = entries;
      answer_is = subst (λ (s : List CapStep). IsAnswer s
          (state_after old) command answer) v.at.steps e.noted.answer_is;
      mine = ap (entries_by v.seat.number) entries ∙ (made_own v.seat.number old last refl
          ∙ (ap (λ (xs : List PlacedEntry). xs ++ record { place = length old; entry = last } ∷ []) (sym v.at.own)
          ∙ ap (λ (k : ℕ). let p : PlacedEntry = record { place = k; entry = last } in v.seat.mine ++ p ∷ [])
          (sym e.noted.place_is)));
      room = (let r = e.room in let l = v.at.limit in omega arith);
    }

pub visit_full : (v : Visit) {more entries live_plays : ℕ} → IsFullFor v.lent v.new more entries live_plays
    → IsFull v.seat (seat_of v.back) more entries live_plays
visit_full v {more} {entries} {live_plays} f =
    let same : v.new.entries ≡ v.lent.entries = ap (λ (j : Journal). j.entries) f.left in
    subst (λ s. IsFull v.seat s more entries live_plays) (sym v.back_is) record {
      mine = ap (entries_by v.seat.number) same ∙ sym v.at.own;
      entries_are = f.entries_are ∙ ap (λ (xs : List Entry). length xs) (sym same);
      open_is = f.open_is ∙ ap open_count (sym same);
      full = (let r = f.full in let l = v.at.limit in omega arith);
    }

pub visit_refused : (v : Visit) (heard : ℕ) (plan : List Segment) (why : PlayRefused)
    → IsPlayRefused v.lent v.new v.maker heard plan why → IsSeatRefused v.seat (seat_of v.back) heard plan why
visit_refused v heard plan (JournalFull back entries live_plays) f = (f.0, visit_full v f.1)
visit_refused v heard plan (PlayOverflow place slot booked asked) e = visit_made v e

-- the book is longer after a call
pub entered_longer : (v : Visit) {more : ℕ} {command : Command} {place : ℕ} {answer : Answer}
    → IsEntered v.lent v.new v.maker more command place answer → IsPrefix v.lent.entries v.new.entries
entered_longer v {command} {answer} e =
    let last : Entry = record { maker = v.maker; command = command; answer = answer } in
    (last ∷ [], sym (ap (λ (j : Journal). j.entries) e.noted.journal_is))

full_longer : (v : Visit) {more entries live_plays : ℕ} → IsFullFor v.lent v.new more entries live_plays
    → IsPrefix v.lent.entries v.new.entries
full_longer v f = subst (λ (j : Journal). IsPrefix v.lent.entries j.entries) (sym f.left) (prefix_self v.lent.entries)

pub play_longer : (v : Visit) (r : Result Booking PlayRefused) (heard : ℕ) (plan : List Segment)
    → IfOk r (λ b. IsEntered v.lent v.new v.maker 2 (play_of heard plan) b.number (Admitted b.start))
    → IfErr r (IsPlayRefused v.lent v.new v.maker heard plan)
    → IsPrefix v.lent.entries v.new.entries
play_longer v (Ok b) heard plan is not = entered_longer v is
play_longer v (Err (JournalFull back entries live_plays)) heard plan is not = full_longer v not.1
play_longer v (Err (PlayOverflow place slot booked asked)) heard plan is not = entered_longer v not

pub look_longer : (v : Visit) (r : Result Seen Full) (slot : ℕ)
    → IfOk r (λ l. IsEntered v.lent v.new v.maker 1 (look_at slot) l.place (Looked l.now l.at l.booked))
    → IfErr r (λ f. IsFullFor v.lent v.new 1 f.entries f.live)
    → IsPrefix v.lent.entries v.new.entries
look_longer v (Ok l) slot is not = entered_longer v is
look_longer v (Err f) slot is not = full_longer v not
