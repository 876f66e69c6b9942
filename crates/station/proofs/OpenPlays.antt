-- A play that was just admitted is open among its maker's entries.
use Rattle.std.proofs.Common.{All, ◌≡◌, ◌≤◌, ℕ, List, [], ◌∷◌, ◌++◌, length, arith, refl, sym, ap, subst, ◌∙◌}
use Rattle.std.proofs.lemmas.List.{get_or_push, length-append, take_at}
use Rattle.std.proofs.lemmas.List.Elements.{All-push, All-weaker}
use Rattle.plan_cert.specs.declared.Segment.{Segment}
use Rattle.plan_cert.specs.PlanSlots.{total_bytes}
use Rattle.admission.specs.declared.entries.Answer.TheVariants.{Admitted}
use Rattle.admission.specs.declared.entries.Entry.{Entry}
use Rattle.admission.specs.Books.{Journal}
use Rattle.admission.specs.Histories.{Halts, IsLegal}
use Rattle.admission.specs.Makers.{Admits, IsOpenAmong, PlacedEntry, entries_by}
use Rattle.admission.proofs.HistoryPrefixes.{legal_history, LegalHistory, halt_in, legal-take, no_entry}
use Rattle.admission.proofs.Makers.{IsMade, all-made}
use Rattle.admission.proofs.OpenPlays.{halt-later, halt_at}
use Rattle.turnstile.proofs.Prefixes.{made_own}
use Rattle.station.specs.Seats.{SeatState}
use Rattle.station.proofs.SeatTurns.{Visit}
use Rattle.station.specs.Ledgers.{IsEntered, play_of}

-- it can be halted with each number of its bytes
abbrev pub IsOpenFor : List PlacedEntry → ℕ → List Segment → Type 0
IsOpenFor mine number plan = (keep : ℕ) → keep ≤ total_bytes plan → IsOpenAmong mine number keep

-- no entry of a legal history halts a play that would come after it
none_halts : (h : LegalHistory) (maker number : ℕ) → length h.entries ≤ number
    → All (λ (q : PlacedEntry). Halts number q.entry.command → ⊥) (entries_by maker h.entries)
none_halts h maker number long =
    All-weaker (IsMade 0 maker h.entries) (λ (q : PlacedEntry). Halts number q.entry.command → ⊥)
    (λ q made halts.
    let here = subst (λ (e : Entry). Halts number e.command) made.entry_is halts in
    omega (arith, halt-later (halt_in h (halt_at {i = made.at} no_entry made.inside here).1), made.inside, long))
    (entries_by maker h.entries) (all-made 0 maker h.entries)

pub visit_open : (v : Visit) (heard : ℕ) (plan : List Segment) {number start : ℕ}
    → IsEntered v.lent v.new v.maker 2 (play_of heard plan) number (Admitted start)
    → IsOpenFor v.back.mine number plan
visit_open v heard plan {number} {start} entered keep small =
    let maker = v.seat.number in let old = v.lent in let new = v.new in
    let e = subst (λ k. IsEntered old new k 2 (play_of heard plan) number (Admitted start)) v.maker_is entered in
    let last : Entry = record { maker = maker; command = play_of heard plan; answer = Admitted start } in
    let p : PlacedEntry = record { place = length old.entries; entry = last } in
    let mine : List PlacedEntry = entries_by maker old.entries in
    let entries : new.entries ≡ old.entries ++ last ∷ [] = ap (λ (j : Journal). j.entries) e.noted.journal_is in
    let legal : IsLegal new.steps old.entries =
    subst (IsLegal new.steps) (take_at old.entries (last ∷ []) (length old.entries) refl)
    (legal-take new.steps (old.entries ++ last ∷ []) (length old.entries)
    (subst (IsLegal new.steps) entries e.noted.legal)) in
    let place : number ≡ length old.entries = e.noted.place_is in
    let more = length-append mine (p ∷ []) in
    let made : v.back.mine ≡ mine ++ p ∷ [] =
    ap (λ (s : SeatState). s.mine) v.back_is ∙ (ap (entries_by maker) entries ∙ made_own maker old.entries last refl) in
    subst (λ (xs : List PlacedEntry). IsOpenAmong xs number keep) (sym made) record {
      start = start;
      segments = plan;
      index = length mine;
      inside = omega arith;
      admission = λ none. subst (λ (q : PlacedEntry). Admits q number start plan)
          (sym (get_or_push mine p none (length mine) refl)) record { place_is = sym place; admitted = refl };
      unhalted = All-push (λ (q : PlacedEntry). Halts number q.entry.command → ⊥) mine p
          (none_halts (legal_history legal) maker number (omega arith))
          (λ halts. absurd halts);
      small = small;
    }
