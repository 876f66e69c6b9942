-- A day after one more entry of its journal.
use Rattle.std.proofs.Common.{arith, ◌≡◌, ◌<◌, ℕ, List, length, set, get_or, ◌≤◌, [], ◌∷◌, ◌++◌, sym, ap, subst, ◌∙◌}
use Rattle.std.proofs.Common.{max}
use Rattle.std.proofs.lemmas.Grind.{common_steps}
use Rattle.std.proofs.lemmas.List.{length-append, get_or_append_left, length-set}
use Rattle.plan_cert.specs.PlanSlots.{total_bytes}
use Rattle.admission.specs.declared.entries.Command.TheVariants.{Halt, Play, Look}
use Rattle.admission.specs.declared.entries.Entry.{Entry}
use Rattle.admission.specs.Histories.{Halts, state_after}
use Rattle.admission.specs.Machine.{CanHalt, State, next_state}
use Rattle.admission.proofs.PlayLookup.{found-next}
use Rattle.admission.proofs.HistoryPrefixes.{state-push}
use Rattle.day_run.specs.declared.clients.Client.{Client}
use Rattle.day_run.specs.declared.clients.Client.TheVariants.{Playing}
use Rattle.day_run.specs.Clients.{AreBooked, AreGoing, AreTimed, AreUndone, IsBooked, IsGoing, IsOpenOf, IsQuiet}
use Rattle.day_run.specs.Clients.{IsTimed, IsUndone, IsHaltOf, IsPlaying}
use Rattle.plan_cert.specs.declared.Segment.{Segment}
use Rattle.admission.specs.declared.entries.Answer.{Answer}
use Rattle.day_run.specs.declared.clients.Client.TheVariants as clients
use Rattle.day_run.specs.declared.clients.Halt.{Halt as ClientHalt}
use Rattle.day_run.specs.declared.clients.ClientPlay.{ClientPlay}
use Rattle.day_run.specs.MachineState.{IsDayMachine, IsSoundDay}
use Rattle.day_run.specs.declared.machine.DayMachine.{DayMachine}

-- the element that is set, and the others as before
pub set-at : {X : Type 0} (P : ℕ → X → Type 0) (xs : List X) (c d : ℕ) (x none : X) → (d ≡ c → c < length xs) → P c x
    → ((d ≡ c → ⊥) → P d (get_or xs d none)) → P d (get_or (set xs c x) d none)
set-at P xs c d x none inside own other = grind (arith, common_steps)

-- ---- the plays that a book has open for the clients of a day, after one more entry
-- an entry halts none but a client's plays
pub record HaltsNone (xs : List Entry) (client : ℕ) (e : Entry) : Type 0 where
  pub apart : (number : ℕ) → Halts number e.command → ((none : Entry) → (get_or xs number none).maker ≡ client) → ⊥

-- an entry that doesn't halt a client's play leaves it open
booked-push : (xs : List Entry) (c : ℕ) (client : Client) (e : Entry) → HaltsNone xs c e → IsBooked xs c client
    → IsBooked (xs ++ e ∷ []) c client
booked-push xs c client e given given' = search (arith, found-next, length-append, get_or_append_left, state-push)

-- an entry that halts nothing
pub booked-more : (xs : List Entry) (clients : List Client) (e : Entry)
    → ((number : ℕ) → Halts number e.command → ⊥) → AreBooked xs clients → AreBooked (xs ++ e ∷ []) clients
booked-more xs clients e none booked =
    record {
      each =
          λ c d inside. booked-push xs c (get_or clients c d) e
          (record { apart = λ number halts _. none number halts }) (booked.each c d inside);
    }

-- what is true of each client
abbrev AreEach : (ℕ → Client → Type 0) → List Client → Type 0
AreEach P clients = (c : ℕ) (none : Client) → c < length clients → P c (get_or clients c none)

-- once one client is put in the place of another
each-set : (P : ℕ → Client → Type 0) (clients : List Client) (c : ℕ) (client : Client) → P c client
    → AreEach (λ (d : ℕ) (x : Client). (d ≡ c → ⊥) → P d x) clients → AreEach P (set clients c client)
each-set P clients c client own others d none inside =
    let within : d < length clients = omega (arith, inside, length-set clients c client) in
    set-at P clients c d client none (λ same. omega (arith, same, within)) own (others d none within)

each-kept : (P : ℕ → Client → Type 0) (clients : List Client) (c : ℕ) (client : Client) → P c client → AreEach P clients
    → AreEach P (set clients c client)
each-kept P clients c client own each = each-set P clients c client own (λ d none inside other. each d none inside)

-- clients whose plays a book has open
pub record BookedClients : Type 0 where
  pub xs : List Entry
  pub clients : List Client
  pub booked : AreBooked xs clients

-- a client is put in the place of one, whose play alone an entry may halt
booked-set : (on : BookedClients) (c : ℕ) (client : Client) (e : Entry) → ((d : ℕ) → (d ≡ c → ⊥) → HaltsNone on.xs d e)
    → IsBooked (on.xs ++ e ∷ []) c client → AreBooked (on.xs ++ e ∷ []) (set on.clients c client)
booked-set on c client e others own = record {
  each = each-set (IsBooked (on.xs ++ e ∷ [])) on.clients c client own (λ d none inside other.
      booked-push on.xs d (get_or on.clients d none) e (others d other) (on.booked.each d none inside));
}

quiet-booked : (xs : List Entry) (c : ℕ) (client : Client) → IsQuiet client → IsBooked xs c client
quiet-booked xs c client given = grind arith

-- an entry halts a play of a client that may be halted so
pub record HaltsOpenPlay (xs : List Entry) (c : ℕ) : Type 0 where
  pub e : Entry
  pub number : ℕ
  pub keep : ℕ
  pub command : e.command ≡ Halt number keep
  pub its : IsOpenOf xs c number keep

-- the client is quiet from then on
pub booked-halt : (on : BookedClients) (c : ℕ) (client : Client) (halt : HaltsOpenPlay on.xs c) → IsQuiet client
    → AreBooked (on.xs ++ halt.e ∷ []) (set on.clients c client)
booked-halt on c client halt quiet =
    booked-set on c client e (λ d other. record {
      apart = λ n halts maker.
          let same : number ≡ n = subst (Halts n) command halts in
          other (sym (maker e) ∙ ap (λ k. (get_or on.xs k e).maker) (sym same) ∙ its.maker e);
    }) (quiet-booked (on.xs ++ e ∷ []) c client quiet)
  where
    open halt use {e, number, command, its}

-- one client is put in the place of another
pub going-set : (clients : List Client) (c : ℕ) (client : Client) → IsGoing client → AreGoing clients
    → AreGoing (set clients c client)
going-set clients c client own going =
    record { each = each-kept (λ (n : ℕ) (x : Client). IsGoing x) clients c client own going.each }

pub undone-set : (clients : List Client) (c : ℕ) (client : Client) → IsUndone client
    → AreUndone (length clients) clients → AreUndone (length (set clients c client)) (set clients c client)
undone-set clients c client own undone =
    record { each = each-kept (λ (n : ℕ) (x : Client). IsUndone x) clients c client own undone.each }

pub booked-same : (xs : List Entry) (clients : List Client) (c : ℕ) (client : Client) → IsBooked xs c client
    → AreBooked xs clients → AreBooked xs (set clients c client)
booked-same xs clients c client own booked =
    record { each = each-kept (IsBooked xs) clients c client own booked.each }

pub timed-set : (heard : ℕ) (clients : List Client) (c : ℕ) (client : Client) → IsTimed heard client
    → AreTimed heard clients → AreTimed heard (set clients c client)
timed-set heard clients c client own timed =
    record { each = each-kept (λ (n : ℕ) (x : Client). IsTimed heard x) clients c client own timed.each }

-- ---- a day after one more entry of its journal
now-halt : (state : State) (place number keep : ℕ) (answer : Answer)
    → (next_state state place (Halt number keep) answer).now ≡ state.now
now-halt state place number keep answer = grind arith

-- the machine's now after an entry of a halt
pub halted-now : (xs : List Entry) (e : Entry) (number keep : ℕ) → e.command ≡ Halt number keep
    → (state_after (xs ++ e ∷ [])).now ≡ (state_after xs).now
halted-now xs e number keep is = search (state-push xs e, now-halt (state_after xs) (length xs) number keep e.answer)

pub played-now : (xs : List Entry) (e : Entry) (slot : ℕ) (segments : List Segment) → e.command ≡ Play slot segments
    → (state_after (xs ++ e ∷ [])).now ≤ max (state_after xs).now slot
played-now xs e slot segments is = grind (arith, state-push)

pub looked-now : (xs : List Entry) (e : Entry) (slot : ℕ) → e.command ≡ Look slot
    → (state_after (xs ++ e ∷ [])).now ≡ (state_after xs).now
looked-now xs e slot is = grind (arith, state-push xs e)

-- a client that goes on soundly, whose play the book has open
pub record IsOnBook (xs : List Entry) (c : ℕ) (client : Client) : Type 0 where
  pub going : IsGoing client
  pub booked : IsBooked xs c client

-- the play of a client that is halted so
pub open-halt : {xs : List Entry} {c : ℕ} {halt : ClientHalt} (client : Client) → IsOnBook xs c client
    → IsHaltOf client halt → IsOpenOf xs c halt.number halt.keep
open-halt client given given' = search arith

-- ---- a day after one more entry
-- a client is put in the place of one, and the journal goes on
record ClientSet (day : DayMachine) (ys : List Entry) (c : ℕ) (client : Client) : Type 0 where
  now : (state_after ys).now ≤ day.heard
  going : IsGoing client
  undone : IsUndone client
  timed : IsTimed day.heard client
  booked : AreBooked ys (set day.clients.items c client)

day-set : {ys : List Entry} {c : ℕ} {client : Client} (day : DayMachine) → IsDayMachine day → ClientSet day ys c client
    → IsSoundDay day.slot_units day.heard ys (set day.clients.items c client)
day-set {ys} {c} {client} day sound is = search (length-set, going-set, undone-set, timed-set)

-- the entry of a client's halt, and the client after it
pub record HaltEntered (day : DayMachine) (ys : List Entry) (c : ℕ) (client : Client) : Type 0 where
  pub halt : HaltsOpenPlay day.book.entries c
  pub entries_are : ys ≡ day.book.entries ++ halt.e ∷ []
  pub going : IsGoing client
  pub undone : IsUndone client
  pub quiet : IsQuiet client
  pub timed : IsTimed day.heard client

-- a client's play was halted
pub day-halted : {ys : List Entry} {c : ℕ} {client : Client} (day : DayMachine) → IsDayMachine day
    → HaltEntered day ys c client → IsSoundDay day.slot_units day.heard ys (set day.clients.items c client)
day-halted {c} {client} day sound entered =
    subst (λ (l : List Entry). IsSoundDay day.slot_units day.heard l (set day.clients.items c client)) (sym entries_are)
    (day-set day sound (record {
      now = omega (arith, halted-now day.book.entries halt.e halt.number halt.keep halt.command, sound.now_heard);
      going = going;
      undone = undone;
      timed = timed;
      booked = booked-halt (record {
        xs = day.book.entries;
        clients = day.clients.items;
        booked = sound.booked;
      }) c client halt quiet;
    }))
  where
    open entered use {entries_are, halt, going, undone, quiet, timed}

-- an entry that halts no play
pub record EntryNoted (day : DayMachine) (ys : List Entry) : Type 0 where
  pub e : Entry
  pub entries_are : ys ≡ day.book.entries ++ e ∷ []
  pub none : (number : ℕ) → Halts number e.command → ⊥
  pub now : (state_after (day.book.entries ++ e ∷ [])).now ≤ day.heard

pub day-noted : {ys : List Entry} (day : DayMachine) → IsDayMachine day → EntryNoted day ys
    → IsSoundDay day.slot_units day.heard ys day.clients.items
day-noted day sound noted = grind (arith, booked-more)

-- the entry of a client's play, and the play
pub record PlayEntered (day : DayMachine) (ys : List Entry) (c : ℕ) (play : ClientPlay) : Type 0 where
  pub e : Entry
  pub slot : ℕ
  pub segments : List Segment
  pub entries_are : ys ≡ day.book.entries ++ e ∷ []
  pub command : e.command ≡ Play slot segments
  pub late : slot ≤ day.heard
  pub maker : e.maker ≡ c
  pub number : play.number ≡ length day.book.entries
  pub can : CanHalt (state_after ys) play.number (total_bytes play.plan)
  pub playing : IsPlaying play
  pub undone : IsUndone (clients.Playing play)
  pub timed : IsTimed day.heard (clients.Playing play)

-- a client's play was admitted
pub day-played : {ys : List Entry} {c : ℕ} {play : ClientPlay} (day : DayMachine) → IsDayMachine day
    → PlayEntered day ys c play
    → IsSoundDay day.slot_units day.heard ys (set day.clients.items c (clients.Playing play))
day-played {c} {play} day sound entered =
    let xs = day.book.entries in
    let none : (n : ℕ) → Halts n e.command → ⊥ = λ n halts. let never : ⊥ = subst (Halts n) command halts in never in
    let its : IsOpenOf (xs ++ e ∷ []) c play.number (total_bytes play.plan) = grind (arith, common_steps) in
    subst (λ (l : List Entry). IsSoundDay day.slot_units day.heard l (set day.clients.items c (clients.Playing play)))
    (sym entries_are) (day-set day sound (record {
      now = omega (arith, played-now xs e slot segments command, sound.now_heard, late);
      going = playing;
      undone = undone;
      timed = timed;
      booked = booked-set (record { xs = xs; clients = day.clients.items; booked = sound.booked }) c
          (clients.Playing play) e (λ d other. record { apart = λ n halts _. none n halts }) its;
    }))
  where
    open entered use {e, slot, segments, entries_are, command, late, maker, number, can, playing, undone, timed}
