-- How the history of a link goes on following the calls of its socket, step by step.
use Rattle.std.proofs.Common.{◌≡◌, ℕ, false, List, [], ◌∷◌, ◌++◌, refl, sym, ap, ◌∙◌, append_assoc, IsTrue}
use Rattle.std.proofs.lemmas.List.{append-nil}
use Rattle.vod_base.specs.Links.{IoEvent, sends}
use Rattle.vod_base.specs.MemoryLinks.{sent_of}
use Rattle.socket_link.specs.declared.limits.Watch.{Watch}
use Rattle.socket_link.specs.declared.links.SocketLink.{SocketLink}
use Rattle.socket_link.specs.declared.sockets.Purpose.{Purpose}
use Rattle.socket_link.specs.declared.sockets.Purpose.TheVariants.{Slot}
use Rattle.socket_link.specs.declared.sockets.Socket.{Ghosts}
use Rattle.socket_link.specs.Calls.{SocketCall, GaveBytes, GaveNothing, GaveEnd, TookBytes, TookNothing, WasInterrupted}
use Rattle.socket_link.specs.Calls.{ReadClock, Waited, ShutDown, taken_of, arrivals_of}
use Rattle.socket_link.specs.Slots.{slots_due, slots_after, is_for_slots}
use Rattle.socket_link.specs.Limits.{no_watch, watch_of}
use Rattle.socket_link.specs.Histories.{heard_of, slots_heard, Follows}
use Rattle.socket_link.proofs.Appends.{taken_of-append, arrivals_of-append, slots_due-append, watch_of-append}
use Rattle.socket_link.proofs.Appends.{heard_of-append, heard_of-sends, slots_heard-append, slots_heard-sends}
use Rattle.vod_base.proofs.LinkLogLemmas.{sent_of-append, sent_of-sends}

-- what `Follows` speaks of
pub record LinkState : Type 0 where
  pub watch : Watch
  pub calls : List SocketCall
  pub waiting : List ℕ
  pub doings : List IoEvent

abbrev pub state_of : {S : Type 0} {G : Ghosts S} → SocketLink S G → LinkState
state_of {S} {G} link = record {
  watch = link.watch;
  calls = G.did link.socket;
  waiting = link.buffer;
  doings = link.history.doings;
}

abbrev pub FollowsAt : ℕ → LinkState → Type 0
FollowsAt units s = Follows units s.watch s.calls s.waiting s.doings

-- a link whose history follows the calls of its socket
pub record Followed : Type 0 where
  pub units : ℕ
  pub state : LinkState
  pub follows : FollowsAt units state

abbrev pub followed : {S : Type 0} {G : Ghosts S} (link : SocketLink S G) → IsTrue G.tells → Followed
followed link tells = record { units = link.slot_units; state = state_of link; follows = link.follows tells }

-- what one step adds
pub record Adds (units : ℕ) (old new : LinkState) : Type 0 where
  pub calls : List SocketCall
  pub doings : List IoEvent
  pub calls_are : new.calls ≡ old.calls ++ calls
  pub doings_are : new.doings ≡ old.doings ++ doings
  pub bytes : old.waiting ++ sent_of doings ≡ taken_of calls ++ new.waiting
  pub heard : heard_of doings ≡ arrivals_of calls
  pub slots : slots_heard (slots_heard [] old.doings) doings ≡ slots_due units (slots_heard [] old.doings) calls
  pub watch : new.watch ≡ watch_of old.watch calls

pub follows_on : (link : Followed) (new : LinkState) → Adds link.units link.state new → FollowsAt link.units new
follows_on link new adds = let units = link.units in let old = link.state in (
  ap sent_of adds.doings_are ∙ sent_of-append old.doings adds.doings
      ∙ ap (λ (b : List ℕ). b ++ sent_of adds.doings) link.follows.0
      ∙ append_assoc (taken_of old.calls) old.waiting (sent_of adds.doings)
      ∙ ap (λ (b : List ℕ). taken_of old.calls ++ b) adds.bytes
      ∙ sym (append_assoc (taken_of old.calls) (taken_of adds.calls) new.waiting)
      ∙ ap (λ (b : List ℕ). b ++ new.waiting)
      (sym (ap taken_of adds.calls_are ∙ taken_of-append old.calls adds.calls)),
  ap heard_of adds.doings_are ∙ heard_of-append old.doings adds.doings
      ∙ ap (λ (b : List (List ℕ)). b ++ heard_of adds.doings) link.follows.1
      ∙ ap (λ (b : List (List ℕ)). arrivals_of old.calls ++ b) adds.heard
      ∙ sym (ap arrivals_of adds.calls_are ∙ arrivals_of-append old.calls adds.calls),
  ap (slots_heard []) adds.doings_are ∙ slots_heard-append [] old.doings adds.doings
      ∙ adds.slots
      ∙ ap (λ (s : List ℕ). slots_due units s adds.calls) link.follows.2
      ∙ sym (ap (slots_due units []) adds.calls_are ∙ slots_due-append units [] old.calls adds.calls),
  adds.watch ∙ ap (λ (w : Watch). watch_of w adds.calls) link.follows.3
      ∙ sym (ap (watch_of no_watch) adds.calls_are ∙ watch_of-append no_watch old.calls adds.calls),
)

-- a call that gives and takes no byte, and reads no clock
abbrev pub IsSilent : SocketCall → Type 0
IsSilent GaveNothing = Unit {0}
IsSilent TookNothing = Unit {0}
IsSilent WasInterrupted = Unit {0}
IsSilent (Waited most) = Unit {0}
IsSilent ShutDown = Unit {0}
IsSilent _ = ⊥

silent_adds : (units : ℕ) (call : SocketCall) (old : LinkState) (now : List SocketCall) → IsSilent call →
    now ≡ old.calls ++ call ∷ [] → Adds units old (record old { calls = now })
silent_adds units (GaveBytes bytes) old now silent is = absurd silent
silent_adds units GaveEnd old now silent is = absurd silent
silent_adds units (TookBytes bytes) old now silent is = absurd silent
silent_adds units (ReadClock purpose time) old now silent is = absurd silent
silent_adds units call old now silent is = record {
  calls = call ∷ [];
  doings = [];
  calls_are = is;
  doings_are = sym (append-nil old.doings);
  bytes = append-nil old.waiting;
  heard = refl;
  slots = refl;
  watch = refl;
}

pub follows_silent : (link : Followed) (call : SocketCall) {now : List SocketCall} → IsSilent call →
    now ≡ link.state.calls ++ call ∷ [] → FollowsAt link.units (record link.state { calls = now })
follows_silent link call {now} silent is =
    follows_on link (record link.state { calls = now }) (silent_adds link.units call link.state now silent is)

-- a reading of the clock that doesn't count for slots
pub slots_after-other : (units : ℕ) (purpose : Purpose) (time : ℕ) (slots : List ℕ) → is_for_slots purpose ≡ false →
    slots_after units slots (ReadClock purpose time) ≡ slots
slots_after-other units Slot time slots other = cc
slots_after-other units _ time slots other = refl

-- bytes that are given to `send`
pub follows_put : (link : Followed) {left : List ℕ} {doings : List IoEvent} (bytes : List ℕ) →
    left ≡ link.state.waiting ++ bytes → doings ≡ link.state.doings ++ sends bytes →
    FollowsAt link.units (record link.state { waiting = left; doings = doings })
follows_put link {left} {doings} bytes left_is doings_are =
    let old = link.state in
    follows_on link (record old { waiting = left; doings = doings }) (record {
      calls = [];
      doings = sends bytes;
      calls_are = sym (append-nil old.calls);
      doings_are = doings_are;
      bytes = ap (λ (b : List ℕ). old.waiting ++ b) (sent_of-sends bytes) ∙ sym left_is;
      heard = heard_of-sends bytes;
      slots = slots_heard-sends (slots_heard [] old.doings) bytes;
      watch = refl;
    })

-- the slots that were reported, after further events
pub newest_on : (old doings : List IoEvent) {new : List IoEvent} → new ≡ old ++ doings →
    slots_heard [] new ≡ slots_heard (slots_heard [] old) doings
newest_on old doings is = ap (slots_heard []) is ∙ slots_heard-append [] old doings
