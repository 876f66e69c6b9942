-- The end of a connection.
use Rattle.std.proofs.Common.{◌≡◌, ℕ, List, [], ◌∷◌, ◌++◌, sym, ap, ◌∙◌, length, ◌⊎◌, inl}
use Rattle.std.proofs.Common.{inr, Bool, true, ◌==◌, IsTrue}
use Rattle.std.proofs.lemmas.Bool.{eqb-true}
use Rattle.std.proofs.lemmas.List.{append-nil}
use Rattle.vod_base.specs.MemoryLinks.{sent_of}
use Rattle.socket_link.specs.declared.links.SocketLink.{SocketLink}
use Rattle.socket_link.specs.declared.sockets.Socket.{Ghosts}
use Rattle.socket_link.specs.declared.limits.TheConstants.{STUCK_LIMIT, LINGER}
use Rattle.socket_link.specs.Calls.{ShutDown, taken_of}
use Rattle.socket_link.specs.LinkCalls.{LeavesHistory}
use Rattle.socket_link.specs.Steps.{HasLasted, HasFoundEnd, HasClosed}
use Rattle.socket_link.proofs.Parts.{no_bytes}

-- where nothing waits, all that was sent was taken
all_taken : {S : Type 0} {G : Ghosts S} (link : SocketLink S G) → IsTrue G.tells → length link.buffer ≡ 0 →
    sent_of link.history.doings ≡ taken_of (G.did link.socket)
all_taken {G} link tells none =
    let taken = taken_of (G.did link.socket) in
    (link.follows tells).0 ∙ ap (λ (l : List ℕ). taken ++ l) (no_bytes link.buffer none) ∙ append-nil taken

-- the three steps of a close, with the link after the first
pub record Closes {S : Type 0} {G : Ghosts S} (old now : SocketLink S G) : Type 0 where
  pub written : SocketLink S G
  pub history : LeavesHistory old written
  pub all : (length written.buffer ≡ 0) ⊎ HasLasted STUCK_LIMIT (G.did old.socket) (G.did written.socket)
  pub lingered : HasFoundEnd (G.did now.socket) ⊎ HasLasted LINGER (G.did written.socket ++ ShutDown ∷ [])
      (G.did now.socket)

pub closed : {S : Type 0} {G : Ghosts S} {old now : SocketLink S G} → IsTrue G.tells → Closes old now →
    HasClosed (sent_of old.history.doings) (G.did old.socket) (G.did now.socket)
closed {G} {old} tells closes = record {
  before = G.did closes.written.socket;
  written = elim closes.all as (λ _. (sent_of old.history.doings ≡ taken_of (G.did closes.written.socket))
      ⊎ HasLasted STUCK_LIMIT (G.did old.socket) (G.did closes.written.socket)) [
        | inl none ↦ inl (ap sent_of (sym closes.history.doings) ∙ all_taken closes.written tells none)
        | inr lasted ↦ inr lasted
      ];
  lingered = closes.lingered;
}

-- an empty buffer
pub none_left : (buffer waiting : List ℕ) (empty : Bool) → waiting ≡ buffer → empty ≡ (length waiting == 0) → empty ≡
    true → length buffer ≡ 0
none_left buffer waiting empty is tested yes_ =
    ap (λ (l : List ℕ). length l) (sym is) ∙ eqb-true (length waiting) 0 (sym tested ∙ yes_)
