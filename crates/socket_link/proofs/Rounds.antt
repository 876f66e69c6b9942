-- Calls of a link one after the other, and in the rounds of a loop.
use Rattle.std.proofs.Common.{◌≡◌, ℕ, ◌+◌, ◌-◌, ◌^◌, ◌<◌, ◌≤◌, Result, Ok, Err, IsTrue, length, refl, ap, ◌∙◌}
use Rattle.std.proofs.Common.{subst, arith, false, [], ◌∷◌, ◌++◌, None}
use Rattle.std.specs.Result.{IsErr}
use Rattle.vod_base.specs.declared.errors.LinkFault.{LinkFault}
use Rattle.socket_link.specs.declared.links.SocketLink.{SocketLink}
use Rattle.socket_link.specs.declared.sockets.Socket.{Ghosts}
use Rattle.socket_link.specs.Calls.{SocketCall}
use Rattle.socket_link.specs.Limits.{no_watch, reaches_limit, watch_of}
use Rattle.socket_link.specs.LinkCalls.{CallsSocket, LeavesHistory}
use Rattle.socket_link.specs.Steps.{HasServed}
use Rattle.socket_link.specs.Waits.{last_from, WaitFits}
use Rattle.socket_link.proofs.Steps.{served_none, reached_after, served_on, served_longer, cause_before, cause_rounds}
use Rattle.socket_link.proofs.Steps.{on_ok_map, on_err_map}

-- Rounds of a loop, in each of which the socket was called. None of these calls failed.
pub record IsRound {S : Type 0} {G : Ghosts S} (rounds : ℕ) (old new : SocketLink S G) : Type 0 where
  pub calls : CallsSocket {A = Unit {0}} {E = LinkFault} (Ok tt) old new
  pub longer : IsTrue G.tells → rounds + length (G.did old.socket) ≤ length (G.did new.socket)

module _ {S : Type 0} {G : Ghosts S} where
  pub history_none : (link : SocketLink S G) → LeavesHistory link link
  history_none link = record { doings = refl; slot = refl }

  pub history_on : {old mid new : SocketLink S G} → LeavesHistory old mid → LeavesHistory mid new →
      LeavesHistory old new
  history_on a b = record { doings = b.doings ∙ a.doings; slot = b.slot ∙ a.slot }

  -- one call of the socket, which doesn't show that a limit is reached
  pub calls_once : {A : Type 0} {answer : A} {old new : SocketLink S G} (call : SocketCall) →
      new.slot_units ≡ old.slot_units → new.faults ≡ old.faults → G.faults old.socket ≤ G.faults new.socket →
      (IsTrue G.tells → G.did new.socket ≡ G.did old.socket ++ call ∷ []) →
      (IsTrue G.tells → reaches_limit (watch_of no_watch (G.did old.socket)) call ≡ false) →
      (IsTrue G.tells → WaitFits old.slot_units (last_from None (G.did old.socket)) call) →
      CallsSocket {E = LinkFault} (Ok answer) old new
  calls_once {old} {new} call units faults count made early fits = record {
    units = units;
    faults = faults;
    count = count;
    served = λ tells. record {
      more = call ∷ [];
      now_is = made tells;
      within = reached_after (G.did old.socket) call (made tells) (early tells);
      waits = (fits tells, tt);
    };
    cause = tt;
  }

  -- a call after one that succeeded
  pub calls_on : {A B : Type 0} {first : A} {result : Result B LinkFault} {old mid new : SocketLink S G} →
      CallsSocket {E = LinkFault} (Ok first) old mid → CallsSocket result mid new → CallsSocket result old new
  calls_on {result} {old} {mid} {new} a b = record {
    units = b.units ∙ a.units;
    faults = b.faults ∙ a.faults;
    count =
        let first : G.faults old.socket ≤ G.faults mid.socket = a.count in
        let second : G.faults mid.socket ≤ G.faults new.socket = b.count in omega arith;
    served = on_ok_map result b.served (λ served tells.
        let P : ℕ → Type 0 = λ units. HasServed units (G.did mid.socket) (G.did new.socket) in
        served_on old.slot_units (G.did old.socket) (G.did mid.socket) (G.did new.socket) (a.served tells)
        (subst P a.units (served tells)));
    cause = on_err_map result b.cause (λ cause tells.
        cause_before (G.faults old.socket) (G.faults mid.socket) (G.faults new.socket) (G.did new.socket) a.count
        (cause tells));
  }

  -- the same calls with another answer
  pub calls_ok : {A B : Type 0} {first : A} {answer : B} {old new : SocketLink S G} →
      CallsSocket {E = LinkFault} (Ok first) old new → CallsSocket {E = LinkFault} (Ok answer) old new
  calls_ok a = record { units = a.units; faults = a.faults; count = a.count; served = a.served; cause = tt }

  pub calls_err : {A B : Type 0} {error : LinkFault} {result : Result B LinkFault} {old new : SocketLink S G} →
      IsErr result → CallsSocket {A = A} (Err error) old new → CallsSocket result old new
  calls_err {result = Ok answer} is a = cc
  calls_err {result = Err error} is a = record {
    units = a.units;
    faults = a.faults;
    count = a.count;
    served = tt;
    cause = a.cause;
  }

  pub round_first : (link : SocketLink S G) → IsRound 0 link link
  round_first link = record {
    calls = record {
      units = refl;
      faults = refl;
      count = omega arith;
      served = λ tells. served_none link.slot_units (G.did link.socket);
      cause = tt;
    };
    longer = λ tells. omega arith;
  }

  pub round_on : {A : Type 0} {answer : A} {rounds : ℕ} {old mid new : SocketLink S G} → IsRound rounds old mid →
      CallsSocket {E = LinkFault} (Ok answer) mid new →
      (IsTrue G.tells → length (G.did mid.socket) < length (G.did new.socket)) →
      IsRound (rounds + 1) old new
  round_on {rounds} {old} {mid} {new} r calls longer = record {
    calls = calls_ok (calls_on r.calls calls);
    longer = λ tells.
        let before : rounds + length (G.did old.socket) ≤ length (G.did mid.socket) = r.longer tells in
        let after : length (G.did mid.socket) < length (G.did new.socket) = longer tells in omega arith;
  }

  -- a further step of the same round
  pub round_more : {A : Type 0} {answer : A} {rounds : ℕ} {old mid new : SocketLink S G} → IsRound rounds old mid →
      CallsSocket {E = LinkFault} (Ok answer) mid new → IsRound rounds old new
  round_more {rounds} {old} {mid} {new} r calls = record {
    calls = calls_ok (calls_on r.calls calls);
    longer = λ tells.
        let before : rounds + length (G.did old.socket) ≤ length (G.did mid.socket) = r.longer tells in
        let after : length (G.did mid.socket) ≤ length (G.did new.socket) =
        served_longer mid.slot_units (G.did mid.socket) (G.did new.socket) (calls.served tells) in omega arith;
  }

  -- the same round, where the socket was not called
  pub round_same : {rounds : ℕ} {old mid new : SocketLink S G} → IsRound rounds old mid → new.socket ≡ mid.socket →
      new.slot_units ≡ mid.slot_units → new.faults ≡ mid.faults → IsRound rounds old new
  round_same {old} {mid} {new} r socket units faults =
      let count : G.faults new.socket ≡ G.faults mid.socket = ap (λ (s : S). G.faults s) socket in
      let did : G.did new.socket ≡ G.did mid.socket = ap (λ (s : S). G.did s) socket in
      record {
        calls = record {
          units = units ∙ r.calls.units;
          faults = faults ∙ r.calls.faults;
          count = rw count r.calls.count;
          served = rw did r.calls.served;
          cause = tt;
        };
        longer = rw did r.longer;
      }

  -- where the rounds are over
  pub round_end : {A : Type 0} {error : LinkFault} {rounds : ℕ} {old new : SocketLink S G} → IsRound rounds old new →
      2 ^ 64 - 1 ≤ rounds → CallsSocket {A = A} (Err error) old new
  round_end {rounds} {old} {new} r all = record {
    units = r.calls.units;
    faults = r.calls.faults;
    count = r.calls.count;
    served = tt;
    cause = λ tells.
        let longer : rounds + length (G.did old.socket) ≤ length (G.did new.socket) = r.longer tells in
        cause_rounds (G.faults old.socket) (G.faults new.socket) rounds (G.did new.socket) all (omega arith);
  }
