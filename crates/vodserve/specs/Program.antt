-- What the program did with what the machine gives it: two gates, of which a command goes through
-- one, and random bytes, which a server alone draws. `ProgramSpec`, at the end, is what
-- `run_program` promises.
use Rattle.std.specs.Prelude.{◌≡◌, ◌++◌, ℕ, Bool, true, false, if◌then◌else◌, List, Option, None}
use Rattle.std.specs.Prelude.{Some, ◌⊎◌, option_map}
use Rattle.vod_base.specs.IoState.{File}
use Rattle.cli_args.specs.Invocations.{Invocation, serve_of, watch_of}
use Rattle.cli_errors.specs.declared.errors.CliError.TheVariants.{GateFault, NoMemory}
use Rattle.conn.specs.Parts.{WorkerGate}
use Rattle.vodserve.specs.IoStates.{IoState, World, world}
use Rattle.vodserve.specs.Run.{FailsWith, HasServedNothing, RunSpec}
use Rattle.vodserve.specs.declared.run_results.Ended.{Ended}

-- the library, the streams, the gate that listens, the gate that dials, and the random bytes that
-- were drawn, where their source exposes them
pub record Machine : Type 0 where
  pub store : IoState (List File)
  pub out : IoState (List ℕ)
  pub err : IoState (List ℕ)
  pub listening : WorkerGate
  pub dialing : WorkerGate
  pub drawn : Option (List ℕ)

-- the bytes that a source gave, where it exposes them
abbrev pub drawn_if : Bool → List ℕ → Option (List ℕ)
drawn_if tells drawn = if tells then Some drawn else None

-- whether the arguments ask for a film of a server
abbrev pub is_watch : Option Invocation → Bool
is_watch (Some (watch_of _)) = true
is_watch _ = false

-- whether the arguments ask for a server
abbrev pub is_serve : Option Invocation → Bool
is_serve (Some (serve_of _)) = true
is_serve _ = false

-- what the gate that listens shows of a run, and what the gate that dials shows
abbrev pub listening_world : Machine → World
listening_world m = world m.store m.out m.err m.listening

abbrev pub dialing_world : Machine → World
dialing_world m = world m.store m.out m.err m.dialing

-- a server whose identities come from the next 32 random bytes
pub record HasSeed (before after : Machine) (asked : Option Invocation) (ended : Ended) : Type 0
  where
    pub seed : List ℕ
    pub drawn : after.drawn ≡ option_map (λ bytes. bytes ++ seed) before.drawn
    pub ran : RunSpec (listening_world before) (listening_world after) seed asked ended

-- a server that had no random bytes: it opened no gate, and its error is that of the gate
pub record HasNoSeed (before after : Machine) (ended : Ended) : Type 0 where
  pub store : after.store ≡ before.store
  pub out : after.out ≡ before.out
  pub listening : after.listening ≡ before.listening
  pub nothing : HasServedNothing ended
  pub fails : FailsWith before.err after.err GateFault ended

-- `watch` goes through the gate that dials, and leaves the other one alone; all other commands go
-- through the gate that listens; and only a server draws random bytes
pub record ProgramSpec (before after : Machine) (asked : Option Invocation) (ended : Ended)
    : Type 0 where
  pub watch : is_watch asked ≡ true → (after.listening ≡ before.listening)
      × ((seed : List ℕ) × RunSpec (dialing_world before) (dialing_world after) seed asked ended)
  pub other : is_watch asked ≡ false → is_serve asked ≡ false → (seed : List ℕ)
      × RunSpec (listening_world before) (listening_world after) seed asked ended
  pub serve : is_serve asked ≡ true → HasSeed before after asked ended
      ⊎ HasNoSeed before after ended
  pub undialed : is_watch asked ≡ false → after.dialing ≡ before.dialing
  pub undrawn : is_serve asked ≡ false → after.drawn ≡ before.drawn

-- the arguments couldn't be kept: nothing was done, and the error is that memory is out
pub record HasNoArguments (before after : Machine) (ended : Ended) : Type 0 where
  pub store : after.store ≡ before.store
  pub out : after.out ≡ before.out
  pub listening : after.listening ≡ before.listening
  pub dialing : after.dialing ≡ before.dialing
  pub drawn : after.drawn ≡ before.drawn
  pub nothing : HasServedNothing ended
  pub fails : FailsWith before.err after.err NoMemory ended

-- what is seen of a machine
abbrev pub machine : IoState (List File) → IoState (List ℕ) → IoState (List ℕ) → WorkerGate →
    WorkerGate → Option (List ℕ) → Machine
machine store out err listening dialing drawn =
    record {
      store = store;
      out = out;
      err = err;
      listening = listening;
      dialing = dialing;
      drawn = drawn;
    }
