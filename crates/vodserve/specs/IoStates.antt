-- What is seen of the I/O objects: the library, the streams and the gate.
use Rattle.std.specs.Prelude.{ℕ, List, Option}
use Rattle.vod_base.specs.IoState.{File}
use Rattle.vod_base.specs.Gates.{Content}
use Rattle.conn.specs.Parts.{WorkerGate, worker_gate}

-- a library or a stream: how many faults it counted, and what it exposed of its content
pub record IoState (T : Type 0) : Type 0 where
  pub faults : ℕ
  pub told : Option T

-- what is seen of a library, a stream or a gate
abbrev pub io_state_of : {S T : Type 0} → (S → ℕ) → (S → Option T) → S → IoState T
io_state_of faults told it = record { faults = faults it; told = told it }

abbrev pub gate_state_of : {G : Type 0} → (G → ℕ) → (G → Option Content) → G → WorkerGate
gate_state_of faults told gate = worker_gate (faults gate) (told gate)

-- the library, the output, the error stream and the gate
pub record World : Type 0 where
  pub store : IoState (List File)
  pub out : IoState (List ℕ)
  pub err : IoState (List ℕ)
  pub gate : WorkerGate

abbrev pub world : IoState (List File) → IoState (List ℕ) → IoState (List ℕ) → WorkerGate → World
world store out err gate = record { store = store; out = out; err = err; gate = gate }

-- the output and the error stream, before a command and after it
pub record Streams : Type 0 where
  pub out : IoState (List ℕ)
  pub out_after : IoState (List ℕ)
  pub err : IoState (List ℕ)
  pub err_after : IoState (List ℕ)

abbrev pub streams : IoState (List ℕ) → IoState (List ℕ) → IoState (List ℕ) → IoState (List ℕ) →
    Streams
streams out out' err err' = record { out = out; out_after = out'; err = err; err_after = err' }

abbrev pub streams_of : World → World → Streams
streams_of before after = streams before.out after.out before.err after.err
