-- How often and when a gate tries to accept a connection.
use Rattle.std.specs.Prelude.{◌≡◌, ℕ, ◌*◌, ◌^◌, ◌-◌, ◌≤◌, Bool, IsTrue, min, List, [], ◌∷◌, ◌++◌}
use Rattle.std.specs.Prelude.{length, ◌⊎◌}
use Rattle.vod_base.specs.IoState.{HasRisen}
use Rattle.listener_gate.specs.declared.listeners.ListenerDoing.{ListenerDoing}
use Rattle.listener_gate.specs.declared.listeners.ListenerDoing.TheVariants.{Accepted}
use Rattle.listener_gate.specs.declared.listeners.ListenerDoing.TheVariants.{TransientError}
use Rattle.listener_gate.specs.declared.listeners.ListenerDoing.TheVariants.{ShortageError, Waited}

-- an accept that failed and is tried again: at once after a transient error, after a wait where
-- descriptors or memory are short
pub data FailedTry : Type 0 where
  RetriedAtOnce : FailedTry
  RetriedAfterWait : FailedTry

-- the wait for the first shortage, in ms
abbrev pub first_wait : ℕ
first_wait = 10

-- and for the next one: twice as long, at most 1 s
abbrev pub longer_wait : ℕ → ℕ
longer_wait ms = min (2 * ms) 1000

-- the wait after the next shortage, after a failed try
abbrev pub wait_after : FailedTry → ℕ → ℕ
wait_after RetriedAtOnce ms = ms
wait_after RetriedAfterWait ms = longer_wait ms

-- a failed try as doings, where the wait for a shortage is `ms` now
abbrev pub failed_try : ℕ → FailedTry → List ListenerDoing
failed_try ms RetriedAtOnce = TransientError ∷ []
failed_try ms RetriedAfterWait = ShortageError ∷ (Waited ms ∷ [])

-- failed tries one after another, as doings
abbrev pub failed_tries : ℕ → List FailedTry → List ListenerDoing
failed_tries ms [] = []
failed_tries ms (t ∷ ts) = failed_try ms t ++ failed_tries (wait_after t ms) ts

-- the wait after the next shortage, after these tries
abbrev pub wait_after_tries : ℕ → List FailedTry → ℕ
wait_after_tries ms [] = ms
wait_after_tries ms (t ∷ ts) = wait_after_tries (wait_after t ms) ts

-- A connection was accepted, after tries that failed: what was done before and after, where the
-- wait for a shortage was `ms`.
pub record IsAcceptedAfter (ms : ℕ) (before after : List ListenerDoing) : Type 0 where
  pub tries : List FailedTry
  pub did : after ≡ before ++ failed_tries ms tries ++ Accepted ∷ []

-- After tries that failed the next one failed for good: the last wait or the last accept did, as
-- the listener's count of faults shows, or 2^64 - 1 were tried, which takes longer than a machine
-- lasts.
pub record IsGivenUp (ms faults_before faults_after : ℕ) (tells : Bool) (before after : List
    ListenerDoing) : Type 0 where
  pub tries : List FailedTry
  pub did : IsTrue tells → (after ≡ before ++ failed_tries ms tries) ⊎ (after ≡ before ++
      failed_tries ms tries ++ ShortageError ∷ [])
  pub why : HasRisen faults_before faults_after ⊎ (2 ^ 64 - 1 ≤ length tries)

-- So many tries failed so far, and the wait for a shortage rose from `ms` to `wait`.
pub record HasTried (ms wait count : ℕ) (tells : Bool) (before after : List ListenerDoing) : Type 0
  where
    pub tries : List FailedTry
    pub number : length tries ≡ count
    pub waits : wait ≡ wait_after_tries ms tries
    pub did : IsTrue tells → after ≡ before ++ failed_tries ms tries
