-- Which fault of I/O an end blames.
use Rattle.std.specs.Prelude.{◌≡◌, ℕ, IfErr, Result}
use Rattle.vod_base.specs.IoState.{HasRisen}
use Rattle.rtsp_client.specs.declared.watch_request.WatchEnd.{WatchEnd}
use Rattle.rtsp_client.specs.declared.watch_request.WatchEnd.TheVariants.{LinkFault, SinkFault}

-- the link is blamed only where its count of faults rose, and so is the output
pub record HasCause (end : WatchEnd) (old_link new_link old_out new_out : ℕ) : Type 0 where
  pub link : end ≡ LinkFault → HasRisen old_link new_link
  pub out : end ≡ SinkFault → HasRisen old_out new_out

-- what a call blames that answers an end, by the counts of faults before it and after it
abbrev pub EndsWithCause : {A : Type 0} → Result A WatchEnd → ℕ → ℕ → ℕ → ℕ → Type 0
EndsWithCause result old_link new_link old_out new_out =
    IfErr result (λ end. HasCause end old_link new_link old_out new_out)
