-- The requests in a connection's input, and those of them that were processed.
use Rattle.std.specs.Prelude.{ℕ, ◌≡◌, ◌⊎◌, ◌++◌, ◌==◌, ◌||◌, if◌then◌else◌, Bool, true, List, []}
use Rattle.std.specs.Prelude.{◌∷◌, map, slice_index, Ok}
use Rattle.vod_base.specs.Links.{IoEvent, HeardBytes}
use Rattle.interleave.specs.Heads.{is_line_end}
use Rattle.interleave.specs.Elements.{IsFirst}
use Rattle.interleave.specs.Streams.{AreInputElements, IsElementLength}
use Rattle.interleave.specs.declared.elements.Step.TheVariants.{Request}
use Rattle.conn.specs.EventSteps.{Round}
use Rattle.conn.specs.InputSteps.{Stage}
use Rattle.connection_laws.specs.InputSplits.{Beginning, InputSplit, HeardRequest, heard_requests}

-- all bytes that were received
abbrev pub bytes_in : IoEvent → List ℕ
bytes_in (HeardBytes bytes) = bytes
bytes_in _ = []

abbrev pub rounds_input : List Round → List ℕ
rounds_input [] = []
rounds_input (round ∷ rounds) = bytes_in round.event ++ rounds_input rounds

-- the requests among elements: those that begin with another byte than CR, LF and `$`
abbrev pub is_no_request : List ℕ → Bool
is_no_request element = is_line_end (slice_index element 0) || (slice_index element 0 == 36)

abbrev pub requests_in : List (List ℕ) → List (List ℕ)
requests_in [] = []
requests_in (element ∷ elements) = if is_no_request element
    then requests_in elements else element ∷ requests_in elements

abbrev pub message_of : HeardRequest → List ℕ
message_of hearing = hearing.message

-- a request waits for an earlier reply to be sent
pub record AwaitsReply (stage : Stage) : Type 0 where
  pub length : ℕ
  pub first : IsFirst stage.input (Ok (Request length))
  pub waits : stage.session.waits ≡ true

-- The input is split into elements and a rest, and the requests among them were processed, all in
-- order. So were all complete ones, unless an earlier reply waits or the 200 of a TEARDOWN was
-- sent.
pub record AreTaken (beginning : Beginning) (cutting : InputSplit beginning) : Type 0 where
  pub elements : List (List ℕ)
  pub cut : AreInputElements (rounds_input cutting.rounds) elements cutting.last.input
  pub requests : requests_in elements ≡ map message_of (heard_requests beginning cutting)
  pub rest : ((n : ℕ) → ¬ IsElementLength cutting.last.input n)
      ⊎ (AwaitsReply cutting.last ⊎ (cutting.last.session.torn ≡ true))
