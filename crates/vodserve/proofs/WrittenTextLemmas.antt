-- Texts that are written.
use Rattle.vod_base.specs.declared.errors.SinkFault.{SinkFault}
use Rattle.std.proofs.Common.{◌≡◌, ℕ, List, length, sym, ap, ◌∙◌, arith, Option, Result, Ok, Err}
use Rattle.std.specs.Prelude.{OnErr, OnOk}
use Rattle.vod_base.specs.IoState.{IsWrittenPrefix, told_more}
use Rattle.std.proofs.lemmas.List.{take_all}

-- a text that was to be written left a prefix of itself
pub written_front : (result : Result (Unit {0}) SinkFault) (told told' : Option (List ℕ)) (text : List ℕ) →
    OnOk result (told' ≡ told_more told text) →
    OnErr result (IsWrittenPrefix told told' text) → IsWrittenPrefix told told' text
written_front (Ok done) told told' text whole front =
    (length text, (omega arith, whole ∙ ap (told_more told) (sym (take_all (length text) text (omega arith)))))
written_front (Err fault) told told' text whole front = front
