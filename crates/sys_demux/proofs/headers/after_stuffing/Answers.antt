use Rattle.std.proofs.Common.{◌-◌, ◌≡◌, ◌≤◌, ◌⊎◌, ◌∷◌, inl, inr}
use Rattle.sys_demux.specs.PacketContents.{from_stuffing, from_size}
use Rattle.sys_demux.specs.ValidStates.{least_rest}
use Rattle.sys_demux.specs.ParserStates.{video_from}
use Rattle.sys_demux.proofs.PacketHeaderSteps.{stuffing_ends, says_same}
use Rattle.sys_demux.proofs.headers.after_stuffing.Goals as goal
use Rattle.sys_demux.proofs.headers.after_stuffing.Goals.{then-byte-ne255-via-then-byte-ne255}
use Rattle.sys_demux.proofs.headers.after_stuffing.Goals.{then-byte-ne255-via-else-byte-ne255+then-count-ge16}

pub returns-then-byte-ne255 : goal.returns-then-byte-ne255
returns-then-byte-ne255 c =
    let why : (c.args.byte ≡ 255 → ⊥) ⊎ (16 ≤ c.args.count) = elim c.then-byte-ne255.branch [
      | then-byte-ne255-via-then-byte-ne255 w ↦ inl w.if-byte-ne255.true
      | then-byte-ne255-via-else-byte-ne255+then-count-ge16 w ↦ inr w.if-count-ge16.true
    ] in
    says_same {f = λ rest. from_stuffing (16 - c.args.count) (c.args.byte ∷ rest)}
    {g = λ rest. from_size (c.args.byte ∷ rest)}
    c.args.left least_rest video_from c.after_size.result
    (λ rest. stuffing_ends c.args.count c.args.byte rest why) c.after_size.ensures
