use Rattle.std.proofs.Common.{◌≡◌, ◌≤◌, ◌+◌, ℕ, List, length, take, set, ap, ◌∙◌, arith}
use Rattle.std.proofs.lemmas.List.{length-take-le}
use Rattle.mpeg_scan.specs.HeaderBytes.{header_with}
use Rattle.mpeg_scan.proofs.CodeLemmas.{noted-room, noted-full}
use Rattle.mpeg_scan.proofs.header_bytes.HeaderBytes.note.Goals as goal

pub returns-then-self-lt-LONGEST : goal.returns-then-self-lt-LONGEST
returns-then-self-lt-LONGEST c =
    let t = c.self.inside in
    ap (λ i. take (t.len + 1) (set t.bytes i c.args.byte)) c.from.ensures
    ∙ noted-room t.bytes t.len c.args.byte c.if-self-lt-LONGEST.true c.self.told
    ∙ ap (λ (header : List ℕ). header_with header c.args.byte) c.self.view_is

pub returns-else-self-lt-LONGEST : goal.returns-else-self-lt-LONGEST
returns-else-self-lt-LONGEST c =
    let t = c.self.inside in
    let held : t.len ≤ length t.bytes = omega (arith, c.self.told, c.self.invariant) in
    let shown : length (take t.len t.bytes) ≡ length c.args.self.now =
    ap (λ (header : List ℕ). length header) c.self.view_is in
    noted-full c.args.self.now c.args.byte (omega
    (arith, length-take-le t.len t.bytes held, shown, c.if-self-lt-LONGEST.false))
