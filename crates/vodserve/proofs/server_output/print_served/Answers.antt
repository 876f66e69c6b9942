use Rattle.std.proofs.Common.{◌≡◌, ◌∙◌, ℕ, length, ap, subst, arith}
use Rattle.vod_base.specs.IoState.{IsWrittenPrefix}
use Rattle.vodserve.specs.ServerOutput.{served_text}
use Rattle.vodserve.proofs.WrittenTextLemmas.{written_front}
use Rattle.vodserve.proofs.server_output.print_served.Goals as goal

pub returns-in-NoMemory-clause-printed : goal.returns-in-NoMemory-clause-printed
returns-in-NoMemory-clause-printed g c =
    let before = g.O.Sink.written c.args.out.now in
    let after = g.O.Sink.written c.write_all-written.new.self in
    let text : c.deref.result.now
    ≡ served_text c.args.closed.now.book.entries (length c.args.closed.now.reports.items) =
    c.deref.ensures.value ∙ (c.in_ok-text.ensures {u = tt})
    ∙ ap (λ (n : ℕ). served_text c.args.closed.now.book.entries n)
    (omega (arith, c.len.ensures, c.args.closed.now.reports.ok)) in
    subst (IsWrittenPrefix before after) text
    (written_front c.write_all-written.result before after c.deref.result.now c.write_all-written.ensures.whole
    c.write_all-written.ensures.front)
