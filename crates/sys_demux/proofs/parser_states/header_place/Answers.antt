use Rattle.std.proofs.Common.{sym, subst}
use Rattle.sys_demux.specs.ParserStates.{LeadsTo, of_item, with_byte}
use Rattle.sys_demux.proofs.ItemPartLemmas.{HeaderByte, header_bad, header_leads}
use Rattle.sys_demux.proofs.parser_states.header_place.Goals as goal

pub returns-in-None-clause-next : goal.returns-in-None-clause-next
returns-in-None-clause-next c = λ p h.
    let b : HeaderByte (of_item p c.args.item) =
    record { header = c.args.header; byte = c.args.byte; left = c.args.left; at = h } in
    header_bad b c.in-None.ensures

pub returns-in-Some-clause-next : goal.returns-in-Some-clause-next
returns-in-Some-clause-next c = λ p h.
    let b : HeaderByte (of_item p c.args.item) =
    record { header = c.args.header; byte = c.args.byte; left = c.args.left; at = h } in
    subst (λ s. LeadsTo (with_byte (of_item p c.args.item) c.args.byte) s) (sym c.header_goes_on.ensures.place)
    (header_leads b c.in-Some.next c.in-Some.ensures.1)
