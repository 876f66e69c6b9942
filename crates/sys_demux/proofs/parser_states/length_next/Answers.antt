use Rattle.std.proofs.Common.{◌≤◌, [], ◌∷◌, ◌≡◌, ◌+◌, ◌*◌, ◌==◌, cond, sym, ap, subst, ◌∙◌, arith}
use Rattle.sys_demux.specs.StreamItems.{choose, is_chosen}
use Rattle.sys_demux.specs.ParserStates.{IsAtPrefix, LeadsTo, Part, choosing, of_item, with_byte}
use Rattle.sys_demux.specs.declared.headers.Header.TheVariants.{Stuffing}
use Rattle.sys_demux.specs.declared.parser_states.ParserState.TheVariants.{InHeader, Pass, Zeros}
use Rattle.sys_demux.proofs.ItemPartLemmas.{LengthRead, length_passed, length_none, length_header}
use Rattle.sys_demux.proofs.parser_states.length_next.Goals as goal
use Rattle.sys_demux.proofs.parser_states.length_next.Goals.{After-is_chosen}

abbrev read-at : (c : After-is_chosen) (p : Part)
    → IsAtPrefix (choosing (of_item p c.args.item) c.args.chosen) (c.args.value ∷ c.args.high ∷ [])
    (choose p.after.chosen c.args.value)
    → 187 ≤ c.args.value → LengthRead (choosing (of_item p c.args.item) c.args.chosen)
read-at c p h value_is =
    record { value = c.args.value; high = c.args.high; low = c.args.low; at_prefix = h; value_is = value_is }

pub returns-then-not-is_chosen-clause-next : goal.returns-then-not-is_chosen-clause-next
returns-then-not-is_chosen-clause-next c = λ p h value_is.
    let now = choosing (of_item p c.args.item) c.args.chosen in
    let read = read-at (goal.at.returns-then-not-is_chosen-clause-next c).After-is_chosen p h value_is in
    let other = ap (λ o. is_chosen o c.args.value) (sym h.now_is) ∙ sym c.is_chosen.ensures ∙ c.if-not-is_chosen.true in
    let total : c.from.result * 256 + c.from-2.result ≡ c.args.high * 256 + c.args.low =
    omega (arith, c.from.ensures, c.from-2.ensures) in
    subst (λ s. LeadsTo (with_byte now c.args.low) s)
    (sym (c.pass.ensures ∙ ap (λ n. cond (n == 0) (Zeros 0) (Pass n)) total)) (length_passed read other)

pub returns-then-length-eq0-clause-next : goal.returns-then-length-eq0-clause-next
returns-then-length-eq0-clause-next c = λ p h value_is.
    let read = read-at (goal.at.returns-then-length-eq0-clause-next c).After-is_chosen p h value_is in
    let chosen = ap (λ o. is_chosen o c.args.value) (sym h.now_is) ∙ sym c.is_chosen.ensures ∙ c.if-not-is_chosen.false in
    length_none read chosen (omega (arith, c.from.ensures, c.from-2.ensures, c.if-length-eq0.true))

pub returns-else-length-eq0-clause-next : goal.returns-else-length-eq0-clause-next
returns-else-length-eq0-clause-next c = λ p h value_is.
    let now = choosing (of_item p c.args.item) c.args.chosen in
    let read = read-at (goal.at.returns-else-length-eq0-clause-next c).After-is_chosen p h value_is in
    let chosen = ap (λ o. is_chosen o c.args.value) (sym h.now_is) ∙ sym c.is_chosen.ensures ∙ c.if-not-is_chosen.false in
    let total : c.args.high * 256 + c.args.low ≡ c.from.result * 256 + c.from-2.result =
    omega (arith, c.from.ensures, c.from-2.ensures) in
    subst (λ n. LeadsTo (with_byte now c.args.low) (InHeader (Stuffing 0) n)) total (length_header read chosen)
