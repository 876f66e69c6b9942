use Rattle.std.proofs.Common.{◌≡◌, ◌++◌, ◌∷◌, [], true, sym, subst, ◌∙◌, arith, inl}
use Rattle.std.proofs.lemmas.List.{length-append}
use Rattle.sys_demux.specs.ValidStates.{is_sound}
use Rattle.sys_demux.specs.ParserStates.{IsReached, IsAtHeader, IsByByte, Reading}
use Rattle.sys_demux.specs.declared.parser_states.ParserState.{ParserState}
use Rattle.sys_demux.proofs.ItemPartLemmas.{high_more}
use Rattle.sys_demux.proofs.FedBytesLemmas.{step_none, moved, left_back, part_of, part_size}
use Rattle.sys_demux.proofs.unwrapper.Unwrapper.take.Goals as goal
use Rattle.sys_demux.proofs.unwrapper.Unwrapper.take.Goals.{in-Zeros, in-Value, in-Mark, in-High}
use Rattle.sys_demux.proofs.unwrapper.Unwrapper.take.Goals.{in-End, in-Failed, in-InHeader, in-Low, in-Pass, in-Video}

pub returns-clause-next : goal.returns-clause-next
returns-clause-next c = λ seen video was.
    let u = c.args.self.now in
    let m = c.match-self in
    let byte = c.args.byte in
    let now : ParserState → Reading =
    λ s. record { state = s; place = u.item; now = u.chosen; seen = seen; video = video } in
    let next : Reading =
    record { state = m.place; place = m.item; now = m.chosen; seen = byte ∷ []; video = [] } in
    let at : (s : ParserState) → u.place ≡ s → IsReached (now s) =
    λ s is. subst (λ x. IsReached (now x)) is was.reached in
    let reached : IsReached (record next { seen = seen ++ byte ∷ []; video = video }) =
    elim m.branch [
      | in-Zeros w ↦
          (let r = at _ w.in-Zeros.is in
          moved {a = next} (record {
            state = w.place-is;
            place = w.item-is ∙ w.saturating_sub-item.ensures;
            now = w.chosen-is;
          }) (step_none r (record next { state = _; place = _; now = _ })
          (inl (w.zeros_next-place.ensures.next (part_of r) r.is_part (was.count ∙ sym (part_size r))))))
      | in-Value w ↦
          (let r = at _ w.in-Value.is in
          moved {a = next} (record { state = w.place-is; place = w.item-is; now = w.chosen-is ∙ w.choose-chosen.ensures })
          (step_none r (record next { state = _; place = _; now = _ })
          (inl (w.value_next-place.ensures.next (part_of r) r.is_part))))
      | in-Mark w ↦
          (let r = at _ w.in-Mark.is in
          moved {a = next} (record { state = w.place-is; place = w.item-is; now = w.chosen-is })
          (step_none r (record next { state = _; place = _; now = _ })
          (inl (w.mark_next-place.ensures.next (part_of r) r.is_part))))
      | in-High w ↦
          (let r = at _ w.in-High.is in
          moved {a = next} (record { state = w.place-is; place = w.item-is; now = w.chosen-is })
          (step_none r (record next { state = _; place = _; now = _ })
          (inl (high_more {p = part_of r} r.is_part.0, r.is_part.1))))
      | in-Low w ↦
          (let r = at _ w.in-Low.is in
          moved {a = next} (record { state = w.place-is; place = w.item-is; now = w.chosen-is })
          (step_none r (record next { state = _; place = _; now = _ })
          (w.length_next-place.ensures.next (part_of r) r.is_part.0 r.is_part.1)))
      | in-InHeader w ↦
          (let r = at _ w.in-InHeader.is in
          let back = left_back w.in-InHeader.header w.in-InHeader.left
          (subst (λ s. is_sound s ≡ true) w.in-InHeader.is u.sound) in
          moved {a = next} (record { state = w.place-is; place = w.item-is; now = w.chosen-is })
          (step_none r (record next { state = _; place = _; now = _ })
          (w.header_place-place.ensures.next (part_of r)
          (subst (λ n. IsAtHeader (part_of r) w.in-InHeader.header n) back r.is_part))))
      | in-Pass w ↦ absurd (subst IsByByte w.in-Pass.is c.requires.place)
      | in-Video w ↦ absurd (subst IsByByte w.in-Video.is c.requires.place)
      | in-End w ↦ absurd (subst IsByByte w.in-End.is c.requires.place)
      | in-Failed w ↦ absurd (subst IsByByte w.in-Failed.is c.requires.place)
    ] in
    record { count = omega (arith, was.count, length-append seen (byte ∷ [])); reached = reached }
