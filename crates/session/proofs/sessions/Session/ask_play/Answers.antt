use Rattle.std.proofs.Common.{◌≡◌, refl, ◌∙◌, inl, arith}
use Rattle.rtsp_text.proofs.SingleLineTexts.{one_line-name}
use Rattle.session.proofs.SharedTerms.{first_number, play_front, session_state_of}
use Rattle.session.proofs.sessions.Session.ask_play.Goals as goal

pub put_play-requires-clause-name_line : goal.put_play-requires-clause-name_line
put_play-requires-clause-name_line c = grind (arith, one_line-name)

pub invariant_of-self-2 : goal.invariant_of-self-2
invariant_of-self-2 c =
    let frames = c.frames_of-frames.ensures.frames in
    let ready = rw (← c.self.view_is) at c.requires.ready in
    let run = rw (← c.self.view_is) at c.requires.run in
    rw (c.set.ensures, frames, c.in-Ok.ensures.own, c.in-Ok.ensures.paced) (grind arith)

pub returns-clause-exact : goal.returns-clause-exact
returns-clause-exact c =
    let stored = c.stored_at-stored.result.now in
    let old = session_state_of c.self.inside in
    let setup = c.args.setup.now in
    let info = c.info_of-info.ensures in
    let frames = c.frames_of-frames.ensures.frames in
    let number : c.info_of-info.result.sequence ≡ first_number old stored setup c.args.planned = grind arith in
    let text : c.put_play.new.reply
    ≡ play_front old stored setup c.args.planned c.args.sequence c.args.authority.now =
    c.put_play.ensures.text ∙ rw (info.first, info.end, info.authority, info.name, number, info.time) refl in
    let lists = c.plans_with_room.ensures.lists in
    rw (
      c.set.ensures,
      frames,
      c.in-Ok.ensures.own,
      c.in-Ok.ensures.paced,
      text,
      lists.receipts,
      lists.plays,
      lists.offers,
      ← c.self.view_is,
    )
    (inl (record { stored = stored; at = c.stored_at-stored.ensures.film; command = refl; state = refl }))
