use Rattle.std.proofs.Common.{List, ◌∷◌, subst, sym, arith, rules}
use Rattle.mpeg_scan.specs.ScannerState.{HasReadBytes}
use Rattle.std.proofs.lemmas.Result.{on_ok_weaker}
use Rattle.mpeg_scan.specs.Calls.{Call}
use Rattle.mpeg_scan.proofs.ScanBoundLemmas.{both-ok, coded-ahead, coded-awaits, noted-ahead, noted-awaits, room-before}
use Rattle.mpeg_scan.proofs.ScanStepLemmas.{code-noted, taken-plain, taken-code, taken-fault, taken-calls, taken-none}
use Rattle.mpeg_scan.proofs.progress.Progress.take_byte.Goals as goal

pub take_code-requires : goal.take_code-requires
take_code-requires g c = record {
  room = room-before c.args.byte (sym c.if-not-is_whole.ensures) c.note-2.ensures c.requires.room;
  within = omega arith;
  ready = noted-awaits (g.F.Found.ready_at c.args.found.now) c.args.self.now c.note-2.new.self c.args.byte
      c.note-2.ensures c.requires.ready;
}

pub returns : goal.returns
returns g c =
    let code = code-noted c.args.self.now c.args.byte c.if-not-is_whole.ensures c.note-2.ensures in
    let taken = c.take_code.ensures.taken in record {
      kept = on_ok_weaker c.take_code.result (λ h r kept. taken-code code kept h) taken;
      heard = on_ok_weaker c.take_code.result
          (λ h r calls kept heard. subst (λ (l : List Call). g.F.Found.heard c.take_code.new.found l)
          (taken-calls code kept calls) (h _ heard)) c.take_code.ensures.heard;
      fault = λ f is r kept. taken-fault code kept (c.take_code.ensures.fault f is);
      unheard = c.take_code.ensures.unheard;
      fed = search rules;
      room = on_ok_weaker c.take_code.result (λ h. coded-ahead code h c.requires.room) taken;
      ready = both-ok c.take_code.result
          (λ h k. coded-awaits (g.F.Found.ready_at c.take_code.new.found) code h.1 k) taken c.take_code.ensures.ready;
    }

pub returns-then-not-is_whole : goal.returns-then-not-is_whole
returns-then-not-is_whole g c = record {
  kept = λ r kept. subst (λ v. HasReadBytes v (c.args.byte ∷ r)) (sym c.note.ensures)
      (taken-plain (sym c.if-not-is_whole.ensures) kept);
  heard = λ r calls kept heard. subst (λ (l : List Call). g.F.Found.heard c.args.found.now l)
      (taken-none c.args.byte (sym c.if-not-is_whole.ensures) kept calls) heard;
  fault = search rules;
  unheard = search rules;
  fed = search rules;
  room = noted-ahead c.args.self.now c.note.new.self c.args.byte c.note.ensures c.requires.room;
  ready = noted-awaits (g.F.Found.ready_at c.args.found.now) c.args.self.now c.note.new.self c.args.byte
      c.note.ensures c.requires.ready;
}
