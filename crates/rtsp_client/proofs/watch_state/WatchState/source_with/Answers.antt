use Rattle.std.proofs.Common.{◌≡◌, Ok, refl, ap, rules, sym, ◌∙◌}
use Rattle.rtp_pack.specs.Heads.{head_of}
use Rattle.rtsp_client.specs.States.{State, source_after}
use Rattle.rtsp_client.proofs.Sources.{head-long, head-read, head-unread, long-so, rest-whole}
use Rattle.rtsp_client.proofs.watch_state.WatchState.source_with.Goals as goal

pub returns-in_err-play-clause-source : goal.returns-in_err-play-clause-source
returns-in_err-play-clause-source c =
    rw (c.from_residual.ensures, ap (λ (s : State). s.play) (sym c.self.view_is) ∙ c.in_err-play.was {u = tt}) refl

pub returns-then-is_complete-clause-source : goal.returns-then-is_complete-clause-source
returns-then-is_complete-clause-source c =
    rw (
      ap (λ (s : State). s.play) (sym c.self.view_is) ∙ c.in_ok-play.was {u = tt},
      sym c.is_complete.ensures ∙ c.if-is_complete.true,
    ) refl

pub returns-in_err-head-clause-source : goal.returns-in_err-head-clause-source
returns-in_err-head-clause-source c =
    rw (
      ap (λ (s : State). s.play) (sym c.self.view_is) ∙ c.in_ok-play.was {u = tt},
      sym c.is_complete.ensures ∙ c.if-is_complete.false,
      ap head_of (sym (rest-whole 4 c.args.block.now)) ∙ sym c.read_head.ensures,
    )
    (c.from_residual-in_err-head.ensures
    ∙ head-unread c.args.self.now.source c.read_head.result _ c.in_ok-play.play.end_ms
    (sym c.ok.ensures.value ∙ c.in_err-head.was {u = tt}))

pub returns : goal.returns
returns c =
    let read : c.read_head.result ≡ Ok c.in_ok-head.head =
    head-read c.read_head.result (sym c.ok.ensures.value ∙ c.in_ok-head.was {u = tt}) in
    let head = ap head_of (sym (rest-whole 4 c.args.block.now)) ∙ (sym c.read_head.ensures ∙ read) in record {
      source = rw (
        ap (λ (s : State). s.play) (sym c.self.view_is) ∙ c.in_ok-play.was {u = tt},
        sym c.is_complete.ensures ∙ c.if-is_complete.false,
        head,
      )
          (c.source_after.ensures.source
          ∙ ap (λ rest. source_after c.args.self.now.source c.in_ok-head.head rest c.in_ok-play.play.end_ms)
          (rest-whole 20 c.args.block.now));
      follows = search rules;
      long = long-so c.source_after.result c.args.block.now (head-long c.args.block.now head);
    }
