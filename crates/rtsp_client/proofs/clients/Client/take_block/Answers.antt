use Rattle.std.proofs.Common.{◌≡◌, rules, length, take, sym, ap, ◌∙◌}
use Rattle.std.proofs.lemmas.List.{length-take-le}
use Rattle.std.proofs.lemmas.Result.{IfErr-weaker}
use Rattle.rtsp_client.specs.States.{after_report}
use Rattle.rtsp_client.proofs.FrameResults.{other-moments, report-done}
use Rattle.rtsp_client.proofs.ElementSteps.{passed-none}
use Rattle.rtsp_client.proofs.clients.Client.take_block.Goals as goal

pub returns-in-0-clause-passed : goal.returns-in-0-clause-passed
returns-in-0-clause-passed g c = rw (c.flow_of.ensures, c.in-0.is) (λ h k. c.take_frame.ensures.passed h k)

pub returns-in-0-clause-ended : goal.returns-in-0-clause-ended
returns-in-0-clause-ended g c =
    rw c.flow_of.ensures
    (λ h k. IfErr-weaker c.take_frame.result _ _ (λ e p. (c.in-0.is, p)) (c.take_frame.ensures.ended h k))

pub returns-in-1-clause-passed : goal.returns-in-1-clause-passed
returns-in-1-clause-passed g c =
    let whole : length (take c.args.length c.args.self.now.input) ≡ c.args.length =
    length-take-le c.args.length c.args.self.now.input c.requires.block.4 in
    let state : c.add_report.new.self ≡ after_report c.args.self.now.watching c.args.length = search rules in
    rw c.in-1.is (λ h k. report-done k (state ∙ ap (after_report c.args.self.now.watching) (sym whole)))

pub returns-in_default-clause-passed : goal.returns-in_default-clause-passed
returns-in_default-clause-passed g c =
    rw (other-moments c.args.channel (take c.args.length c.args.self.now.input) (search rules) (search rules))
    (λ h k. passed-none k)
