use Rattle.std.proofs.Common.{◌≡◌, ◌++◌, ◌∷◌, [], List, if◌then◌else◌, sym, subst}
use Rattle.std.specs.Prelude.{is_ok}
use Rattle.conn.specs.declared.reports.ConnReport.{ConnReport}
use Rattle.vodserve.specs.WorkerResults.{AreLeft}
use Rattle.vodserve.proofs.WorkerLemmas.{left_more}
use Rattle.vodserve.proofs.workers.add_reports.Goals as goal

pub returns-in-Ok : goal.returns-in-Ok
returns-in-Ok c =
    let items : c.append.new.self.items ≡ c.args.reports.now.items ++ c.args.report.reports.items =
    subst (λ r. c.append.new.self.items
    ≡ (if is_ok r then c.args.reports.now.items ++ c.args.report.reports.items else c.args.reports.now.items))
    c.in-Ok.is
    c.append.ensures.items in
    record {
      left = λ parts left.
          subst (λ (rs : List ConnReport). AreLeft (parts ++ c.args.report ∷ []) c.worse_end.result rs) (sym items)
          (left_more c.args.report left c.worse_end.ensures);
    }
