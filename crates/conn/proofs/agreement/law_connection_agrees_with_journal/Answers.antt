use Rattle.conn.proofs.Visits.{agrees_longer, all_agree, one_agrees}
use Rattle.conn.proofs.agreement.law_connection_agrees_with_journal.Goals as goal

pub returns-clause-seen : goal.returns-clause-seen
returns-clause-seen c = λ visit old new one. one_agrees visit one

pub returns-clause-longer : goal.returns-clause-longer
returns-clause-longer c = λ visit terms journal longer agrees prefix legal. agrees_longer agrees prefix legal

pub returns-clause-part : goal.returns-clause-part
returns-clause-part c = λ films settings back reports old new served k none no_report inside.
    (all_agree (record {
      films = films;
      settings = settings;
      old = old;
      new = new;
      back = back;
      reports = reports;
      served = served;
    }) k (record { none = none; no_report = no_report; inside = inside })).agrees
