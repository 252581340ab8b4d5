use Rattle.relay_report.proofs.AfterRestart.{done, refused}
use Rattle.relay_report.proofs.laws.restart_keeps_report.Goals as goal

pub returns-clause-done : goal.returns-clause-done
returns-clause-done c = done

pub returns-clause-refused : goal.returns-clause-refused
returns-clause-refused c = refused
