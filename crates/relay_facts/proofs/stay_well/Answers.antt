use Rattle.relay_facts.proofs.Runs.{empty_well, step_well, run_well}
use Rattle.relay_facts.proofs.stay_well.Goals as goal

pub returns-clause-begins : goal.returns-clause-begins
returns-clause-begins c = empty_well

pub returns-clause-kept : goal.returns-clause-kept
returns-clause-kept c = step_well

pub returns-clause-run : goal.returns-clause-run
returns-clause-run c = run_well
