use Rattle.relay_facts.proofs.OnRecord.{empty_on_record, step_on_record}
use Rattle.relay_facts.proofs.stay_on_record.Goals as goal

pub returns-clause-begins : goal.returns-clause-begins
returns-clause-begins c = empty_on_record

pub returns-clause-kept : goal.returns-clause-kept
returns-clause-kept c = step_on_record
