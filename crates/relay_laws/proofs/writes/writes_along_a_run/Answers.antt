use Rattle.relay_laws.proofs.JobsTold.{job_told}
use Rattle.relay_laws.proofs.RunsOfJobs.{done_and_left, all_done, fewer_done}
use Rattle.relay_laws.proofs.writes.writes_along_a_run.Goals as goal

pub returns-clause-left : goal.returns-clause-left
returns-clause-left c = done_and_left

pub returns-clause-all : goal.returns-clause-all
returns-clause-all c = all_done

pub returns-clause-fewer : goal.returns-clause-fewer
returns-clause-fewer c = fewer_done

pub returns-clause-told : goal.returns-clause-told
returns-clause-told c = job_told
