use Rattle.relay_laws.proofs.Reasons.{other_id_said, bad_path_said, been_here_said, date_said}
use Rattle.relay_laws.proofs.Reasons.{no_class_said, too_large_said}
use Rattle.relay_laws.proofs.judging.first_reason_is_said.Goals as goal

pub returns-clause-other_id : goal.returns-clause-other_id
returns-clause-other_id c = other_id_said

pub returns-clause-bad_path : goal.returns-clause-bad_path
returns-clause-bad_path c = bad_path_said

pub returns-clause-been_here : goal.returns-clause-been_here
returns-clause-been_here c = been_here_said

pub returns-clause-date : goal.returns-clause-date
returns-clause-date c = date_said

pub returns-clause-no_class : goal.returns-clause-no_class
returns-clause-no_class c = no_class_said

pub returns-clause-too_large : goal.returns-clause-too_large
returns-clause-too_large c = too_large_said
