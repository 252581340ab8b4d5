use Rattle.relay_serve.proofs.ServeFaults.{run_or_none}
use Rattle.relay_serve.proofs.running.attended.Goals as goal

-- where there is no thread for what goes on beside it nothing was run
pub returns : goal.returns
returns g c = run_or_none _ _ _ _ c.run_beside.ensures
