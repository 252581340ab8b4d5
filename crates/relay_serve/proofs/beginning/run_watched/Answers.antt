use Rattle.std.proofs.Common.{◌∙◌}
use Rattle.relay_devices.proofs.Sizes.{watched_sizes}
use Rattle.relay_serve.proofs.Starts.{unrun_serves}
use Rattle.relay_serve.proofs.beginning.run_watched.Goals as goal

-- each store, watched and in a file, has as many blocks as the file was opened for
pub run_relay-requires-clause-stores : goal.run_relay-requires-clause-stores
run_relay-requires-clause-stores g c κs within = watched_sizes _ ∙ c.requires.stores

pub returns-clause-fault : goal.returns-clause-fault
returns-clause-fault g c = unrun_serves c.run_relay.result c.run_relay.ensures
