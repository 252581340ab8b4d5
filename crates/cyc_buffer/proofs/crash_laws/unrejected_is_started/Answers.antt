use Rattle.cyc_buffer.proofs.RejectLaws.{live_unrejected, started_unrejected}
use Rattle.cyc_buffer.proofs.crash_laws.unrejected_is_started.Goals as goal

pub returns : goal.returns
returns c = record { live = live_unrejected; started = started_unrejected }
