use Rattle.cyc_buffer.proofs.RejectLaws.{live_at}
use Rattle.cyc_buffer.proofs.crash_laws.listed_is_live.Goals as goal

pub returns : goal.returns
returns c = live_at
