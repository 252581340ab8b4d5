use Rattle.relay_log.proofs.Foldings.{push_elsewhere, push_refused, push_stored, push_taken}
use Rattle.relay_log.proofs.laws.last_entry_is_said.Goals as goal

pub returns : goal.returns
returns c =
    record {
      refused = push_refused;
      stored = push_stored;
      elsewhere = push_elsewhere;
      taken = push_taken;
    }
