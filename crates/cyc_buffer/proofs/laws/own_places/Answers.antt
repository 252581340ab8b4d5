-- No begin goes to the place of a finished article, which lies within the buffer.
use Rattle.std.proofs.Common.{None}
use Rattle.cyc_buffer.proofs.Finished.{lies, not_at_next}
use Rattle.cyc_buffer.proofs.laws.own_places.Goals as goal

pub returns-clause-own : goal.returns-clause-own
returns-clause-own c buffer begins fresh size cycle first article sized finished =
    not_at_next buffer begins (record {
      size = size;
      fresh = fresh;
      finished = None;
    }) cycle first article
    (lies buffer begins cycle first article sized finished)

pub returns-clause-within : goal.returns-clause-within
returns-clause-within c buffer begins cycle first article sized finished =
    (lies buffer begins cycle first article sized finished).within
