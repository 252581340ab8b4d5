use Rattle.relay_core.specs.Openings.{openings}
use Rattle.relay_core.proofs.system.System.figures.Goals as goal
use Rattle.block_shelf.specs.Leaving.{plain}

-- each part tells its own
pub returns : goal.returns
returns g c = λ trusted x agrees.
    record {
      buffers = c.in_ok-named_buffers.ensures (plain trusted) x.state (openings x.work.writer)
          x.work.failures agrees.core.buffer_set;
      feeds = c.in_ok-named_feeds.ensures x.state agrees.core.desk;
      ids = c.counts.ensures.claims x.state.claim agrees.core.claims;
    }
