use Rattle.relay_crashes.proofs.RingsAgain.{gains_or_full}
use Rattle.relay_crashes.proofs.crashes.feeds_gain_the_newest.Goals as goal

pub returns : goal.returns
returns c = gains_or_full
