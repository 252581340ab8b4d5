use Rattle.relay_page.proofs.Hundredths.{all, at_most, right}
use Rattle.relay_page.proofs.laws.bars_are_hundredths.Goals as goal

pub returns : goal.returns
returns c = record { within = at_most; right = right; full = all }
