use Rattle.relay_explain.proofs.Shadows.{shadowed}
use Rattle.relay_explain.proofs.laws.shadowed_entries_take_nothing.Goals as goal

pub returns : goal.returns
returns c = shadowed
