use Rattle.relay_startup.proofs.CauseLemmas.{of_none}
use Rattle.relay_startup.proofs.laws.text_is_of_none.Goals as goal

-- no setting lets it be one
pub returns : goal.returns
returns c = of_none c.args.config.now c.args.text.now
