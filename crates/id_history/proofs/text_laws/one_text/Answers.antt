use Rattle.id_history.proofs.Histories.{one_text}
use Rattle.id_history.proofs.text_laws.one_text.Goals as goal

pub returns : goal.returns
returns c = one_text
