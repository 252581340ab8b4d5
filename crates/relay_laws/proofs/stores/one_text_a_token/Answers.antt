use Rattle.relay_laws.proofs.OneText.{one_text_a_place, one_text_a_token}
use Rattle.relay_laws.proofs.stores.one_text_a_token.Goals as goal

pub returns-clause-places : goal.returns-clause-places
returns-clause-places c = one_text_a_place

pub returns-clause-tokens : goal.returns-clause-tokens
returns-clause-tokens c = one_text_a_token
