use Rattle.news_terms.proofs.TokenTexts.{one_text}
use Rattle.news_terms.proofs.replies.token_laws.Goals as goal

pub returns-clause-one_text : goal.returns-clause-one_text
returns-clause-one_text c = one_text
