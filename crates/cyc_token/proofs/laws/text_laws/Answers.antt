-- Both laws are lemmas on the definitions.
use Rattle.news_terms.proofs.TokenTexts.{one_text}
use Rattle.cyc_token.proofs.Texts.{text_fits}
use Rattle.cyc_token.proofs.laws.text_laws.Goals as goal

pub returns-clause-no_fault : goal.returns-clause-no_fault
returns-clause-no_fault c = text_fits

pub returns-clause-one_spelling : goal.returns-clause-one_spelling
returns-clause-one_spelling c = one_text
