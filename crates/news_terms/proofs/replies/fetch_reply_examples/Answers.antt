-- A text is stuffed as it is computed.
use Rattle.std.proofs.Common.{refl}
use Rattle.news_terms.proofs.replies.fetch_reply_examples.Goals as goal

pub returns-clause-article : goal.returns-clause-article
returns-clause-article c = refl
