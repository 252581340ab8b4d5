use Rattle.std.proofs.Common.{[], ◌∷◌, ◌++◌, refl}
use Rattle.std.specs.Prelude.{replicate}
use Rattle.std.specs.Str.{byte}
use Rattle.news_terms.specs.Article.{worked_article}
use Rattle.relay_laws.specs.Terms.{k1}
use Rattle.relay_laws.specs.WorldRows as rows
use Rattle.relay_laws.specs.Worlds.{offering_third}
use Rattle.relay_laws.proofs.Articles.{article_3_is, empty_is_none}
use Rattle.relay_laws.proofs.Dues.{NoHint, ReadsAs}
use Rattle.relay_laws.proofs.Playing.{are_answered}
use Rattle.relay_laws.proofs.Premises.{five}
use Rattle.relay_laws.proofs.worlds.sent_is_no_offer.Goals as goal

pub returns-clause-refused : goal.returns-clause-refused
returns-clause-refused c = λ failures. are_answered k1 (offering_third failures) []
    rows.sent_is_no_offer rows.sent_is_no_offer_replies (empty_is_none, tt) refl refl

pub returns-clause-stored : goal.returns-clause-stored
returns-clause-stored c = λ failures. are_answered k1 (offering_third failures)
    (replicate 4 NoHint ++ ReadsAs (worked_article (byte "3") 1) ∷ [])
    rows.stored_is_no_offer rows.stored_is_no_offer_replies
    (article_3_is, five tt) refl refl

pub returns-clause-by_ihave : goal.returns-clause-by_ihave
returns-clause-by_ihave c = λ failures. are_answered k1 (offering_third failures) []
    rows.sent_by_ihave rows.sent_by_ihave_replies (empty_is_none, tt) refl refl
