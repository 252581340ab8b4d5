use Rattle.std.proofs.Common.{[], ◌∷◌, refl}
use Rattle.std.specs.Str.{byte}
use Rattle.news_terms.specs.Article.{worked_article}
use Rattle.relay_model.specs.Terms.{TooLarge}
use Rattle.relay_model.specs.World.{empty_world}
use Rattle.relay_laws.specs.Rows as rows
use Rattle.relay_laws.specs.Terms.{one_block}
use Rattle.relay_laws.proofs.Articles.{article_317_is, article_318_is}
use Rattle.relay_laws.proofs.Dues.{NoHint, ReadsAs}
use Rattle.relay_laws.proofs.Playing.{are_answered}
use Rattle.relay_laws.proofs.rows.sizes.Goals as goal

pub returns-clause-fits : goal.returns-clause-fits
returns-clause-fits c = λ failures. are_answered one_block (empty_world failures)
    (NoHint ∷ NoHint ∷ NoHint ∷ NoHint ∷ ReadsAs (worked_article (byte "a") 317) ∷ [])
    (rows.one_article 317) rows.one_stored (article_317_is, tt) refl refl

pub returns-clause-not : goal.returns-clause-not
returns-clause-not c = λ failures. are_answered one_block (empty_world failures)
    (NoHint ∷ NoHint ∷ NoHint ∷ NoHint ∷ ReadsAs (worked_article (byte "a") 318) ∷ [])
    (rows.one_article 318) (rows.one_refused TooLarge) (article_318_is, tt) refl refl
