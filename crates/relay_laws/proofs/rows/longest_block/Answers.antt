use Rattle.std.proofs.Common.{[], ◌∷◌, refl}
use Rattle.std.specs.Str.{byte}
use Rattle.news_terms.specs.Article.{worked_article}
use Rattle.relay_model.specs.Terms.{Size}
use Rattle.relay_model.specs.World.{empty_world}
use Rattle.relay_laws.specs.OtherTerms.{of_at_most}
use Rattle.relay_laws.specs.Rows as rows
use Rattle.relay_laws.proofs.Articles.{article_a_is}
use Rattle.relay_laws.proofs.Dues.{NoHint, ReadsAs}
use Rattle.relay_laws.proofs.Playing.{are_answered}
use Rattle.relay_laws.proofs.rows.longest_block.Goals as goal

pub returns-clause-taken : goal.returns-clause-taken
returns-clause-taken c = λ failures. are_answered (of_at_most 149) (empty_world failures)
    (NoHint ∷ NoHint ∷ NoHint ∷ NoHint ∷ ReadsAs (worked_article (byte "a") 1) ∷ [])
    (rows.one_article 1) rows.one_stored (article_a_is, tt) refl refl

pub returns-clause-not : goal.returns-clause-not
returns-clause-not c = λ failures. are_answered (of_at_most 148) (empty_world failures) []
    (rows.one_article 1) (rows.one_refused Size) tt refl refl
