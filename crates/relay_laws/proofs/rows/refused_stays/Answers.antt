use Rattle.std.proofs.Common.{[], ◌∷◌, refl}
use Rattle.std.specs.Str.{byte}
use Rattle.news_terms.specs.Article.{worked_article}
use Rattle.relay_model.specs.World.{empty_world}
use Rattle.relay_laws.specs.Rows as rows
use Rattle.relay_laws.specs.Terms.{k1}
use Rattle.relay_laws.proofs.Articles.{article_a_is, empty_is_none}
use Rattle.relay_laws.proofs.Dues.{NoHint, ReadsAs}
use Rattle.relay_laws.proofs.Playing.{are_answered}
use Rattle.relay_laws.proofs.rows.refused_stays.Goals as goal

pub returns : goal.returns
returns c = λ failures. are_answered k1 (empty_world failures)
    (NoHint ∷ NoHint ∷ NoHint ∷ NoHint ∷ NoHint ∷ ReadsAs (worked_article (byte "a") 1) ∷ [])
    rows.refused_stays rows.refused_stays_replies (empty_is_none, (article_a_is, tt)) refl refl
