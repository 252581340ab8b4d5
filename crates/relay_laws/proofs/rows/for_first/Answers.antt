use Rattle.std.proofs.Common.{[], ◌∷◌, refl}
use Rattle.std.specs.Fmt.{digits}
use Rattle.std.specs.Str.{byte}
use Rattle.news_terms.specs.Article.{worked_article}
use Rattle.relay_model.specs.World.{empty_world}
use Rattle.relay_laws.specs.Rows as rows
use Rattle.relay_laws.specs.Terms.{feeding_first}
use Rattle.relay_laws.proofs.Articles.{article_a_is}
use Rattle.relay_laws.proofs.Dues.{NoHint, ReadsAs}
use Rattle.relay_laws.proofs.Playing.{are_answered}
use Rattle.relay_laws.proofs.rows.for_first.Goals as goal

pub returns : goal.returns
unfolding digits
returns c = λ failures. are_answered feeding_first (empty_world failures)
    (NoHint ∷ NoHint ∷ NoHint ∷ NoHint ∷ NoHint ∷ ReadsAs (worked_article (byte "a") 1) ∷ [])
    rows.for_first rows.for_first_replies (
      article_a_is,
      (
        refl,
        (
          refl,
          (
            refl,
            (
              refl,
              (refl, tt),
            ),
          ),
        ),
      ),
    ) refl refl
