use Rattle.std.proofs.Common.{[], ◌∷◌, refl}
use Rattle.std.specs.Fmt.{digits}
use Rattle.std.specs.Str.{byte}
use Rattle.news_terms.specs.Article.{worked_article}
use Rattle.relay_model.specs.World.{empty_world}
use Rattle.relay_laws.specs.Rows as rows
use Rattle.relay_laws.specs.Terms.{of_class_two}
use Rattle.relay_laws.proofs.Articles.{article_a_is}
use Rattle.relay_laws.proofs.Dues.{NoHint, ReadsAs}
use Rattle.relay_laws.proofs.Playing.{are_answered}
use Rattle.relay_laws.proofs.rows.classed.Goals as goal

pub returns : goal.returns
unfolding digits
returns c = λ failures. are_answered of_class_two (empty_world failures)
    (NoHint ∷ NoHint ∷ NoHint ∷ NoHint ∷ NoHint ∷ ReadsAs (worked_article (byte "a") 1) ∷ [])
    rows.classed rows.classed_replies (
      article_a_is,
      (
        refl,
        (
          refl,
          (
            refl,
            (
              refl,
              (refl, tt),
            ),
          ),
        ),
      ),
    ) refl refl
