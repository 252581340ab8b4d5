use Rattle.std.proofs.Common.{[], ◌∷◌, refl}
use Rattle.std.specs.Fmt.{digits}
use Rattle.std.specs.Str.{byte}
use Rattle.std.proofs.Common.{codes}
use Rattle.news_terms.specs.Article.{worked_article}
use Rattle.relay_model.specs.World.{empty_world}
use Rattle.relay_laws.specs.Rows as rows
use Rattle.relay_laws.specs.Terms.{k1}
use Rattle.relay_laws.proofs.Articles.{article_a_is, stored_a_is, stored_a}
use Rattle.news_terms.proofs.Moments.{is_new_year}
use Rattle.relay_laws.proofs.Dues.{NoHint, ReadsAs, HasDigits}
use Rattle.relay_laws.proofs.Playing.{are_answered}
use Rattle.relay_laws.proofs.rows.parts.Goals as goal

pub returns : goal.returns
unfolding digits
returns c = λ failures. are_answered k1 (empty_world failures)
    (NoHint ∷ NoHint ∷ NoHint ∷ NoHint ∷ ReadsAs (worked_article (byte "a") 1) ∷ NoHint
    ∷ NoHint ∷ NoHint ∷ NoHint ∷ NoHint ∷ NoHint ∷ NoHint ∷ NoHint ∷ NoHint ∷ NoHint ∷ NoHint
    ∷ ReadsAs stored_a ∷ NoHint ∷ ReadsAs stored_a ∷ NoHint ∷ ReadsAs stored_a
    ∷ HasDigits (codes "20210101000000") ∷ [])
    rows.parts rows.parts_replies (
      article_a_is,
      (
        refl,
        (
          refl,
          (
            refl,
            (
              refl,
              (
                refl,
                (stored_a_is, (stored_a_is, (stored_a_is, (is_new_year, tt)))),
              ),
            ),
          ),
        ),
      ),
    ) refl refl
