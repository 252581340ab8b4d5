use Rattle.std.proofs.Common.{[], ◌∷◌, ◌++◌, replicate, refl}
use Rattle.std.specs.Str.{byte}
use Rattle.news_terms.specs.Article.{worked_article}
use Rattle.relay_model.specs.World.{empty_world}
use Rattle.relay_laws.specs.Rows as rows
use Rattle.relay_laws.specs.Worlds.{running_out}
use Rattle.relay_laws.proofs.Articles.{article_a_is}
use Rattle.relay_laws.proofs.Dues.{NoHint, ReadsAs}
use Rattle.relay_laws.proofs.Playing.{are_answered}
use Rattle.relay_laws.proofs.rows.offer_runs_out.Goals as goal

pub returns : goal.returns
returns c = λ failures. are_answered running_out (empty_world failures)
    (replicate 10 NoHint ++ ReadsAs (worked_article (byte "a") 1) ∷ replicate 9 NoHint
    ++ ReadsAs (worked_article (byte "a") 1) ∷ [])
    rows.run_out rows.run_out_replies (
      article_a_is,
      (
        refl,
        (
          refl,
          (
            refl,
            (
              refl,
              (
                refl,
                (article_a_is, tt),
              ),
            ),
          ),
        ),
      ),
    ) refl refl
