use Rattle.std.proofs.Common.{[], ◌∷◌, ◌++◌, refl}
use Rattle.std.specs.Str.{byte}
use Rattle.std.specs.Fmt.{digits}
use Rattle.news_terms.specs.Article.{worked_article}
use Rattle.relay_model.specs.World.{empty_world}
use Rattle.relay_laws.specs.FeedRows as rows
use Rattle.std.specs.Prelude.{replicate}
use Rattle.relay_laws.specs.Terms.{k1}
use Rattle.relay_laws.proofs.Articles.{article_a_is}
use Rattle.relay_laws.proofs.Dues.{NoHint, ReadsAs}
use Rattle.relay_laws.proofs.Playing.{are_answered}
use Rattle.relay_laws.proofs.feeds.sent_again.Goals as goal

pub returns : goal.returns
unfolding digits
returns c = λ failures. are_answered k1 (empty_world failures)
    (replicate 6 NoHint ++ ReadsAs (worked_article (byte "a") 1) ∷ replicate 11 NoHint
    ++ ReadsAs (worked_article (byte "a") 1) ∷ [])
    rows.sent_again rows.sent_again_replies
    (article_a_is, (refl, (refl, (refl, (refl, (refl, (article_a_is, tt))))))) refl refl
