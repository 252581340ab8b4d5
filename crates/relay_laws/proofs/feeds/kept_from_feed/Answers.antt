use Rattle.std.proofs.Common.{[], ◌∷◌, ◌++◌, refl}
use Rattle.std.specs.Str.{byte}
use Rattle.std.specs.Fmt.{digits}
use Rattle.news_terms.specs.Article.{worked_article}
use Rattle.relay_model.specs.World.{empty_world}
use Rattle.relay_laws.specs.FeedRows as rows
use Rattle.std.specs.Prelude.{replicate}
use Rattle.relay_laws.specs.OtherTerms.{barring_all}
use Rattle.relay_laws.specs.Rows.{classed}
use Rattle.relay_laws.proofs.Articles.{article_a_is}
use Rattle.relay_laws.proofs.Dues.{NoHint, ReadsAs}
use Rattle.relay_laws.proofs.Playing.{are_answered}
use Rattle.relay_laws.proofs.feeds.kept_from_feed.Goals as goal

pub returns : goal.returns
unfolding digits
returns c = λ failures. are_answered barring_all (empty_world failures)
    (replicate 5 NoHint ++ ReadsAs (worked_article (byte "a") 1) ∷ [])
    classed rows.kept_from_feed_replies
    (article_a_is, (refl, (refl, (refl, (refl, (refl, tt)))))) refl refl
