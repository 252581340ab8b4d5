use Rattle.std.proofs.Common.{[], ◌∷◌, ◌++◌, refl}
use Rattle.std.specs.Str.{byte}
use Rattle.std.specs.Fmt.{digits}
use Rattle.news_terms.specs.Article.{worked_article}
use Rattle.relay_model.specs.World.{empty_world}
use Rattle.std.specs.Prelude.{replicate}
use Rattle.relay_laws.specs.OtherTerms.{by_size}
use Rattle.relay_laws.specs.Rows.{classed, classed_replies}
use Rattle.relay_laws.proofs.Articles.{article_a_is}
use Rattle.relay_laws.proofs.Dues.{NoHint, ReadsAs}
use Rattle.relay_laws.proofs.Playing.{are_answered}
use Rattle.relay_laws.proofs.transfers.classed_by_size.Goals as goal

pub returns : goal.returns
unfolding digits
returns c = λ failures. are_answered by_size (empty_world failures)
    (replicate 5 NoHint ++ ReadsAs (worked_article (byte "a") 1) ∷ [])
    classed classed_replies
    (article_a_is, (refl, (refl, (refl, (refl, (refl, tt)))))) refl refl
