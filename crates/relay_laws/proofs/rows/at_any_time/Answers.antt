use Rattle.std.proofs.Common.{[], ◌∷◌, ◌++◌, refl}
use Rattle.std.specs.Str.{byte}
use Rattle.news_terms.specs.Article.{worked_article}
use Rattle.relay_model.specs.World.{empty_world}
use Rattle.relay_laws.specs.LineRows as rows
use Rattle.std.specs.Prelude.{replicate}
use Rattle.relay_laws.specs.Terms.{k1}
use Rattle.relay_laws.proofs.Articles.{article_a_is}
use Rattle.relay_laws.proofs.Dues.{NoHint, ReadsAs}
use Rattle.relay_laws.proofs.Playing.{are_answered}
use Rattle.relay_laws.proofs.rows.at_any_time.Goals as goal

pub returns-clause-octets : goal.returns-clause-octets
returns-clause-octets c = λ failures. are_answered k1 (empty_world failures)
    (replicate 6 NoHint ++ ReadsAs (worked_article (byte "a") 1) ∷ [])
    rows.octets_at_any_time rows.octets_replies
    (article_a_is, (refl, (refl, (refl, (refl, (refl, tt)))))) refl refl

pub returns-clause-broken : goal.returns-clause-broken
returns-clause-broken c = λ failures. are_answered k1 (empty_world failures) []
    rows.broken_block rows.broken_block_replies
    tt refl refl
