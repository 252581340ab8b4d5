use Rattle.std.proofs.Common.{[], ◌∷◌, ◌++◌, refl}
use Rattle.std.specs.Str.{byte}
use Rattle.news_terms.specs.Article.{worked_article}
use Rattle.relay_model.specs.World.{empty_world}
use Rattle.relay_laws.specs.TransferRows as rows
use Rattle.std.specs.Prelude.{replicate}
use Rattle.relay_laws.specs.Terms.{k1}
use Rattle.relay_laws.proofs.Articles.{article_a_is}
use Rattle.relay_laws.proofs.Dues.{NoHint, ReadsAs}
use Rattle.relay_laws.proofs.Playing.{are_answered}
use Rattle.relay_laws.proofs.transfers.another_id.Goals as goal

pub returns : goal.returns
returns c = λ failures. are_answered k1 (empty_world failures)
    (replicate 4 NoHint ++ ReadsAs (worked_article (byte "a") 1) ∷ [])
    rows.another_id rows.another_id_replies
    (article_a_is, tt) refl refl
