use Rattle.std.proofs.Common.{[], ◌∷◌, ◌++◌, refl}
use Rattle.std.specs.Str.{byte}
use Rattle.news_terms.specs.Article.{worked_article}
use Rattle.relay_model.specs.World.{empty_world}
use Rattle.relay_laws.specs.TransferRows as rows
use Rattle.std.specs.Prelude.{replicate}
use Rattle.std.specs.Prelude.{◌+◌}
use Rattle.relay_laws.specs.Terms.{k1, now}
use Rattle.relay_laws.proofs.Articles.{article_a_is}
use Rattle.relay_laws.proofs.Dues.{NoHint, ReadsAs}
use Rattle.relay_laws.proofs.Playing.{are_answered}
use Rattle.relay_laws.proofs.transfers.too_old.Goals as goal

pub returns-clause-not : goal.returns-clause-not
returns-clause-not c = λ failures. are_answered k1 (empty_world failures)
    (replicate 3 NoHint ++ ReadsAs (worked_article (byte "a") 1) ∷ [])
    (rows.read_at (now + 864_000)) rows.taken_replies
    (article_a_is, tt) refl refl

pub returns-clause-is : goal.returns-clause-is
returns-clause-is c = λ failures. are_answered k1 (empty_world failures)
    (replicate 3 NoHint ++ ReadsAs (worked_article (byte "a") 1) ∷ [])
    (rows.read_at (now + 864_001)) rows.refused_replies
    (article_a_is, tt) refl refl
