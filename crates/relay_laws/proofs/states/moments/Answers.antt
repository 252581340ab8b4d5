use Rattle.std.proofs.Common.{[], ◌∷◌, refl}
use Rattle.std.specs.Str.{byte}
use Rattle.news_terms.specs.Article.{worked_article}
use Rattle.relay_model.specs.World.{empty_world}
use Rattle.relay_laws.specs.Rows as rows
use Rattle.relay_laws.specs.StateRows as states
use Rattle.relay_laws.specs.Terms.{k1}
use Rattle.relay_laws.proofs.Articles.{article_a_is, empty_is_none}
use Rattle.relay_laws.proofs.Dues.{NoHint, ReadsAs}
use Rattle.relay_laws.proofs.Playing.{lead_to}
use Rattle.relay_laws.proofs.states.moments.Goals as goal

pub returns-clause-stored : goal.returns-clause-stored
returns-clause-stored c = λ failures. lead_to k1 (empty_world failures)
    (NoHint ∷ NoHint ∷ NoHint ∷ NoHint ∷ NoHint ∷ ReadsAs (worked_article (byte "a") 1) ∷ [])
    rows.first_script states.IsStoredNow
    (article_a_is, (refl, (refl, (refl, (refl, (refl, tt)))))) refl refl

pub returns-clause-refused : goal.returns-clause-refused
returns-clause-refused c = λ failures. lead_to k1 (empty_world failures) []
    (states.refused_at 7) (states.IsRefusedAt 7) (empty_is_none, tt) refl refl
