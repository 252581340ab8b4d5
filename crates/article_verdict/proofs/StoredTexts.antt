-- The text that is stored of an article is an article.
use Rattle.std.proofs.Common.{◌≡◌, ℕ, List, [], All, Option, None, Some, refl, slice_get}
use Rattle.std.specs.Prelude.{IsTrue, unwrap_or}
use Rattle.std.proofs.lemmas.Bool.{and_parts}
use Rattle.news_terms.specs.Article.{Article, IsArticleText}
use Rattle.news_terms.specs.ArticleTexts.{IsArticle}
use Rattle.news_terms.specs.Path.{is_agent, is_identity, updated_article}
use Rattle.news_terms.proofs.PathUpdates.{all_agent}
use Rattle.news_terms.proofs.UpdatedArticles.{updated_from_octets}
use Rattle.news_terms.proofs.ListPlaces.{holds_at}
use Rattle.relay_conf.specs.declared.settings.Config.{Config}
use Rattle.relay_model.specs.Judging.{identity_of, stored_text}
use Rattle.article_verdict.specs.Config.{terms_of}
use Rattle.article_verdict.proofs.SoundTerms.{are_sound}

-- the identity of a peer has an agent's octets; without such a peer it is empty
octets_at : (peers : List (List ℕ)) (k : ℕ) → All (λ peer. IsTrue (is_agent peer)) peers
    → IsTrue (all_agent (unwrap_or (slice_get peers k) []))
octets_at peers k agents = by (slice_get peers k) refl
  where
    by : (o : Option (List ℕ)) → slice_get peers k ≡ o → IsTrue (all_agent (unwrap_or o []))
    by None is = refl
    by (Some peer) is =
        (and_parts (is_identity peer) (all_agent peer)
        (holds_at (λ (one : List ℕ). IsTrue (is_agent one)) peers agents k peer is)).1

-- whichever peer it came from
pub stored_is_article : (config : Config) (peer : ℕ) (text : List ℕ) (a : Article)
    → IsArticleText text a → IsArticle (stored_text (terms_of config) peer a)
stored_is_article config peer text a is =
    let w = terms_of config in
    let sound = are_sound config in (
      updated_article w.own (identity_of w peer) a,
      updated_from_octets w.own (identity_of w peer) text a sound.own
          (octets_at w.peers peer sound.peers) is,
    )
