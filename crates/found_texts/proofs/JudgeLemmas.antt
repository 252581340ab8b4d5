-- What was parsed of a text, as it is judged.
use Rattle.std.proofs.Common.{◌≡◌, ◌≢◌, ◌∙◌, ℕ, ap, refl, sym, List, length, Option, None, Some}
use Rattle.std.proofs.lemmas.List.{length-map}
use Rattle.std.specs.Prelude.{Vec}
use Rattle.std.specs.declared.alloc.Global.{Global}
use Rattle.article_parse.specs.Faults.{IsFaultOf, name_view}
use Rattle.article_parse.specs.declared.faults.ArtError.{ArtError}
use Rattle.article_parse.specs.declared.faults.ArtError.TheVariants as errors
use Rattle.buffer_repair.specs.declared.found_set.FoundBufferSet.{FoundBufferSet}
use Rattle.cyc_block.specs.declared.store.BlockStore.{Ghosts}
use Rattle.cyc_token.specs.Token.{token_view}
use Rattle.cyc_token.specs.declared.Token as code
use Rattle.feed_queue.specs.Permission.{identity_view}
use Rattle.found_again.specs.declared.text.FoundText.{FoundText}
use Rattle.news_terms.proofs.ArticleFaults.{article_without_fault}
use Rattle.news_terms.specs.Article.{Article, IsArticleText}
use Rattle.news_terms.specs.Article as terms
use Rattle.relay_conf.specs.declared.settings.Relay.{Relay}
use Rattle.relay_model.specs.Terms.{Terms}
use Rattle.found_texts.specs.Gathering.{ReadsText}
use Rattle.found_texts.specs.Judging.{IsSetUp, Judges, ReadsOne}

-- a text that has a fault is no article
pub no_article : (text : List ℕ) (error : ArtError) → error ≢ errors.Memory
    → IsFaultOf text error → (a : Article) → IsArticleText text a → ⊥
no_article text errors.Memory other fault a is = other refl
no_article text errors.NoBlankLine other fault a is =
    article_without_fault text a terms.NoBlankLine is fault
no_article text errors.BadHeader other fault a is =
    article_without_fault text a terms.BadHeader is fault
no_article text errors.BareCrLf other fault a is =
    article_without_fault text a terms.BareCrLf is fault
no_article text errors.Nul other fault a is = article_without_fault text a terms.Nul is fault
no_article text (errors.Missing name) other fault a is =
    article_without_fault text a (terms.Missing (name_view name)) is fault
no_article text (errors.Twice name) other fault a is =
    article_without_fault text a (terms.Twice (name_view name)) is fault
no_article text (errors.EmptyField name) other fault a is =
    article_without_fault text a (terms.EmptyField (name_view name)) is fault
no_article text errors.BadId other fault a is = article_without_fault text a terms.BadId is fault
no_article text errors.BadGroups other fault a is =
    article_without_fault text a terms.BadGroups is fault

-- the relay has as many peers as its settings
pub peers_counted : (w : Terms) (relay : Relay) → IsSetUp w relay
    → length relay.peers.items ≡ length w.peers
peers_counted w relay is =
    sym (ap length is.identities ∙ length-map relay.peers.items identity_view)

module _ {S : Type 0} {g : Ghosts S} (relay : Relay) (token : code.Token) where
  -- a text that was gathered is judged
  pub judged_text : (old new : FoundBufferSet S g) (octets : Vec ℕ Global)
      (judged : Option FoundText) → ReadsText (token_view token) old (Some octets) new
      → Judges relay token octets.items judged → ReadsOne relay token old judged new
  judged_text old new octets judged reads judges =
      λ w begun kept failures one is keeps same under long.
      let text = reads w begun kept failures one.text keeps under long in
      record { is_judged = judges w one is same text.gathered; keeps = text.keeps }

  -- and each is gathered
  pub judged_none : (old new : FoundBufferSet S g) → ReadsText (token_view token) old None new
      → ReadsOne relay token old None new
  judged_none old new reads =
      λ w begun kept failures one is keeps same under long.
      absurd (reads w begun kept failures one.text keeps under long).gathered
