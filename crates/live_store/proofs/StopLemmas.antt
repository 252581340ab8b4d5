-- What a stop leaves, and what the records of two lives have to do with each other.
use Rattle.std.proofs.Common.{◌≡◌, ◌∙◌, ℕ, refl, sym, subst, Bool, true, List, Option, None, Some}
use Rattle.std.proofs.Common.{is_some}
use Rattle.std.proofs.Math.Logic.{∥∥₁_elim, ∥∥₁_map}
use Rattle.std.proofs.Props.{props}
use Rattle.boxcar.specs.Table.{Shelves, Where}
use Rattle.news_terms.specs.ArticleTexts.{IsArticle}
use Rattle.news_terms.specs.Places as places
use Rattle.cyc_block.specs.declared.store.BlockStore.{Ghosts}
use Rattle.cyc_buffer.specs.Agreement.{Agrees}
use Rattle.cyc_buffer.specs.Head.{is_busy}
use Rattle.cyc_buffer.specs.History.{Article, History}
use Rattle.cyc_buffer.specs.Stopped.{HoldsStopped}
use Rattle.cyc_buffer.specs.declared.buffer.Buffer.{Buffer}
use Rattle.live_store.specs.Started.{AreSaidAgain, ShutWith}
use Rattle.live_store.specs.Tied.{HasRecord, Tied, article_token}
use Rattle.live_store.specs.declared.open_write.OpenWrite.{OpenWrite}
use Rattle.live_store.specs.declared.writing.entering.Record.{Record}
use Rattle.live_store.proofs.OpenLemmas.{no_prop}
use Rattle.live_store.proofs.TiedLemmas.{busy_open_write}

-- what is tied is so after it was taken apart
pub parts_tied : {S : Type 0} {g : Ghosts S} (register : Shelves) (trusted : Bool)
    (buffer one : Buffer S g) (open_write other : Option OpenWrite)
    (numbers others : List (Option (Where Record)))
    → one ≡ buffer → other ≡ open_write → others ≡ numbers
    → ∥ Tied trusted register buffer open_write numbers ∥₁
    → ∥ Tied trusted register one other others ∥₁
parts_tied register trusted buffer one open_write other numbers others a b c tied =
    subst (λ x. ∥ Tied trusted register x other others ∥₁) (sym a)
    (subst (λ x. ∥ Tied trusted register buffer x others ∥₁) (sym b)
    (subst (λ x. ∥ Tied trusted register buffer open_write x ∥₁) (sym c) tied))

module _ {S : Type 0} {g : Ghosts S} (register : Shelves) (trusted : Bool) (buffer : Buffer S g)
    (numbers : List (Option (Where Record))) where
  -- it is busy just where something stands beside it
  pub busy_is : (b : Option OpenWrite) → ∥ Tied trusted register buffer b numbers ∥₁
      → is_some b ≡ is_busy buffer
  busy_is None tied = ∥∥₁_elim tied (hlevel props) (λ t. sym t.own_write)
  busy_is (Some b) tied = ∥∥₁_elim tied (hlevel props)
      (λ t. sym (busy_open_write register trusted buffer b numbers t))

  -- what has an open write beside it isn't stopped
  pub never_shut : (b : OpenWrite) → ∥ Tied trusted register buffer (Some b) numbers ∥₁
      → (is_busy buffer ≡ true → ⊥) → ⊥
  never_shut b tied refused = ∥∥₁_elim tied no_prop
      (λ t. refused (busy_open_write register trusted buffer b numbers t))

  -- what is stopped holds the texts of records
  pub shut_with : (b : Option OpenWrite) (stop : ℕ) (store : S)
      → ∥ Tied trusted register buffer b numbers ∥₁
      → ((h : History) → Agrees true buffer h
      → HoldsStopped (g.heads store) (g.blocks store) stop h)
      → trusted ≡ true → ∥ ShutWith register stop (g.heads store) (g.blocks store) ∥₁
  shut_with b stop store tied held is_true =
      ∥∥₁_map tied (λ t. let k = t.known is_true in record {
        history = k.history;
        shut = held k.history k.agrees;
        numbers = numbers;
        numbered = k.numbered;
      })

-- two records of one article have one text
pub said_again : (before after : Shelves) (buffer : places.Buffer) (cycle first : ℕ)
    (article : Article) (old new : Option (Where Record))
    → HasRecord true before buffer cycle first article old
    → HasRecord true after buffer cycle first article new
    → AreSaidAgain before after (article_token buffer cycle first article) old new
said_again before after buffer cycle first article None new has other = absurd has
said_again before after buffer cycle first article (Some old) None has other = absurd other
said_again before after buffer cycle first article (Some old) (Some new) has other = record {
  shown_before = has.shows;
  shown_after = other.shows;
  named_before = has.token;
  named_after = other.token;
  text = other.text refl ∙ sym (has.text refl);
}

-- what has a record's text is an article
pub article_of : (register : Shelves) (buffer : places.Buffer) (cycle first : ℕ)
    (article : Article) (o : Option (Where Record))
    → HasRecord true register buffer cycle first article o → ∥ IsArticle article.text ∥₁
article_of register buffer cycle first article None has = absurd has
article_of register buffer cycle first article (Some shown) has =
    subst (λ (t : List ℕ). ∥ IsArticle t ∥₁) (has.text refl) shown.value.is_article
