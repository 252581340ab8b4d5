-- The message-ids of the texts that are kept.
use Rattle.std.specs.Prelude.{◌≡◌, ◌⊎◌, []}
use Rattle.news_terms.specs.Article.{Article, IsArticleText, message_id}
use Rattle.relay_model.specs.State.{Kept}

-- the text is that of its message-id
abbrev pub HasOwnId : Kept → Type 0
HasOwnId one = (a : Article) → IsArticleText one.text a → one.id ≡ message_id a.fields

-- the text is that of its message-id, or no id's
abbrev pub HasOwnIdOrNone : Kept → Type 0
HasOwnIdOrNone one =
    (a : Article) → IsArticleText one.text a
    → (one.id ≡ message_id a.fields) ⊎ (one.id ≡ [])
