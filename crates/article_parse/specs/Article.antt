-- An article that was read, as the definitions have it.
use Rattle.std.specs.Prelude.{◌≡◌, ◌≤◌, ℕ, List, length, drop, map}
use Rattle.news_terms.specs.Article.{IsArticleText, message_id}
use Rattle.news_terms.specs.Article as terms
use Rattle.article_parse.specs.declared.article.Article.{Article}
use Rattle.article_parse.specs.Header.{field_view}

-- the fields of an article that was read, and its body
abbrev pub article_view : Article → terms.Article
article_view a = record { fields = map field_view a.fields.items; body = a.body.now }

-- the place where its body begins
abbrev pub body_place : Article → ℕ
body_place a = a.body_at

-- its message-id
abbrev pub id_view : Article → List ℕ
id_view a = a.id

-- the article was read from the text: the text is this article, its body begins at that place, and
-- its message-id is this one
pub record IsReadFrom (text : List ℕ) (a : Article) : Type 0 where
  pub article : IsArticleText text (article_view a)
  pub within : body_place a ≤ length text
  pub body : (article_view a).body ≡ drop (body_place a) text
  pub id : id_view a ≡ message_id (article_view a).fields
