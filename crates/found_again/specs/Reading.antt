-- Which of the texts that are found are articles, and which of the program's values are theirs
-- (docs/PROTOCOL.md, Crashes).
use Rattle.std.specs.Prelude.{◌≡◌, ◌⊎◌, ℕ, List, [], ◌∷◌, map, IsPermutation, Some}
use Rattle.cyc_token.specs.Token.{token_view}
use Rattle.news_terms.specs.Article.{Article, IsArticleText, message_id}
use Rattle.relay_model.specs.Crash.{permitted_again}
use Rattle.relay_model.specs.State.{Kept}
use Rattle.relay_model.specs.Terms.{Terms}
use Rattle.found_again.specs.declared.text.FoundText.{FoundText}

-- The text is an article, and this is the program's value of it: its token, its message-id, and the
-- feeds that may have it.
pub record IsArticleOf (w : Terms) (text : FoundText) (one : Kept) : Type 0 where
  pub article : Article
  pub is_read : IsArticleText one.text article
  pub token : token_view text.token ≡ one.token
  pub id : text.id ≡ Some (message_id article.fields)
  pub feeds : text.feeds.items ≡ permitted_again w article

-- the text is no article
abbrev pub IsNoArticle : Kept → Type 0
IsNoArticle one = (a : Article) → IsArticleText one.text a → ⊥

-- of these texts those that are articles are left, in their order
abbrev pub AreArticlesOf : (kept left : List Kept) → Type 0
AreArticlesOf [] left = left ≡ []
AreArticlesOf (one ∷ kept) left =
    ((rest : List Kept) × (left ≡ one ∷ rest) × AreArticlesOf kept rest)
    ⊎ (IsNoArticle one × AreArticlesOf kept left)

-- a text without the id that it is kept for
abbrev pub unnamed : Kept → Kept
unnamed one = record one { id = [] }

-- the same texts under the same tokens, in whatever order, for whatever ids
abbrev pub AreSameTexts : (kept other : List Kept) → Type 0
AreSameTexts kept other = IsPermutation (map unnamed kept) (map unnamed other)
