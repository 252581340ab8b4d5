-- Where the header of an article ends.
use Rattle.std.specs.Prelude.{◌≡◌, ◌≤◌, ◌+◌, ℕ, List, length, take, drop, flat_map}
use Rattle.news_terms.specs.Article.{Article, IsLaidOut, field_text}

-- the text is laid out as an article whose empty line stands at this place: of each article that
-- the text is laid out as, the octets before it are the fields, and those behind it the body
pub record IsEmptyLinePlace (text : List ℕ) (at : ℕ) : Type 0 where
  pub article : Article
  pub laid_out : IsLaidOut text article
  pub within : at + 2 ≤ length text
  pub header : (a : Article) → IsLaidOut text a → flat_map field_text a.fields ≡ take at text
  pub body : (a : Article) → IsLaidOut text a → a.body ≡ drop (at + 2) text
