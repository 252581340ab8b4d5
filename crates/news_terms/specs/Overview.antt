-- The overview line of an article.
use Rattle.std.specs.Prelude.{ℕ, List, [], ◌∷◌, map, length, if◌then◌else◌, ◌==◌, codes, count_by}
use Rattle.std.specs.Prelude.{decimal}
use Rattle.std.specs.List.{join_with_byte}
use Rattle.news_terms.specs.Article.{Field, Article, article_text, content_or_empty, unfolded}
use Rattle.news_terms.specs.Article.{name_of, Subject, From, Date, MessageId, tab, space, line_feed}

-- a text with each TAB made an SP (RFC 3977, section 8.3.2)
abbrev pub without_tabs : List ℕ → List ℕ
without_tabs text = map (λ c. if c == tab then space else c) text

-- the text of a field in an overview: the unfolded content of the first field of that name, without
-- TABs, empty where there is none (RFC 3977, section 8.3.2)
abbrev pub overview_of : (name : List ℕ) → List Field → List ℕ
overview_of name fields = without_tabs (unfolded (content_or_empty name fields))

-- how many lines a body has (RFC 3977, section 8.1.2)
abbrev pub line_count : List ℕ → ℕ
line_count body = count_by (λ c. c == line_feed) body

-- the overview line of an article: 0, Subject, From, Date, Message-ID, References, its octets, the
-- lines of its body, with a TAB between each two (RFC 3977, section 8.3.2)
abbrev pub overview_line : Article → List ℕ
overview_line a =
    join_with_byte tab
    (codes "0"
    ∷ overview_of (name_of Subject) a.fields
    ∷ overview_of (name_of From) a.fields
    ∷ overview_of (name_of Date) a.fields
    ∷ overview_of (name_of MessageId) a.fields
    ∷ overview_of (codes "References") a.fields
    ∷ decimal (length (article_text a))
    ∷ decimal (line_count a.body)
    ∷ [])
