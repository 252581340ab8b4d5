-- What an overview line is made of. No public contract cites it.
use Rattle.std.specs.Prelude.{◌≡◌, ℕ, List, [], ◌∷◌, Option, None, Some, length, codes, decimal}
use Rattle.std.specs.Prelude.{if◌then◌else◌}
use Rattle.std.specs.List.{join_with_byte}
use Rattle.std.specs.Option.{option_copied}
use Rattle.std.specs.Str.{str_eq_ignore_ascii_case}
use Rattle.news_terms.specs.Article.{name_of, Subject, From, Date, MessageId, tab, unfolded}
use Rattle.news_terms.specs.Article.{content_or_empty, first_content, article_text, IsLaidOut}
use Rattle.news_terms.specs.Article as terms
use Rattle.news_terms.specs.Overview.{without_tabs, line_count}
use Rattle.article_fetch.specs.declared.parts.Parts.{Parts}
use Rattle.article_fetch.specs.declared.finding.Found.{Found}

-- the text of a content in an overview
abbrev pub shown : List ℕ → List ℕ
shown content = without_tabs (unfolded content)

-- the line of these parts
abbrev pub line_of : Parts → List ℕ
line_of p =
    join_with_byte tab
    (codes "0" ∷ shown p.subject.now ∷ shown p.from.now ∷ shown p.date.now ∷ shown p.id.now
    ∷ shown p.references.now ∷ decimal p.octets ∷ decimal (line_count p.body.now) ∷ [])

-- the parts are those of an article
pub record ArePartsOf (p : Parts) (a : terms.Article) : Type 0 where
  pub subject : p.subject.now ≡ content_or_empty (name_of Subject) a.fields
  pub from : p.from.now ≡ content_or_empty (name_of From) a.fields
  pub date : p.date.now ≡ content_or_empty (name_of Date) a.fields
  pub id : p.id.now ≡ content_or_empty (name_of MessageId) a.fields
  pub references : p.references.now ≡ content_or_empty (codes "References") a.fields
  pub octets : p.octets ≡ length (article_text a)
  pub body : p.body.now ≡ a.body

-- a text is laid out as an article, and the parts are those of it
abbrev pub IsMadeOf : List ℕ → Parts → Type 0
IsMadeOf text p = (a : terms.Article) × IsLaidOut text a × ArePartsOf p a

-- what was found are the contents of the first of these fields of each name
pub record AreFoundIn (fields : List terms.Field) (f : Found) : Type 0 where
  pub subject : option_copied f.subject ≡ first_content (name_of Subject) fields
  pub from : option_copied f.from ≡ first_content (name_of From) fields
  pub date : option_copied f.date ≡ first_content (name_of Date) fields
  pub id : option_copied f.id ≡ first_content (name_of MessageId) fields
  pub references : option_copied f.references ≡ first_content (codes "References") fields

-- what was found before, or else the content of a field of the name
abbrev pub first_or : Option (List ℕ) → terms.Field → (name : List ℕ) → Option (List ℕ)
first_or (Some content) f name = Some content
first_or None f name = if str_eq_ignore_ascii_case f.name name then Some f.content else None
