-- What reading a header gives. Of this, public contracts cite `FrontGives` alone.
use Rattle.std.specs.Prelude.{◌≡◌, ◌≤◌, false, List, ℕ, ◌++◌, length, drop, map, flat_map, Result}
use Rattle.std.specs.Prelude.{Ok, Err}
use Rattle.std.specs.List.{AllByRecursion}
use Rattle.news_terms.specs.Article.{IsField, field_text, has_empty_line}
use Rattle.news_terms.specs.Lines.{crlf}
use Rattle.news_terms.specs.Article.{are_header_lines, header_lines}
use Rattle.news_terms.specs.Article as terms
use Rattle.article_parse.specs.declared.header.Front.{Front}
use Rattle.article_parse.specs.declared.header.Front.TheVariants as fronts
use Rattle.article_parse.specs.declared.header.Header.{Header}
use Rattle.article_parse.specs.declared.header.HeaderFault.{HeaderFault}
use Rattle.article_parse.specs.declared.header.HeaderFault.TheVariants.{Memory, NoBlankLine}
use Rattle.article_parse.specs.declared.header.HeaderFault.TheVariants.{BadHeader}
use Rattle.article_parse.specs.Header.{field_view, IsFieldAt, IsEmptyLineAt}

-- fields, an empty line behind them, and the place where the body begins
pub record IsHeader (text : List ℕ) (fields : List terms.Field) (body_at : ℕ) : Type 0 where
  pub within : body_at ≤ length text
  pub spelled : text ≡ flat_map field_text fields ++ crlf ++ drop body_at text
  pub each_field : AllByRecursion IsField fields

-- the answer is what stands at the front: the field there, the empty line, or what is wrong with
-- the text
abbrev pub FrontGives : List ℕ → Front → Type 0
FrontGives text (fronts.Field field octets) = IsFieldAt text (field_view field) octets
FrontGives text fronts.EmptyLine = IsEmptyLineAt text
FrontGives text fronts.NoBlankLine = has_empty_line text ≡ false
FrontGives text fronts.BadHeader = are_header_lines (header_lines text) ≡ false

-- the answer is the header, or what is wrong with the text
abbrev pub HeaderGives : List ℕ → Result Header HeaderFault → Type 0
HeaderGives text (Ok header) = IsHeader text (map field_view header.fields.items) header.body_at
HeaderGives text (Err Memory) = Unit {0}
HeaderGives text (Err NoBlankLine) = has_empty_line text ≡ false
HeaderGives text (Err BadHeader) = are_header_lines (header_lines text) ≡ false
