-- How a header is cut into fields. Of this, public contracts cite `field_view`, and what stands at
-- the front of a text: `IsFieldAt` and `IsEmptyLineAt`.
use Rattle.std.specs.Prelude.{◌≡◌, ℕ, ◌+◌, ◌≤◌, ◌<◌, Bool, true, false, not, ◌||◌, List, ◌∷◌}
use Rattle.std.specs.Prelude.{◌++◌}
use Rattle.std.specs.Prelude.{length, take, drop, flat_map, IsTrue}
use Rattle.std.specs.List.{list_all, AllByRecursion}
use Rattle.std.specs.Str.{str_eq_ignore_ascii_case}
use Rattle.news_terms.specs.Article.{is_of_line_end, is_paired, is_folded, has_empty_line}
use Rattle.news_terms.specs.Article.{begins_field, continues_field, are_header_lines, header_lines}
use Rattle.news_terms.specs.Article.{IsField, field_text}
use Rattle.news_terms.specs.Article as terms
use Rattle.news_terms.specs.Lines.{crlf}
use Rattle.article_parse.specs.declared.header.Field.{Field}

-- a field as the definitions have it
abbrev pub field_view : Field → terms.Field
field_view f = record { name = f.name.now; content = f.content.now }

-- the field has the name, without regard to ASCII case
abbrev pub is_named : List ℕ → Field → Bool
is_named name f = str_eq_ignore_ascii_case f.name.now name

-- no octet is CR or LF
abbrev pub is_plain : List ℕ → Bool
is_plain text = list_all (λ c. not (is_of_line_end c)) text

-- a line that begins a field or continues one
abbrev pub may_follow : List ℕ → Bool
may_follow line = begins_field line || continues_field line

-- lines behind a field that go on as a header
abbrev pub goes_on : List ℕ → Bool
goes_on text = list_all may_follow (header_lines text)

-- the first line of a text ends at a place, and what follows its CRLF has line ends in pairs
pub record IsLineCut (text : List ℕ) (end : ℕ) : Type 0 where
  pub fits : end + 2 ≤ length text
  pub plain : is_plain (take end text) ≡ true
  pub cut : drop end text ≡ 13 ∷ 10 ∷ drop (end + 2) text
  pub paired : IsTrue (is_paired (drop (end + 2) text))

-- a content ends at a place, or may go on behind the CRLF there
pub record IsContent (text : List ℕ) (first end : ℕ) : Type 0 where
  pub fits : end + 2 ≤ length text
  pub behind : first ≤ end
  pub cut : drop end text ≡ 13 ∷ 10 ∷ drop (end + 2) text
  pub folded : is_folded (take end text) ≡ true
  pub paired : IsTrue (is_paired (drop (end + 2) text))
  pub empty : has_empty_line (drop (first + 2) text) ≡ has_empty_line (drop (end + 2) text)
  pub good : goes_on (drop (first + 2) text) ≡ goes_on (drop (end + 2) text)

-- and it does not go on there
pub record IsWholeContent (text : List ℕ) (first end : ℕ) : Type 0 where
  pub content : IsContent text first end
  pub ended : continues_field (drop (end + 2) text) ≡ false

-- a field stands at the front of a text, of so many octets with its CRLF
pub record IsFieldAt (text : List ℕ) (field : terms.Field) (octets : ℕ) : Type 0 where
  pub fits : octets ≤ length text
  pub some : 0 < octets
  pub spelled : text ≡ field_text field ++ drop octets text
  pub is_field : IsField field
  pub paired : IsTrue (is_paired (drop octets text))
  pub empty : has_empty_line text ≡ has_empty_line (drop octets text)
  pub good : are_header_lines (header_lines text)
      ≡ are_header_lines (header_lines (drop octets text))

-- an empty line stands at the front of a text
pub record IsEmptyLineAt (text : List ℕ) : Type 0 where
  pub fits : 2 ≤ length text
  pub spelled : text ≡ crlf ++ drop 2 text

-- fields stand in front of a place of a text
pub record AreFieldsTo (text : List ℕ) (fields : List terms.Field) (at : ℕ) : Type 0 where
  pub within : at ≤ length text
  pub spelled : text ≡ flat_map field_text fields ++ drop at text
  pub each_field : AllByRecursion IsField fields
  pub paired : IsTrue (is_paired (drop at text))
  pub empty : has_empty_line text ≡ has_empty_line (drop at text)
  pub good : are_header_lines (header_lines text)
      ≡ are_header_lines (header_lines (drop at text))
