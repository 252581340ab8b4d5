-- The Path of an article: its identities, loops, and the update by a relaying agent.
use Rattle.std.specs.Prelude.{◌≡◌, ℕ, Bool, false, not, ◌&&◌, ◌||◌, List, [], ◌∷◌, ◌++◌, map}
use Rattle.std.specs.Prelude.{filter, Option, Some, None, if◌then◌else◌, IsTrue, IsFalse, ◌==◌}
use Rattle.std.specs.Prelude.{nat_eq, codes}
use Rattle.std.specs.List.{list_all, list_any, slice_split, take_while, last_or, starts_with}
use Rattle.std.specs.Char.{is_ascii_graphic}
use Rattle.std.specs.Str.{byte, bytes_eq, str_eq_ignore_ascii_case}
use Rattle.news_terms.specs.Article.{Field, Article, IsArticleText, article_text, name_of, Path}
use Rattle.news_terms.specs.Article.{is_white, is_of_line_end, is_empty, space}

-- an octet that a Path may be folded by: SP, TAB, CR or LF (RFC 5536, section 3.1.5)
abbrev pub is_folding : ℕ → Bool
is_folding c = is_white c || is_of_line_end c

-- a Path's content without white space (RFC 5536, section 3.1.5; docs/FORMATS.md, Path)
abbrev pub path_octets : List ℕ → List ℕ
path_octets content = filter (λ c. not (is_folding c)) content

-- with white space removed, an octet outside 0x21 to 0x7E is left (docs/FORMATS.md, Path)
abbrev pub HasBadPath : List ℕ → Type 0
HasBadPath content = IsFalse (list_all is_ascii_graphic (path_octets content))

-- a text cut at each `!` (RFC 5536, section 3.1.5)
abbrev pub cut_at_bangs : List ℕ → List (List ℕ)
cut_at_bangs text = slice_split (λ c. c == byte "!") text

-- the pieces of a Path: without white space, cut at each `!` (RFC 5536, section 3.1.5)
abbrev pub path_pieces : List ℕ → List (List ℕ)
path_pieces content = cut_at_bangs (path_octets content)

-- the last piece, which names no agent (RFC 5536, section 3.1.5, tail-entry)
abbrev pub tail_entry : List ℕ → Option (List ℕ)
tail_entry content = last_or None (path_pieces content)

-- the pieces but the last one (RFC 5536, section 3.1.5, path-list)
abbrev pub before_tail : List (List ℕ) → List (List ℕ)
before_tail [] = []
before_tail (piece ∷ []) = []
before_tail (piece ∷ next ∷ more) = piece ∷ before_tail (next ∷ more)

-- `.POSTED`, or a piece that begins with `.POSTED.`: from here on the article was injected
-- (RFC 5537, section 3.2.1)
abbrev pub is_posted : List ℕ → Bool
is_posted piece = bytes_eq piece (codes ".POSTED") || starts_with nat_eq piece (codes ".POSTED.")

-- a piece that is an agent's identity: neither empty nor beginning with a dot (RFC 5537, section
-- 3.2)
abbrev pub is_identity : List ℕ → Bool
is_identity piece = not (is_empty piece) && not (starts_with nat_eq piece (codes "."))

-- an identity that an agent may put into a Path: printable, without `!` (RFC 5536, section 3.1.5)
abbrev pub is_agent : List ℕ → Bool
is_agent text = is_identity text && list_all (λ c. is_ascii_graphic c && not (c == byte "!")) text

-- pieces up to the first that says POSTED (RFC 5537, section 3.2.1)
abbrev pub before_posted : List (List ℕ) → List (List ℕ)
before_posted pieces = take_while (λ piece. not (is_posted piece)) pieces

-- the identities of a Path: the pieces before the tail, up to the first that says POSTED, without
-- those that are no identity (RFC 5537, section 3.2; docs/FORMATS.md, Path)
abbrev pub path_identities : List ℕ → List (List ℕ)
path_identities content =
    filter is_identity (before_posted (before_tail (path_pieces content)))

-- the first of two pieces or more (RFC 5537, section 3.2.1; docs/FORMATS.md, Path)
abbrev pub first_before_tail : List (List ℕ) → Option (List ℕ)
first_before_tail [] = None
first_before_tail (piece ∷ []) = None
first_before_tail (piece ∷ next ∷ more) = Some piece

-- the leftmost identity: the first piece where there is a `!` (RFC 5537, section 3.2.1)
abbrev pub leftmost_identity : List ℕ → Option (List ℕ)
leftmost_identity content = first_before_tail (path_pieces content)

-- an identity of the Path is this one, compared without regard to ASCII case (RFC 5537, section
-- 3.6)
abbrev pub has_identity : (own content : List ℕ) → Bool
has_identity own content = list_any (str_eq_ignore_ascii_case own) (path_identities content)

-- the article has been here: the own identity is in its Path (RFC 5537, section 3.6)
abbrev pub Loops : (own content : List ℕ) → Type 0
Loops own content = IsTrue (has_identity own content)

-- the leftmost identity is the expected one, without regard to ASCII case (RFC 5537, section 3.2.1)
abbrev pub is_expected : (expected : List ℕ) → (leftmost : Option (List ℕ)) → Bool
is_expected expected None = false
is_expected expected (Some identity) = str_eq_ignore_ascii_case identity expected

-- what a relaying agent puts before a Path: its identity and a second `!` where the source is the
-- leftmost one, else a diagnostic that names the source (RFC 5537, section 3.2.1)
abbrev pub path_prefix : (own expected content : List ℕ) → List ℕ
path_prefix own expected content =
    if is_expected expected (leftmost_identity content)
    then own ++ codes "!!"
    else own ++ codes "!.MISMATCH." ++ expected ++ codes "!"

-- the octets from the first that is no white space and of no line end (docs/FORMATS.md, Path)
abbrev pub without_leading_folding : List ℕ → List ℕ
without_leading_folding [] = []
without_leading_folding (c ∷ rest) =
    if is_folding c then without_leading_folding rest else c ∷ rest

-- the new Path: the prefix, and the received octets (RFC 5537, section 3.2.1)
abbrev pub updated_content : (own expected content : List ℕ) → List ℕ
updated_content own expected content =
    path_prefix own expected content ++ without_leading_folding content

-- a field of the update: of the name Path an SP and the new Path, any other as it was (RFC 5537,
-- section 3.6)
abbrev pub updated_field : (own expected : List ℕ) → Field → Field
updated_field own expected f =
    if str_eq_ignore_ascii_case f.name (name_of Path)
    then record f { content = space ∷ updated_content own expected f.content }
    else f

-- the article with its Path updated, all else as it was (RFC 5537, section 3.6)
abbrev pub updated_article : (own expected : List ℕ) → Article → Article
updated_article own expected a =
    record a { fields = map (updated_field own expected) a.fields }

-- u is the update of t by the agent own, which took it from the agent expected (RFC 5537, section
-- 3.6)
pub record IsUpdateOf (own expected t u : List ℕ) : Type 0 where
  pub received : Article
  pub read : IsArticleText t received
  pub written : u ≡ article_text (updated_article own expected received)
