-- How long an overview line is.
use Rattle.std.proofs.Common.{◌≡◌, ℕ, ◌+◌, ◌<◌, ◌≤◌, ◌^◌, true, false, List, []}
use Rattle.std.proofs.Common.{◌∷◌, ◌++◌, length, refl, sym, ap, ◌∙◌, arith, ⊎_elim, Option}
use Rattle.std.specs.Prelude.{codes, decimal, flat_map, unwrap_or, ◌==◌, ◌&&◌}
use Rattle.std.specs.List.{join_with_byte}
use Rattle.std.specs.Str.{byte, str_eq_ignore_ascii_case, str_to_ascii_lowercase}
use Rattle.std.proofs.lemmas.Bool.{cases_Bool, both_ways}
use Rattle.std.proofs.lemmas.List.{length-append, length-map}
use Rattle.std.proofs.lemmas.List.Sums.{count_by-le-length}
use Rattle.std.proofs.lemmas.Slice.Eq.{bytes_eq-Decides}
use Rattle.news_terms.specs.Article.{Field, Article, field_text, article_text, content_or_empty}
use Rattle.news_terms.specs.Article.{without_crlf, without_first_white, unfolded}
use Rattle.news_terms.specs.Article.{is_white, tab, line_feed, name_of}
use Rattle.news_terms.specs.Article.{Subject, From, Date, MessageId}
use Rattle.news_terms.specs.Lines.{crlf}
use Rattle.news_terms.specs.Overview.{overview_line, overview_of, line_count}
use Rattle.line_words.proofs.Numerals.{decimal_within}
use Rattle.article_fetch.specs.Parts.{shown}
use Rattle.article_fetch.proofs.FirstContents.{first_named, first_other}

-- without its CRLF pairs a text is no longer
pub pairs_shorten : (s : List ℕ) → length (without_crlf s) ≤ length s
pairs_shorten [] = omega arith
pairs_shorten (c ∷ []) = omega arith
pairs_shorten (c ∷ d ∷ s) =
    let less = pairs_shorten s in
    let same = pairs_shorten (d ∷ s) in
    ⊎_elim
    (λ t. rw t (omega (arith, less)))
    (λ o. rw o (omega (arith, same)))
    (cases_Bool (c == 13 && d == 10))

-- nor without a first SP or TAB
pub first_shortens : (s : List ℕ) → length (without_first_white s) ≤ length s
first_shortens [] = omega arith
first_shortens (c ∷ s) = ⊎_elim
    (λ t. rw t (omega arith))
    (λ o. rw o (omega arith))
    (cases_Bool (is_white c))

-- the text of a content is no longer than it
pub shown_shorter : (content : List ℕ) → length (shown content) ≤ length content
shown_shorter content =
    let same : length (shown content) ≡ length (unfolded content) =
    length-map (unfolded content) _ in
    omega (arith, first_shortens (without_crlf content), pairs_shorten content)

-- two names that a field has are the same, without regard to ASCII case
same_name : (a b c : List ℕ) → str_eq_ignore_ascii_case a b ≡ true
    → str_eq_ignore_ascii_case a c ≡ true → str_eq_ignore_ascii_case b c ≡ true
same_name a b c h g =
    let low = str_to_ascii_lowercase in
    (bytes_eq-Decides (low b) (low c)).1
    (sym ((bytes_eq-Decides (low a) (low b)).0 h) ∙ (bytes_eq-Decides (low a) (low c)).0 g)

-- a name is that of none of some others
abbrev IsNone : (name : List ℕ) → List (List ℕ) → Type 0
IsNone name [] = Unit {0}
IsNone name (other ∷ names) = (str_eq_ignore_ascii_case name other ≡ false) × IsNone name names

-- no two of these names are the same
abbrev AreApart : List (List ℕ) → Type 0
AreApart [] = Unit {0}
AreApart (name ∷ names) = IsNone name names × AreApart names

-- the octets of the contents of the first fields of these names
abbrev lengths : List (List ℕ) → List Field → ℕ
lengths [] fields = 0
lengths (name ∷ names) fields = length (content_or_empty name fields) + lengths names fields

-- among no fields there is no content
lengths_none : (names : List (List ℕ)) → lengths names [] ≡ 0
lengths_none [] = refl
lengths_none (name ∷ names) = omega (arith, lengths_none names)

-- a field of none of the names adds nothing
lengths_other : (names : List (List ℕ)) (name : List ℕ) (f : Field) (fields : List Field)
    → str_eq_ignore_ascii_case f.name name ≡ true → IsNone name names
    → lengths names (f ∷ fields) ≡ lengths names fields
lengths_other [] name f fields h none = refl
lengths_other (other ∷ names) name f fields h none = ⊎_elim
    (λ t. absurd (both_ways _ none.0 (same_name f.name name other h t)))
    (λ o. ap (λ (x : Option (List ℕ)). length (unwrap_or x []) + lengths names (f ∷ fields))
    (first_other other f fields o)
    ∙ ap (λ rest. length (content_or_empty other fields) + rest)
    (lengths_other names name f fields h none.1))
    (cases_Bool (str_eq_ignore_ascii_case f.name other))

-- a field adds its content at most once
lengths_more : (names : List (List ℕ)) (f : Field) (fields : List Field) → AreApart names
    → lengths names (f ∷ fields) ≤ length f.content + lengths names fields
lengths_more [] f fields apart = omega arith
lengths_more (name ∷ names) f fields apart =
    let more = lengths_more names f fields apart.1 in
    let content = λ (x : Option (List ℕ)). length (unwrap_or x []) in
    ⊎_elim
    (λ t. omega (
      arith,
      ap content (first_named name f fields t),
      lengths_other names name f fields t apart.0,
    ))
    (λ o. omega (arith, ap content (first_other name f fields o), more))
    (cases_Bool (str_eq_ignore_ascii_case f.name name))

-- a field is longer than its content
content_within : (f : Field) → length f.content ≤ length (field_text f)
content_within f =
    omega (
      arith,
      length-append (f.name ++ byte ":" ∷ f.content) crlf,
      length-append f.name (byte ":" ∷ f.content),
    )

-- the contents are within the octets of the fields
lengths_within : (names : List (List ℕ)) (fields : List Field) → AreApart names
    → lengths names fields ≤ length (flat_map field_text fields)
lengths_within names [] apart = omega (arith, lengths_none names)
lengths_within names (f ∷ fields) apart =
    let whole : length (flat_map field_text (f ∷ fields))
    ≡ length (field_text f) + length (flat_map field_text fields) =
    length-append (field_text f) (flat_map field_text fields) in
    omega (
      arith,
      lengths_more names f fields apart,
      lengths_within names fields apart,
      content_within f,
    )

-- the names of the fields of an overview
abbrev overview_names : List (List ℕ)
overview_names =
    name_of Subject ∷ name_of From ∷ name_of Date ∷ name_of MessageId ∷ codes "References" ∷ []

-- no two of them are the same
names_apart : AreApart overview_names
names_apart = (
  (refl, (refl, (refl, (refl, tt)))),
  ((refl, (refl, (refl, tt))), ((refl, (refl, tt)), ((refl, tt), (tt, tt)))),
)

-- the length of a line of such parts
pub line_length : (s f d i r x y : List ℕ)
    → length (join_with_byte tab (codes "0" ∷ s ∷ f ∷ d ∷ i ∷ r ∷ x ∷ y ∷ []))
    ≡ 8 + (length s + length f + length d + length i + length r + length x + length y)
line_length s f d i r x y = simp length-append (omega arith)

-- an overview line is at most as long as the header and 48 octets more
pub line_within : (a : Article) → length (article_text a) < 2 ^ 64
    → length (overview_line a) + length a.body ≤ length (article_text a) + 48
line_within a small =
    let fields = a.fields in
    let content : List ℕ → List ℕ = λ name. content_or_empty name fields in
    let text = article_text a in
    let lines = line_count a.body in
    let front = flat_map field_text fields in
    let whole : length text ≡ length (front ++ crlf) + length a.body =
    length-append (front ++ crlf) a.body in
    let header : length (front ++ crlf) ≡ length front + 2 = length-append front crlf in
    let few : lines ≤ length a.body = count_by-le-length (λ c. c == line_feed) a.body in
    omega (
      arith,
      line_length (overview_of (name_of Subject) fields)
          (overview_of (name_of From) fields) (overview_of (name_of Date) fields)
          (overview_of (name_of MessageId) fields) (overview_of (codes "References") fields)
          (decimal (length text)) (decimal lines),
      lengths_within overview_names fields names_apart,
      shown_shorter (content (name_of Subject)),
      shown_shorter (content (name_of From)),
      shown_shorter (content (name_of Date)),
      shown_shorter (content (name_of MessageId)),
      shown_shorter (content (codes "References")),
      decimal_within (length text) small,
      decimal_within lines (omega (arith, small)),
    )
