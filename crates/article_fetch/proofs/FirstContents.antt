-- The content of the first field of a name, where one field more is looked at.
use Rattle.std.proofs.Common.{◌≡◌, ℕ, ◌≤◌, true, false, List, [], ◌∷◌, ◌++◌, refl, sym, ap, ◌∙◌}
use Rattle.std.proofs.Common.{⊎_elim, Bor, Option, None, Some, arith, length, length-append}
use Rattle.std.specs.Prelude.{flat_map, unwrap_or}
use Rattle.std.specs.Option.{option_copied}
use Rattle.std.specs.Str.{str_eq_ignore_ascii_case}
use Rattle.std.proofs.lemmas.Bool.{cases_Bool}
use Rattle.news_terms.specs.Article.{Article, Field, article_text, content_or_empty, field_text}
use Rattle.news_terms.specs.Article.{first_content}
use Rattle.news_terms.specs.Lines.{crlf}
use Rattle.article_fetch.specs.Parts.{first_or}

-- in front of other fields, a field of the name is the first
pub first_named : (name : List ℕ) (f : Field) (fields : List Field)
    → str_eq_ignore_ascii_case f.name name ≡ true
    → first_content name (f ∷ fields) ≡ Some f.content
first_named name f fields h = rw h refl

-- and a field of another name is passed over
pub first_other : (name : List ℕ) (f : Field) (fields : List Field)
    → str_eq_ignore_ascii_case f.name name ≡ false
    → first_content name (f ∷ fields) ≡ first_content name fields
first_other name f fields h = rw h refl

-- behind other fields, a field counts where none of them has the name
pub first_behind : (name : List ℕ) (fields : List Field) (f : Field)
    → first_or (first_content name fields) f name ≡ first_content name (fields ++ f ∷ [])
first_behind name [] f = ⊎_elim
    (λ t. rw t refl)
    (λ o. rw o refl)
    (cases_Bool (str_eq_ignore_ascii_case f.name name))
first_behind name (g ∷ fields) f = ⊎_elim
    (λ t. ap (λ (x : Option (List ℕ)). first_or x f name) (first_named name g fields t)
    ∙ sym (first_named name g (fields ++ f ∷ []) t))
    (λ o. ap (λ (x : Option (List ℕ)). first_or x f name) (first_other name g fields o)
    ∙ first_behind name fields f ∙ sym (first_other name g (fields ++ f ∷ []) o))
    (cases_Bool (str_eq_ignore_ascii_case g.name name))

-- the same of what was found
pub found_behind : (name : List ℕ) (fields : List Field) (f : Field) (o r : Option (List ℕ))
    → o ≡ first_content name fields → r ≡ first_or o f name
    → r ≡ first_content name (fields ++ f ∷ [])
found_behind name fields f o r h e =
    e ∙ ap (λ (x : Option (List ℕ)). first_or x f name) h ∙ first_behind name fields f

-- the content that was found, or the empty one where none was
pub content_is : (name : List ℕ) (fields : List Field) (found : Option (Bor (List ℕ)))
    (or content : Bor (List ℕ)) → option_copied found ≡ first_content name fields
    → content ≡ unwrap_or found or → or.now ≡ [] → content.now ≡ content_or_empty name fields
content_is name fields None or content is e empty =
    ap (λ (x : Bor (List ℕ)). x.now) e ∙ empty
    ∙ ap (λ (x : Option (List ℕ)). unwrap_or x []) is
content_is name fields (Some one) or content is e empty =
    ap (λ (x : Bor (List ℕ)). x.now) e ∙ ap (λ (x : Option (List ℕ)). unwrap_or x []) is

-- a body is no longer than the text of its article
pub body_within : (a : Article) (text body : List ℕ) → text ≡ article_text a → body ≡ a.body
    → length body ≤ length text
body_within a text body whole part =
    omega (
      arith,
      ap length whole,
      ap length part,
      length-append (flat_map field_text a.fields ++ crlf) a.body,
    )
