-- What the update of a Path keeps, and what its new content begins with.
use Rattle.std.proofs.Common.{◌≡◌, ◌≢◌, ℕ, ◌<◌, ◌≤◌, Bool, false, not, ◌&&◌, List}
use Rattle.std.proofs.Common.{[], ◌∷◌, ◌++◌, map, Some, codes, refl, sym, ap, subst}
use Rattle.std.proofs.Common.{◌∙◌, inl, inr, append_assoc, arith}
use Rattle.std.specs.Prelude.{◌==◌, IsTrue, IsFalse, filter, bytes_eq}
use Rattle.std.specs.List.{list_all, list_any, take_while, onto_first}
use Rattle.std.specs.Char.{is_ascii_graphic}
use Rattle.std.specs.Str.{byte, str_eq_ignore_ascii_case, str_to_ascii_lowercase}
use Rattle.std.proofs.lemmas.Bool.{and_parts, and_left, or_from, or_left}
use Rattle.std.proofs.lemmas.Bool.{eq-eqb, ne_eqb, both_ways, not-true, cases_Bool}
use Rattle.std.proofs.lemmas.Bool.{false_from_ne_true}
use Rattle.std.proofs.lemmas.Slice.Eq.{bytes_eq-Decides}
use Rattle.std.proofs.lemmas.List.Sums.{take_while-cons}
use Rattle.news_terms.specs.Article.{Field, contents_of, space, tab, carriage_return}
use Rattle.news_terms.specs.Article.{line_feed}
use Rattle.news_terms.specs.Path.{is_folding, path_octets, path_pieces, cut_at_bangs, before_tail}
use Rattle.news_terms.specs.Path.{is_posted, is_identity, is_agent, path_identities}
use Rattle.news_terms.specs.Path.{first_before_tail, leftmost_identity, has_identity}
use Rattle.news_terms.specs.Path.{without_leading_folding, updated_content, updated_field}
use Rattle.news_terms.specs.Path.{is_expected}
use Rattle.news_terms.proofs.ArticleReadings.{graphic_above}

-- two texts that are the same without regard to case are so with a third
same_case : (x y z : List ℕ) → IsTrue (str_eq_ignore_ascii_case x y)
    → str_eq_ignore_ascii_case x z ≡ str_eq_ignore_ascii_case y z
same_case x y z h =
    ap (λ w. bytes_eq w (str_to_ascii_lowercase z))
    ((bytes_eq-Decides (str_to_ascii_lowercase x) (str_to_ascii_lowercase y)).0 h)

-- the update of a field keeps its name
updated-name : (own expected : List ℕ) (f : Field) → (updated_field own expected f).name ≡ f.name
updated-name own expected f =
    elim (cases_Bool (str_eq_ignore_ascii_case f.name (codes "Path"))) [
      | inl y ↦ rw y refl
      | inr n ↦ rw n refl
    ]

-- the names stay
pub updated-names : (own expected : List ℕ) (fields : List Field)
    → map (λ f. f.name) (map (updated_field own expected) fields) ≡ map (λ f. f.name) fields
updated-names own expected [] = refl
updated-names own expected (f ∷ fields) =
    λ i. updated-name own expected f i ∷ updated-names own expected fields i

-- so do the contents of every other name
pub updated-contents : (own expected name : List ℕ) (fields : List Field)
    → str_eq_ignore_ascii_case name (codes "Path") ≡ false
    → contents_of name (map (updated_field own expected) fields) ≡ contents_of name fields
updated-contents own expected name [] h = refl
updated-contents own expected name (f ∷ fields) h =
    let rest = updated-contents own expected name fields h in
    elim (cases_Bool (str_eq_ignore_ascii_case f.name (codes "Path"))) [
      | inl y ↦
          let other : str_eq_ignore_ascii_case f.name name ≡ false =
          false_from_ne_true _
          (λ t. both_ways _ h (sym (same_case f.name name (codes "Path") t) ∙ y)) in
          rw (y, other) rest
      | inr n ↦ elim (cases_Bool (str_eq_ignore_ascii_case f.name name)) [
        | inl y ↦ rw (n, y) (ap (λ x. f.content ∷ x) rest)
        | inr m ↦ rw (n, m) rest
      ]
    ]

-- an octet of an agent's identity is no `!`, and neither white space nor of a line end
pub agent_octet : (c : ℕ) → IsTrue (is_ascii_graphic c && not (c == byte "!"))
    → (c ≢ byte "!") × IsFalse (is_folding c)
agent_octet c h =
    let parts = and_parts (is_ascii_graphic c) (not (c == byte "!")) h in
    let above : space < c = graphic_above c parts.0 in
    let apart : (n : ℕ) → n ≤ space → c ≡ n → ⊥ = λ n low e. omega (arith, above, low, e) in (
      (λ e. both_ways _ (not-true _ parts.1) (eq-eqb c (byte "!") e)),
      or_from _ _
          (or_from _ _ (ne_eqb c space (apart space (omega arith)))
          (ne_eqb c tab (apart tab (omega arith))))
          (or_from _ _ (ne_eqb c carriage_return (apart carriage_return (omega arith)))
          (ne_eqb c line_feed (apart line_feed (omega arith)))),
    )

-- whether all octets of a text may be an agent's
abbrev pub all_agent : List ℕ → Bool
all_agent text = list_all (λ c. is_ascii_graphic c && not (c == byte "!")) text

-- an identity before a `!` is the first piece
pub agent_first : (own more : List ℕ) → IsTrue (all_agent own)
    → path_pieces (own ++ byte "!" ∷ more) ≡ own ∷ path_pieces more
agent_first [] more h = refl
agent_first (c ∷ own) more h =
    let parts = and_parts (is_ascii_graphic c && not (c == byte "!")) (all_agent own) h in
    let octet = agent_octet c parts.0 in
    rw (octet.1, ne_eqb c (byte "!") octet.0) (ap (onto_first c) (agent_first own more parts.1))

-- a text cut at each `!` has a first piece
pub cut_pieces : (text : List ℕ)
    → (piece : List ℕ) × (pieces : List (List ℕ)) × (cut_at_bangs text ≡ piece ∷ pieces)
cut_pieces [] = ([], [], refl)
cut_pieces (c ∷ text) =
    let r = cut_pieces text in
    elim (cases_Bool (c == byte "!")) [
      | inl y ↦ ([], cut_at_bangs text, rw y refl)
      | inr n ↦ (c ∷ r.0, r.1, rw n (ap (onto_first c) r.2))
    ]

-- the new Path is the own identity, a `!` and more
pub updated_begins : (own expected content : List ℕ)
    → (more : List ℕ) × (updated_content own expected content ≡ own ++ byte "!" ∷ more)
updated_begins own expected content =
    let rest = without_leading_folding content in
    elim (cases_Bool (is_expected expected (leftmost_identity content))) [
      | inl y ↦ (byte "!" ∷ rest, rw y (append_assoc own (codes "!!") rest))
      | inr n ↦ (
        (codes ".MISMATCH." ++ expected ++ codes "!") ++ rest,
        rw n (ap (λ x. x ++ rest)
            (ap (λ x. x ++ codes "!") (append_assoc own (codes "!.MISMATCH.") expected)
            ∙ append_assoc own (codes "!.MISMATCH." ++ expected) (codes "!"))
            ∙ append_assoc own (byte "!" ∷ (codes ".MISMATCH." ++ expected ++ codes "!")) rest),
      )
    ]

-- an identity does not say that the article was posted
pub not_posted : (own : List ℕ) → IsTrue (is_identity own) → IsFalse (is_posted own)
not_posted [] h = absurd (both_ways _ refl h)
not_posted (c ∷ own) h =
    let no_dot : c ≢ byte "." =
    λ e. both_ways _ refl (subst (λ x. IsTrue (is_identity (x ∷ own))) e h) in
    or_from _ _ (and_left _ _ (ne_eqb c (byte ".") no_dot))
    (and_left _ _ (ne_eqb (byte ".") c (λ e. no_dot (sym e))))

-- the new Path's pieces
updated_pieces : (own expected content : List ℕ) → IsTrue (is_agent own)
    → (next : List ℕ) × (more : List (List ℕ))
    × (path_pieces (updated_content own expected content) ≡ own ∷ next ∷ more)
updated_pieces own expected content h =
    let begun = updated_begins own expected content in
    let cut = cut_pieces (path_octets begun.0) in (
      cut.0,
      cut.1,
      ap path_pieces begun.1
          ∙ agent_first own begun.0 (and_parts (is_identity own) (all_agent own) h).1
          ∙ ap (λ x. own ∷ x) cut.2,
    )

-- the leftmost identity of the new Path is the own one
pub updated-leftmost : (own expected content : List ℕ) → IsTrue (is_agent own)
    → leftmost_identity (updated_content own expected content) ≡ Some own
updated-leftmost own expected content h =
    ap first_before_tail (updated_pieces own expected content h).2

-- the own identity is one of the new Path
pub updated-loops : (own expected content : List ℕ) → IsTrue (is_agent own)
    → IsTrue (has_identity own (updated_content own expected content))
updated-loops own expected content h =
    let pieces = updated_pieces own expected content h in
    let identity = (and_parts (is_identity own) (all_agent own) h).0 in
    let rest = before_tail (pieces.0 ∷ pieces.1) in
    let kept : take_while (λ x. not (is_posted x)) (own ∷ rest)
    ≡ own ∷ take_while (λ x. not (is_posted x)) rest =
    take_while-cons (λ x. not (is_posted x)) own rest
    ∙ rw (not_posted own identity) refl in
    let listed : path_identities (updated_content own expected content)
    ≡ own ∷ filter is_identity (take_while (λ x. not (is_posted x)) rest) =
    ap (λ x. filter is_identity (take_while (λ y. not (is_posted y)) (before_tail x))) pieces.2
    ∙ ap (filter is_identity) kept
    ∙ rw identity refl in
    subst (λ (x : List (List ℕ)). IsTrue (list_any (str_eq_ignore_ascii_case own) x)) (sym listed)
    (or_left _ _ ((bytes_eq-Decides (str_to_ascii_lowercase own)
    (str_to_ascii_lowercase own)).1 refl))
