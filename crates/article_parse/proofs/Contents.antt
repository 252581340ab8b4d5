-- Contents in one line, and when nothing is left of one without white space at its ends.
use Rattle.std.proofs.Common.{◌≡◌, ℕ, ◌+◌, ◌≤◌, ◌<◌, Bool, true, false, List, [], ◌∷◌}
use Rattle.std.proofs.Common.{length, drop, get_or, refl, sym, ap, ◌∙◌, arith, ⊎_elim}
use Rattle.std.proofs.Common.{length-drop, add-one, inl, inr}
use Rattle.std.specs.Prelude.{◌&&◌, nat_eq, reverse}
use Rattle.std.specs.List.{list_all, starts_with}
use Rattle.std.proofs.Math.Seq.{drop-cons}
use Rattle.std.proofs.lemmas.Bool.{cases_Bool, cases_eq, both_ways, ne_eqb}
use Rattle.std.proofs.lemmas.List.{reverse-append, length-reverse, drop-drop, nil_from_length}
use Rattle.std.proofs.lemmas.List.Folds.{list_all-append}
use Rattle.news_terms.specs.Lines.{crlf}
use Rattle.news_terms.specs.Article.{is_white, is_empty, without_leading_white, without_crlf}
use Rattle.news_terms.specs.Article.{without_first_white, without_outer_white, unfolded, trimmed}
use Rattle.article_parse.proofs.Pairs.{crlf_cut}

-- behind the last octet is nothing
pub at_end : (s : List ℕ) (i : ℕ) → length s ≤ i → drop i s ≡ []
at_end s i h = nil_from_length (drop i s) (omega (arith, h, length-drop i s))

-- a pair in front is left out
crlf_left_out : (s : List ℕ) → starts_with nat_eq s crlf ≡ true
    → without_crlf s ≡ without_crlf (drop 2 s)
crlf_left_out s h = ap without_crlf (crlf_cut s h)

-- any other octet in front is kept
octet_kept : (c : ℕ) (s : List ℕ) → starts_with nat_eq (c ∷ s) crlf ≡ false
    → without_crlf (c ∷ s) ≡ c ∷ without_crlf s
octet_kept c [] h = refl
octet_kept c (d ∷ s) h =
    elim (cases_eq c 13) [
      | inl e ↦ elim (cases_eq d 10) [
        | inl f ↦ absurd (both_ways _ h (rw (e, f) refl))
        | inr n ↦ rw (e, ne_eqb d 10 n) refl
      ]
      | inr n ↦ rw (ne_eqb c 13 n) refl
    ]

-- the same of what is sliced off at a place
pub pair_passed_by : (s tail : List ℕ) (at : ℕ) → tail ≡ drop at s
    → starts_with nat_eq tail crlf ≡ true
    → without_crlf (drop at s) ≡ without_crlf (drop (at + 2) s)
pair_passed_by s tail at e h =
    ap without_crlf (sym e) ∙ crlf_left_out tail h
    ∙ ap (λ (x : List ℕ). without_crlf (drop 2 x)) e ∙ ap without_crlf (drop-drop 2 at s)

-- a pair has room
pub pair_fits : (s tail : List ℕ) (at : ℕ) → tail ≡ drop at s → at ≤ length s
    → starts_with nat_eq tail crlf ≡ true → at + 2 ≤ length s
pair_fits s tail at e within h =
    omega (arith, ap length (crlf_cut tail h), ap length e, length-drop at s, within)

-- and so of an octet that is kept
pub octet_kept_at : (s tail : List ℕ) (at : ℕ) → tail ≡ drop at s → at < length s
    → starts_with nat_eq tail crlf ≡ false
    → without_crlf (drop at s) ≡ get_or s at 0 ∷ without_crlf (drop (at + 1) s)
octet_kept_at s tail at e within h =
    let cons : drop at s ≡ get_or s at 0 ∷ drop (at + 1) s =
    drop-cons s at 0 within ∙ ap (λ n. get_or s at 0 ∷ drop n s) (sym (add-one at)) in
    let begins = ap (λ x. starts_with nat_eq x crlf) (sym (e ∙ cons)) ∙ h in
    ap without_crlf cons ∙ octet_kept (get_or s at 0) (drop (at + 1) s) begins

-- reversed, as many octets are white
all_reversed : (p : ℕ → Bool) (s : List ℕ) → list_all p (reverse s) ≡ list_all p s
all_reversed p [] = refl
all_reversed p (c ∷ s) =
    ap (list_all p) (reverse-append (c ∷ []) s)
    ∙ list_all-append p (reverse s) (c ∷ [])
    ∙ ap (λ b. b && (p c && true)) (all_reversed p s)
    ∙ swapped (list_all p s) (p c)
  where
    swapped : (a b : Bool) → (a && (b && true)) ≡ (b && a)
    swapped true true = refl
    swapped true false = refl
    swapped false true = refl
    swapped false false = refl

-- nothing is left exactly where each octet is white
leading_empty : (s : List ℕ) → is_empty (without_leading_white s) ≡ list_all is_white s
leading_empty [] = refl
leading_empty (c ∷ s) = ⊎_elim
    (λ t. rw t (leading_empty s))
    (λ f. rw f refl)
    (cases_Bool (is_white c))

-- what is left is white exactly where all is
leading_all : (s : List ℕ) → list_all is_white (without_leading_white s) ≡ list_all is_white s
leading_all [] = refl
leading_all (c ∷ s) = ⊎_elim
    (λ t. rw t (leading_all s))
    (λ f. rw f (rw f refl))
    (cases_Bool (is_white c))

-- reversed, a text is empty or not as it was
reversed_empty : (s : List ℕ) → is_empty (reverse s) ≡ is_empty s
reversed_empty s = by_length (reverse s) s (length-reverse s)
  where
    by_length : (a b : List ℕ) → length a ≡ length b → is_empty a ≡ is_empty b
    by_length [] [] e = refl
    by_length [] (c ∷ b) e = absurd (omega (arith, e))
    by_length (c ∷ a) [] e = absurd (omega (arith, e))
    by_length (c ∷ a) (d ∷ b) e = refl

-- nothing is left of a text exactly where each octet is white
pub outer_empty : (s : List ℕ) → is_empty (without_outer_white s) ≡ list_all is_white s
outer_empty s =
    reversed_empty (without_leading_white (reverse (without_leading_white s)))
    ∙ leading_empty (reverse (without_leading_white s))
    ∙ all_reversed is_white (without_leading_white s)
    ∙ leading_all s

-- a first white octet doesn't matter
first_all : (s : List ℕ) → list_all is_white (without_first_white s) ≡ list_all is_white s
first_all [] = refl
first_all (c ∷ s) = ⊎_elim
    (λ t. rw t refl)
    (λ f. rw f (rw f refl))
    (cases_Bool (is_white c))

-- a trimmed content is empty exactly where all that its pairs leave is white
pub blank_content : (s : List ℕ) → list_all is_white (without_crlf s) ≡ is_empty (trimmed s)
blank_content s = sym (outer_empty (unfolded s) ∙ first_all (without_crlf s))
