-- The first `]` of a text, and the faults of what stands before it.
use Rattle.std.proofs.Common.{◌≡◌, ℕ, zero, suc, ◌+◌, ◌<◌, true, false, List, [], ◌∷◌, ◌++◌, length}
use Rattle.std.proofs.Common.{take, drop, get_or, Option, Some, refl, sym, ap, ◌∙◌, arith, inl, inr}
use Rattle.std.proofs.Common.{take-append-drop, codes}
use Rattle.std.specs.Prelude.{◌==◌, ◌≤◌, nat_eq, nat_lt}
use Rattle.std.specs.List.{position, position_or_len, starts_with}
use Rattle.std.specs.Str.{byte}
use Rattle.std.proofs.lemmas.Bool.{eqb-true, cases_Bool, both_ways, lt-ltb, le-ltb, ltb-false}
use Rattle.std.proofs.lemmas.List.{drop_more}
use Rattle.std.proofs.lemmas.List.Quantifiers.{position-Some}
use Rattle.std.proofs.lemmas.Slice.Eq.{bytes_eq-Decides}
use Rattle.news_terms.specs.Pattern.{has_no_bracket}
use Rattle.uwild.specs.Sets.{IsBracketAt}

-- no octet before a place is a `]`
none_before : (text : List ℕ) (n : ℕ) → ((k : ℕ) → k < n → (get_or text k 0 == byte "]") ≡ false)
    → has_no_bracket (take n text) ≡ true
none_before text zero none = refl
none_before [] (suc n) none = refl
none_before (c ∷ text) (suc n) none =
    rw (none 0 (omega arith)) (none_before text n (λ k below. none (suc k) (omega (arith, below))))

-- where no place is a first `]`, there is none
no_place : (text : List ℕ)
    → nat_lt (position_or_len (λ c. c == byte "]") text) (length text) ≡ false
    → has_no_bracket text ≡ true
no_place [] h = refl
no_place (c ∷ text) h = elim (cases_Bool (c == byte "]")) [
  | inl t ↦ absurd (both_ways _ (rw t at h) (lt-ltb 0 (suc (length text)) (omega arith)))
  | inr f ↦ rw f (no_place text (behind (position_or_len (λ x. x == byte "]") text) (length text)
      (rw f at h)))
]
  where
    behind : (a b : ℕ) → nat_lt (1 + a) (suc b) ≡ false → nat_lt a b ≡ false
    behind a b h = le-ltb a b (let le : suc b ≤ 1 + a = ltb-false (1 + a) (suc b) h in omega arith)

-- a text without a first `]` has none
pub no_bracket : (text : List ℕ) (found : Option ℕ) → found ≡ position (λ c. c == byte "]") text
    → ((place : ℕ) → found ≡ Some place → ⊥) → has_no_bracket text ≡ true
no_bracket text found e none = elim (cases_Bool
    (nat_lt (position_or_len (λ c. c == byte "]") text) (length text))) [
      | inl t ↦ absurd (none (position_or_len (λ c. c == byte "]") text) (e ∙ place text t))
      | inr f ↦ no_place text f
    ]
  where
    place : (text : List ℕ) → nat_lt (position_or_len (λ c. c == byte "]") text) (length text)
        ≡ true
        → position (λ c. c == byte "]") text ≡ Some (position_or_len (λ c. c == byte "]") text)
    place text t = rw t refl

-- the first `]`
pub bracket_at : (text : List ℕ) (n : ℕ) → position (λ c. c == byte "]") text ≡ Some n
    → IsBracketAt text n
bracket_at text n h =
    let found = position-Some (λ (c : ℕ). c == byte "]") text n 0 h in
    record {
      within = found.0;
      before = none_before text n found.2;
      cut = drop_more text n 0 found.0
          ∙ ap (λ c. c ∷ drop (n + 1) text) (eqb-true (get_or text n 0) (byte "]") found.1);
    }

-- a text is what stands before its first `]`, that, and what follows
pub bracket_split : (text : List ℕ) (n : ℕ) → IsBracketAt text n
    → text ≡ take n text ++ byte "]" ∷ drop (n + 1) text
bracket_split text n h = sym (take-append-drop n text) ∙ ap (λ x. take n text ++ x) h.cut

-- a text with `^` in front
pub caret_cut : (text : List ℕ) → starts_with nat_eq text (codes "^") ≡ true
    → text ≡ byte "^" ∷ drop 1 text
caret_cut text h =
    let front : codes "^" ≡ take 1 text = (bytes_eq-Decides (codes "^") (take 1 text)).0 h in
    sym (take-append-drop 1 text) ∙ ap (λ x. x ++ drop 1 text) (sym front)
