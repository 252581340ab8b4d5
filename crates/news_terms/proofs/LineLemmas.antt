-- The first line of a stream, against the shortest prefix that a CRLF ends.
use Rattle.std.proofs.Common.{◌≡◌, ℕ, ◌≤◌, ◌==◌, ◌&&◌, true, false, List, [], ◌∷◌, ◌++◌, length}
use Rattle.std.proofs.Common.{take, drop, Option, Some, None, refl, sym, ap, subst, ◌∙◌, arith}
use Rattle.std.proofs.Common.{⊎_elim}
use Rattle.std.proofs.lemmas.List.{take_at, drop_at}
use Rattle.std.proofs.lemmas.Bool.{cases_Bool, and_parts, eqb-true, cond-true, cond-false}
use Rattle.std.proofs.lemmas.Option.{none-some, same_Some}
use Rattle.std.specs.Option.{option_map}
use Rattle.news_terms.specs.Lines.{first_line, CutsLine}

-- a line with one more octet at its front
abbrev pub with_octet : ℕ → List ℕ × List ℕ → List ℕ × List ℕ
with_octet a p = (a ∷ p.0, p.1)

-- what a mapped option holds comes from what the option holds
pub map_some : {A B : Type 0} (f : A → B) (o : Option A) (y : B) → option_map f o ≡ Some y
    → (x : A) × (o ≡ Some x) × (f x ≡ y)
map_some f None y e = absurd (none-some y e)
map_some f (Some x) y e = (x, refl, same_Some _ _ e)

-- at a CRLF the line is empty
pub first_line_ends : (a b : ℕ) (cs : List ℕ) → (a == 13 && b == 10) ≡ true
    → first_line (a ∷ b ∷ cs) ≡ Some ([], cs)
first_line_ends a b cs t = cond-true _ _ _ t

-- elsewhere the first octet belongs to the line
pub first_line_goes : (a b : ℕ) (cs : List ℕ) → (a == 13 && b == 10) ≡ false
    → first_line (a ∷ b ∷ cs) ≡ option_map (with_octet a) (first_line (b ∷ cs))
first_line_goes a b cs f = cond-false _ _ _ f

-- a CRLF ends the first line, which is no longer than what stands before it
pub first_line_found : (front after : List ℕ)
    → (p : List ℕ × List ℕ) × (first_line (front ++ 13 ∷ 10 ∷ after) ≡ Some p)
    × (length p.0 ≤ length front)
first_line_found [] after = (([], after), refl, omega arith)
first_line_found (a ∷ []) after = ⊎_elim
    (λ t. (([], 10 ∷ after), first_line_ends a 13 (10 ∷ after) t, omega arith))
    (λ f. ((a ∷ [], after), first_line_goes a 13 (10 ∷ after) f, omega arith))
    (cases_Bool (a == 13 && 13 == 10))
first_line_found (a ∷ b ∷ front) after =
    let rest = first_line_found (b ∷ front) after in
    ⊎_elim
    (λ t. (([], front ++ 13 ∷ 10 ∷ after), first_line_ends a b _ t, omega arith))
    (λ f. (
      with_octet a rest.0,
      first_line_goes a b _ f
          ∙ ap (option_map (with_octet a)) rest.1,
      omega (arith, rest.2),
    ))
    (cases_Bool (a == 13 && b == 10))

-- the first line, its CRLF and what follows are the stream
pub first_line_whole : (s : List ℕ) (p : List ℕ × List ℕ) → first_line s ≡ Some p
    → s ≡ p.0 ++ 13 ∷ 10 ∷ p.1
first_line_whole [] p e = absurd (none-some p e)
first_line_whole (a ∷ []) p e = absurd (none-some p e)
first_line_whole (a ∷ b ∷ cs) p e = ⊎_elim
    (λ t.
    let parts = and_parts _ _ t in
    let first : a ≡ 13 = eqb-true _ _ parts.0 in
    let second : b ≡ 10 = eqb-true _ _ parts.1 in
    let same : p ≡ ([], cs) = same_Some _ _ (sym e ∙ first_line_ends a b cs t) in
    let P : List ℕ × List ℕ → Type 0 = λ q. a ∷ b ∷ cs ≡ q.0 ++ 13 ∷ 10 ∷ q.1 in
    subst P (sym same) cc)
    (λ f.
    let rest = map_some (with_octet a) _ p (sym (first_line_goes a b cs f) ∙ e) in
    let P : List ℕ × List ℕ → Type 0 = λ q. a ∷ b ∷ cs ≡ q.0 ++ 13 ∷ 10 ∷ q.1 in
    subst P rest.2 (ap (λ (l : List ℕ). a ∷ l) (first_line_whole (b ∷ cs) rest.0 rest.1)))
    (cases_Bool (a == 13 && b == 10))

-- two readings of one text whose fronts are of one length are one
pub same_front : (xs ys us vs : List ℕ) → xs ++ us ≡ ys ++ vs → length xs ≡ length ys
    → (xs ≡ ys) × (us ≡ vs)
same_front xs ys us vs e l = (
  sym (take_at xs us _ refl) ∙ ap (take (length xs)) e ∙ take_at ys vs _ (sym l),
  sym (drop_at xs us _ refl) ∙ ap (drop (length xs)) e ∙ drop_at ys vs _ (sym l),
)

-- a pair is that of its parts
pub same_pair : {A B : Type 0} (p : A × B) (l : A) (r : B) → l ≡ p.0 → r ≡ p.1 → p ≡ (l, r)
same_pair {A} {B} p l r e f =
    let L : A → A × B = λ x. (x, p.1) in
    let R : B → A × B = λ y. (l, y) in
    ap L (sym e) ∙ ap R (sym f)

-- the first line is a line that the stream begins with, the shortest
pub CutsLine-from_first : (s l r : List ℕ) → first_line s ≡ Some (l, r) → CutsLine s l r
CutsLine-from_first s l r e = record {
  whole = first_line_whole s (l, r) e;
  shortest = λ front after whole.
      let found = first_line_found front after in
      let same : (l, r) ≡ found.0 = same_Some _ _ (sym e ∙ ap first_line whole ∙ found.1) in
      let count : length l ≡ length (found.0).0 = ap (λ (p : List ℕ × List ℕ). length p.0) same in
      omega (arith, found.2);
}

-- the shortest line that the stream begins with is its first
pub first_line-cuts : (s l r : List ℕ) → CutsLine s l r → first_line s ≡ Some (l, r)
first_line-cuts s l r h =
    let found = first_line_found l r in
    let p = found.0 in
    let there : first_line s ≡ Some p = ap first_line h.whole ∙ found.1 in
    let whole = first_line_whole s p there in
    let least = h.shortest p.0 p.1 whole in
    let same = same_front l p.0 (13 ∷ 10 ∷ r) (13 ∷ 10 ∷ p.1) (sym h.whole ∙ whole)
    (omega (arith, found.2, least)) in
    let rest : r ≡ p.1 = ap (drop 2) same.1 in
    there ∙ ap Some (same_pair p l r same.0 rest)

-- where there is no first line, no CRLF stands anywhere
pub no_first_line : (s front after : List ℕ) → first_line s ≡ None → s ≡ front ++ 13 ∷ 10 ∷ after
    → ⊥
no_first_line s front after none whole =
    let found = first_line_found front after in
    none-some found.0 (sym none ∙ ap first_line whole ∙ found.1)

-- a stream with no line at its front has no first line
pub first_line-none : (s : List ℕ) → ((l r : List ℕ) → ¬ CutsLine s l r) → first_line s ≡ None
first_line-none s h = at (first_line s) refl
  where
    at : (o : Option (List ℕ × List ℕ)) → first_line s ≡ o → o ≡ None
    at None e = refl
    at (Some p) e = absurd (h p.0 p.1 (CutsLine-from_first s p.0 p.1 e))
