-- The texts without what begins at a place: what is found and counted of the others.
use Rattle.std.proofs.Common.{◌≡◌, ◌∙◌, ℕ, ◌+◌, ◌≤◌, ◌==◌, ◌&&◌, not, Bool, true, false, inl, inr}
use Rattle.std.proofs.Common.{refl, sym, ap, arith, cond, true≢false, List, [], ◌∷◌, None}
use Rattle.std.proofs.Common.{Some, count_by}
use Rattle.std.proofs.lemmas.Bool.{cases_Bool, cond-false, cond-true, eq-eqb}
use Rattle.std.proofs.lemmas.Bool.{false_from_ne_true}
use Rattle.std.proofs.lemmas.List.Elements.{Contains-append_cases, Contains-append_left}
use Rattle.std.proofs.lemmas.List.Elements.{Contains-append_right, Contains-push}
use Rattle.std.proofs.lemmas.List.Elements.{Contains-push_cases}
use Rattle.std.proofs.lemmas.Option.{none-some}
use Rattle.std.specs.List.{Contains}
use Rattle.std.specs.Prelude.{find, option_map}
use Rattle.news_terms.specs.Token.{Token, same_token}
use Rattle.relay_facts.proofs.SameTokens.{same_itself, same_one}
use Rattle.relay_model.specs.Fetches.{is_at, text_under}
use Rattle.relay_model.specs.State.{Kept}
use Rattle.buffer_repair.proofs.LeftTexts.{at_place, count_one, is_under}
use Rattle.buffer_repair.specs.Keeping.{without_text}

-- two articles of the same buffer begin at one place
pub record AreAtOne (t u : Token) : Type 0 where
  pub buffer : t.buffer ≡ u.buffer
  pub cycle : t.cycle ≡ u.cycle
  pub first : t.first ≡ u.first

-- three tests that pass one by one pass together
three_pass : (a b c : Bool) → a ≡ true → b ≡ true → c ≡ true → (a && b && c) ≡ true
three_pass true true true p q r = refl
three_pass true true false p q r = absurd (true≢false (sym r))
three_pass true false c p q r = absurd (true≢false (sym q))
three_pass false b c p q r = absurd (true≢false (sym p))

module _ (t : Token) where
  -- the text begins at the token's place
  abbrev pub here : Kept → Bool
  here one = is_at t.buffer t.cycle t.first one

  -- it does, by its parts
  pub is_here : (one : Kept) → AreAtOne one.token t → here one ≡ true
  is_here one same =
      three_pass (one.token.buffer == t.buffer) (one.token.cycle == t.cycle)
      (one.token.first == t.first) (eq-eqb one.token.buffer t.buffer same.buffer)
      (eq-eqb one.token.cycle t.cycle same.cycle) (eq-eqb one.token.first t.first same.first)

  pub at_one : (one : Kept) → here one ≡ true → AreAtOne one.token t
  at_one one e =
      let p = at_place t.buffer t.cycle t.first one e in
      record { buffer = p.0; cycle = p.1; first = p.2 }

  -- one that begins there goes
  goes : (one : Kept) (later : List Kept) → here one ≡ true
      → without_text t (one ∷ later) ≡ without_text t later
  goes one later e =
      cond-false (not (here one)) (one ∷ without_text t later) (without_text t later)
      (ap not e)

  -- one that doesn't stays
  stays : (one : Kept) (later : List Kept) → here one ≡ false
      → without_text t (one ∷ later) ≡ one ∷ without_text t later
  stays one later e =
      cond-true (not (here one)) (one ∷ without_text t later) (without_text t later)
      (ap not e)

  -- under a token of another place the same is found
  pub found_beside : (u : Token) → (AreAtOne u t → ⊥) → (kept : List Kept)
      → text_under (without_text t kept) u ≡ text_under kept u
  found_beside u apart kept =
      ap (option_map (λ (one : Kept). one.text)) (by kept)
    where
      by : (kept : List Kept)
          → find (is_under u) (without_text t kept) ≡ find (is_under u) kept
      by [] = refl
      by (one ∷ later) = elim (cases_Bool (here one)) [
        | inl e ↦
            let other : is_under u one ≡ false =
            false_from_ne_true (is_under u one) (λ same.
            let is = same_one one.token u same in
            let p = at_one one e in
            apart (record {
              buffer = ap (λ (x : Token). x.buffer) (sym is) ∙ p.buffer;
              cycle = ap (λ (x : Token). x.cycle) (sym is) ∙ p.cycle;
              first = ap (λ (x : Token). x.first) (sym is) ∙ p.first;
            })) in
            ap (find (is_under u)) (goes one later e) ∙ by later
            ∙ sym (cond-false (is_under u one) (Some one) (find (is_under u) later) other)
        | inr e ↦
            ap (find (is_under u)) (stays one later e)
            ∙ ap (λ rest. cond (is_under u one) (Some one) rest) (by later)
      ]

  -- under a token of this place nothing is
  pub found_none : (u : Token) → AreAtOne u t → (kept : List Kept)
      → text_under (without_text t kept) u ≡ None
  found_none u same kept = ap (option_map (λ (one : Kept). one.text)) (by kept)
    where
      by : (kept : List Kept) → find (is_under u) (without_text t kept) ≡ None
      by [] = refl
      by (one ∷ later) = elim (cases_Bool (here one)) [
        | inl e ↦ ap (find (is_under u)) (goes one later e) ∙ by later
        | inr e ↦
            let other : is_under u one ≡ false =
            false_from_ne_true (is_under u one) (λ under.
            let is = same_one one.token u under in
            true≢false (sym (is_here one (record {
              buffer = ap (λ (x : Token). x.buffer) is ∙ same.buffer;
              cycle = ap (λ (x : Token). x.cycle) is ∙ same.cycle;
              first = ap (λ (x : Token). x.first) is ∙ same.first;
            })) ∙ e)) in
            ap (find (is_under u)) (stays one later e)
            ∙ cond-false (is_under u one) (Some one) (find (is_under u) (without_text t later))
            other
            ∙ by later
      ]

  -- of what a test is passed by, those that begin there go
  pub count_without : (p : Kept → Bool) → ((one : Kept) → here one ≡ true → p one ≡ true)
      → (kept : List Kept)
      → count_by p (without_text t kept) + count_by here kept ≡ count_by p kept
  count_without p so [] = refl
  count_without p so (one ∷ later) = elim (cases_Bool (here one)) [
    | inl e ↦ omega (
      arith,
      ap (count_by p) (goes one later e),
      count_one here one later,
      count_one p one later,
      cond-true {A = ℕ} (here one) 1 0 e,
      cond-true {A = ℕ} (p one) 1 0 (so one e),
      count_without p so later,
    )
    | inr e ↦ omega (
      arith,
      ap (count_by p) (stays one later e),
      count_one here one later,
      count_one p one later,
      count_one p one (without_text t later),
      cond-false {A = ℕ} (here one) 1 0 e,
      count_without p so later,
    )
  ]

  -- where none of them passes, as many are counted
  pub count_beside : (p : Kept → Bool) → ((one : Kept) → here one ≡ true → p one ≡ false)
      → (kept : List Kept) → count_by p (without_text t kept) ≡ count_by p kept
  count_beside p so [] = refl
  count_beside p so (one ∷ later) = elim (cases_Bool (here one)) [
    | inl e ↦ omega (
      arith,
      ap (count_by p) (goes one later e),
      count_one p one later,
      cond-false {A = ℕ} (p one) 1 0 (so one e),
      count_beside p so later,
    )
    | inr e ↦ omega (
      arith,
      ap (count_by p) (stays one later e),
      count_one p one later,
      count_one p one (without_text t later),
      count_beside p so later,
    )
  ]

  -- and never more
  pub count_fewer : (p : Kept → Bool) (kept : List Kept)
      → count_by p (without_text t kept) ≤ count_by p kept
  count_fewer p [] = omega arith
  count_fewer p (one ∷ later) = elim (cases_Bool (here one)) [
    | inl e ↦ omega (
      arith,
      ap (count_by p) (goes one later e),
      count_one p one later,
      count_fewer p later,
    )
    | inr e ↦ omega (
      arith,
      ap (count_by p) (stays one later e),
      count_one p one later,
      count_one p one (without_text t later),
      count_fewer p later,
    )
  ]

  -- where none begins there all stay
  pub all_stay : (kept : List Kept) → ((one : Kept) → Contains kept one → here one ≡ true → ⊥)
      → without_text t kept ≡ kept
  all_stay [] none = refl
  all_stay (one ∷ later) none =
      stays one later (false_from_ne_true (here one)
      (none one (Contains-append_left (one ∷ []) later one (Contains-push [] one))))
      ∙ ap (λ rest. one ∷ rest)
      (all_stay later (λ x c. none x (Contains-append_right (one ∷ []) later x c)))

-- what is found under a token is one of the texts
pub record IsOneUnder (kept : List Kept) (u : Token) : Type 0 where
  pub one : Kept
  pub among : Contains kept one
  pub this : one.token ≡ u

pub under_some : (kept : List Kept) (u : Token) (text : List ℕ)
    → text_under kept u ≡ Some text → IsOneUnder kept u
under_some [] u text e = absurd (none-some text e)
under_some (one ∷ later) u text e = elim (cases_Bool (is_under u one)) [
  | inl is ↦ record {
    one = one;
    among = Contains-append_left (one ∷ []) later one (Contains-push [] one);
    this = same_one one.token u is;
  }
  | inr off ↦
      let rest = under_some later u text
      (sym (ap (option_map (λ (x : Kept). x.text))
      (cond-false (is_under u one) (Some one) (find (is_under u) later) off)) ∙ e) in
      record {
        one = rest.one;
        among = Contains-append_right (one ∷ []) later rest.one rest.among;
        this = rest.this;
      }
]

-- each of the texts has one found under its token
pub some_under : (kept : List Kept) (one : Kept) → Contains kept one
    → text_under kept one.token ≡ None → ⊥
some_under [] one c e = absurd (omega (arith, c.1))
some_under (first ∷ later) one c e = elim (cases_Bool (is_under one.token first)) [
  | inl is ↦ none-some first.text (sym e
      ∙ ap (option_map (λ (x : Kept). x.text))
      (cond-true (is_under one.token first) (Some first) (find (is_under one.token) later) is))
  | inr off ↦ elim (Contains-append_cases (first ∷ []) later one c) [
    | inl p ↦ elim (Contains-push_cases [] first one p) [
      | inl q ↦ omega (arith, q.1)
      | inr q ↦ true≢false (sym (same_itself one.token)
          ∙ ap (λ (x : Kept). same_token x.token one.token) (sym q) ∙ off)
    ]
    | inr p ↦ some_under later one p
        (sym (ap (option_map (λ (x : Kept). x.text))
        (cond-false (is_under one.token first) (Some first) (find (is_under one.token) later)
        off)) ∙ e)
  ]
]

-- one that is there is counted
pub one_counted : (p : Kept → Bool) (kept : List Kept) (one : Kept) → Contains kept one
    → p one ≡ true → 1 ≤ count_by p kept
one_counted p [] one c e = absurd (omega (arith, c.1))
one_counted p (first ∷ later) one c e = elim (Contains-append_cases (first ∷ []) later one c) [
  | inl q ↦ elim (Contains-push_cases [] first one q) [
    | inl r ↦ absurd (omega (arith, r.1))
    | inr r ↦ omega (
      arith,
      count_one p first later,
      cond-true {A = ℕ} (p first) 1 0 (ap p r ∙ e),
    )
  ]
  | inr q ↦ omega (
    arith,
    count_one p first later,
    one_counted p later one q e,
  )
]
