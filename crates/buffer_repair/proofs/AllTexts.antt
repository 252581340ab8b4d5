-- The texts that are found in all buffers: under a token of a buffer those of that buffer alone are
-- found and counted.
use Rattle.std.proofs.Common.{◌≡◌, ◌∙◌, ℕ, zero, suc, Bool, true, false, refl, sym, ap, arith}
use Rattle.std.proofs.Common.{List, [], ◌∷◌, map, Option, None, Some, count_by}
use Rattle.std.proofs.Common.{slice_get, All}
use Rattle.std.proofs.lemmas.Bool.{false_from_ne_true, cond-false}
use Rattle.std.proofs.lemmas.List.Elements.{All-append, All-cons, All-nil}
use Rattle.std.proofs.lemmas.List.Elements.{Contains-append_left, Contains-append_right}
use Rattle.std.proofs.lemmas.List.Elements.{Contains-push}
use Rattle.std.proofs.lemmas.List.Folds.{find-append}
use Rattle.std.proofs.lemmas.Option.{none-some, same_Some}
use Rattle.std.specs.List.{AllByRecursion, Contains}
use Rattle.std.specs.Option.{option_or}
use Rattle.std.specs.Prelude.{find, option_map}
use Rattle.cyc_token.specs.declared.Token as codes
use Rattle.news_terms.specs.Token.{Token, same_token}
use Rattle.relay_facts.proofs.SameTokens.{same_one}
use Rattle.relay_model.specs.Fetches as fetches
use Rattle.relay_model.specs.Fetches.{is_at}
use Rattle.relay_model.specs.State.{Kept}
use Rattle.buffer_repair.proofs.LeftTexts.{count_append, is_under, none_counted}
use Rattle.buffer_repair.specs.Remains.{Remains, all_texts_left, text_left, texts_left}

-- the texts are of the buffer of this number
abbrev pub AreOf : (number : ℕ) → List Kept → Type 0
AreOf number kept = AllByRecursion (λ (one : Kept). one.token.buffer ≡ number) kept

-- what is found in each of these buffers is of its number
abbrev pub AllOwn : (ids : Token → List ℕ) → List Remains → Type 0
AllOwn ids all =
    (i : ℕ) (r : Remains) → slice_get all i ≡ Some r → AreOf r.buffer.number (texts_left ids r)

-- each has a number of its own
abbrev pub AllApart : List Remains → Type 0
AllApart all =
    (i j : ℕ) (a b : Remains) → slice_get all i ≡ Some a → slice_get all j ≡ Some b
    → a.buffer.number ≡ b.buffer.number → i ≡ j

-- the texts of tokens of one number are of that number
pub texts_own : (ids : Token → List ℕ) (blocks : List (List ℕ)) (number : ℕ)
    (tokens : List codes.Token)
    → ((t : codes.Token) → Contains tokens t → t.buffer ≡ number)
    → AreOf number (map (text_left ids blocks) tokens)
texts_own ids blocks number [] each = tt
texts_own ids blocks number (t ∷ later) each = (
  each t (Contains-append_left (t ∷ []) later t (Contains-push [] t)),
  texts_own ids blocks number later
      (λ u c. each u (Contains-append_right (t ∷ []) later u c)),
)

-- none of another buffer is under a token
none_under : (number : ℕ) (kept : List Kept) (token : Token) → AreOf number kept
    → (token.buffer ≡ number → ⊥) → find (is_under token) kept ≡ None
none_under number [] token own apart = refl
none_under number (one ∷ later) token own apart =
    cond-false (same_token one.token token) (Some one) (find (is_under token) later)
    (false_from_ne_true (same_token one.token token) (λ e.
    apart (ap (λ (t : Token). t.buffer) (sym (same_one one.token token e)) ∙ own.0)))
    ∙ none_under number later token own.1 apart

-- a test that is passed by texts of one buffer alone
abbrev pub IsOfOne : (number : ℕ) → (Kept → Bool) → Type 0
IsOfOne number p = (one : Kept) → p one ≡ true → one.token.buffer ≡ number

-- none of another buffer passes
none_passes : (number other : ℕ) (p : Kept → Bool) (kept : List Kept) → IsOfOne number p
    → AreOf other kept → (number ≡ other → ⊥) → count_by p kept ≡ 0
none_passes number other p kept of_one own apart = none_counted p kept (from kept own)
  where
    from : (some : List Kept) → AreOf other some → AllByRecursion (λ one. p one ≡ false) some
    from [] own = tt
    from (one ∷ later) own = (
      false_from_ne_true (p one) (λ e. apart (sym (of_one one e) ∙ own.0)),
      from later own.1,
    )

module _ (ids : Token → List ℕ) where
  -- what is found under a token in several buffers that aren't its own
  pub none_found : (all : List Remains) → AllOwn ids all → (token : Token)
      → ((i : ℕ) (r : Remains) → slice_get all i ≡ Some r → token.buffer ≡ r.buffer.number → ⊥)
      → find (is_under token) (all_texts_left ids all) ≡ None
  none_found [] own token apart = refl
  none_found (r ∷ later) own token apart =
      find-append (is_under token) (texts_left ids r) (all_texts_left ids later)
      ∙ ap (λ front. option_or front (find (is_under token) (all_texts_left ids later)))
      (none_under r.buffer.number (texts_left ids r) token (own zero r refl) (apart zero r refl))
      ∙ none_found later (λ i s at. own (suc i) s at) token (λ i s at. apart (suc i) s at)

  -- what is found under a token of one of the buffers is what is found there
  pub found_own : (all : List Remains) → AllOwn ids all → AllApart all → (i : ℕ) (r : Remains)
      → slice_get all i ≡ Some r → (token : Token) → token.buffer ≡ r.buffer.number
      → fetches.text_under (all_texts_left ids all) token
      ≡ fetches.text_under (texts_left ids r) token
  found_own all own apart i r at token here =
      ap (option_map (λ (one : Kept). one.text)) (found all own apart i at)
    where
      or_none : (o : Option Kept) → option_or o None ≡ o
      or_none None = refl
      or_none (Some one) = refl

      found : (all : List Remains) → AllOwn ids all → AllApart all → (i : ℕ)
          → slice_get all i ≡ Some r
          → find (is_under token) (all_texts_left ids all)
          ≡ find (is_under token) (texts_left ids r)
      found [] own apart i at = absurd (none-some r at)
      found (first ∷ later) own apart zero at =
          let same : first ≡ r = same_Some first r at in
          find-append (is_under token) (texts_left ids first) (all_texts_left ids later)
          ∙ ap (option_or (find (is_under token) (texts_left ids first)))
          (none_found later (λ j s is. own (suc j) s is) token
          (λ j s is e. omega (
            arith,
            apart zero (suc j) first s refl is
                (ap (λ (x : Remains). x.buffer.number) same ∙ sym here ∙ e),
          )))
          ∙ or_none (find (is_under token) (texts_left ids first))
          ∙ ap (λ (x : Remains). find (is_under token) (texts_left ids x)) same
      found (first ∷ later) own apart (suc j) at =
          find-append (is_under token) (texts_left ids first) (all_texts_left ids later)
          ∙ ap (λ front. option_or front (find (is_under token) (all_texts_left ids later)))
          (none_under first.buffer.number (texts_left ids first) token (own zero first refl)
          (λ e. omega (arith, apart zero (suc j) first r refl at (sym e ∙ here))))
          ∙ found later (λ k s is. own (suc k) s is)
          (λ a b x y p q e. omega (arith, apart (suc a) (suc b) x y p q e)) j at

  -- of several buffers none that isn't a test's own is counted
  pub none_count : (all : List Remains) → AllOwn ids all → (number : ℕ) (p : Kept → Bool)
      → IsOfOne number p
      → ((i : ℕ) (r : Remains) → slice_get all i ≡ Some r → number ≡ r.buffer.number → ⊥)
      → count_by p (all_texts_left ids all) ≡ 0
  none_count [] own number p of_one apart = refl
  none_count (r ∷ later) own number p of_one apart = omega (
    arith,
    count_append p (texts_left ids r) (all_texts_left ids later),
    none_passes number r.buffer.number p (texts_left ids r) of_one (own zero r refl)
        (apart zero r refl),
    none_count later (λ i s at. own (suc i) s at) number p of_one
        (λ i s at. apart (suc i) s at),
  )

  -- those of its own are
  pub count_own : (all : List Remains) → AllOwn ids all → AllApart all → (i : ℕ) (r : Remains)
      → slice_get all i ≡ Some r → (p : Kept → Bool) → IsOfOne r.buffer.number p
      → count_by p (all_texts_left ids all) ≡ count_by p (texts_left ids r)
  count_own [] own apart i r at p of_one = absurd (none-some r at)
  count_own (first ∷ later) own apart zero r at p of_one =
      let same : first ≡ r = same_Some first r at in
      omega (
        arith,
        count_append p (texts_left ids first) (all_texts_left ids later),
        ap (λ (x : Remains). count_by p (texts_left ids x)) same,
        none_count later (λ j s is. own (suc j) s is) r.buffer.number p of_one
            (λ j s is e. omega (
              arith,
              apart zero (suc j) first s refl is
                  (ap (λ (x : Remains). x.buffer.number) same ∙ e),
            )),
      )
  count_own (first ∷ later) own apart (suc j) r at p of_one = omega (
    arith,
    count_append p (texts_left ids first) (all_texts_left ids later),
    none_passes r.buffer.number first.buffer.number p (texts_left ids first) of_one
        (own zero first refl)
        (λ e. omega (arith, apart zero (suc j) first r refl at (sym e))),
    count_own later (λ k s is. own (suc k) s is)
        (λ a b x y p q e. omega (arith, apart (suc a) (suc b) x y p q e)) j r at p of_one,
  )

  -- what holds of each found text of each buffer holds of all
  pub each_text : (P : Kept → Type 0) (all : List Remains)
      → ((i : ℕ) (r : Remains) (t : codes.Token) → slice_get all i ≡ Some r
      → Contains r.tokens t → P (text_left ids r.blocks t))
      → All P (all_texts_left ids all)
  each_text P [] each = All-nil P
  each_text P (r ∷ later) each =
      All-append P (texts_left ids r) (all_texts_left ids later)
      (of_tokens r.tokens (λ t c. each zero r t refl c))
      (each_text P later (λ i s t at. each (suc i) s t at))
    where
      of_tokens : (tokens : List codes.Token)
          → ((t : codes.Token) → Contains tokens t → P (text_left ids r.blocks t))
          → All P (map (text_left ids r.blocks) tokens)
      of_tokens [] each = All-nil P
      of_tokens (t ∷ more) each =
          All-cons P (text_left ids r.blocks t) (map (text_left ids r.blocks) more)
          (each t (Contains-append_left (t ∷ []) more t (Contains-push [] t)))
          (of_tokens more (λ u c. each u (Contains-append_right (t ∷ []) more u c)))
