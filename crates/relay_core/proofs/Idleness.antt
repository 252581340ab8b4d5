-- The count of ids that are being stored says whether one is.
use Rattle.std.proofs.Common.{◌≡◌, ◌∙◌, ℕ, ◌+◌, Bool, true, false, List, [], ◌∷◌, bytes_eq}
use Rattle.std.proofs.Common.{count_by, cond, refl, sym, ap, true≢false, arith}
use Rattle.std.proofs.lemmas.List.Sums.{sum_by-cons}
use Rattle.std.specs.Prelude.{◌||◌}
use Rattle.std.specs.Set.{is_member}
use Rattle.id_history.specs.Counts.{CountsOf, is_known}
use Rattle.id_history.specs.declared.counts.Counts.{Counts}
use Rattle.relay_facts.proofs.Puts.{same_id}
use Rattle.relay_model.specs.Claims.{Claim, Unknown, Offered, Storing, Stored, Refused, is_storing}
use Rattle.relay_core.specs.Idle.{IsIdleAs}

-- an id that is being stored is known
storing_known : (claim : Claim) → is_storing claim ≡ true → is_known claim ≡ true
storing_known Unknown e = absurd (true≢false (sym e))
storing_known (Offered session since) e = refl
storing_known (Storing session article stage) e = refl
storing_known (Stored token moment) e = refl
storing_known (Refused moment) e = refl

module _ (p : List ℕ → Bool) where
  -- the count goes by the first
  counted : (x : List ℕ) (xs : List (List ℕ))
      → count_by p (x ∷ xs) ≡ cond (p x) 1 0 + count_by p xs
  counted x xs = sum_by-cons (λ y. cond (p y) 1 0) x xs

  -- one passes where the count isn't 0
  some : (xs : List (List ℕ)) → (count_by p xs ≡ 0 → ⊥) → (x : List ℕ) × (p x ≡ true)
  some [] more = absurd (more refl)
  some (x ∷ xs) more = by (some xs) (p x) refl
    where
      by : ((count_by p xs ≡ 0 → ⊥) → (y : List ℕ) × (p y ≡ true)) → (b : Bool) → p x ≡ b
          → (y : List ℕ) × (p y ≡ true)
      by later true e = (x, e)
      by later false e =
          later (λ zero. more (counted x xs ∙ ap (λ t. cond t 1 0 + count_by p xs) e
          ∙ ap (λ n. 0 + n) zero))

  -- the count without the first
  zero_left : (n m : ℕ) → n ≡ 0 + m → n ≡ 0 → m ≡ 0
  zero_left n m e zero = omega (arith, e, zero)

  -- none passes where it is 0
  none : (xs : List (List ℕ)) → count_by p xs ≡ 0 → (x : List ℕ)
      → is_member bytes_eq xs x ≡ true → p x ≡ false
  none [] zero x there = absurd (true≢false (sym there))
  none (y ∷ ys) zero x there = by (none ys) (p y) refl (bytes_eq x y) refl
    where
      by : (count_by p ys ≡ 0 → (x : List ℕ) → is_member bytes_eq ys x ≡ true → p x ≡ false)
          → (b : Bool) → p y ≡ b → (same : Bool) → bytes_eq x y ≡ same → p x ≡ false
      by later true e same is =
          let one : 1 + count_by p ys ≡ 0 =
          sym (counted y ys ∙ ap (λ t. cond t 1 0 + count_by p ys) e) ∙ zero in
          absurd (omega (arith, one))
      by later false e true is = ap p (same_id x y is) ∙ e
      by later false e false is =
          later (zero_left (count_by p (y ∷ ys)) (count_by p ys)
          (counted y ys ∙ ap (λ t. cond t 1 0 + count_by p ys) e) zero) x
          (sym (ap (λ b. b || is_member bytes_eq ys x) is) ∙ there)

-- by the counts of these claims
pub told : (claims : List ℕ → Claim) (counts : Counts) (answer : Bool) → CountsOf claims counts
    → (answer ≡ true → counts.storing ≡ 0) → (answer ≡ false → counts.storing ≡ 0 → ⊥)
    → IsIdleAs claims answer
told claims counts true of zero more = λ id. by id (is_storing (claims id)) refl
  where
    by : (id : List ℕ) → (b : Bool) → is_storing (claims id) ≡ b → is_storing (claims id) ≡ false
    by id false e = e
    by id true e =
        none (λ one. is_storing (claims one)) of.ids (sym of.numbers.storing ∙ zero refl) id
        (of.known id ∙ storing_known (claims id) e)
told claims counts false of zero more =
    some (λ one. is_storing (claims one)) of.ids
    (λ none. more refl (of.numbers.storing ∙ none))
