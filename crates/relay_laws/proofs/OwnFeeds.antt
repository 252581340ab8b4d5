-- The feed of a peer: the first that is its own.
use Rattle.std.proofs.Common.{◌≡◌, ◌∙◌, ℕ, ◌≤◌, ◌<◌, ◌==◌, Bool, true, List, [], ◌∷◌}
use Rattle.std.proofs.Common.{length, slice_get, None, Some, get_or, sym, ap, subst, arith}
use Rattle.std.proofs.Common.{eqb-true, eq-eqb, true≢false, ◌⊎◌, inl, inr}
use Rattle.std.proofs.lemmas.Bool.{cases_lt, lt-ltb}
use Rattle.std.proofs.lemmas.List.Quantifiers.{position-Some}
use Rattle.std.proofs.lemmas.List.Sums.{fails_before_first}
use Rattle.std.proofs.lemmas.Option.{none-some, slice_get_within, get_or_from_slice_get}
use Rattle.std.proofs.lemmas.Option.{slice_get_cases}
use Rattle.std.specs.List.{position, position_or_len}
use Rattle.std.specs.Prelude.{IsSomeAnd, cond}
use Rattle.relay_model.specs.Asks.{feed_of}
use Rattle.relay_model.specs.Terms.{Terms, FeedTerms}

-- what stands at the first place that passes a test passes it
at_position : {X : Type 0} (p : X → Bool) (P : X → Type 0) → ((x : X) → p x ≡ true → P x)
    → (xs : List X) (i : ℕ) → position p xs ≡ Some i → IsSomeAnd (slice_get xs i) P
at_position p P means [] i is = absurd (none-some i is)
at_position {X} p P means (first ∷ xs) i is =
    by_place (slice_get_cases (first ∷ xs) i).1
  where
    by_place : ((x : X) × (i < length (first ∷ xs)) × (slice_get (first ∷ xs) i ≡ Some x)
        × (get_or (first ∷ xs) i x ≡ x))
        ⊎ ((length (first ∷ xs) ≤ i) × (slice_get (first ∷ xs) i ≡ None))
        → IsSomeAnd (slice_get (first ∷ xs) i) P
    by_place (inl there) =
        subst (λ o. IsSomeAnd o P) (sym there.2)
        (means there.0
        (ap p (sym there.3) ∙ (position-Some p (first ∷ xs) i there.0 is).1))
    by_place (inr past) =
        absurd (omega (arith, past.0, (position-Some p (first ∷ xs) i first is).0))

-- where no place passes, no element does
no_position : {X : Type 0} (p : X → Bool) (xs : List X) (i : ℕ) (x : X) → slice_get xs i ≡ Some x
    → p x ≡ true → position p xs ≡ None → ⊥
no_position p xs i x there passes none =
    by_place (cases_lt (position_or_len p xs) (length xs))
  where
    by_place : (position_or_len p xs < length xs) ⊎ (length xs ≤ position_or_len p xs) → ⊥
    by_place (inl inside) =
        none-some (position_or_len p xs)
        (sym none ∙ ap (λ t. cond t (Some (position_or_len p xs)) None)
        (lt-ltb (position_or_len p xs) (length xs) inside))
    by_place (inr past) =
        let within : i < length xs = slice_get_within xs i x there in
        true≢false
        (sym passes ∙ ap p (sym (get_or_from_slice_get xs i x x there))
        ∙ fails_before_first p xs i x (omega (arith, past, within)))

-- the feed that a peer takes from is its own
pub taken_feed : (w : Terms) (peer feed : ℕ) → feed_of w peer ≡ Some feed
    → IsSomeAnd (slice_get w.feeds feed) (λ one. one.peer ≡ peer)
taken_feed w peer feed is =
    at_position (λ (one : FeedTerms). one.peer == peer) (λ one. one.peer ≡ peer)
    (λ one passes. eqb-true one.peer peer passes) w.feeds feed is

-- a peer that has a feed is given one
pub given_feed : (w : Terms) (peer feed : ℕ) (one : FeedTerms) → slice_get w.feeds feed ≡ Some one
    → one.peer ≡ peer → feed_of w peer ≡ None → ⊥
given_feed w peer feed one there own none =
    no_position (λ (each : FeedTerms). each.peer == peer) w.feeds feed one there
    (eq-eqb one.peer peer own) none
