-- A feed gains no more than its ring holds, and all that it may have where the ring isn't full.
use Rattle.std.proofs.Common.{◌≡◌, ◌∙◌, ℕ, ◌+◌, ◌≤◌, ◌<◌, nat_eq, nat_lt, Bool, true, false}
use Rattle.std.proofs.Common.{◌||◌, List, [], ◌∷◌, All, length, slice_get, inl, inr, refl, sym, ap}
use Rattle.std.proofs.Common.{subst, arith, zero-le, le_antisymm, true≢false, cond}
use Rattle.std.proofs.Common.{if◌then◌else◌, eqb-true}
use Rattle.std.specs.Prelude.{filter, map}
use Rattle.std.specs.List.{list_any, Contains}
use Rattle.std.proofs.lemmas.Bool.{ltb-true, ltb-false}
use Rattle.std.proofs.lemmas.List.Elements.{All-nil, All-cons, All-weaker}
use Rattle.std.proofs.lemmas.List.Elements.{Contains-append_right}
use Rattle.news_terms.specs.Token.{Token}
use Rattle.news_terms.specs.Ring.{missed}
use Rattle.relay_model.specs.Shares.{as_ring, ring_of}
use Rattle.relay_model.specs.Terms.{Terms}
use Rattle.relay_model.specs.State.{tokens_for}
use Rattle.relay_model.specs.World.{World}
use Rattle.relay_crashes.specs.Rings.{GainsOrFull, held_of, most_of}
use Rattle.relay_model.specs.Crash.{Again, Crash, accepted_again, has_room, is_claimed}
use Rattle.relay_model.specs.Crash.{permitted_again}

-- a number that is among those that pass passes
among_passes : (p : ℕ → Bool) (f : ℕ) (xs : List ℕ)
    → list_any (nat_eq f) (filter p xs) ≡ true → p f ≡ true
among_passes p f [] e = absurd (true≢false (sym e))
among_passes p f (x ∷ xs) e = by (p x) refl (among_passes p f xs) e
  where
    here : p x ≡ true → (same : Bool) → nat_eq f x ≡ same → (later : Bool)
        → (later ≡ true → p f ≡ true) → (same || later) ≡ true → p f ≡ true
    here is true at later rest e = ap p (eqb-true f x at) ∙ is
    here is false at later rest e = rest e

    by : (test : Bool) → p x ≡ test → (list_any (nat_eq f) (filter p xs) ≡ true → p f ≡ true)
        → list_any (nat_eq f) (if test then x ∷ filter p xs else filter p xs) ≡ true
        → p f ≡ true
    by true is rest e =
        here is (nat_eq f x) refl (list_any (nat_eq f) (filter p xs)) rest e
    by false is rest e = rest e

-- one that passes and is among all is among those that pass
passes_among : (p : ℕ → Bool) (f : ℕ) (xs : List ℕ) → list_any (nat_eq f) xs ≡ true
    → p f ≡ true → list_any (nat_eq f) (filter p xs) ≡ true
passes_among p f [] e is = absurd (true≢false (sym e))
passes_among p f (x ∷ xs) e is =
    by (nat_eq f x) refl (p x) refl e (λ later. passes_among p f xs later is)
  where
    by : (same : Bool) → nat_eq f x ≡ same → (test : Bool) → p x ≡ test
        → (same || list_any (nat_eq f) xs) ≡ true
        → (list_any (nat_eq f) xs ≡ true → list_any (nat_eq f) (filter p xs) ≡ true)
        → list_any (nat_eq f) (if test then x ∷ filter p xs else filter p xs) ≡ true
    by true at true passes e rest = ap (λ (t : Bool). t || list_any (nat_eq f) (filter p xs)) at
    by true at false passes e rest =
        absurd (true≢false (sym is ∙ ap p (eqb-true f x at) ∙ passes))
    by false at true passes e rest =
        ap (λ (t : Bool). t || list_any (nat_eq f) (filter p xs)) at ∙ rest e
    by false at false passes e rest = rest e

-- what a feed holds with one more accepted
with_one : (f : ℕ) (token : Token) (feeds : List ℕ) (later : List (Token × List ℕ)) (test : Bool)
    → list_any (nat_eq f) feeds ≡ test
    → held_of f ((token, feeds) ∷ later) ≡ cond test (held_of f later + 1) (held_of f later)
with_one f token feeds later test is =
    ap
    (λ (t : Bool). length (map (λ (one : Token × List ℕ). one.0)
    (if t then (token, feeds) ∷ filter (λ (one : Token × List ℕ). list_any (nat_eq f) one.1) later
    else filter (λ (one : Token × List ℕ). list_any (nat_eq f) one.1) later))) is
    ∙ by test
  where
    by : (t : Bool) → length (map (λ (one : Token × List ℕ). one.0)
        (if t then (token, feeds)
        ∷ filter (λ (one : Token × List ℕ). list_any (nat_eq f) one.1) later
        else filter (λ (one : Token × List ℕ). list_any (nat_eq f) one.1) later))
        ≡ cond t (held_of f later + 1) (held_of f later)
    by true = omega arith
    by false = refl

-- no feed gains more than its ring holds
pub rings_hold : (w : Terms) (f : ℕ) (texts : List Again)
    → held_of f (accepted_again w texts) ≤ most_of w f
rings_hold w f [] = zero-le
rings_hold w f (first ∷ texts) = by (is_claimed first) (rings_hold w f texts)
  where
    later : List (Token × List ℕ)
    later = accepted_again w texts

    feeds : List ℕ
    feeds = filter (has_room w later) (permitted_again w first.read)

    gains : (test : Bool) → list_any (nat_eq f) feeds ≡ test → held_of f later ≤ most_of w f
        → held_of f ((first.kept.token, feeds) ∷ later) ≤ most_of w f
    gains true is few =
        let room : held_of f later < most_of w f =
        ltb-true (held_of f later) (most_of w f)
        (among_passes (has_room w later) f (permitted_again w first.read) is) in
        let more : held_of f ((first.kept.token, feeds) ∷ later) ≡ held_of f later + 1 =
        with_one f first.kept.token feeds later true is in
        let all : held_of f ((first.kept.token, feeds) ∷ later) ≤ most_of w f =
        omega (arith, room, more) in
        all
    gains false is few =
        let same : held_of f ((first.kept.token, feeds) ∷ later) ≡ held_of f later =
        with_one f first.kept.token feeds later false is in
        let all : held_of f ((first.kept.token, feeds) ∷ later) ≤ most_of w f =
        omega (arith, few, same) in
        all

    by : (own : Bool) → held_of f later ≤ most_of w f
        → held_of f (if own then (first.kept.token, feeds) ∷ later else later) ≤ most_of w f
    by true few = gains (list_any (nat_eq f) feeds) refl few
    by false few = few

-- so nothing is missed after a crash
pub none_missed : (w v : Terms) (saved : Token → Bool) (x y : World) (f : ℕ)
    → Crash w v saved x y
    → missed (ring_of (slice_get v.feeds f)) (as_ring (y.state.feed f)) ≡ 0
none_missed w v saved x y f crash =
    subst
    (λ (z : World). missed (ring_of (slice_get v.feeds f)) (as_ring (z.state.feed f)) ≡ 0)
    (sym crash.after)
    (let few : held_of f (accepted_again v crash.found.texts) ≤ most_of v f =
    rings_hold v f crash.found.texts in
    omega (arith, few))

-- each feed gained what it may have, or its ring is full
pub gains_or_full : (w : Terms) (f : ℕ) (texts : List Again)
    → All (λ (one : Again). is_claimed one ≡ true
    → list_any (nat_eq f) (permitted_again w one.read) ≡ true
    → GainsOrFull w f (accepted_again w texts) one.kept.token) texts
gains_or_full w f [] =
    All-nil (λ (one : Again). is_claimed one ≡ true
    → list_any (nat_eq f) (permitted_again w one.read) ≡ true
    → GainsOrFull w f (accepted_again w []) one.kept.token)
gains_or_full w f (first ∷ texts) =
    All-cons Holds first texts (here (is_claimed first) refl)
    (All-weaker Held Holds (λ one held own may. later_on one.kept.token (held own may)) texts
    (gains_or_full w f texts))
  where
    later : List (Token × List ℕ)
    later = accepted_again w texts

    feeds : List ℕ
    feeds = filter (has_room w later) (permitted_again w first.read)

    -- what a feed has of them with the first, where that is some id's or not
    with_first : Bool → List (Token × List ℕ)
    with_first own = if own then (first.kept.token, feeds) ∷ later else later

    Holds : Again → Type 0
    Holds one =
        is_claimed one ≡ true → list_any (nat_eq f) (permitted_again w one.read) ≡ true
        → GainsOrFull w f (with_first (is_claimed first)) one.kept.token

    Held : Again → Type 0
    Held one =
        is_claimed one ≡ true → list_any (nat_eq f) (permitted_again w one.read) ≡ true
        → GainsOrFull w f later one.kept.token

    -- the tokens of a feed with the first
    tokens_with : (test : Bool) → list_any (nat_eq f) feeds ≡ test
        → tokens_for f ((first.kept.token, feeds) ∷ later)
        ≡ (if test then first.kept.token ∷ tokens_for f later else tokens_for f later)
    tokens_with test is =
        ap
        (λ (t : Bool). map (λ (one : Token × List ℕ). one.0)
        (if t then (first.kept.token, feeds)
        ∷ filter (λ (one : Token × List ℕ). list_any (nat_eq f) one.1) later
        else filter (λ (one : Token × List ℕ). list_any (nat_eq f) one.1) later)) is
        ∙ by test
      where
        by : (t : Bool) → map (λ (one : Token × List ℕ). one.0)
            (if t then (first.kept.token, feeds)
            ∷ filter (λ (one : Token × List ℕ). list_any (nat_eq f) one.1) later
            else filter (λ (one : Token × List ℕ). list_any (nat_eq f) one.1) later)
            ≡ (if t then first.kept.token ∷ tokens_for f later else tokens_for f later)
        by true = refl
        by false = refl

    -- a full ring stays full
    stays_full : (own : Bool) → held_of f later ≡ most_of w f
        → held_of f (with_first own) ≡ most_of w f
    stays_full false full = full
    stays_full true full = by (list_any (nat_eq f) feeds) refl
      where
        by : (test : Bool) → list_any (nat_eq f) feeds ≡ test
            → held_of f ((first.kept.token, feeds) ∷ later) ≡ most_of w f
        by true is =
            let room : held_of f later < most_of w f =
            ltb-true (held_of f later) (most_of w f)
            (among_passes (has_room w later) f (permitted_again w first.read) is) in
            absurd (omega (arith, room, full))
        by false is = with_one f first.kept.token feeds later false is ∙ full

    later_on : (token : Token) → GainsOrFull w f later token
        → GainsOrFull w f (with_first (is_claimed first)) token
    later_on token (inr full) = inr (stays_full (is_claimed first) full)
    later_on token (inl inside) = inl (more (is_claimed first))
      where
        gained : (test : Bool) → list_any (nat_eq f) feeds ≡ test
            → Contains (tokens_for f ((first.kept.token, feeds) ∷ later)) token
        gained true is =
            subst (λ (tokens : List Token). Contains tokens token) (sym (tokens_with true is))
            (Contains-append_right (first.kept.token ∷ []) (tokens_for f later) token inside)
        gained false is =
            subst (λ (tokens : List Token). Contains tokens token) (sym (tokens_with false is))
            inside

        more : (own : Bool) → Contains (tokens_for f (with_first own)) token
        more true = gained (list_any (nat_eq f) feeds) refl
        more false = inside

    here : (own : Bool) → is_claimed first ≡ own → is_claimed first ≡ true
        → list_any (nat_eq f) (permitted_again w first.read) ≡ true
        → GainsOrFull w f (with_first (is_claimed first)) first.kept.token
    here false is own may = absurd (true≢false (sym own ∙ is))
    here true is own may =
        subst (λ (b : Bool). GainsOrFull w f (with_first b) first.kept.token) (sym is)
        (by (nat_lt (held_of f later) (most_of w f)) refl)
      where
        by : (test : Bool) → nat_lt (held_of f later) (most_of w f) ≡ test
            → GainsOrFull w f ((first.kept.token, feeds) ∷ later) first.kept.token
        by true room =
            inl
            (subst (λ (tokens : List Token). Contains tokens first.kept.token)
            (sym (tokens_with true
            (passes_among (has_room w later) f (permitted_again w first.read) may room)))
            (0, omega arith, refl))
        by false full =
            let most : most_of w f ≤ held_of f later =
            ltb-false (held_of f later) (most_of w f) full in
            let few : held_of f later ≤ most_of w f = rings_hold w f texts in
            inr (stays_full true (le_antisymm few most))
