-- Each text that is found is accepted once, and no feed gains its token twice.
use Rattle.std.proofs.Common.{◌≡◌, ℕ, ◌+◌, ◌≤◌, Bool, true, false, List, [], ◌∷◌, Option, None}
use Rattle.std.proofs.Common.{Some, All, count_by, cond, bytes_eq, refl, sym, ap, subst, arith}
use Rattle.std.proofs.Common.{le_refl, zero-le, le_trans, true≢false, if◌then◌else◌}
use Rattle.std.specs.Prelude.{find, filter}
use Rattle.std.proofs.lemmas.List.Elements.{All-nil, All-cons, All-weaker, All-filter}
use Rattle.std.proofs.lemmas.List.Elements.{filter_passes}
use Rattle.std.proofs.lemmas.List.Sums.{sum_by-cons}
use Rattle.news_terms.specs.Token.{Token, same_token}
use Rattle.relay_model.specs.Claims.{Stored}
use Rattle.relay_model.specs.State.{State, Kept}
use Rattle.relay_model.specs.Terms.{Terms}
use Rattle.relay_facts.proofs.SameTokens.{same_itself}
use Rattle.relay_model.specs.Fetches.{is_at}
use Rattle.relay_laws.proofs.Accepting.{AcceptsOnce, IsTaken, times_accepted}
use Rattle.relay_laws.proofs.Tests.{passes_place, same_places}
use Rattle.relay_model.specs.Crash.{Again, Found, Listed, IsFound, accepted_again, claim_again}
use Rattle.relay_model.specs.Crash.{claim_by, claimed, has_room, is_claimed, permitted_again}
use Rattle.relay_model.specs.Crash.{state_again}
use Rattle.relay_crashes.proofs.WellAgain.{accepted_all, find_all, from_kept, kept_of}
use Rattle.relay_crashes.proofs.WellAgain.{never_storing}

-- a test that implies another counts no more
ones : (a b : Bool) → (a ≡ true → b ≡ true) → cond {A = ℕ} a 1 0 ≤ cond {A = ℕ} b 1 0
ones true true implies = le_refl 1
ones true false implies = absurd (true≢false (sym (implies refl)))
ones false b implies = zero-le

-- the text lies at the place of its own token
lies_there : (one : Kept) → is_at one.token.buffer one.token.cycle one.token.first one ≡ true
lies_there one =
    passes_place one one.token (record { buffer = refl; cycle = refl; first = refl })

-- a place that is taken stays so with a text more
more_taken : (first : Kept) (kept : List Kept) (token : Token) → IsTaken kept token
    → IsTaken (first ∷ kept) token
more_taken first kept token taken =
    let p : Kept → Bool = is_at token.buffer token.cycle token.first in
    let counts : count_by p (first ∷ kept) ≡ cond (p first) 1 0 + count_by p kept =
    sum_by-cons (λ (one : Kept). cond (p one) 1 0) first kept in
    let some : 1 ≤ count_by p kept = taken in
    let now : 1 ≤ count_by p (first ∷ kept) = omega (arith, counts, some) in
    now

-- each text that is kept takes its place
each_taken : (kept : List Kept) → All (λ (one : Kept). IsTaken kept one.token) kept
each_taken [] = All-nil (λ (one : Kept). IsTaken [] one.token)
each_taken (first ∷ kept) =
    All-cons (λ (one : Kept). IsTaken (first ∷ kept) one.token) first kept here
    (All-weaker (λ (one : Kept). IsTaken kept one.token)
    (λ (one : Kept). IsTaken (first ∷ kept) one.token)
    (λ one. more_taken first kept one.token) kept (each_taken kept))
  where
    here : IsTaken (first ∷ kept) first.token
    here =
        let p : Kept → Bool = is_at first.token.buffer first.token.cycle first.token.first in
        let counts : count_by p (first ∷ kept) ≡ cond (p first) 1 0 + count_by p kept =
        sum_by-cons (λ (one : Kept). cond (p one) 1 0) first kept in
        let one : cond {A = ℕ} (p first) 1 0 ≡ 1 =
        ap (λ test. cond {A = ℕ} test 1 0) (lies_there first) in
        let some : 1 ≤ count_by p (first ∷ kept) = omega (arith, counts, one) in
        some

-- a token is accepted no more often than texts lie at its place
accepted_within : (w : Terms) (token : Token) (texts : List Again)
    → times_accepted token (accepted_again w texts)
    ≤ count_by (λ (one : Again). is_at token.buffer token.cycle token.first one.kept) texts
accepted_within w token [] = zero-le
accepted_within w token (first ∷ texts) = by (is_claimed first) (accepted_within w token texts)
  where
    later : List (Token × List ℕ)
    later = accepted_again w texts

    here : Token × List ℕ
    here = (first.kept.token, filter (has_room w later) (permitted_again w first.read))

    at : Again → Bool
    at one = is_at token.buffer token.cycle token.first one.kept

    same : Token × List ℕ → Bool
    same one = same_token one.0 token

    implies : same_token first.kept.token token ≡ true → at first ≡ true
    implies e = passes_place first.kept token (same_places first.kept.token token e)

    by : (b : Bool) → times_accepted token later ≤ count_by at texts
        → times_accepted token (if b then here ∷ later else later)
        ≤ count_by at (first ∷ texts)
    by true few =
        let left : times_accepted token (here ∷ later)
        ≡ cond (same_token first.kept.token token) 1 0 + times_accepted token later =
        sum_by-cons (λ (one : Token × List ℕ). cond (same one) 1 0) here later in
        let right : count_by at (first ∷ texts) ≡ cond (at first) 1 0 + count_by at texts =
        sum_by-cons (λ (one : Again). cond (at one) 1 0) first texts in
        let less : cond {A = ℕ} (same_token first.kept.token token) 1 0
        ≤ cond {A = ℕ} (at first) 1 0 =
        ones (same_token first.kept.token token) (at first) implies in
        let all : times_accepted token (here ∷ later) ≤ count_by at (first ∷ texts) =
        omega (arith, left, right, less, few) in
        all
    by false few =
        let right : count_by at (first ∷ texts) ≡ cond (at first) 1 0 + count_by at texts =
        sum_by-cons (λ (one : Again). cond (at one) 1 0) first texts in
        let all : times_accepted token later ≤ count_by at (first ∷ texts) =
        omega (arith, right, few) in
        all

-- each text that is some id's is accepted
own_accepted : (w : Terms) (texts : List Again)
    → All (λ (one : Again). is_claimed one ≡ true
    → 1 ≤ times_accepted one.kept.token (accepted_again w texts)) texts
own_accepted w [] =
    All-nil (λ (one : Again). is_claimed one ≡ true
    → 1 ≤ times_accepted one.kept.token (accepted_again w []))
own_accepted w (first ∷ texts) =
    All-cons Holds first texts (head (is_claimed first))
    (All-weaker
    (λ (one : Again). is_claimed one ≡ true → 1 ≤ times_accepted one.kept.token later) Holds
    (λ one before own. more one.kept.token (is_claimed first) (before own)) texts
    (own_accepted w texts))
  where
    later : List (Token × List ℕ)
    later = accepted_again w texts

    here : Token × List ℕ
    here = (first.kept.token, filter (has_room w later) (permitted_again w first.read))

    Holds : Again → Type 0
    Holds one =
        is_claimed one ≡ true
        → 1 ≤ times_accepted one.kept.token (if is_claimed first then here ∷ later else later)

    counts : (token : Token) → times_accepted token (here ∷ later)
        ≡ cond (same_token first.kept.token token) 1 0 + times_accepted token later
    counts token =
        sum_by-cons (λ (one : Token × List ℕ). cond (same_token one.0 token) 1 0) here later

    head : (b : Bool) → b ≡ true
        → 1 ≤ times_accepted first.kept.token (if b then here ∷ later else later)
    head true own =
        let one : cond {A = ℕ} (same_token first.kept.token first.kept.token) 1 0 ≡ 1 =
        ap (λ test. cond {A = ℕ} test 1 0) (same_itself first.kept.token) in
        let sums : times_accepted first.kept.token (here ∷ later)
        ≡ cond (same_token first.kept.token first.kept.token) 1 0
        + times_accepted first.kept.token later = counts first.kept.token in
        let some : 1 ≤ times_accepted first.kept.token (here ∷ later) =
        omega (arith, sums, one) in
        some
    head false own = absurd (true≢false (sym own))

    more : (token : Token) (b : Bool) → 1 ≤ times_accepted token later
        → 1 ≤ times_accepted token (if b then here ∷ later else later)
    more token true before =
        let sums : times_accepted token (here ∷ later)
        ≡ cond (same_token first.kept.token token) 1 0 + times_accepted token later =
        counts token in
        let some : 1 ≤ times_accepted token (here ∷ later) = omega (arith, sums, before) in
        some
    more token false before = before

-- an id that is stored has its token accepted
stored_accepted : (w : Terms) (found : Found) (id : List ℕ) (token : Token) (moment : ℕ)
    → claim_again found id ≡ Stored token moment
    → 1 ≤ times_accepted token (accepted_again w found.texts)
stored_accepted w found id token moment e =
    by (find own (claimed found.texts))
    (find (λ (one : Listed). bytes_eq one.id id) found.listed) refl e
  where
    own : Again → Bool
    own one = bytes_eq id one.kept.id

    Holds : Again → Type 0
    Holds one =
        is_claimed one ≡ true
        → 1 ≤ times_accepted one.kept.token (accepted_again w found.texts)

    accepted : (one : Again) → find own (claimed found.texts) ≡ Some one
        → 1 ≤ times_accepted one.kept.token (accepted_again w found.texts)
    accepted one at =
        find_all Holds own (claimed found.texts) one
        (All-filter is_claimed Holds found.texts (own_accepted w found.texts)) at
        (find_all (λ (each : Again). is_claimed each ≡ true) own (claimed found.texts) one
        (filter_passes is_claimed found.texts) at)

    token_is : (one : Again) → Stored one.kept.token found.moment ≡ Stored token moment
        → one.kept.token ≡ token
    token_is one e = cc

    by : (text : Option Again) (listed : Option Listed)
        → find own (claimed found.texts) ≡ text
        → claim_by found.moment text listed ≡ Stored token moment
        → 1 ≤ times_accepted token (accepted_again w found.texts)
    by (Some one) listed at same =
        subst (λ (t : Token). 1 ≤ times_accepted t (accepted_again w found.texts))
        (token_is one same) (accepted one at)
    by None (Some one) at same = absurd (cc)
    by None None at same = absurd (cc)

-- all of it
pub found_once : (w v : Terms) (saved : Token → Bool) (σ : State) (found : Found)
    → IsFound w v saved σ found → AcceptsOnce (state_again v found)
found_once w v saved σ found is = record {
  texts = λ id token whole. absurd (never_storing found id whole.0 whole.1 _ whole.2);
  taken =
      accepted_all v (IsTaken (kept_of found.texts)) found.texts
      (from_kept (λ (one : Kept). IsTaken (kept_of found.texts) one.token) found.texts
      (each_taken (kept_of found.texts)));
  apart = λ id token whole. absurd (never_storing found id whole.0 whole.1 _ whole.2);
  once = λ token.
      le_trans (accepted_within v token found.texts)
      (is.places token.buffer token.cycle token.first);
  some = stored_accepted v found;
}
