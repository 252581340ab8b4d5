-- What is found again is well: nobody is here, and all that is stored is found.
use Rattle.std.proofs.Common.{◌≡◌, ℕ, zero, suc, ◌≤◌, nat_eq, Bool, true, false, List, []}
use Rattle.std.proofs.Common.{◌∷◌, length, Option, None, Some, refl, sym, ap, subst, arith, zero-le}
use Rattle.std.proofs.Common.{if◌then◌else◌}
use Rattle.std.specs.Prelude.{find, count_by, filter, map, option_map, All, bytes_eq}
use Rattle.std.specs.List.{list_any}
use Rattle.std.proofs.lemmas.List.Elements.{All-nil, All-cons, All-head, All-tail, All-map}
use Rattle.std.proofs.lemmas.List.Elements.{All-filter, All-weaker}
use Rattle.std.proofs.lemmas.List.{length-map}
use Rattle.std.proofs.lemmas.List.Sums.{length-filter, count_by-le-length}
use Rattle.std.proofs.lemmas.Option.{same_Some, none-some}
use Rattle.news_terms.specs.Token.{Token, same_token}
use Rattle.relay_model.specs.Awaited.{IsFree}
use Rattle.relay_model.specs.Claims.{Accepted, Storing, Stored, Stage}
use Rattle.relay_model.specs.Counted.{all_begun, all_to_settle, all_to_accept, sum_below}
use Rattle.relay_model.specs.Invariants.{IsWell, IsKeptRight, WaitsAs}
use Rattle.relay_model.specs.OnRecord.{IsBelow, HasText, IsTimed}
use Rattle.relay_model.specs.State.{State, Kept, Job}
use Rattle.relay_model.specs.Terms.{Terms, last_moment}
use Rattle.relay_model.specs.World.{World}
use Rattle.relay_facts.proofs.SameTokens.{same_itself}
use Rattle.relay_model.specs.State.{tokens_for}
use Rattle.relay_model.specs.Crash.{Again, Found, Listed, Crash, IsFound, IsRead, accepted_again}
use Rattle.relay_model.specs.Crash.{claim_again, claim_by, claimed, has_room, is_claimed}
use Rattle.relay_model.specs.Crash.{permitted_again, state_again, world_again}

-- what holds of all holds of what is found among them
pub find_all : {X : Type 0} (P : X → Type 0) (test : X → Bool) (xs : List X) (x : X) → All P xs
    → find test xs ≡ Some x → P x
find_all P test [] x all e = absurd (none-some x e)
find_all {X} P test (first ∷ xs) x all e =
    by (test first) (find_all P test xs x (All-tail P first xs all)) e
  where
    by : (b : Bool) → (find test xs ≡ Some x → P x)
        → (if b then Some first else find test xs) ≡ Some x → P x
    by true later e = subst P (same_Some first x e) (All-head P first xs all)
    by false later e = later e

-- nothing is being stored
pub never_storing : (found : Found) (id : List ℕ) (s : ℕ) (article : Accepted) (stage : Stage)
    → claim_again found id ≡ Storing s article stage → ⊥
never_storing found id s article stage e =
    by (find (λ (one : Again). bytes_eq id one.kept.id) (claimed found.texts))
    (find (λ (one : Listed). bytes_eq one.id id) found.listed) e
  where
    by : (text : Option Again) (listed : Option Listed)
        → claim_by found.moment text listed ≡ Storing s article stage → ⊥
    by (Some one) listed e = cc
    by None (Some one) e = cc
    by None None e = cc

-- a text more leaves something under a token
one_more : (first : Kept) (kept : List Kept) (token : Token) → HasText kept token
    → HasText (first ∷ kept) token
one_more first kept token has =
    let found = by (same_token first.token token) in record { text = found.0; under = found.1 }
  where
    by : (test : Bool) → (text : List ℕ) × (option_map (λ (one : Kept). one.text)
        (if test then Some first else find (λ (one : Kept). same_token one.token token) kept)
        ≡ Some text)
    by true = (first.text, refl)
    by false = (has.text, has.under)

-- the first text is under its token
first_text : (first : Kept) (kept : List Kept) → HasText (first ∷ kept) first.token
first_text first kept = record {
  text = first.text;
  under =
      ap (λ t. option_map (λ (each : Kept). each.text)
      (if t then Some first
      else find (λ (one : Kept). same_token one.token first.token) kept))
      (same_itself first.token);
}

-- so has each token of a list of texts
pub each_text : (kept : List Kept) → All (λ (one : Kept). HasText kept one.token) kept
each_text [] = All-nil (λ (one : Kept). HasText [] one.token)
each_text (first ∷ kept) =
    All-cons (λ (one : Kept). HasText (first ∷ kept) one.token) first kept (first_text first kept)
    (All-weaker (λ (one : Kept). HasText kept one.token)
    (λ (one : Kept). HasText (first ∷ kept) one.token) (λ one. one_more first kept one.token) kept
    (each_text kept))

-- the texts that are found, as they are kept
abbrev pub kept_of : List Again → List Kept
kept_of texts = map (λ (one : Again). one.kept) texts

-- what holds of what is kept holds of what is found
pub from_kept : (P : Kept → Type 0) (texts : List Again) → All P (kept_of texts)
    → All (λ (one : Again). P one.kept) texts
from_kept P [] all = All-nil (λ (one : Again). P one.kept)
from_kept P (first ∷ texts) all =
    All-cons (λ (one : Again). P one.kept) first texts (All-head P first.kept (kept_of texts) all)
    (from_kept P texts (All-tail P first.kept (kept_of texts) all))

-- each text that is found is under its token
pub again_text : (texts : List Again)
    → All (λ (one : Again). HasText (kept_of texts) one.kept.token) texts
again_text texts =
    from_kept (λ (one : Kept). HasText (kept_of texts) one.token) texts (each_text (kept_of texts))

-- what holds of the token of each text holds of each that is accepted again
pub accepted_all : (w : Terms) (P : Token → Type 0) (texts : List Again)
    → All (λ (one : Again). P one.kept.token) texts
    → All (λ (one : Token × List ℕ). P one.0) (accepted_again w texts)
accepted_all w P [] all = All-nil (λ (one : Token × List ℕ). P one.0)
accepted_all w P (first ∷ texts) all =
    by (is_claimed first)
    (accepted_all w P texts (All-tail (λ (one : Again). P one.kept.token) first texts all))
  where
    later : List (Token × List ℕ)
    later = accepted_again w texts

    by : (b : Bool) → All (λ (one : Token × List ℕ). P one.0) later
        → All (λ (one : Token × List ℕ). P one.0)
        (if b then (first.kept.token, filter (has_room w later) (permitted_again w first.read))
        ∷ later else later)
    by true rest =
        All-cons (λ (one : Token × List ℕ). P one.0)
        (first.kept.token, filter (has_room w later) (permitted_again w first.read)) later
        (All-head (λ (one : Again). P one.kept.token) first texts all) rest
    by false rest = rest

-- and of each token that a feed gains
pub gained_all : (P : Token → Type 0) (f : ℕ) (accepted : List (Token × List ℕ))
    → All (λ (one : Token × List ℕ). P one.0) accepted → All P (tokens_for f accepted)
gained_all P f accepted all =
    let is_for : Token × List ℕ → Bool = λ one. list_any (nat_eq f) one.1 in
    All-map P (λ (one : Token × List ℕ). one.0) (filter is_for accepted)
    (All-filter is_for (λ (one : Token × List ℕ). P one.0) accepted all)

-- no more are accepted than are found
pub accepted_few : (w : Terms) (texts : List Again)
    → length (accepted_again w texts) ≤ length texts
accepted_few w [] = zero-le
accepted_few w (first ∷ texts) = by (is_claimed first) (accepted_few w texts)
  where
    later : List (Token × List ℕ)
    later = accepted_again w texts

    by : (b : Bool) → length later ≤ length texts
        → length (if b then (
          first.kept.token,
          filter (has_room w later)
              (permitted_again w first.read),
        ) ∷ later else later) ≤ length (first ∷ texts)
    by true few = omega (arith, few)
    by false few = omega (arith, few)

-- nor are more gained than accepted
pub gained_few : (f : ℕ) (accepted : List (Token × List ℕ))
    → length (tokens_for f accepted) ≤ length accepted
gained_few f accepted =
    let is_for : Token × List ℕ → Bool = λ one. list_any (nat_eq f) one.1 in
    let same : length (tokens_for f accepted) ≡ length (filter is_for accepted) =
    length-map (filter is_for accepted) (λ (one : Token × List ℕ). one.0) in
    let counted : length (filter is_for accepted) ≡ count_by is_for accepted =
    length-filter is_for accepted in
    let few : count_by is_for accepted ≤ length accepted = count_by-le-length is_for accepted in
    omega (arith, same, counted, few)

-- nobody has anything to accept
nothing_left : (n : ℕ) → sum_below (λ g. 0) n ≡ 0
nothing_left zero = refl
nothing_left (suc n) = let before : sum_below (λ g. 0) n ≡ 0 = nothing_left n in omega
    (arith, before)

-- each claim is of a moment that there is
timed : (w v : Terms) (saved : Token → Bool) (σ : State) (found : Found)
    → IsFound w v saved σ found → (id : List ℕ) → IsTimed (claim_again found id)
timed w v saved σ found is id =
    by (find (λ (one : Again). bytes_eq id one.kept.id) (claimed found.texts))
    (find (λ (one : Listed). bytes_eq one.id id) found.listed) refl
  where
    by : (text : Option Again) (listed : Option Listed)
        → find (λ (one : Listed). bytes_eq one.id id) found.listed ≡ listed
        → IsTimed (claim_by found.moment text listed)
    by (Some one) listed e = is.now
    by None (Some one) e =
        find_all (λ (one : Listed). one.moment ≤ last_moment)
        (λ (one : Listed). bytes_eq one.id id) found.listed one is.listed e
    by None None e = tt

-- what is stored has its text
stored_text : (found : Found) (id : List ℕ) (token : Token) (moment : ℕ)
    → claim_again found id ≡ Stored token moment → HasText (kept_of found.texts) token
stored_text found id token moment e =
    by (find (λ (one : Again). bytes_eq id one.kept.id) (claimed found.texts))
    (find (λ (one : Listed). bytes_eq one.id id) found.listed) refl e
  where
    has : Again → Type 0
    has one = HasText (kept_of found.texts) one.kept.token

    by : (text : Option Again) (listed : Option Listed)
        → find (λ (one : Again). bytes_eq id one.kept.id) (claimed found.texts) ≡ text
        → claim_by found.moment text listed ≡ Stored token moment
        → HasText (kept_of found.texts) token
    by (Some one) listed at same =
        subst (HasText (kept_of found.texts)) (token_is one same)
        (find_all has (λ (one : Again). bytes_eq id one.kept.id) (claimed found.texts) one
        (All-filter is_claimed has found.texts (again_text found.texts)) at)
      where
        token_is : (one : Again) → Stored one.kept.token found.moment ≡ Stored token moment
            → one.kept.token ≡ token
        token_is one e = cc
    by None (Some one) at same = absurd (cc)
    by None None at same = absurd (cc)

-- all of it
pub again_well : (w v : Terms) (saved : Token → Bool) (σ : State) (found : Found)
    (failures : ℕ → ℕ) → IsFound w v saved σ found → IsWell v (world_again v found failures)
again_well w v saved σ found failures is = record {
  numbered = record {
    unopened = λ s above. refl;
    peer = λ s session there. absurd (none-some session there);
  };
  placed = record {
    one = λ id s article stage e. absurd (never_storing found id s article stage e);
    hand = λ s session job there. absurd (none-some session there);
    empty = λ s session there. absurd (none-some session there);
    queue = λ g. All-nil (λ (job : Job). (job.article.group ≡ g)
        × WaitsAs (state_again v found) job.session job);
    writer = λ g. tt;
  };
  sized = record {
    begun = is.sizes;
    laid = is.laid;
    storing = λ id s article stage e. absurd (never_storing found id s article stage e);
    held_one = λ s session article there. absurd (none-some session there);
    kept =
        All-map IsKeptRight (λ (one : Again). one.kept) found.texts
        (All-weaker IsRead (λ (one : Again). IsKeptRight one.kept) right found.texts is.read);
  };
  awaited = record {
    there = λ s session there. absurd (none-some session there);
    absent = λ s there. free s;
  };
  counted = record {
    in_time = is.in_time;
    settled =
        let none : all_to_settle v y ≡ 0 = nothing_left (length v.groups) in
        let few : length y.state.accepted ≤ length found.texts = accepted_few v found.texts in
        let counts : length found.texts ≤ all_begun v y.state = is.count in
        omega (arith, none, few, counts);
    stored =
        let none : all_to_accept v y ≡ 0 = nothing_left (length v.groups) in
        let few : length y.state.accepted ≤ length found.texts = accepted_few v found.texts in
        let same : length y.state.kept ≡ length found.texts =
        length-map found.texts (λ (one : Again). one.kept) in
        omega (arith, none, few, same);
    gained = λ f. gained_few f y.state.accepted;
  };
  on_record = record {
    moments = timed w v saved σ found is;
    begun = λ id s article token e. absurd (never_storing found id s article _ e);
    kept =
        All-map (λ (one : Kept). IsBelow v y.state one.token) (λ (one : Again). one.kept)
        found.texts is.below;
    whole = λ id s article token e. absurd (never_storing found id s article _ e);
    stored = stored_text found;
    gained = λ f.
        gained_all (HasText (kept_of found.texts)) f y.state.accepted
        (accepted_all v (HasText (kept_of found.texts)) found.texts (again_text found.texts));
    feeds = λ f. record { taken = zero-le; passed = zero-le };
  };
}
  where
    y : World
    y = world_again v found failures

    right : (one : Again) → IsRead one → IsKeptRight one.kept
    right one r = record { read = one.read; is_read = r.is_read; length_of = r.length_of }

    free : (s : ℕ) → IsFree y s
    free s = record {
      stores = λ id stores.
          never_storing found id s stores.article stores.stage stores.claimed;
      told = λ g told. none-some s told;
      slot = refl;
    }

-- so it is after a crash
pub crashed_well : (w v : Terms) (saved : Token → Bool) (x y : World) → Crash w v saved x y
    → IsWell v y
crashed_well w v saved x y crash =
    subst (IsWell v) (sym crash.after)
    (again_well w v saved x.state crash.found crash.failures crash.is_found)
