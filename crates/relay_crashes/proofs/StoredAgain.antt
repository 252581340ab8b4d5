-- In lives that don't forget it, a message-id has the texts that its claim says: of those that are
-- found after a crash one is its own, where one is of it.
use Rattle.std.proofs.Common.{◌≡◌, ◌∙◌, ℕ, ◌+◌, ◌≤◌, Bool, true, false, List, [], ◌∷◌, Option, None}
use Rattle.std.proofs.Common.{Some, count_by, cond, bytes_eq, refl, sym, ap, subst, arith, le_trans}
use Rattle.std.proofs.Common.{le_of_eq, true≢false, if◌then◌else◌}
use Rattle.std.specs.Prelude.{find, not}
use Rattle.std.proofs.lemmas.List.Sums.{sum_by-cons}
use Rattle.std.proofs.lemmas.Option.{none-some}
use Rattle.news_terms.specs.Article.{is_empty}
use Rattle.news_terms.specs.Token.{Token}
use Rattle.relay_model.specs.State.{State, Kept}
use Rattle.relay_model.specs.Terms.{Terms}
use Rattle.relay_model.specs.World.{World, empty_world}
use Rattle.relay_facts.proofs.Puts.{same_id}
use Rattle.relay_laws.specs.Laws.{texts_of}
use Rattle.relay_model.specs.Crash.{Again, Found, Listed, IsFound, claim_by}
use Rattle.relay_model.specs.Crash.{claimed, is_claimed, state_again}
use Rattle.relay_crashes.specs.Lives.{Episode, Lived, Crashed, LivesRemembering}
use Rattle.relay_laws.proofs.StoredOnce.{IsDue, texts_due, run_due, at_most_one}
use Rattle.relay_crashes.proofs.WellAgain.{kept_of}

-- where nothing is found nothing passes
none_counted : {X : Type 0} (p : X → Bool) (xs : List X) → find p xs ≡ None → count_by p xs ≡ 0
none_counted p [] e = refl
none_counted {X} p (x ∷ xs) e =
    by (p x) refl (none_counted p xs) e (sum_by-cons (λ y. cond (p y) 1 0) x xs)
  where
    by : (test : Bool) → p x ≡ test → (find p xs ≡ None → count_by p xs ≡ 0)
        → cond test (Some x) (find p xs) ≡ None
        → count_by p (x ∷ xs) ≡ cond (p x) 1 0 + count_by p xs → count_by p (x ∷ xs) ≡ 0
    by true is later e counts = absurd (none-some x (sym e))
    by false is later e counts =
        let here : cond {A = ℕ} (p x) 1 0 ≡ 0 = ap (λ test. cond {A = ℕ} test 1 0) is in
        let rest : count_by p xs ≡ 0 = later e in
        omega (arith, here, rest, counts)

-- where something is found it passes
some_counted : {X : Type 0} (p : X → Bool) (xs : List X) (found : X) → find p xs ≡ Some found
    → 1 ≤ count_by p xs
some_counted p [] found e = absurd (none-some found e)
some_counted {X} p (x ∷ xs) found e =
    by (p x) refl (some_counted p xs found) e (sum_by-cons (λ y. cond (p y) 1 0) x xs)
  where
    by : (test : Bool) → p x ≡ test → (find p xs ≡ Some found → 1 ≤ count_by p xs)
        → cond test (Some x) (find p xs) ≡ Some found
        → count_by p (x ∷ xs) ≡ cond (p x) 1 0 + count_by p xs → 1 ≤ count_by p (x ∷ xs)
    by true is later e counts =
        let here : cond {A = ℕ} (p x) 1 0 ≡ 1 = ap (λ test. cond {A = ℕ} test 1 0) is in
        omega (arith, here, counts)
    by false is later e counts =
        let rest : 1 ≤ count_by p xs = later e in omega (arith, rest, counts)

-- a text that is empty has no octets
is_nothing : (id : List ℕ) → is_empty id ≡ true → id ≡ []
is_nothing [] e = refl
is_nothing (c ∷ id) e = absurd (true≢false (sym e))

-- the texts of an id are among those that are some id's
own_claimed : (id : List ℕ) → (id ≡ [] → ⊥) → (texts : List Again)
    → count_by (λ (one : Kept). bytes_eq id one.id) (kept_of texts)
    ≡ count_by (λ (one : Again). bytes_eq id one.kept.id) (claimed texts)
own_claimed id some [] = refl
own_claimed id some (first ∷ texts) =
    by (is_claimed first) refl (bytes_eq id first.kept.id) refl (own_claimed id some texts)
  where
    p : Kept → Bool
    p one = bytes_eq id one.id

    q : Again → Bool
    q one = bytes_eq id one.kept.id

    empty : (b : Bool) → not b ≡ false → b ≡ true
    empty true e = refl
    empty false e = absurd (true≢false e)

    by : (own : Bool) → is_claimed first ≡ own → (test : Bool) → bytes_eq id first.kept.id ≡ test
        → count_by p (kept_of texts) ≡ count_by q (claimed texts)
        → count_by p (kept_of (first ∷ texts))
        ≡ count_by q (if own then first ∷ claimed texts else claimed texts)
    by true is test passes later =
        let left : count_by p (kept_of (first ∷ texts))
        ≡ cond (bytes_eq id first.kept.id) 1 0 + count_by p (kept_of texts) =
        sum_by-cons (λ (one : Kept). cond (p one) 1 0) first.kept (kept_of texts) in
        let right : count_by q (first ∷ claimed texts)
        ≡ cond (bytes_eq id first.kept.id) 1 0 + count_by q (claimed texts) =
        sum_by-cons (λ (one : Again). cond (q one) 1 0) first (claimed texts) in
        left ∙ ap (λ (n : ℕ). cond (bytes_eq id first.kept.id) 1 0 + n) later ∙ sym right
    by false is true passes later =
        let nothing : first.kept.id ≡ [] =
        is_nothing first.kept.id (empty (is_empty first.kept.id) is) in
        absurd (some (same_id id first.kept.id passes ∙ nothing))
    by false is false passes later =
        let left : count_by p (kept_of (first ∷ texts))
        ≡ cond (bytes_eq id first.kept.id) 1 0 + count_by p (kept_of texts) =
        sum_by-cons (λ (one : Kept). cond (p one) 1 0) first.kept (kept_of texts) in
        let here : cond {A = ℕ} (bytes_eq id first.kept.id) 1 0 ≡ 0 =
        ap (λ test. cond {A = ℕ} test 1 0) passes in
        let same : count_by p (kept_of (first ∷ texts)) ≡ count_by q (claimed texts) =
        omega (arith, left, here, later) in
        same

-- after a crash the id has the texts that its claim says
found_due : (w v : Terms) (saved : Token → Bool) (σ : State) (found : Found)
    → IsFound w v saved σ found → (id : List ℕ) → (id ≡ [] → ⊥) → IsDue id (state_again v found)
found_due w v saved σ found is id some =
    own_claimed id some found.texts
    ∙ by (find own (claimed found.texts))
    (find (λ (one : Listed). bytes_eq one.id id) found.listed) refl
  where
    own : Again → Bool
    own one = bytes_eq id one.kept.id

    by : (text : Option Again) (listed : Option Listed) → find own (claimed found.texts) ≡ text
        → count_by own (claimed found.texts) ≡ texts_due (claim_by found.moment text listed)
    by (Some one) listed e =
        let most : count_by own (claimed found.texts) ≤ 1 = is.ids id in
        let least : 1 ≤ count_by own (claimed found.texts) =
        some_counted own (claimed found.texts) one e in
        let one_of : count_by own (claimed found.texts) ≡ 1 = omega (arith, most, least) in
        one_of
    by None (Some one) e = none_counted own (claimed found.texts) e
    by None None e = none_counted own (claimed found.texts) e

-- so it has after all such lives
lives_due : (w v : Terms) (id : List ℕ) → (id ≡ [] → ⊥) → (x y : World)
    (episodes : List Episode) → LivesRemembering id w x episodes v y → IsDue id x.state
    → IsDue id y.state
lives_due w v id some x y [] lives due =
    subst (λ (z : World). IsDue id z.state) (sym lives.1) due
lives_due w v id some x y (Lived events outputs ∷ later) lives due =
    lives_due w v id some lives.0 y later lives.2
    (run_due w id x events outputs lives.0 lives.1 due)
lives_due w v id some x y (Crashed next saved ∷ later) lives due =
    let crash = lives.1 in
    lives_due next v id some lives.0 y later lives.3
    (subst (λ (z : World). IsDue id z.state) (sym crash.after)
    (found_due w next saved x.state crash.found crash.is_found id some))

-- and at most one
pub stored_once_again : (w v : Terms) (failures : ℕ → ℕ) (id : List ℕ) (episodes : List Episode)
    (y : World) → (id ≡ [] → ⊥) → LivesRemembering id w (empty_world failures) episodes v y
    → texts_of id y.state ≤ 1
stored_once_again w v failures id episodes y some lives =
    le_trans (le_of_eq (lives_due w v id some (empty_world failures) y episodes lives refl))
    (at_most_one (y.state.claim id))
