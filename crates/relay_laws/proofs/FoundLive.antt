-- What is whole and live is found: the text under its token is the only one.
use Rattle.std.proofs.Common.{◌≡◌, ◌∙◌, ℕ, ◌+◌, ◌≤◌, Bool, true, false, List, []}
use Rattle.std.proofs.Common.{◌∷◌}
use Rattle.std.proofs.Common.{All, count_by, cond, find, get_or, Some, refl, sym, ap}
use Rattle.std.proofs.Common.{arith, true≢false, ⊎_elim}
use Rattle.std.proofs.Common.{◌==◌, ◌||◌, nat_lt, nat_le, unwrap_or, if◌then◌else◌, None}
use Rattle.std.proofs.lemmas.Bool.{cases_lt, ne_eqb, le-ltb, lt-leb}
use Rattle.std.proofs.lemmas.List.Elements.{All-cons, All-nil, All-weaker}
use Rattle.std.proofs.lemmas.List.Sums.{sum_by-cons}
use Rattle.std.specs.Prelude.{option_map}
use Rattle.news_terms.specs.Places.{Buffer, on_line, size_of}
use Rattle.news_terms.specs.Token.{Token, same_token}
use Rattle.relay_model.specs.Fetches.{text_under}
use Rattle.relay_model.specs.Fetches as fetches
use Rattle.relay_model.specs.State.{State, Kept}
use Rattle.relay_model.specs.Terms.{Terms}
use Rattle.relay_model.specs.Fetches.{fetched, front_of, decided_in, article_of, NotKnown, Gone}
use Rattle.relay_model.specs.OnRecord.{IsBelow}
use Rattle.relay_facts.specs.Sound.{IsSound}
use Rattle.relay_laws.specs.Laws.{Always, FindsUntilGone}
use Rattle.relay_laws.specs.Rules.{IsLiveToken}
use Rattle.relay_model.specs.Fetches.{IsGoneToken}
use Rattle.relay_laws.proofs.OneText.{one_text_a_token}
use Rattle.relay_laws.proofs.Runs.{always_well}
use Rattle.relay_facts.proofs.SameTokens.{same_itself}
use Rattle.relay_facts.proofs.Places.{none_passes}

-- where at most one passes, the first that does is the one
pub only_first : {X : Type 0} (p : X → Bool) (xs : List X) → count_by p xs ≤ 1
    → All (λ x. p x ≡ true → find p xs ≡ Some x) xs
only_first p [] few = All-nil (λ x. p x ≡ true → find p [] ≡ Some x)
only_first {X} p (x ∷ xs) few =
    by (p x) refl (only_first p xs) (sum_by-cons (λ y. cond (p y) 1 0) x xs)
  where
    by : (test : Bool) → p x ≡ test
        → (count_by p xs ≤ 1 → All (λ y. p y ≡ true → find p xs ≡ Some y) xs)
        → count_by p (x ∷ xs) ≡ cond (p x) 1 0 + count_by p xs
        → All (λ y. p y ≡ true → find p (x ∷ xs) ≡ Some y) (x ∷ xs)
    by true is rest counts =
        let one : cond {A = ℕ} (p x) 1 0 ≡ 1 = ap (λ test. cond {A = ℕ} test 1 0) is in
        All-cons (λ y. p y ≡ true → find p (x ∷ xs) ≡ Some y) x xs
        (λ passes. ap (λ test. cond test (Some x) (find p xs)) is)
        (All-weaker (λ y. p y ≡ false) (λ y. p y ≡ true → find p (x ∷ xs) ≡ Some y)
        (λ y fails passes. absurd (true≢false (sym passes ∙ fails))) xs
        (none_passes p xs (omega (arith, one, counts, few))))
    by false is rest counts =
        All-cons (λ y. p y ≡ true → find p (x ∷ xs) ≡ Some y) x xs
        (λ passes. absurd (true≢false (sym passes ∙ is)))
        (All-weaker (λ y. p y ≡ true → find p xs ≡ Some y)
        (λ y. p y ≡ true → find p (x ∷ xs) ≡ Some y)
        (λ y first passes. ap (λ test. cond test (Some x) (find p xs)) is ∙ first passes) xs
        (rest (omega (arith, counts, few))))

-- each text is the one under its token
pub each_under : (kept : List Kept)
    → ((token : Token) → count_by (λ (one : Kept). same_token one.token token) kept ≤ 1)
    → All (λ (one : Kept). text_under kept one.token ≡ Some one.text) kept
each_under kept once k d inside =
    let one = get_or kept k d in
    ap (option_map (λ (each : Kept). each.text))
    (only_first (λ (each : Kept). same_token each.token one.token) kept (once one.token) k d inside
    (same_itself one.token))

-- a place that is below the front and not passed is live
pub live_by : (w : Terms) (σ : State) (token : Token) → IsBelow w σ token
    → (IsGoneToken w σ token → ⊥) → IsLiveToken w σ token
live_by w σ token below apart = record {
  buffer = below.buffer;
  named = below.named;
  some = below.some;
  inside = below.inside;
  live = record {
    begun = below.below;
    here =
        ⊎_elim (λ passed. absurd (apart (record {
          buffer = below.buffer;
          named = below.named;
          gone = record { passed = passed };
        })))
        (λ here. here)
        (cases_lt (on_line below.buffer.blocks token.cycle token.first + below.buffer.blocks)
        (front_of w σ below.buffer));
  };
}

-- where no test passes, the numbers decide nothing
undecided : (none past unbegun passed : Bool) → none ≡ false → past ≡ false → unbegun ≡ false
    → passed ≡ false
    → (if none || past || unbegun then Some NotKnown else (if passed then Some Gone else None))
    ≡ None
undecided true past unbegun passed a b c d = absurd (true≢false a)
undecided false true unbegun passed a b c d = absurd (true≢false b)
undecided false false true passed a b c d = absurd (true≢false c)
undecided false false false true a b c d = absurd (true≢false d)
undecided false false false false a b c d = refl

-- what is live and whole is found
pub found_live : (w : Terms) (σ : State) (token : Token) (text : List ℕ) → IsLiveToken w σ token
    → text_under σ.kept token ≡ Some text → fetched w σ token ≡ fetches.Article text
found_live w σ token text live under =
    ap (λ found. unwrap_or (decided_in w σ token found) (article_of (text_under σ.kept token)))
    live.named
    ∙ ap (λ decided. unwrap_or decided (article_of (text_under σ.kept token)))
    (undecided (token.length == 0) (nat_lt buffer.blocks (token.first + size_of token.length))
    (nat_le front place) (nat_lt (place + buffer.blocks) front)
    (ne_eqb token.length 0 (λ none. absurd (omega (arith, some, none))))
    (le-ltb buffer.blocks (token.first + size_of token.length) live.inside)
    (lt-leb front place live.live.begun)
    (le-ltb (place + buffer.blocks) front live.live.here))
    ∙ ap article_of under
  where
    buffer : Buffer
    buffer = live.buffer

    place : ℕ
    place = on_line buffer.blocks token.cycle token.first

    front : ℕ
    front = front_of w σ buffer

    some : 1 ≤ token.length
    some = live.some

-- so each text that is whole is found until it is gone
pub found_until_gone : (w : Terms) → IsSound w → Always w (FindsUntilGone w)
found_until_gone w sound failures events outputs x run k d inside apart =
    let below = (always_well w sound failures events outputs x run).on_record.kept in
    let one = get_or x.state.kept k d in
    found_live w x.state one.token one.text
    (live_by w x.state one.token (below k d inside) apart)
    (each_under x.state.kept (one_text_a_token w sound failures events outputs x run) k d inside)
