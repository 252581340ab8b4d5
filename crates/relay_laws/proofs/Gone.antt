-- Gone stays gone: no front falls, so a place that a front has passed stays passed.
use Rattle.std.proofs.Common.{◌≡◌, ℕ, ◌+◌, ◌≤◌, ◌<◌, ◌==◌, ◌||◌, nat_lt, nat_le, Bool, true, false}
use Rattle.std.proofs.Common.{List, if◌then◌else◌, Option, None, Some, unwrap_or, refl, sym, arith}
use Rattle.std.proofs.Common.{lt-ltb, ltb-true, true≢false, le_trans, le_refl, lt_of_lt_of_le}
use Rattle.std.proofs.lemmas.Bool.{lt-leb}
use Rattle.news_terms.specs.Places.{Buffer, on_line, size_of}
use Rattle.news_terms.specs.Token.{Token}
use Rattle.relay_model.specs.Fetches.{Fetched, Gone, NotKnown, article_of, text_under, buffer_of}
use Rattle.relay_model.specs.Fetches.{front_of, decided_at, decided_in}
use Rattle.relay_model.specs.Invariants.{IsWell}
use Rattle.relay_model.specs.Terms.{Terms}
use Rattle.relay_model.specs.World.{World}
use Rattle.relay_facts.specs.Sound.{IsSound}
use Rattle.relay_laws.specs.Laws.{AlwaysFrom, FindsGone}
use Rattle.relay_model.specs.Fetches.{IsGoneToken}
use Rattle.relay_facts.proofs.Moves.{step_moves}
use Rattle.relay_facts.proofs.NamedBuffers.{Named}
use Rattle.relay_facts.proofs.RisingFronts.{front_rises}
use Rattle.relay_laws.proofs.Runs.{well_run_keeps}

-- no run lowers the front of a buffer
pub never_falls : (w : Terms) → IsSound w → (x : World) → IsWell w x → (number : ℕ)
    (buffer : Buffer) → Named w number buffer
    → AlwaysFrom w x (λ y. front_of w x.state buffer ≤ front_of w y.state buffer)
never_falls w sound x well number buffer named =
    well_run_keeps w sound (λ y. front_of w x.state buffer ≤ front_of w y.state buffer)
    (λ y event output y' well step reached.
    le_trans reached
    (front_rises w sound y.state y'.state (step_moves w y event output y' step) well.sized number
    buffer named))
    x well (le_refl (front_of w x.state buffer))

-- a token that is gone stays gone
pub gone_stays : (w : Terms) → IsSound w → (x : World) → IsWell w x → (token : Token)
    → IsGoneToken w x.state token → AlwaysFrom w x (λ y. IsGoneToken w y.state token)
gone_stays w sound x well token was events outputs x' run =
    record {
      buffer = was.buffer;
      named = was.named;
      gone = record {
        passed =
            lt_of_lt_of_le was.gone.passed
            (never_falls w sound x well token.buffer was.buffer was.named events outputs x' run);
      };
    }

-- what the tests of a fetch say where it finds an article gone
record GoneTests (none past unbegun passed : Bool) : Type 0 where
  is_some : none ≡ false
  is_within : past ≡ false
  is_begun : unbegun ≡ false
  is_passed : passed ≡ true

-- the tests are these where the answer is gone
tests_passed : (none past unbegun passed : Bool) (kept : Fetched) → (kept ≡ Gone → ⊥)
    → unwrap_or (if none || past || unbegun then Some NotKnown
    else (if passed then Some Gone else None)) kept ≡ Gone
    → GoneTests none past unbegun passed
tests_passed true past unbegun passed kept never e = absurd (cc)
tests_passed false true unbegun passed kept never e = absurd (cc)
tests_passed false false true passed kept never e = absurd (cc)
tests_passed false false false true kept never e =
    record { is_some = refl; is_within = refl; is_begun = refl; is_passed = refl }
tests_passed false false false false kept never e = absurd (never e)

-- the answer is gone where the tests are these
finds_gone : (none past unbegun passed : Bool) (kept : Fetched) → none ≡ false → past ≡ false
    → unbegun ≡ false → passed ≡ true
    → unwrap_or (if none || past || unbegun then Some NotKnown
    else (if passed then Some Gone else None)) kept ≡ Gone
finds_gone true past unbegun passed kept a b c d = absurd (true≢false a)
finds_gone false true unbegun passed kept a b c d = absurd (true≢false b)
finds_gone false false true passed kept a b c d = absurd (true≢false c)
finds_gone false false false true kept a b c d = refl
finds_gone false false false false kept a b c d = absurd (true≢false (sym d))

-- a text is not gone
never_gone : (kept : Option (List ℕ)) → article_of kept ≡ Gone → ⊥
never_gone None e = cc
never_gone (Some text) e = cc

-- a fetch finds an article gone as long as the front has passed it
found_gone : (kept later : Option (List ℕ)) (token : Token) (buffer : Buffer)
    (place before after : ℕ) → before ≤ after
    → unwrap_or (decided_at token buffer place before) (article_of kept) ≡ Gone
    → unwrap_or (decided_at token buffer place after) (article_of later) ≡ Gone
found_gone kept later token buffer place before after rises found =
    let tests : GoneTests (token.length == 0)
    (nat_lt buffer.blocks (token.first + size_of token.length))
    (nat_le before place) (nat_lt (place + buffer.blocks) before) =
    tests_passed (token.length == 0) (nat_lt buffer.blocks (token.first + size_of token.length))
    (nat_le before place) (nat_lt (place + buffer.blocks) before) (article_of kept)
    (never_gone kept) found in
    let passed : place + buffer.blocks < before =
    ltb-true (place + buffer.blocks) before tests.is_passed in
    finds_gone (token.length == 0) (nat_lt buffer.blocks (token.first + size_of token.length))
    (nat_le after place) (nat_lt (place + buffer.blocks) after) (article_of later) tests.is_some
    tests.is_within (lt-leb after place (omega arith))
    (lt-ltb (place + buffer.blocks) after (omega arith))

-- by the buffer that the token names
found_gone_in : (w : Terms) → IsSound w → (x : World) → IsWell w x → (token : Token)
    → (found : Option Buffer) → buffer_of w token ≡ found
    → unwrap_or (decided_in w x.state token found) (article_of (text_under x.state.kept token))
    ≡ Gone
    → AlwaysFrom w x (λ y. unwrap_or (decided_in w y.state token found)
    (article_of (text_under y.state.kept token)) ≡ Gone)
found_gone_in w sound x well token None named found events outputs x' run = absurd (cc)
found_gone_in w sound x well token (Some buffer) named found events outputs x' run =
    found_gone (text_under x.state.kept token) (text_under x'.state.kept token) token buffer
    (on_line buffer.blocks token.cycle token.first)
    (front_of w x.state buffer) (front_of w x'.state buffer)
    (never_falls w sound x well token.buffer buffer named events outputs x' run) found

-- what a fetch finds gone every later one finds gone
pub stays_found_gone : (w : Terms) → IsSound w → (x : World) → IsWell w x → (token : Token)
    → FindsGone w token x → AlwaysFrom w x (FindsGone w token)
stays_found_gone w sound x well token found =
    found_gone_in w sound x well token (buffer_of w token) refl found
