-- The test of a place: the three tests that it is of.
use Rattle.std.proofs.Common.{◌≡◌, ◌==◌, ◌&&◌, ℕ, Bool, true, false, refl, sym, ap, eqb-true}
use Rattle.std.proofs.Common.{eq-eqb, true≢false}
use Rattle.news_terms.specs.Token.{Token, same_token}
use Rattle.relay_model.specs.State.{Kept}
use Rattle.relay_facts.proofs.SameTokens.{same_one}
use Rattle.relay_model.specs.Fetches.{is_at}

-- three tests that pass together pass one by one
three_tests : (a b c : Bool) → (a && b && c) ≡ true → (a ≡ true) × (b ≡ true) × (c ≡ true)
three_tests true true true e = (refl, refl, refl)
three_tests true true false e = absurd (true≢false (sym e))
three_tests true false c e = absurd (true≢false (sym e))
three_tests false b c e = absurd (true≢false (sym e))

-- three tests that pass one by one pass together
three_pass : (a b c : Bool) → a ≡ true → b ≡ true → c ≡ true → (a && b && c) ≡ true
three_pass true true true x y z = refl
three_pass true true false x y z = absurd (true≢false (sym z))
three_pass true false c x y z = absurd (true≢false (sym y))
three_pass false b c x y z = absurd (true≢false (sym x))

-- two tokens have one place
pub record Same_place (one other : Token) : Type 0 where
  pub buffer : one.buffer ≡ other.buffer
  pub cycle : one.cycle ≡ other.cycle
  pub first : one.first ≡ other.first

-- two tokens with one place, the other way round
pub turned : (one other : Token) → Same_place one other → Same_place other one
turned one other same =
    record { buffer = sym same.buffer; cycle = sym same.cycle; first = sym same.first }

-- what passes the test of a place lies there
pub at_place : (one : Kept) (buffer cycle first : ℕ) → is_at buffer cycle first one ≡ true
    → (one.token.buffer ≡ buffer) × (one.token.cycle ≡ cycle) × (one.token.first ≡ first)
at_place one buffer cycle first passes =
    let tests : ((one.token.buffer == buffer) ≡ true) × ((one.token.cycle == cycle) ≡ true)
    × ((one.token.first == first) ≡ true) =
    three_tests (one.token.buffer == buffer) (one.token.cycle == cycle) (one.token.first == first)
    passes in (
      eqb-true one.token.buffer buffer tests.0,
      eqb-true one.token.cycle cycle tests.1,
      eqb-true one.token.first first tests.2,
    )

-- what lies at a place passes its test
pub passes_place : (one : Kept) (token : Token) → Same_place one.token token
    → is_at token.buffer token.cycle token.first one ≡ true
passes_place one token same =
    three_pass (one.token.buffer == token.buffer) (one.token.cycle == token.cycle)
    (one.token.first == token.first) (eq-eqb one.token.buffer token.buffer same.buffer)
    (eq-eqb one.token.cycle token.cycle same.cycle) (eq-eqb one.token.first token.first same.first)

-- tokens that agree have one place
pub same_places : (one other : Token) → same_token one other ≡ true → Same_place one other
same_places one other same =
    let is = same_one one other same in
    record {
      buffer = ap (λ (t : Token). t.buffer) is;
      cycle = ap (λ (t : Token). t.cycle) is;
      first = ap (λ (t : Token). t.first) is;
    }
