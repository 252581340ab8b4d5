-- Tokens that agree in all five parts are one.
use Rattle.std.proofs.Common.{◌≡◌, ◌==◌, ◌&&◌, Bool, true, false, refl, sym, eqb-true, eq-eqb}
use Rattle.std.proofs.Common.{true≢false}
use Rattle.news_terms.specs.Token.{Token, same_token}

-- five tests that pass together pass one by one
five_tests : (a b c d e : Bool) → (a && b && c && d && e) ≡ true
    → (a ≡ true) × (b ≡ true) × (c ≡ true) × (d ≡ true) × (e ≡ true)
five_tests true true true true true h = (refl, refl, refl, refl, refl)
five_tests true true true true false h = absurd (true≢false (sym h))
five_tests true true true false e h = absurd (true≢false (sym h))
five_tests true true false d e h = absurd (true≢false (sym h))
five_tests true false c d e h = absurd (true≢false (sym h))
five_tests false b c d e h = absurd (true≢false (sym h))

-- five tests that pass one by one pass together
five_pass : (a b c d e : Bool) → a ≡ true → b ≡ true → c ≡ true → d ≡ true → e ≡ true
    → (a && b && c && d && e) ≡ true
five_pass true true true true true p q r s t = refl
five_pass true true true true false p q r s t = absurd (true≢false (sym t))
five_pass true true true false e p q r s t = absurd (true≢false (sym s))
five_pass true true false d e p q r s t = absurd (true≢false (sym r))
five_pass true false c d e p q r s t = absurd (true≢false (sym q))
five_pass false b c d e p q r s t = absurd (true≢false (sym p))

-- a token agrees with itself
pub same_itself : (token : Token) → same_token token token ≡ true
same_itself token =
    five_pass (token.class == token.class) (token.buffer == token.buffer)
    (token.cycle == token.cycle)
    (token.first == token.first) (token.length == token.length)
    (eq-eqb token.class token.class refl)
    (eq-eqb token.buffer token.buffer refl) (eq-eqb token.cycle token.cycle refl)
    (eq-eqb token.first token.first refl) (eq-eqb token.length token.length refl)

-- tokens that agree are one
pub same_one : (one other : Token) → same_token one other ≡ true → one ≡ other
same_one one other same =
    let tests : ((one.class == other.class) ≡ true) × ((one.buffer == other.buffer) ≡ true)
    × ((one.cycle == other.cycle) ≡ true) × ((one.first == other.first) ≡ true)
    × ((one.length == other.length) ≡ true) =
    five_tests (one.class == other.class) (one.buffer == other.buffer) (one.cycle == other.cycle)
    (one.first == other.first) (one.length == other.length) same in
    let class : one.class ≡ other.class = eqb-true one.class other.class tests.0 in
    let buffer : one.buffer ≡ other.buffer = eqb-true one.buffer other.buffer tests.1 in
    let cycle : one.cycle ≡ other.cycle = eqb-true one.cycle other.cycle tests.2 in
    let first : one.first ≡ other.first = eqb-true one.first other.first tests.3 in
    let length : one.length ≡ other.length = eqb-true one.length other.length tests.4 in
    λ i. record {
      class = class i;
      buffer = buffer i;
      cycle = cycle i;
      first = first i;
      length = length i;
    }
