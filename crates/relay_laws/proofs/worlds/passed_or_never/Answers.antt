use Rattle.std.proofs.Common.{ℕ, ◌<◌, [], ◌∷◌, ◌++◌, refl, arith}
use Rattle.std.specs.Prelude.{replicate}
use Rattle.news_terms.specs.Token.{Token, IsToken}
use Rattle.relay_laws.specs.Terms.{k1}
use Rattle.relay_laws.specs.WorldRows as rows
use Rattle.relay_laws.specs.Worlds.{remembering, three_blocks_at}
use Rattle.relay_laws.proofs.Dues.{NoHint, NamesToken}
use Rattle.relay_laws.proofs.Playing.{are_answered}
use Rattle.relay_laws.proofs.worlds.passed_or_never.Goals as goal

-- of this first block and this length
abbrev at : (first length : ℕ) → Token
at first length = record (three_blocks_at 0 first) { length = length }

-- they are tokens
at_is : (first length : ℕ) → first < 8 → length < 4000 → IsToken (at first length)
at_is first length f l = record {
  class = omega arith;
  buffer = omega arith;
  cycle = omega arith;
  first = omega (arith, f);
  length = omega (arith, l);
}

pub returns : goal.returns
returns c = λ failures. are_answered k1 (remembering failures)
    (replicate 4 NoHint ++ NamesToken (at 0 1440) ∷ NamesToken (at 1 3360) ∷ NamesToken (at 0 0)
    ∷ NamesToken (at 2 3360) ∷ [])
    rows.passed_or_never rows.passed_or_never_replies (
      (at_is 0 1440 (omega arith) (omega arith), refl),
      (
        (at_is 1 3360 (omega arith) (omega arith), refl),
        (
          (at_is 0 0 (omega arith) (omega arith), refl),
          ((at_is 2 3360 (omega arith) (omega arith), refl), tt),
        ),
      ),
    ) refl refl
