use Rattle.std.proofs.Common.{◌≡◌, ◌∙◌, ◌<◌, ℕ, [], ◌∷◌, ◌++◌, Option, Some, None, codes, refl}
use Rattle.std.proofs.Common.{sym, ap, arith}
use Rattle.std.specs.Prelude.{replicate}
use Rattle.news_terms.specs.Token.{Token, IsToken, token_text}
use Rattle.cyc_token.proofs.Texts.{text_fits}
use Rattle.cyc_token.specs.Faults.{token_fault}
use Rattle.cyc_token.specs.declared.text.TokenError.{TokenError}
use Rattle.cyc_token.specs.declared.text.TokenError.TheVariants.{LowerCase}
use Rattle.relay_laws.specs.Terms.{k1}
use Rattle.relay_laws.specs.WorldRows as rows
use Rattle.relay_laws.specs.Worlds.{two_stored, three_blocks_at}
use Rattle.relay_laws.proofs.Dues.{NoHint, NamesToken}
use Rattle.relay_laws.proofs.Playing.{are_answered}
use Rattle.relay_laws.proofs.worlds.overwrite.Goals as goal

-- the tokens that are asked for
fits : (class buffer cycle first length : ℕ) → class < 3 → buffer < 2 → cycle < 3 → first < 8
    → length < 1441
    → IsToken (record {
      class = class;
      buffer = buffer;
      cycle = cycle;
      first = first;
      length = length;
    })
fits class buffer cycle first length k b c f l = record {
  class = omega (arith, k);
  buffer = omega (arith, b);
  cycle = omega (arith, c);
  first = omega (arith, f);
  length = omega (arith, l);
}

first_token : IsToken (three_blocks_at 0 0)
first_token =
    fits 1 0 0 0 1440 (omega arith) (omega arith) (omega arith) (omega arith) (omega arith)

second_token : IsToken (three_blocks_at 0 3)
second_token =
    fits 1 0 0 3 1440 (omega arith) (omega arith) (omega arith) (omega arith) (omega arith)

middle_token : IsToken (three_blocks_at 0 4)
middle_token =
    fits 1 0 0 4 1440 (omega arith) (omega arith) (omega arith) (omega arith) (omega arith)

future_token : IsToken (three_blocks_at 2 0)
future_token =
    fits 1 0 2 0 1440 (omega arith) (omega arith) (omega arith) (omega arith) (omega arith)

other_token : IsToken (record (three_blocks_at 0 3) { buffer = 1 })
other_token =
    fits 1 1 0 3 1440 (omega arith) (omega arith) (omega arith) (omega arith) (omega arith)

empty_token : IsToken (record (three_blocks_at 0 3) { length = 0 })
empty_token =
    fits 1 0 0 3 0 (omega arith) (omega arith) (omega arith) (omega arith) (omega arith)

class_token : IsToken (record (three_blocks_at 0 3) { class = 2 })
class_token =
    fits 2 0 0 3 1440 (omega arith) (omega arith) (omega arith) (omega arith) (omega arith)

shorter_token : IsToken (record (three_blocks_at 0 3) { length = 1439 })
shorter_token =
    fits 1 0 0 3 1439 (omega arith) (omega arith) (omega arith) (omega arith) (omega arith)

-- no token is spelled with a lower case letter
no_lower_case : (token : Token) → IsToken token
    → token_text token ≡ codes "@01000000000100000000000005a0@" → ⊥
no_lower_case token is e =
    let faultless : ◌≡◌ {A = Option TokenError} None (Some LowerCase) =
    sym (text_fits token is) ∙ ap token_fault e in
    absurd (cc)

pub returns : goal.returns
returns c = λ failures one two. are_answered k1 (two_stored failures one two)
    (replicate 19 NoHint ++ NamesToken (three_blocks_at 0 0) ∷ NoHint ∷ NoHint
    ∷ NamesToken (three_blocks_at 0 3) ∷ NoHint ∷ NoHint ∷ NamesToken (three_blocks_at 0 4)
    ∷ NamesToken (three_blocks_at 2 0) ∷ NamesToken (record (three_blocks_at 0 3) { buffer = 1 })
    ∷ NamesToken (record (three_blocks_at 0 3) { length = 0 })
    ∷ NamesToken (record (three_blocks_at 0 3) { class = 2 })
    ∷ NamesToken (record (three_blocks_at 0 3) { length = 1439 }) ∷ [])
    rows.overwrite (rows.overwrite_replies two) (
      refl,
      (
        refl,
        (
          refl,
          (
            refl,
            (
              refl,
              (
                (first_token, refl),
                (
                  (second_token, refl),
                  (
                    (middle_token, refl),
                    (
                      (future_token, refl),
                      (
                        (other_token, refl),
                        (
                          (empty_token, refl),
                          ((class_token, refl), ((shorter_token, refl), (no_lower_case, tt))),
                        ),
                      ),
                    ),
                  ),
                ),
              ),
            ),
          ),
        ),
      ),
    ) refl refl
