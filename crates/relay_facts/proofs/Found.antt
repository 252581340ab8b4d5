-- What was found is found after more texts became whole: the first under a token is taken.
use Rattle.std.proofs.Common.{◌≡◌, ℕ, Bool, true, false, List, [], ◌∷◌, ◌++◌, Some, if◌then◌else◌}
use Rattle.std.proofs.lemmas.Option.{none-some}
use Rattle.std.specs.Prelude.{find, option_map}
use Rattle.news_terms.specs.Token.{Token, same_token}
use Rattle.relay_model.specs.State.{Kept}
use Rattle.relay_model.specs.Fetches.{text_under}

-- by the kept texts, from the first on
pub still_found : (kept more : List Kept) (token : Token) (text : List ℕ)
    → text_under kept token ≡ Some text
    → text_under (kept ++ more) token ≡ Some text
still_found [] more token text e = absurd (none-some text e)
still_found (one ∷ kept) more token text e =
    by (same_token one.token token) (still_found kept more token text) e
  where
    by : (b : Bool) → (text_under kept token ≡ Some text
        → text_under (kept ++ more) token ≡ Some text)
        → option_map (λ (each : Kept). each.text)
        (if b then Some one else find (λ (each : Kept). same_token each.token token) kept)
        ≡ Some text
        → option_map (λ (each : Kept). each.text)
        (if b then Some one else find (λ (each : Kept). same_token each.token token) (kept ++ more))
        ≡ Some text
    by true later e = e
    by false later e = later e
