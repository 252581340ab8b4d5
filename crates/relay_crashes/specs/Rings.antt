-- What a feed has of what is accepted again.
use Rattle.std.specs.Prelude.{◌≡◌, ◌⊎◌, ℕ, List, length, slice_get}
use Rattle.std.specs.List.{Contains}
use Rattle.news_terms.specs.Token.{Token}
use Rattle.relay_model.specs.Shares.{ring_of}
use Rattle.relay_model.specs.Terms.{Terms}
use Rattle.relay_model.specs.State.{tokens_for}

-- the tokens that a feed holds of those accepted
abbrev pub held_of : ℕ → List (Token × List ℕ) → ℕ
held_of f accepted = length (tokens_for f accepted)

-- how many its ring may hold
abbrev pub most_of : Terms → ℕ → ℕ
most_of w f = ring_of (slice_get w.feeds f)

-- the feed gained the token, or its ring is full
abbrev pub GainsOrFull : Terms → ℕ → List (Token × List ℕ) → Token → Type 0
GainsOrFull w f accepted token =
    Contains (tokens_for f accepted) token ⊎ (held_of f accepted ≡ most_of w f)
