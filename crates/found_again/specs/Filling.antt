-- How far the rings of the feeds are filled, from the newest text that is found back.
use Rattle.std.specs.Prelude.{◌≡◌, ◌<◌, ℕ, List, length, map, reverse, slice_index_or, All}
use Rattle.cyc_token.specs.Token.{token_view}
use Rattle.cyc_token.specs.declared.Token as code
use Rattle.found_again.specs.declared.filling.Filling.{Filling}
use Rattle.found_again.specs.Texts.{ring_sizes}
use Rattle.id_history.specs.History.{IsThere, KeptFeed}
use Rattle.news_terms.specs.Token.{Token}
use Rattle.relay_model.specs.State.{Feed, tokens_for}
use Rattle.relay_model.specs.Terms.{Terms}

-- how many tokens a ring has room for
abbrev pub size_of : Filling → ℕ
size_of filling = filling.size

-- the tokens of a ring, the oldest first
abbrev pub tokens_of : Filling → List Token
tokens_of filling = map token_view (reverse filling.newest_first.items)

-- each ring has what its feed gained of what was accepted; `none` would stand for one past the last
pub record FillEach (w : Terms) (fillings : List Filling) (accepted : List (Token × List ℕ))
    : Type 0 where
  pub sizes : map size_of fillings ≡ ring_sizes w
  pub tokens : (f : ℕ) (none : Filling) → f < length fillings
      → tokens_of (slice_index_or fillings f none) ≡ tokens_for f accepted

-- the token is of one of so many buffers
abbrev pub IsTokenThere : (buffers : ℕ) → code.Token → Type 0
IsTokenThere buffers token = IsThere buffers (token_view token)

-- each token of each ring is
abbrev pub AreThere : (buffers : ℕ) → List Filling → Type 0
AreThere buffers fillings =
    All (λ (filling : Filling). All (IsTokenThere buffers) filling.newest_first.items) fillings

-- what is left of a feed that gained what is in its ring, of which nothing was taken
abbrev pub filled : Filling → KeptFeed
filled filling =
    record {
      gained = length filling.newest_first.items;
      passed = 0;
      taken = 0;
      waiting = tokens_of filling;
    }

-- each feed gained what was accepted for it, and nothing was taken
abbrev pub gained_anew : List (Token × List ℕ) → ℕ → Feed
gained_anew accepted f = record { gained = tokens_for f accepted; passed = 0; taken = 0 }
