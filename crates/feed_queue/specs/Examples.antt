-- The worked example *ring* (docs/PROTOCOL.md, Examples).
use Rattle.std.specs.Prelude.{ℕ, [], ◌∷◌}
use Rattle.feed_queue.specs.Feeds.{no_feed}
use Rattle.news_terms.specs.Token.{Token}
use Rattle.relay_model.specs.State.{Feed}
use Rattle.relay_model.specs.Writers.{gaining}

-- the token of an article of 164 octets, of storage class 1 and buffer 0, at this block
abbrev pub token_at : (first : ℕ) → Token
token_at first = record { class = 1; buffer = 0; cycle = 0; first = first; length = 164 }

-- the feeds after three articles; the first feed is permitted for each, and named twice for one
abbrev pub three_posted : ℕ → Feed
three_posted =
    gaining
    (gaining (gaining (λ f. no_feed) (0 ∷ []) (token_at 0)) (0 ∷ 0 ∷ []) (token_at 1))
    (0 ∷ []) (token_at 2)

-- the first of them
abbrev pub gained_three : Feed
gained_three =
    record {
      gained = token_at 0 ∷ token_at 1 ∷ token_at 2 ∷ [];
      passed = 0;
      taken = 0;
    }

-- the same after all was taken that waited in a ring of 2
abbrev pub taken_two : Feed
taken_two = record gained_three { passed = 3; taken = 2 }
