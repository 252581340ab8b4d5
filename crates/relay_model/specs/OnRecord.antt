-- What holds of all that a stop writes down and a start reads back (docs/PROTOCOL.md, Clean stop
-- and start), in every world of a run: so that no start of what was shut finds a moment, a token or
-- a number that can't be.
use Rattle.std.specs.Prelude.{◌≡◌, ℕ, ◌+◌, ◌≤◌, ◌<◌, List, All, length, Some}
use Rattle.news_terms.specs.Places.{Buffer, on_line, size_of}
use Rattle.news_terms.specs.Token.{Token, IsToken}
use Rattle.relay_model.specs.Claims.{Accepted, Claim, Unknown, Offered, Storing, Stored, Refused}
use Rattle.relay_model.specs.Claims.{Begun, Whole}
use Rattle.relay_model.specs.Fetches.{buffer_of, front_of, text_under}
use Rattle.relay_model.specs.State.{State, Feed, Kept}
use Rattle.relay_model.specs.Terms.{Terms, last_moment}

-- what is stored or refused was so at a moment that there is
abbrev pub IsTimed : Claim → Type 0
IsTimed Unknown = Unit {0}
IsTimed (Offered session since) = Unit {0}
IsTimed (Storing session article stage) = Unit {0}
IsTimed (Stored token moment) = moment ≤ last_moment
IsTimed (Refused moment) = moment ≤ last_moment

-- the token names a buffer, its text has room for its parts, its blocks lie in the buffer, and its
-- place is below the buffer's front
pub record IsBelow (w : Terms) (σ : State) (token : Token) : Type 0 where
  pub buffer : Buffer
  pub named : buffer_of w token ≡ Some buffer
  pub fits : IsToken token
  pub some : 1 ≤ token.length
  pub inside : token.first + size_of token.length ≤ buffer.blocks
  pub below : on_line buffer.blocks token.cycle token.first < front_of w σ buffer

-- a text is whole under the token
pub record HasText (kept : List Kept) (token : Token) : Type 0 where
  pub text : List ℕ
  pub under : text_under kept token ≡ Some text

-- no more tokens of a feed were taken than are past taking, and no more are than it gained
pub record PassesInOrder (feed : Feed) : Type 0 where
  pub taken : feed.taken ≤ feed.passed
  pub passed : feed.passed ≤ length feed.gained

-- what is remembered, kept and gained can be written down and read back
pub record IsOnRecord (w : Terms) (σ : State) : Type 0 where
  -- each id that is stored or was refused was so at a moment that there is
  pub moments : (id : List ℕ) → IsTimed (σ.claim id)
  -- each article that is begun lies below the front of its buffer
  pub begun : (id : List ℕ) (s : ℕ) (article : Accepted) (token : Token)
      → σ.claim id ≡ Storing s article (Begun token) → IsBelow w σ token
  -- so does each text that is whole
  pub kept : All (λ one. IsBelow w σ one.token) σ.kept
  -- an article that is whole and not accepted yet has its text
  pub whole : (id : List ℕ) (s : ℕ) (article : Accepted) (token : Token)
      → σ.claim id ≡ Storing s article (Whole token) → HasText σ.kept token
  -- so has each id that is stored
  pub stored : (id : List ℕ) (token : Token) (moment : ℕ) → σ.claim id ≡ Stored token moment
      → HasText σ.kept token
  -- and each token that a feed gained
  pub gained : (f : ℕ) → All (HasText σ.kept) (σ.feed f).gained
  -- the tokens of each feed were passed and taken in order
  pub feeds : (f : ℕ) → PassesInOrder (σ.feed f)
