-- The open writes of groups, in the relay's words: under which token, of which text, how far
-- (docs/PROTOCOL.md, Groups and writers).
use Rattle.std.specs.Prelude.{ℕ, List}
use Rattle.news_terms.specs.Token.{Token}

-- the open write of a group
pub data Opening : Type 0 where
  -- this text is written under this token, and so many of its blocks are
  IsOpen : (token : Token) (text : List ℕ) (written : ℕ) → Opening
  -- a write of one of its blocks has failed, and it can only be abandoned
  IsBroken : (token : Token) → Opening

-- the token of an open write
abbrev pub token_in : Opening → Token
token_in (IsOpen token text written) = token
token_in (IsBroken token) = token
