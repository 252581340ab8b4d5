-- What the laws of single rules speak of.
use Rattle.std.specs.Prelude.{◌≡◌, ℕ, ◌+◌, ◌≤◌, ◌==◌, false, List, Option, Some, Err}
use Rattle.news_terms.specs.Places.{Buffer, IsLive, on_line, size_of}
use Rattle.news_terms.specs.Token.{Token}
use Rattle.relay_model.specs.Claims.{Claim, Unknown, Offered, Storing, Stored, Refused}
use Rattle.relay_model.specs.Fetches.{buffer_of, front_of}
use Rattle.relay_model.specs.Judging.{Judges}
use Rattle.relay_model.specs.State.{State, Session}
use Rattle.relay_model.specs.Terms.{Terms, Reason}
use Rattle.relay_model.specs.World.{World}

-- the claim is not this session's: it is another session's, or the id is remembered
abbrev pub IsNotOf : ℕ → Claim → Type 0
IsNotOf s Unknown = ⊥
IsNotOf s (Offered other since) = (other == s) ≡ false
IsNotOf s (Storing other article stage) = (other == s) ≡ false
IsNotOf s (Stored token moment) = Unit {0}
IsNotOf s (Refused moment) = Unit {0}

-- the token names a buffer, its blocks are in the buffer, and its place is live
pub record IsLiveToken (w : Terms) (σ : State) (token : Token) : Type 0 where
  pub buffer : Buffer
  pub named : buffer_of w token ≡ Some buffer
  pub some : 1 ≤ token.length
  pub inside : token.first + size_of token.length ≤ buffer.blocks
  pub live : IsLive buffer.blocks (front_of w σ buffer)
      (on_line buffer.blocks token.cycle token.first)

-- an article from the peer of this session was judged at this moment, and refused for this reason:
-- its text, None where it was oversize, offered under this id
pub record WasJudged (w : Terms) (x : World) (s now : ℕ) (reason : Reason) : Type 0 where
  pub session : Session
  pub there : x.state.session s ≡ Some session
  pub id : List ℕ
  pub text : Option (List ℕ)
  pub judges : Judges w session.peer id now text (Err reason)
