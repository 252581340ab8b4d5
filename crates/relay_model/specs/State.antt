-- The state of the relay (docs/PROTOCOL.md, Claims, Sessions, Store): what it knows, keeps and has
-- promised, with all that it ever began, stored and gained.
use Rattle.std.specs.Prelude.{ℕ, ◌==◌, nat_eq, List, [], map, filter, Option, None, bytes_eq}
use Rattle.std.specs.Prelude.{if◌then◌else◌}
use Rattle.std.specs.List.{list_any}
use Rattle.news_terms.specs.Command.{Part}
use Rattle.news_terms.specs.Courses.{Course, first_course}
use Rattle.news_terms.specs.Token.{Token}
use Rattle.relay_model.specs.Claims.{Accepted, Claim, Unknown}

-- a text that is whole on a buffer: its token, which names the buffer, and the id it was stored for
pub record Kept : Type 0 where
  pub token : Token
  pub id : List ℕ
  pub text : List ℕ

-- a feed: the tokens that it gained, how many of them are past taking, how many were taken
-- (docs/PROTOCOL.md, Rings)
pub record Feed : Type 0 where
  pub gained : List Token
  pub passed : ℕ
  pub taken : ℕ

-- which command brings an article: TAKETHIS, or CHECK before it (RFC 4644); or IHAVE (RFC 3977
-- section 6.3.2)
pub data Transfer : Type 0 where
  TakesThis Has : Transfer

-- an accepted article on its way to the writer of its group, with the session that brought it
pub record Job : Type 0 where
  pub session : ℕ
  pub id : List ℕ
  pub article : Accepted

-- what a fetch asks: a part of the article of a message-id (RFC 3977 sections 6.2 and 8.3), or all
-- of that under a token (XFETCH)
pub data Asked : Type 0 where
  OfId : (part : Part) (id : List ℕ) → Asked
  OfToken : Asked

-- an open offer: the id of an article that the session was told to send, and when it was opened
pub record OpenOffer : Type 0 where
  pub id : List ℕ
  pub since : ℕ

-- what a session does next (docs/PROTOCOL.md, Phases)
pub data Phase : Type 0 where
  -- it reads a command
  Ready : Phase
  -- it owes the block of this command; None where its argument was no message-id
  AwaitsBlock : (transfer : Transfer) (id : Option (List ℕ)) → Phase
  -- it holds an accepted article while another session stores one of its id
  Holds : (id : List ℕ) (article : Accepted) → Phase
  -- its job in hand is pushed, then it waits for the outcome of its article
  Waits : (transfer : Transfer) (id : List ℕ) → Phase
  -- it fetches this token, and has had so many of the Turns that this takes
  Fetches : (asked : Asked) (token : Token) (had : ℕ) → Phase
  -- it has ended, and gives up what it had
  Leaving : Phase
  -- it is closed
  Ended : Phase

-- a session of a peer: the octets that came and weren't read, its open offers from the oldest on,
-- its phase, and the accepted article in its hand, which isn't pushed yet
pub record Session : Type 0 where
  pub peer : ℕ
  pub unread : List ℕ
  pub offers : List OpenOffer
  pub phase : Phase
  pub hand : Option Job

-- what the relay knows, keeps and has promised
pub record State : Type 0 where
  -- what is known of each message-id
  pub claim : List ℕ → Claim
  -- of each group the articles begun, in order, each with its place; and whose turn it is
  pub begun : ℕ → Course
  -- the texts that are whole, in the order in which they became so
  pub kept : List Kept
  pub feed : ℕ → Feed
  -- each token that was accepted, with the feeds that it was permitted for
  pub accepted : List (Token × List ℕ)
  pub session : ℕ → Option Session
  -- the number of the newest session
  pub newest : Option ℕ

-- the tokens of the accepted articles that are permitted for this feed, in the order of acceptance
abbrev pub tokens_for : ℕ → List (Token × List ℕ) → List Token
tokens_for feed accepted =
    map (λ (one : Token × List ℕ). one.0)
    (filter (λ (one : Token × List ℕ). list_any (nat_eq feed) one.1) accepted)

-- f, but v at the message-id k
abbrev pub put_id : {A : Type 0} → (List ℕ → A) → List ℕ → A → List ℕ → A
put_id f k v x = if bytes_eq x k then v else f x

-- f, but v at the number k
abbrev pub put_at : {A : Type 0} → (ℕ → A) → ℕ → A → ℕ → A
put_at f k v x = if x == k then v else f x

-- the state before anything came
abbrev pub empty_state : State
empty_state =
    record {
      claim = λ id. Unknown;
      begun = λ group. first_course;
      kept = [];
      feed = λ feed. record { gained = []; passed = 0; taken = 0 };
      accepted = [];
      session = λ number. None;
      newest = None;
    }

-- the session in another phase
abbrev pub in_phase : Session → Phase → Session
in_phase session phase = record session { phase = phase }

-- the session with these octets unread
abbrev pub with_unread : Session → List ℕ → Session
with_unread session unread = record session { unread = unread }

-- the session with these open offers
abbrev pub with_offers : Session → List OpenOffer → Session
with_offers session offers = record session { offers = offers }
