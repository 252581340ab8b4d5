-- What is known of one message-id, and what each step does to it (docs/PROTOCOL.md, Claims). Each
-- method of the history is one of these.
use Rattle.std.specs.Prelude.{ℕ, Bool, true, false, ◌==◌, ◌+◌, ◌*◌, ◌&&◌, nat_le, nat_lt, List, []}
use Rattle.std.specs.Prelude.{◌∷◌, Option, None, Some, if◌then◌else◌}
use Rattle.news_terms.specs.Token.{Token}

-- an article that was judged and accepted (docs/PROTOCOL.md, Judging)
pub record Accepted : Type 0 where
  -- the number of its storage class, and that of the group of buffers that it goes to
  pub class : ℕ
  pub group : ℕ
  -- the numbers of the feeds that it is permitted for
  pub permitted : List ℕ
  -- the text that is stored
  pub text : List ℕ

-- how far the storing of an article has come
pub data Stage : Type 0 where
  -- it waits for its writer
  Waiting : Stage
  -- it has its place, and isn't whole yet
  Begun : (token : Token) → Stage
  -- a write of its blocks failed
  Failed : Stage
  -- it is whole under this token
  Whole : (token : Token) → Stage

-- what is known of a message-id
pub data Claim : Type 0 where
  -- nothing
  Unknown : Claim
  -- this session was told to send the article, first at this moment
  Offered : (session since : ℕ) → Claim
  -- this session sent the article, and it is being stored
  Storing : (session : ℕ) (article : Accepted) (stage : Stage) → Claim
  -- the article was stored at this moment
  Stored : (token : Token) (moment : ℕ) → Claim
  -- an article of this id was refused at this moment
  Refused : (moment : ℕ) → Claim

-- an offer that was made then is older now than an offer may be (docs/PROTOCOL.md, Claims)
abbrev pub has_run_out : Option ℕ → (since now : ℕ) → Bool
has_run_out None since now = false
has_run_out (Some seconds) since now = nat_lt (since + seconds) now

-- what is known of a message-id at this moment: an offer that has run out is none
abbrev pub standing : (offers : Option ℕ) → (now : ℕ) → Claim → Claim
standing offers now Unknown = Unknown
standing offers now (Offered session since) =
    if has_run_out offers since now then Unknown else Offered session since
standing offers now (Storing session article stage) = Storing session article stage
standing offers now (Stored token moment) = Stored token moment
standing offers now (Refused moment) = Refused moment

-- what an offer of a message-id is answered
pub data OfferAnswer : Type 0 where
  -- the session is to send the article
  Wanted : OfferAnswer
  -- another session may be about to bring it, or it is being stored
  Later : OfferAnswer
  -- it is stored or was refused
  Seen : OfferAnswer

-- CHECK and IHAVE: what this session's offer is answered (RFC 4644 section 2.4)
abbrev pub offer_answer : ℕ → Claim → OfferAnswer
offer_answer s Unknown = Wanted
offer_answer s (Offered other since) = if other == s then Wanted else Later
offer_answer s (Storing other article stage) = Later
offer_answer s (Stored token moment) = Seen
offer_answer s (Refused moment) = Seen

-- CHECK and IHAVE: an unknown id becomes this session's offer, every other stays
abbrev pub after_offer : (s now : ℕ) → Claim → Claim
after_offer s now Unknown = Offered s now
after_offer s now (Offered other since) = Offered other since
after_offer s now (Storing other article stage) = Storing other article stage
after_offer s now (Stored token moment) = Stored token moment
after_offer s now (Refused moment) = Refused moment

-- what becomes of an accepted article (RFC 4644 section 2.5, RFC 3977 section 6.3.2)
pub data TakeAnswer : Type 0 where
  -- this session stores it
  Mine : TakeAnswer
  -- it is being stored
  Held : TakeAnswer
  -- it is stored already, or was refused
  Had : TakeAnswer

-- an accepted article of this session: it is stored where the id is unknown or offered, to
-- whomever
abbrev pub take_answer : ℕ → Claim → TakeAnswer
take_answer s Unknown = Mine
take_answer s (Offered other since) = Mine
take_answer s (Storing other article stage) = Held
take_answer s (Stored token moment) = Had
take_answer s (Refused moment) = Had

-- an accepted article of this session: where it is to store it, the id waits for the writer
abbrev pub after_take : ℕ → Accepted → Claim → Claim
after_take s article Unknown = Storing s article Waiting
after_take s article (Offered other since) = Storing s article Waiting
after_take s article (Storing other stored stage) = Storing other stored stage
after_take s article (Stored token moment) = Stored token moment
after_take s article (Refused moment) = Refused moment

-- an article of this session was refused: an id that is unknown or offered to it is marked
abbrev pub after_refuse : ℕ → ℕ → Claim → Claim
after_refuse s now Unknown = Refused now
after_refuse s now (Offered other since) =
    if other == s then Refused now else Offered other since
after_refuse s now (Storing other article stage) = Storing other article stage
after_refuse s now (Stored token moment) = Stored token moment
after_refuse s now (Refused moment) = Refused moment

-- an open offer of this session ends: the id becomes unknown only where it is offered to it
abbrev pub after_release : ℕ → Claim → Claim
after_release s Unknown = Unknown
after_release s (Offered other since) = if other == s then Unknown else Offered other since
after_release s (Storing other article stage) = Storing other article stage
after_release s (Stored token moment) = Stored token moment
after_release s (Refused moment) = Refused moment

-- the writer gives this session's article up: the id becomes unknown
abbrev pub after_forget : ℕ → Claim → Claim
after_forget s Unknown = Unknown
after_forget s (Offered other since) = Offered other since
after_forget s (Storing other article stage) =
    if other == s then Unknown else Storing other article stage
after_forget s (Stored token moment) = Stored token moment
after_forget s (Refused moment) = Refused moment

-- the writer has stored this session's article: the id is stored from this moment on
abbrev pub after_settle : ℕ → Token → ℕ → Claim → Claim
after_settle s token now Unknown = Unknown
after_settle s token now (Offered other since) = Offered other since
after_settle s token now (Storing other article stage) =
    if other == s then Stored token now else Storing other article stage
after_settle s token now (Stored had moment) = Stored had moment
after_settle s token now (Refused moment) = Refused moment

-- the id is being stored for this session
abbrev pub is_storing_for : ℕ → Claim → Bool
is_storing_for s Unknown = false
is_storing_for s (Offered other since) = false
is_storing_for s (Storing other article stage) = other == s
is_storing_for s (Stored token moment) = false
is_storing_for s (Refused moment) = false

-- the token under which the id is stored
abbrev pub look_answer : Claim → Option Token
look_answer Unknown = None
look_answer (Offered other since) = None
look_answer (Storing other article stage) = None
look_answer (Stored token moment) = Some token
look_answer (Refused moment) = None

-- an id is being stored
abbrev pub is_storing : Claim → Bool
is_storing Unknown = false
is_storing (Offered session since) = false
is_storing (Storing session article stage) = true
is_storing (Stored token moment) = false
is_storing (Refused moment) = false

-- a buffer's blocks and its front, as they were read
pub record Passed : Type 0 where
  pub buffer : ℕ
  pub blocks : ℕ
  pub front : ℕ

-- the front that was read of the token's buffer has passed what lies under the token
abbrev pub is_passed : List Passed → Token → Bool
is_passed [] token = false
is_passed (one ∷ others) token =
    if one.buffer == token.buffer
    then nat_lt (token.cycle * one.blocks + token.first + one.blocks) one.front
    else is_passed others token

-- Expire: an id that was stored or refused so long ago becomes unknown, a stored one only where its
-- article is gone (docs/PROTOCOL.md, Forgetting)
abbrev pub after_expire : (now remember : ℕ) → List Passed → Claim → Claim
after_expire now remember fronts Unknown = Unknown
after_expire now remember fronts (Offered session since) = Offered session since
after_expire now remember fronts (Storing session article stage) = Storing session article stage
after_expire now remember fronts (Stored token moment) =
    if nat_le (moment + remember) now && is_passed fronts token then Unknown
    else Stored token moment
after_expire now remember fronts (Refused moment) =
    if nat_le (moment + remember) now then Unknown else Refused moment

-- Restart: what was only offered is unknown (docs/PROTOCOL.md, Clean stop and start)
abbrev pub after_restart : Claim → Claim
after_restart Unknown = Unknown
after_restart (Offered session since) = Unknown
after_restart (Storing session article stage) = Storing session article stage
after_restart (Stored token moment) = Stored token moment
after_restart (Refused moment) = Refused moment
