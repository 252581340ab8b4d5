-- What holds of the parts of every fetch in progress. No public contract cites it.
use Rattle.std.specs.Prelude.{◌≡◌, ◌≤◌, ◌<◌, ℕ, ◌+◌, ◌*◌, ◌==◌, Bool, true, []}
use Rattle.std.specs.Prelude.{vec_len, vec_capacity, if◌then◌else◌}
use Rattle.std.specs.Global.{Vec}
use Rattle.news_terms.specs.Blocks.{stuffed_room}
use Rattle.news_terms.specs.BlockImage.{chunk_size}
use Rattle.news_terms.specs.Command as terms
use Rattle.news_terms.specs.Token.{Token}
use Rattle.nntp_text.specs.Reply.{reply_room}
use Rattle.relay_model.specs.Hears.{turns_of}
use Rattle.relay_model.specs.State.{Asked, OfId, OfToken}

-- the most octets that a block adds to what is gathered: STAT shows none
abbrev pub most_due : Asked → ℕ
most_due (OfId terms.Presence id) = 0
most_due (OfId terms.WholeText id) = chunk_size
most_due (OfId terms.Header id) = chunk_size
most_due (OfId terms.BodyLines id) = chunk_size
most_due (OfId terms.OverviewLine id) = chunk_size
most_due OfToken = chunk_size

-- the most octets of the reply that may come of the next block: where it is the last, all that is
-- gathered then is shown
abbrev pub most_said : Asked → Token → (had gathered : ℕ) → ℕ
most_said asked token had gathered =
    if had + 1 == turns_of asked token
    then reply_room + stuffed_room (gathered + most_due asked)
    else reply_room

-- there is room for the next block and for what is said of it
pub record HasRoom (asked : Asked) (token : Token) (had : ℕ) (gathered room : Vec ℕ) : Type 0 where
  pub block : vec_len gathered + most_due asked ≤ vec_capacity gathered
  pub reply : most_said asked token had (vec_len gathered) ≤ vec_capacity room

-- a fetch has Turns to come, it has gathered no more than the blocks of its Turns hold, its reply
-- isn't begun, and where it says that memory is there, so it is; it has taken room for twice the
-- blocks that were found and one more, and for its reply no more than may be said after the next:
-- what a token says of its length takes none
pub record IsReading (asked : Asked) (token : Token) (had : ℕ) (gathered room : Vec ℕ)
    (prepared : Bool) : Type 0 where
  pub turns : had < turns_of asked token
  pub short : vec_len gathered ≤ chunk_size * had
  pub unsaid : room.items ≡ []
  pub held : vec_capacity gathered ≤ chunk_size * (2 * had + 1)
  pub reserved : vec_capacity room ≤ most_said asked token had (vec_len gathered)
  pub ready : prepared ≡ true → HasRoom asked token had gathered room
