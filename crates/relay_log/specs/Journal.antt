-- A relay's journal and its octets, relay.log (docs/FORMATS.md, Journal file).
use Rattle.std.specs.Prelude.{◌≡◌, ℕ, ◌≤◌, ◌<◌, ◌^◌, List, [], ◌∷◌, ◌++◌, length, None}
use Rattle.std.specs.Int.{to_be_bytes, w16, w32, w64}
use Rattle.std.specs.List.{flat_map}
use Rattle.news_terms.specs.MessageId.{id_fault}
use Rattle.news_terms.specs.Token.{Token, IsToken, token_octets}
use Rattle.relay_model.specs.Terms.{last_moment}
use Rattle.relay_log.specs.Check.{check}

-- what a relay did that its buffers don't tell after a crash
pub data Entry : Type 0 where
  -- it refused an article
  Refused : (id : List ℕ) (moment : ℕ) → Entry
  -- it stored an article under this token
  Stored : (id : List ℕ) (moment : ℕ) (token : Token) → Entry
  -- the peer of a feed took tokens: how many the feed had gained then, how many of them were past
  -- taking, and how many were taken
  Taken : (feed gained passed taken : ℕ) → Entry

-- a journal as it is read: the number of the stop that it begins after, its entries, and how many
-- octets they and the front have
pub record Journal : Type 0 where
  pub stop : ℕ
  pub entries : List Entry
  pub octets : ℕ

-- what an entry says: its kind, and what the kind has
abbrev pub said_octets : Entry → List ℕ
said_octets (Refused id moment) = 1 ∷ to_be_bytes w64 moment ++ id
said_octets (Stored id moment token) =
    2 ∷ to_be_bytes w64 moment ++ (token_octets token ++ id)
said_octets (Taken feed gained passed taken) =
    3 ∷ to_be_bytes w16 feed
    ++ (to_be_bytes w64 gained ++ (to_be_bytes w64 passed ++ to_be_bytes w64 taken))

-- octets after their number
abbrev pub counted_octets : List ℕ → List ℕ
counted_octets said = to_be_bytes w16 (length said) ++ said

-- octets after their number, with a check behind them
abbrev pub checked_octets : List ℕ → List ℕ
checked_octets said = counted_octets said ++ to_be_bytes w32 (check (counted_octets said))

-- an entry: what it says, after its number of octets and before their check
abbrev pub entry_octets : Entry → List ℕ
entry_octets entry = checked_octets (said_octets entry)

-- `CNL1`
abbrev pub mark : List ℕ
mark = 67 ∷ 78 ∷ 76 ∷ 49 ∷ []

-- the front: the mark, and the number of the stop that the journal begins after
abbrev pub front_octets : ℕ → List ℕ
front_octets stop = mark ++ to_be_bytes w64 stop

-- the text: the front, and the entries one behind the other
abbrev pub journal_octets : ℕ → List Entry → List ℕ
journal_octets stop entries = front_octets stop ++ flat_map entry_octets entries

-- a message-id and a moment that an entry can have
pub record IsDated (id : List ℕ) (moment : ℕ) : Type 0 where
  pub no_fault : id_fault id ≡ None
  pub there : moment ≤ last_moment

-- the numbers of a take have room in an entry
pub record IsCounted (feed gained passed taken : ℕ) : Type 0 where
  pub feed_fits : feed < 2 ^ 16
  pub gained_fits : gained < 2 ^ 64
  pub passed_fits : passed < 2 ^ 64
  pub taken_fits : taken < 2 ^ 64

-- an entry can have this: its id is a message-id, its moment one that there is, and each number has
-- room
abbrev pub IsEntry : Entry → Type 0
IsEntry (Refused id moment) = IsDated id moment
IsEntry (Stored id moment token) = IsDated id moment × IsToken token
IsEntry (Taken feed gained passed taken) = IsCounted feed gained passed taken

-- the moment of an entry that has one is one that there is
abbrev pub HasMoment : Entry → Type 0
HasMoment (Refused id moment) = moment ≤ last_moment
HasMoment (Stored id moment token) = moment ≤ last_moment
HasMoment (Taken feed gained passed taken) = Unit {0}

-- octets begin with an entry
pub record BeginsWithEntry (octets : List ℕ) : Type 0 where
  pub entry : Entry
  pub rest : List ℕ
  pub is : IsEntry entry
  pub parts : octets ≡ entry_octets entry ++ rest

-- a text begins as a journal
pub record HasFront (text : List ℕ) : Type 0 where
  pub stop : ℕ
  pub rest : List ℕ
  pub fits : stop < 2 ^ 64
  pub parts : text ≡ front_octets stop ++ rest
