-- What the relay is set up with (docs/FORMATS.md, Configuration), and its limits
-- (docs/PROTOCOL.md, Limits).
use Rattle.std.specs.Prelude.{ℕ, ℤ, List, Option}
use Rattle.news_terms.specs.Places.{Buffer, Group}
use Rattle.news_terms.specs.Pattern.{Marked}
use Rattle.news_terms.specs.StorageClass.{Entry}
use Rattle.relay_model.specs.HashFeeds.{HashFeed}

-- why an article is refused, in the order of trial (docs/PROTOCOL.md, Judging)
pub data Reason : Type 0 where
  Size Grammar IdMismatch BadPath Loop Date NoClass TooLarge : Reason

-- a feed: its peer, how many tokens its ring holds, the newsgroups that it may have, and the part of
-- the articles that it may have, where not all
pub record FeedTerms : Type 0 where
  pub peer : ℕ
  pub ring : ℕ
  pub expression : List Marked
  pub hash : Option HashFeed

-- what the relay is set up with
pub record Terms : Type 0 where
  -- the own identity, and that of each peer
  pub own : List ℕ
  pub peers : List (List ℕ)
  -- the octets of the text of a block, at most
  pub max_article : ℕ
  -- how many seconds old an article may be
  pub cutoff : ℕ
  -- after how many seconds an id may be forgotten, if ever
  pub remember : Option ℕ
  -- after how many seconds an offer runs out, if ever
  pub offers : Option ℕ
  pub buffers : List Buffer
  pub groups : List Group
  pub entries : List Entry
  pub feeds : List FeedTerms
  -- the second that a date reads as, once its content is prepared (docs/FORMATS.md, Dates): what
  -- the reader of RFC 5322 dates says
  pub second_read : List ℕ → Option ℤ

-- the jobs that a group's queue has room for
abbrev pub queue_limit : ℕ
queue_limit = 64

-- the offers that a session may have open
abbrev pub offer_limit : ℕ
offer_limit = 256

-- the shards of the history
abbrev pub shard_count : ℕ
shard_count = 16

-- the last moment that there is, in seconds: the end of the year 9998 in UTC
abbrev pub last_moment : ℕ
last_moment = 253370764799
