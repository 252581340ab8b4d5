-- What a take gives, and what is counted (docs/PROTOCOL.md, Rings).
use Rattle.std.specs.Prelude.{◌≡◌, ℕ, length, map}
use Rattle.cyc_token.specs.Token.{token_view}
use Rattle.cyc_token.specs.declared.Token as tokens
use Rattle.feed_queue.specs.declared.desk.Counts.{Counts}
use Rattle.feed_queue.specs.declared.desk.Taken.{Taken}
use Rattle.news_terms.specs.Ring as terms
use Rattle.news_terms.specs.Token.{Token}
use Rattle.relay_model.specs.Shares.{as_ring}
use Rattle.relay_model.specs.State.{Feed}

-- a token with its number, as the definitions have it
abbrev pub item_view : ℕ × tokens.Token → ℕ × Token
item_view item = (item.0, token_view item.1)

-- it is what a take of at most so many gives, of a feed whose ring has this size
pub record IsTaken (taken : Taken) (size most : ℕ) (feed : Feed) : Type 0 where
  pub missed : taken.missed ≡ terms.missed size (as_ring feed)
  pub items : map item_view taken.items.items ≡ terms.taken_items size most (as_ring feed)

-- they are the counts of a feed whose ring has this size
pub record AreCounts (counts : Counts) (size : ℕ) (feed : Feed) : Type 0 where
  pub gained : counts.gained ≡ length feed.gained
  pub passed : counts.passed ≡ feed.passed
  pub taken : counts.taken ≡ feed.taken
  pub waiting : counts.waiting ≡ length (terms.ring size (as_ring feed))
