-- What is left of a feed whose ring is of another size than before (docs/FORMATS.md, Names file).
use Rattle.std.specs.Prelude.{ℕ, ◌-◌, ◌==◌, Bool, List, [], length, min, drop, if◌then◌else◌}
use Rattle.std.specs.Prelude.{Option, None, Some}
use Rattle.id_history.specs.History.{KeptFeed}
use Rattle.news_terms.specs.Token.{Token}

-- a ring of this size holds what waits as it is: all that isn't past taking, or as many as fit
abbrev pub is_fit : (ring : ℕ) → KeptFeed → Bool
is_fit ring feed = length feed.waiting == min ring (feed.gained - feed.passed)

-- the newest of the tokens, as many as the ring has room for; all where there are fewer
abbrev pub newest : (ring : ℕ) → List Token → List Token
newest ring tokens = drop (length tokens - ring) tokens

-- these tokens alone wait, and all others that the feed gained are past taking
abbrev pub waiting_alone : List Token → KeptFeed → KeptFeed
waiting_alone tokens feed =
    record feed { passed = feed.gained - length tokens; waiting = tokens }

-- what is left of the feed, with a ring of this size
abbrev pub fitted : (ring : ℕ) → KeptFeed → KeptFeed
fitted ring feed =
    if is_fit ring feed then feed else waiting_alone (newest ring feed.waiting) feed

-- a feed that gained nothing
abbrev pub new_feed : KeptFeed
new_feed = record { gained = 0; passed = 0; taken = 0; waiting = [] }

-- a feed with a ring of this size, of which this is kept, if anything is
abbrev pub feed_by : (ring : ℕ) → (kept : Option KeptFeed) → KeptFeed
feed_by ring None = new_feed
feed_by ring (Some feed) = fitted ring feed
