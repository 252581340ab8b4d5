-- Why a post isn't put behind all others (docs/PROTOCOL.md, Threads).
use Rattle.std.specs.Prelude.{◌≡◌, ◌≢◌, ◌≤◌, ◌⊎◌, ◌^◌, ℕ, length}
use Rattle.post_history.specs.Posts.{count_of}
use Rattle.post_history.specs.Rules.{IsLonger}
use Rattle.post_history.specs.declared.book.Naming.{Ghosts}
use Rattle.post_history.specs.declared.desk.AllPosts.{AllPosts}
use Rattle.post_history.specs.declared.desk.ShardPosts.{ShardPosts}
use Rattle.post_history.specs.declared.desk.Unposted.{Unposted}
use Rattle.post_history.specs.declared.desk.Unposted.TheVariants as unposted

-- A post of an id of the shard of this number isn't put behind these, for this shard: it is another
-- shard, there are as many posts as there can be, one of both doesn't know as many posts of the
-- shard's ids as the other, or the history goes on behind these, as was seen of it.
abbrev pub IsUnposted : {J : Type 0} {g : Ghosts J} → AllPosts J g → ShardPosts J g → (number : ℕ)
    → Unposted J → Type 0
IsUnposted all own number unposted.Other = number ≢ own.number
IsUnposted all own number unposted.Full = (2 ^ 62 ≤ own.settled) ⊎ (2 ^ 62 ≤ length all.history)
IsUnposted all own number unposted.Apart =
    count_of own.number own.history ≢ count_of own.number all.history
IsUnposted all own number (unposted.Longer history) = IsLonger all.history history
