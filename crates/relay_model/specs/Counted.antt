-- How many articles were begun, stored, accepted and gained, in every world of a run: no more were
-- accepted than begun, nor than are whole, and no feed gained more than were accepted
-- (docs/PROTOCOL.md, Store and Rings). All that is begun is in a cycle that a token has room for,
-- so these numbers have a bound.
use Rattle.std.specs.Prelude.{◌≡◌, ℕ, zero, suc, ◌+◌, ◌≤◌, length, All, slice_get, Some}
use Rattle.news_terms.specs.Places.{Group, Extent, last_cycle}
use Rattle.relay_model.specs.State.{State}
use Rattle.relay_model.specs.Terms.{Terms}
use Rattle.relay_model.specs.World.{World, Writer, Idle, Popped, Writing, Finished, Failed, Settled}
use Rattle.relay_model.specs.World.{Forgotten}

-- the articles of a writer that are begun or whole, and so may be accepted yet: one or none
abbrev pub to_settle : Writer → ℕ
to_settle Idle = 0
to_settle (Popped job) = 0
to_settle (Writing job token written) = 1
to_settle (Finished job token) = 1
to_settle (Failed job open_one) = 0
to_settle (Settled session) = 0
to_settle (Forgotten session) = 0

-- the articles of a writer that are whole, and so to be accepted yet: one or none
abbrev pub to_accept : Writer → ℕ
to_accept Idle = 0
to_accept (Popped job) = 0
to_accept (Writing job token written) = 0
to_accept (Finished job token) = 1
to_accept (Failed job open_one) = 0
to_accept (Settled session) = 0
to_accept (Forgotten session) = 0

-- the sum of f over the numbers below n
abbrev pub sum_below : (ℕ → ℕ) → ℕ → ℕ
sum_below f zero = 0
sum_below f (suc n) = sum_below f n + f n

-- how many articles all groups began
abbrev pub all_begun : Terms → State → ℕ
all_begun w σ = sum_below (λ g. length (σ.begun g).articles) (length w.groups)

-- how many articles the writers of all groups have that may be accepted yet
abbrev pub all_to_settle : Terms → World → ℕ
all_to_settle w x = sum_below (λ g. to_settle (x.work.writer g)) (length w.groups)

-- how many articles the writers of all groups have that are to be accepted yet
abbrev pub all_to_accept : Terms → World → ℕ
all_to_accept w x = sum_below (λ g. to_accept (x.work.writer g)) (length w.groups)

-- the article is in a cycle that a token has room for
abbrev pub IsInTime : Extent → Type 0
IsInTime one = one.place.cycle ≤ last_cycle

-- each article begun is in time; the tokens accepted, with the articles that may be accepted yet,
-- are at most as many as the articles begun, and with those that are to be accepted yet at most as
-- many as the texts that are whole; and each feed gained at most as many tokens as were accepted
pub record IsCounted (w : Terms) (x : World) : Type 0 where
  pub in_time : (g : ℕ) (group : Group) → slice_get w.groups g ≡ Some group
      → All IsInTime (x.state.begun g).articles
  pub settled : length x.state.accepted + all_to_settle w x ≤ all_begun w x.state
  pub stored : length x.state.accepted + all_to_accept w x ≤ length x.state.kept
  pub gained : (f : ℕ) → length (x.state.feed f).gained ≤ length x.state.accepted
