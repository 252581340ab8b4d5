-- What the laws of forgetting and of a Restart speak of (docs/PROTOCOL.md, Forgetting, Clean stop
-- and start).
use Rattle.std.specs.Prelude.{◌≡◌, ◌≢◌, ℕ, ◌+◌, ◌≤◌, List, [], All, length, slice_get, Option, None}
use Rattle.std.specs.Prelude.{Some}
use Rattle.news_terms.specs.Places.{Buffer, IsGone, on_line}
use Rattle.news_terms.specs.Token.{Token}
use Rattle.relay_model.specs.Claims.{Claim, Unknown, Offered, Storing, Stored, Refused, Passed}
use Rattle.relay_model.specs.Fetches.{front_of}
use Rattle.relay_model.specs.Run.{Event, Expire, Step, shard_of}
use Rattle.relay_model.specs.State.{State}
use Rattle.relay_model.specs.Terms.{Terms}
use Rattle.relay_model.specs.World.{World, Output, Work, Expirer, Reading, Forgetting, Idle}
use Rattle.relay_model.specs.Fetches.{IsGoneToken}

-- what was begun, stored, gained and accepted stays, and so does the number of the newest session
pub record KeepsStore (σ τ : State) : Type 0 where
  pub begun : τ.begun ≡ σ.begun
  pub kept : τ.kept ≡ σ.kept
  pub feed : τ.feed ≡ σ.feed
  pub accepted : τ.accepted ≡ σ.accepted
  pub newest : τ.newest ≡ σ.newest

-- nobody has anything to do
pub record IsAtRest (work : Work) : Type 0 where
  pub queue : (g : ℕ) → work.queue g ≡ []
  pub writer : (g : ℕ) → work.writer g ≡ Idle
  pub slot : (s : ℕ) → work.slot s ≡ None
  pub expirer : work.expirer ≡ Reading []

-- the moment at which a remembered id was stored or refused
abbrev pub remembered_at : Claim → Option ℕ
remembered_at Unknown = None
remembered_at (Offered session since) = None
remembered_at (Storing session article stage) = None
remembered_at (Stored token moment) = Some moment
remembered_at (Refused moment) = Some moment

-- the event is an Expire of the id's shard, and what was remembered at this moment is old enough
-- then
pub record ForgetsOld (w : Terms) (id : List ℕ) (moment : ℕ) (event : Event) : Type 0 where
  pub shard : ℕ
  pub now : ℕ
  pub remember : ℕ
  pub is : event ≡ Expire shard now
  pub own : shard_of id ≡ shard
  pub asked : w.remember ≡ Some remember
  pub old : moment + remember ≤ now

-- a front that was read is of a buffer, with its blocks, and the buffer's front is there or past it
pub record IsReadFront (w : Terms) (σ : State) (one : Passed) : Type 0 where
  pub index : ℕ
  pub buffer : Buffer
  pub there : slice_get w.buffers index ≡ Some buffer
  pub number : one.buffer ≡ buffer.number
  pub blocks : one.blocks ≡ buffer.blocks
  pub past : one.front ≤ front_of w σ buffer

-- the fronts that the expirer has read
abbrev pub fronts_read : Expirer → List Passed
fronts_read (Reading fronts) = fronts
fronts_read (Forgetting fronts left) = fronts

-- each front that the expirer has read is of a buffer, and the buffer's front is there or past it
abbrev pub FrontsAreRead : Terms → World → Type 0
FrontsAreRead w x = All (IsReadFront w x.state) (fronts_read x.work.expirer)

-- what a next step forgets of what is stored is gone
abbrev pub ForgetsGone : Terms → World → Type 0
ForgetsGone w x =
    (event : Event) (output : Output) (y : World) (id : List ℕ) (token : Token) (moment : ℕ)
    → Step w x event output y → x.state.claim id ≡ Stored token moment
    → y.state.claim id ≢ Stored token moment → IsGoneToken w x.state token

-- each front that the expirer has read is that of the buffer at its place among all buffers
pub record IsInOrder (w : Terms) (fronts : List Passed) : Type 0 where
  pub each : (i : ℕ) (one : Passed) → slice_get fronts i ≡ Some one
      → (buffer : Buffer) × (slice_get w.buffers i ≡ Some buffer) × (one.buffer ≡ buffer.number)

-- the fronts are read in the order of the buffers, and once ids are forgotten that of each is read
abbrev pub IsReadInOrder : Terms → Expirer → Type 0
IsReadInOrder w (Reading fronts) = IsInOrder w fronts
IsReadInOrder w (Forgetting fronts left) =
    IsInOrder w fronts × (length w.buffers ≤ length fronts)

-- so is the expirer of this world
abbrev pub FrontsInOrder : Terms → World → Type 0
FrontsInOrder w x = IsReadInOrder w x.work.expirer

-- a front that was read of the token's buffer has passed what lies under the token
pub record IsGoneByRead (fronts : List Passed) (token : Token) : Type 0 where
  pub index : ℕ
  pub one : Passed
  pub read : slice_get fronts index ≡ Some one
  pub own : one.buffer ≡ token.buffer
  pub gone : IsGone one.blocks one.front (on_line one.blocks token.cycle token.first)

-- what is remembered so long that it may be forgotten now: what was refused; and what was stored
-- and is gone by a front that was read
abbrev pub IsPast : (now remember : ℕ) → List Passed → Claim → Type 0
IsPast now remember fronts Unknown = ⊥
IsPast now remember fronts (Offered session since) = ⊥
IsPast now remember fronts (Storing session article stage) = ⊥
IsPast now remember fronts (Stored token moment) =
    (moment + remember ≤ now) × IsGoneByRead fronts token
IsPast now remember fronts (Refused moment) = moment + remember ≤ now

-- an Expire of this shard at this moment may forget the id: it is set after how long ids are
-- forgotten, the id is of the shard, and its claim is remembered so long
pub record IsForgettable (w : Terms) (x : World) (shard now : ℕ) (id : List ℕ) : Type 0 where
  pub remember : ℕ
  pub asked : w.remember ≡ Some remember
  pub own : shard_of id ≡ shard
  pub past : IsPast now remember (fronts_read x.work.expirer) (x.state.claim id)
