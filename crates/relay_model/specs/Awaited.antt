-- What is on its way from or to a session: its article is being stored, or a writer is to tell it
-- the outcome, or the outcome is in its slot. There are never two of these, and where the session
-- waits there is one (docs/PROTOCOL.md, Handing over and waiting).
use Rattle.std.specs.Prelude.{◌≡◌, ℕ, List, Option, None, Some}
use Rattle.relay_model.specs.Claims.{Accepted, Storing, Stage}
use Rattle.relay_model.specs.State.{Session, Phase, Ready, AwaitsBlock, Holds, Waits, Fetches}
use Rattle.relay_model.specs.State.{Leaving}
use Rattle.relay_model.specs.State.{Ended}
use Rattle.relay_model.specs.World.{World, Outcome, Writer, Idle, Popped, Writing, Finished, Failed}
use Rattle.relay_model.specs.World.{Settled, Forgotten}

-- the session that a writer is to tell the outcome
abbrev pub told_by : Writer → Option ℕ
told_by Idle = None
told_by (Popped job) = None
told_by (Writing job token written) = None
told_by (Finished job token) = None
told_by (Failed job open_one) = None
told_by (Settled session) = Some session
told_by (Forgotten session) = Some session

-- an article of this id is being stored for the session
pub record IsStoredFor (x : World) (s : ℕ) (id : List ℕ) : Type 0 where
  pub article : Accepted
  pub stage : Stage
  pub claimed : x.state.claim id ≡ Storing s article stage

-- nothing is on its way from or to the session
pub record IsFree (x : World) (s : ℕ) : Type 0 where
  pub stores : (id : List ℕ) → IsStoredFor x s id → ⊥
  pub told : (g : ℕ) → told_by (x.work.writer g) ≡ Some s → ⊥
  pub slot : x.work.slot s ≡ None

-- what is on its way from or to the session: one of these
pub data Errand (x : World) (s : ℕ) : Type 0 where
  -- nothing
  NoErrand : IsFree x s → Errand x s
  -- its article is being stored
  BeingStored : (id : List ℕ) → IsStoredFor x s id
      → ((other : List ℕ) → IsStoredFor x s other → other ≡ id)
      → ((g : ℕ) → told_by (x.work.writer g) ≡ Some s → ⊥) → x.work.slot s ≡ None → Errand x s
  -- a writer is to tell it the outcome
  ToBeTold : (g : ℕ) → told_by (x.work.writer g) ≡ Some s
      → ((h : ℕ) → told_by (x.work.writer h) ≡ Some s → h ≡ g)
      → ((id : List ℕ) → IsStoredFor x s id → ⊥) → x.work.slot s ≡ None → Errand x s
  -- the outcome is in its slot
  IsInSlot : (outcome : Outcome) → x.work.slot s ≡ Some outcome
      → ((id : List ℕ) → IsStoredFor x s id → ⊥)
      → ((g : ℕ) → told_by (x.work.writer g) ≡ Some s → ⊥) → Errand x s

-- something is on its way, and what is being stored is of this id
pub record WaitsFor (x : World) (s : ℕ) (id : List ℕ) : Type 0 where
  pub errand : Errand x s
  pub some : IsFree x s → ⊥
  pub own : (other : List ℕ) → IsStoredFor x s other → other ≡ id

-- what is on its way from or to a session in this phase
abbrev pub Awaits : World → ℕ → Phase → Type 0
Awaits x s Ready = IsFree x s
Awaits x s (AwaitsBlock transfer id) = IsFree x s
Awaits x s (Holds id article) = IsFree x s
Awaits x s (Waits transfer id) = WaitsFor x s id
Awaits x s (Fetches asked token had) = IsFree x s
Awaits x s Leaving = Errand x s
Awaits x s Ended = Errand x s

-- each session has what its phase says on its way, and a number without a session nothing
pub record IsAwaited (x : World) : Type 0 where
  pub there : (s : ℕ) (session : Session) → x.state.session s ≡ Some session
      → Awaits x s session.phase
  pub absent : (s : ℕ) → x.state.session s ≡ None → IsFree x s
