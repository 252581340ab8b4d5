-- What the step of what is shared does that a Turn takes.
use Rattle.std.specs.Prelude.{◌≡◌, ◌≢◌, ℕ, ◌<◌, Bool, false, All, List, length, Option}
use Rattle.std.specs.Prelude.{None, Some, Result, Ok, Err}
use Rattle.std.specs.declared.alloc.AllocError.{AllocError}
use Rattle.article_verdict.specs.Config.{terms_of}
use Rattle.cyc_block.specs.declared.store.BlockStore.{Ghosts}
use Rattle.feed_queue.specs.declared.desk.Taken.{Taken}
use Rattle.peer_session.specs.Answers.{IsAnswerTo, IsStepOf, handed}
use Rattle.peer_session.specs.Planning.{Planned}
use Rattle.peer_session.specs.declared.steps.Answer.{Answer}
use Rattle.peer_session.specs.declared.steps.Answer.TheVariants as answers
use Rattle.peer_session.specs.declared.steps.Outcome.{Outcome}
use Rattle.peer_session.specs.declared.steps.Step.{Step}
use Rattle.peer_session.specs.declared.steps.Step.TheVariants as steps
use Rattle.relay_model.specs.Asks as asks
use Rattle.relay_model.specs.Invariants.{IsKeptRight}
use Rattle.relay_model.specs.Asks.{Ask, Due}
use Rattle.relay_model.specs.Shares as shares
use Rattle.relay_model.specs.Shares.{Shares}
use Rattle.relay_model.specs.State as model
use Rattle.relay_model.specs.Terms.{Terms}
use Rattle.relay_model.specs.World.{World}
use Rattle.relay_core.specs.declared.peers.Peer.{Peer}
use Rattle.relay_core.specs.Agreement.{AgreesBut, IsFront, SlotIs}
use Rattle.relay_core.specs.declared.system.System.{System}
use Rattle.block_shelf.specs.Leaving.{Trust, honestly}

-- the configuration stays, and there are as many group writers
pub record KeepsFrame {S : Type 0} {g : Ghosts S} (old new : System S g) : Type 0 where
  pub config : new.config ≡ old.config
  pub group_writers : length new.group_writers.items ≡ length old.group_writers.items

-- what is asked can be done here: a job's group and a feed are there; a fetch goes on from what it
-- has gathered, and all that is whole is an article
abbrev pub AskFits : Terms → World → Ask → List ℕ → Type 0
AskFits w x (asks.Pushes job) gathered = job.article.group < length w.groups
AskFits w x (asks.TakesQueue feed most) gathered = feed < length w.feeds
AskFits w x (asks.Reads asked token had) gathered =
    IsFront x.state.kept token had gathered × All IsKeptRight x.state.kept
AskFits w x asks.Rests gathered = Unit {0}
AskFits w x asks.GoesOn gathered = Unit {0}
AskFits w x (asks.Says reply) gathered = Unit {0}
AskFits w x (asks.Leaves reply) gathered = Unit {0}
AskFits w x asks.Ends gathered = Unit {0}
AskFits w x (asks.Offers transfer id) gathered = Unit {0}
AskFits w x (asks.Looks part id) gathered = Unit {0}
AskFits w x (asks.Refuses transfer id reason) gathered = Unit {0}
AskFits w x (asks.Takes transfer id article) gathered = Unit {0}
AskFits w x (asks.LooksInSlot transfer id) gathered = Unit {0}
AskFits w x (asks.Releases id) gathered = Unit {0}

-- the step is done, and answered as the definitions say
pub record Gives {S : Type 0} {g : Ghosts S} (leaving : Bool) (w : Terms) (n now : ℕ) (ask : Ask)
    (gathered : List ℕ) (x : World) (answer : Answer) (new : System S g) (slot : Option Outcome)
    : Type 0 where
  pub told : shares.Answer
  pub between : World
  pub shares : Shares w x n now ask told between
  pub answers : IsAnswerTo ask gathered answer told
  pub agrees : AgreesBut (honestly leaving) w n new between
  pub slot_is : SlotIs slot (between.work.slot n)

-- What `share` does, in whatever world the code agrees with but for the peer of session n: where
-- memory is there, the step that was planned.
abbrev pub SharesStep : {S : Type 0} {g : Ghosts S} → (n now : ℕ) → Step → (old : System S g)
    → Peer → Answer → (new : System S g) → Peer → Type 0
SharesStep n now step old peer answer new peer' =
    (leaving : Bool) (x : World) (m : model.Session) (d : Due) (gathered : List ℕ)
    → AgreesBut (honestly leaving) (terms_of old.config) n old x → SlotIs peer.slot (x.work.slot n)
    → AskFits (terms_of old.config) x d.ask gathered
    → Planned (terms_of old.config) peer.session m d gathered false → IsStepOf step d.ask
    → answer ≢ answers.Memory
    → Gives leaving (terms_of old.config) n now d.ask gathered x answer new peer'.slot
    × Planned (terms_of old.config) peer'.session m d gathered (handed answer)

-- the steps that take memory
abbrev pub WantsMemory : Step → Type 0
WantsMemory steps.Nothing = ⊥
WantsMemory (steps.Offer id) = Unit {0}
WantsMemory (steps.Look id) = ⊥
WantsMemory (steps.Read token k) = ⊥
WantsMemory (steps.TakeQueue feed most) = Unit {0}
WantsMemory (steps.Refuse id reason) = Unit {0}
WantsMemory (steps.Take id) = Unit {0}
WantsMemory (steps.Push group) = ⊥
WantsMemory steps.Slot = ⊥
WantsMemory (steps.Release id) = ⊥

-- what a session is answered where tokens were taken of a ring; a feed that isn't there has none
abbrev pub queue_answer : Result (Option Taken) AllocError → Answer
queue_answer (Ok (Some taken)) = answers.Queue taken
queue_answer (Ok None) = answers.Nothing
queue_answer (Err error) = answers.Memory

-- nothing that anybody can see has changed, and the peer is as it was
pub record LeavesAll {S : Type 0} {g : Ghosts S} (n : ℕ) (old : System S g) (peer : Peer)
    (new : System S g) (peer' : Peer)
    : Type 0 where
  pub agrees : (trusted : Trust) (w : Terms) (x : World) → AgreesBut trusted w n old x
      → AgreesBut trusted w n new x
  pub same_peer : peer' ≡ peer
