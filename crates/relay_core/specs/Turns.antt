-- What a Turn does with its session's peer taken out.
use Rattle.std.specs.Prelude.{◌≡◌, ◌≢◌, ℕ, Bool, true, false, List, Option, Some}
use Rattle.article_verdict.specs.Config.{terms_of}
use Rattle.cyc_block.specs.declared.store.BlockStore.{Ghosts}
use Rattle.peer_session.specs.Answers.{IsAnswerTo, handed, reason_in}
use Rattle.peer_session.specs.Hearing.{Forgets, Gathers}
use Rattle.peer_session.specs.Planning.{Planned}
use Rattle.peer_session.specs.Session.{Stands, session_view}
use Rattle.peer_session.specs.declared.session.Session.{Session}
use Rattle.peer_session.specs.declared.steps.Answer.{Answer}
use Rattle.peer_session.specs.declared.steps.Answer.TheVariants as answers
use Rattle.peer_session.specs.declared.steps.Step.{Step}
use Rattle.relay_model.specs.Asks.{Due, reason_of}
use Rattle.relay_model.specs.Hears.{Heard, Hears}
use Rattle.relay_model.specs.Invariants.{IsWell}
use Rattle.relay_model.specs.Run.{Turns, is_running}
use Rattle.relay_model.specs.Shares as shares
use Rattle.relay_model.specs.State as model
use Rattle.relay_model.specs.Terms.{Terms, Reason}
use Rattle.relay_model.specs.World.{Fault, Refuses, World, with_session, output_of}
use Rattle.relay_core.specs.Peers.{ClosesPeer, GivesPeer}
use Rattle.relay_core.specs.declared.peers.Peer.{Peer}
use Rattle.relay_core.specs.declared.peers.Peers.{Peers}
use Rattle.relay_core.specs.Agreement.{AgreesBut, PeerStands}
use Rattle.relay_core.specs.Sharing.{KeepsFrame, LeavesAll, SharesStep}
use Rattle.relay_core.specs.Views.{output_view}
use Rattle.relay_core.specs.declared.event.CoreError.TheVariants as faults
use Rattle.relay_core.specs.declared.event.Output.{Output}
use Rattle.relay_core.specs.declared.event.Output.TheVariants as outputs
use Rattle.relay_core.specs.declared.system.System.{System}
use Rattle.block_shelf.specs.Leaving.{Trust, honestly}

-- the session heard the answer as the definitions say, and what it says is the output
pub record Voiced (w : Terms) (n : ℕ) (d : Due) (told : shares.Answer) (output : Output)
    (new : Session)
    : Type 0 where
  pub heard : Heard
  pub later : List ℕ
  pub hears : Hears n d.after d.ask told heard
  pub output_is : output_view output ≡ output_of n heard.said (reason_of d.ask)
  pub stands : Stands w new heard.session later
  pub gathers : Gathers d.ask told heard.session.phase later

-- the session heard an answer that isn't want of memory; an article is refused for this reason,
-- where there is one
abbrev pub HeardAs : ℕ → (why : Option Reason) → Session → Answer → Output → Session → Type 0
HeardAs n why old answer output new =
    (w : Terms) (m : model.Session) (d : Due) (gathered : List ℕ) (told : shares.Answer)
    → reason_of d.ask ≡ why → answer ≢ answers.Memory → Planned w old m d gathered (handed answer)
    → IsAnswerTo d.ask gathered answer told → Voiced w n d told output new

-- want of memory is told as it is, and forgets what was planned; nothing else is told so
pub record HearsMemory (old : Session) (answer : Answer) (output : Output) (new : Session)
    : Type 0 where
  pub told : answer ≡ answers.Memory → output ≡ outputs.Refused faults.Memory
  pub forgets : answer ≡ answers.Memory → Forgets old new
  pub only : (fault : Fault) → output_view output ≡ Refuses fault → answer ≡ answers.Memory

-- the step that the session of a peer planned is done, and the session heard what it is answered
pub record StepTaken {S : Type 0} {g : Ghosts S} (n now : ℕ) (step : Step) (old : System S g)
    (peer : Peer) (output : Output) (new : System S g) (peer' : Peer)
    : Type 0 where
  pub answer : Answer
  pub between : Peer
  pub shared : SharesStep n now step old peer answer new between
  pub left : answer ≡ answers.Memory → LeavesAll n old peer new between
  pub heard : HeardAs n (reason_in step) between.session answer output peer'.session
  pub memory : HearsMemory between.session answer output peer'.session
  pub same_slot : peer'.slot ≡ between.slot
  pub frame : KeepsFrame old new
  pub peers : new.peers ≡ old.peers

-- no other refusal is answered than want of memory
abbrev pub IsMemoryAlone : Output → Type 0
IsMemoryAlone output =
    (fault : Fault) → output_view output ≡ Refuses fault
    → output ≡ outputs.Refused faults.Memory

-- a Turn was had: the world after it, but for the session, and what the session became
pub record HasTurned {S : Type 0} {g : Ghosts S} (leaving : Bool) (w : Terms) (n now : ℕ)
    (x : World)
    (output : Output) (new : System S g) (peer : Peer)
    : Type 0 where
  pub between : World
  pub session : model.Session
  pub turns : Turns w x n now (output_view output) (with_session between n session)
  pub agrees : AgreesBut (honestly leaving) w n new between
  pub stands : PeerStands true w between.state.kept peer session (between.work.slot n)

-- what `serve` does, in whatever world the code agrees with but for the peer of session n, which
-- stands for the session
abbrev pub Serves : {S : Type 0} {g : Ghosts S} → (n now : ℕ) → (old : System S g) → Peer
    → Output → (new : System S g) → Peer → Type 0
Serves n now old peer output new peer' =
    (leaving : Bool) (x : World) (m : model.Session)
    → AgreesBut (honestly leaving) (terms_of old.config) n old x
    → x.state.session n ≡ Some m
    → PeerStands true (terms_of old.config) x.state.kept peer m (x.work.slot n)
    → IsWell (terms_of old.config) x → output ≢ outputs.Refused faults.Memory
    → HasTurned leaving (terms_of old.config) n now x output new peer'

-- nothing that anybody can see has changed: the peer stands for what it stood for
pub record StandsStill {S : Type 0} {g : Ghosts S} (n : ℕ) (old : System S g) (peer : Peer)
    (new : System S g) (peer' : Peer)
    : Type 0 where
  pub agrees : (trusted : Trust) (w : Terms) (x : World) → AgreesBut trusted w n old x
      → AgreesBut trusted w n new x
  pub stands : (m : model.Session) (gathered : List ℕ)
      → Stands (terms_of old.config) peer.session m gathered
      → Stands (terms_of old.config) peer'.session m gathered
  pub slot : peer'.slot ≡ peer.slot

-- a peer whose session runs is put back; one whose session doesn't is let go
abbrev pub PutsBack : (runs : Bool) → ℕ → Peer → (old new : Peers) → Type 0
PutsBack true n peer old new = GivesPeer n peer old new
PutsBack false n peer old new = ClosesPeer n old new

-- a peer that runs is put back, or it was closed and is let go
pub data TakesBack (n : ℕ) (peer : Peer) (old new : Peers) : Type 0 where
  IsBack : is_running (session_view peer.session).phase ≡ true → GivesPeer n peer old new
      → TakesBack n peer old new
  IsLetGo : is_running (session_view peer.session).phase ≡ false → ClosesPeer n old new
      → TakesBack n peer old new
