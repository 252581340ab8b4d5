-- The session of the definitions that a session of the code stands for.
use Rattle.std.specs.Prelude.{◌≡◌, ℕ, ◌+◌, ◌≤◌, ◌++◌, length, Bool, true, false, List, [], drop}
use Rattle.std.specs.Prelude.{Option, None, Some, option_map}
use Rattle.buffer_group.specs.Jobs.{article_view, job_view}
use Rattle.buffer_group.specs.declared.job.Job.{Job}
use Rattle.news_terms.specs.Blocks.{Unfinished, next_block, stuffed_room}
use Rattle.news_terms.specs.Lines.{Incomplete, next_line}
use Rattle.relay_model.specs.Run.{new_session}
use Rattle.relay_model.specs.Asks.{run_out}
use Rattle.relay_model.specs.State as model
use Rattle.relay_model.specs.State.{OpenOffer}
use Rattle.relay_model.specs.State.{in_phase, with_unread}
use Rattle.relay_model.specs.Terms.{Terms}
use Rattle.relay_model.specs.World as world
use Rattle.stream_cut.specs.Stream.{Stream, kept_octets}
use Rattle.peer_session.specs.declared.phase.Phase.{Phase}
use Rattle.peer_session.specs.declared.phase.Phase.TheVariants as phases
use Rattle.peer_session.specs.declared.phase.Todo.TheVariants as todos
use Rattle.peer_session.specs.declared.phase.Transfer.{Transfer}
use Rattle.peer_session.specs.declared.phase.Transfer.TheVariants as transfers
use Rattle.peer_session.specs.declared.session.Session.{Session}
use Rattle.peer_session.specs.declared.steps.Outcome.{Outcome}
use Rattle.peer_session.specs.declared.steps.Outcome.TheVariants as outcomes

-- how the storing of an article ended
abbrev pub outcome_view : Outcome → world.Outcome
outcome_view outcomes.Kept = world.IsKept
outcome_view outcomes.Failed = world.HasFailed

-- how a peer sends an article
abbrev pub transfer_view : Transfer → model.Transfer
transfer_view transfers.TakesThis = model.TakesThis
transfer_view transfers.Has = model.Has

-- what a session does next
abbrev pub phase_view : Phase → model.Phase
phase_view phases.Ready = model.Ready
phase_view (phases.AwaitsBlock transfer id) = model.AwaitsBlock (transfer_view transfer) id
phase_view (phases.Holds id article room) = model.Holds id (article_view article)
phase_view (phases.Waits transfer id room) = model.Waits (transfer_view transfer) id
phase_view (phases.Fetches reading) = model.Fetches reading.asked reading.token reading.had
phase_view phases.Leaving = model.Leaving
phase_view phases.Ended = model.Ended

-- the session of the definitions
abbrev pub session_view : Session → model.Session
session_view session =
    record {
      peer = session.peer;
      unread = session.cutter.unread;
      offers = session.offers;
      phase = phase_view session.phase;
      hand = option_map job_view session.hand;
    }

-- the octets that an open fetch has gathered
abbrev pub gathered_of : Phase → List ℕ
gathered_of phases.Ready = []
gathered_of (phases.AwaitsBlock transfer id) = []
gathered_of (phases.Holds id article room) = []
gathered_of (phases.Waits transfer id room) = []
gathered_of (phases.Fetches reading) = reading.gathered
gathered_of phases.Leaving = []
gathered_of phases.Ended = []

-- where a command comes next, no unread octet was dropped
abbrev pub HasAll : Phase → (dropped : ℕ) → Type 0
HasAll phases.Ready dropped = dropped ≡ 0
HasAll (phases.AwaitsBlock transfer id) dropped = Unit {0}
HasAll (phases.Holds id article room) dropped = dropped ≡ 0
HasAll (phases.Waits transfer id room) dropped = dropped ≡ 0
HasAll (phases.Fetches reading) dropped = dropped ≡ 0
HasAll phases.Leaving dropped = Unit {0}
HasAll phases.Ended dropped = Unit {0}

-- a fetch of this phase has only begun: it has read nothing
abbrev pub HasReadNone : Phase → Type 0
HasReadNone phases.Ready = Unit {0}
HasReadNone (phases.AwaitsBlock transfer id) = Unit {0}
HasReadNone (phases.Holds id article room) = Unit {0}
HasReadNone (phases.Waits transfer id room) = Unit {0}
HasReadNone (phases.Fetches reading) = (reading.gathered ≡ []) × (reading.had ≡ 0)
HasReadNone phases.Leaving = Unit {0}
HasReadNone phases.Ended = Unit {0}

-- The session stands for that of the definitions under these terms, and has gathered these octets
-- of the text that it fetches.
pub record Stands (w : Terms) (session : Session) (m : model.Session) (gathered : List ℕ)
    : Type 0 where
  pub is : m ≡ session_view session
  pub gathers : gathered ≡ gathered_of session.phase
  pub limit : session.cutter.limit ≡ w.max_article
  pub has_all : HasAll session.phase session.cutter.dropped

-- a session that leaves pushes the job in hand, or has no open offer left
abbrev pub LeavesFree : Option Job → List OpenOffer → Type 0
LeavesFree (Some job) offers = Unit {0}
LeavesFree None offers = offers ≡ []

-- What is due is planned without memory at this moment, where offers last so long. Nothing is due:
-- a session that reads a command has no offer that has run out, and no whole line, but may still
-- get one; one that owes a block has none that is whole; or it is closed. Or it pushes the job in
-- hand, looks into its slot, reads the next block of a fetch that is prepared for it, or has
-- nothing left to give up.
abbrev pub PlansFreeIn : (lasting : Option ℕ) → (now : ℕ) → Session → Phase → Type 0
PlansFreeIn lasting now session phases.Ready =
    (run_out lasting now session.offers ≡ None) × (next_line session.cutter.unread ≡ Incomplete)
PlansFreeIn lasting now session (phases.AwaitsBlock transfer id) =
    next_block session.cutter.limit session.cutter.unread ≡ Unfinished
PlansFreeIn lasting now session (phases.Holds id article room) = ⊥
PlansFreeIn lasting now session (phases.Waits transfer id room) = Unit {0}
PlansFreeIn lasting now session (phases.Fetches reading) = reading.prepared ≡ true
PlansFreeIn lasting now session phases.Leaving = LeavesFree session.hand session.offers
PlansFreeIn lasting now session phases.Ended = Unit {0}

abbrev pub PlansFree : (lasting : Option ℕ) → (now : ℕ) → Session → Type 0
PlansFree lasting now session = PlansFreeIn lasting now session session.phase

-- where no block is whole, no more octets are kept than a block within the limit takes
abbrev pub IsBounded : Stream → Type 0
IsBounded stream =
    next_block stream.limit stream.unread ≡ Unfinished
    → length (kept_octets stream) ≤ stuffed_room stream.limit

-- the session goes on standing for what it stood for
abbrev pub StandsAsBefore : Session → Session → Type 0
StandsAsBefore old new =
    (w : Terms) (m : model.Session) (gathered : List ℕ) → Stands w old m gathered
    → Stands w new m gathered

-- it has said its last reply
abbrev pub leaves : Phase → Bool
leaves phases.Ready = false
leaves (phases.AwaitsBlock transfer id) = false
leaves (phases.Holds id article room) = false
leaves (phases.Waits transfer id room) = false
leaves (phases.Fetches reading) = false
leaves phases.Leaving = true
leaves phases.Ended = false

abbrev pub has_parted : Session → Bool
has_parted session = leaves session.phase

-- it reads a command next
abbrev pub reads_command : Phase → Bool
reads_command phases.Ready = true
reads_command (phases.AwaitsBlock transfer id) = false
reads_command (phases.Holds id article room) = false
reads_command (phases.Waits transfer id room) = false
reads_command (phases.Fetches reading) = false
reads_command phases.Leaving = false
reads_command phases.Ended = false

-- it holds an accepted article while another session stores one of its id
abbrev pub holds_article : Phase → Bool
holds_article phases.Ready = false
holds_article (phases.AwaitsBlock transfer id) = false
holds_article (phases.Holds id article room) = true
holds_article (phases.Waits transfer id room) = false
holds_article (phases.Fetches reading) = false
holds_article phases.Leaving = false
holds_article phases.Ended = false

-- nothing has come to the session, and nothing is open
abbrev pub NewStands : Terms → Session → ℕ → Type 0
NewStands w session peer = Stands w session (new_session peer) []

-- the octets came, and nothing else changed
abbrev pub Fed : Session → List ℕ → Session → Type 0
Fed old piece new =
    (w : Terms) (m : model.Session) (gathered : List ℕ) → Stands w old m gathered
    → Stands w new (with_unread m (m.unread ++ piece)) gathered

-- the session leaves, and what was gathered is let go
abbrev pub BrokenOff : Session → Session → Type 0
BrokenOff old new =
    (w : Terms) (m : model.Session) (gathered : List ℕ) → Stands w old m gathered
    → Stands w new (in_phase m model.Leaving) []

-- the session once so many of the unread octets that it keeps count as read, and those before them
abbrev pub passed : ℕ → Session → model.Session
passed read session =
    with_unread (session_view session) (drop (session.cutter.dropped + read) session.cutter.unread)

-- the session with nothing planned
abbrev pub without_plan : Session → Session
without_plan session = record session { planned = record { todo = todos.Rest; read = 0 } }
