-- What a session has planned, in the terms of the definitions.
use Rattle.std.specs.Prelude.{◌≡◌, ℕ, Bool, true, false, List, [], ◌∷◌, Option, None, Some}
use Rattle.article_fetch.specs.Fetch.{Fetch}
use Rattle.buffer_group.specs.Jobs.{article_view, job_view}
use Rattle.buffer_group.specs.declared.job.Accepted.{Accepted}
use Rattle.buffer_group.specs.declared.job.Job.{Job}
use Rattle.news_terms.specs.Reply.{Reply}
use Rattle.nntp_text.specs.Command.{part_view}
use Rattle.relay_model.specs.Asks as asks
use Rattle.relay_model.specs.Asks.{Due, IsDue, due_as, is_full, with_offer, without_offer}
use Rattle.relay_model.specs.State as model
use Rattle.relay_model.specs.State.{OpenOffer, in_phase, with_offers}
use Rattle.relay_model.specs.Terms.{Terms, Reason}
use Rattle.peer_session.specs.Answers.{AsksOf, IsStepOf}
use Rattle.peer_session.specs.Said.{IsReply}
use Rattle.peer_session.specs.Session.{HasReadNone, Stands, passed, session_view, transfer_view}
use Rattle.peer_session.specs.declared.phase.Due.{Due as CodeDue}
use Rattle.peer_session.specs.declared.phase.Phase.{Phase}
use Rattle.peer_session.specs.declared.phase.Phase.TheVariants as phases
use Rattle.peer_session.specs.declared.phase.Todo.{Todo}
use Rattle.peer_session.specs.declared.phase.Todo.TheVariants as todos
use Rattle.peer_session.specs.declared.phase.Transfer.{Transfer}
use Rattle.peer_session.specs.declared.session.Session.{Session}
use Rattle.peer_session.specs.declared.steps.Step.{Step}

-- the session where so many octets of a block count as read: the open offer of its id has ended
abbrev pub block_passed : ℕ → Session → List ℕ → model.Session
block_passed read session id =
    with_offers (in_phase (passed read session) model.Ready) (without_offer session.offers id)

-- the session where so many octets of a line count as read: the id is open since then
abbrev pub offering : ℕ → Session → List ℕ → (since : ℕ) → model.Session
offering read session id since =
    with_offers (passed read session) (with_offer session.offers id since)

-- what is due, by what is planned: the ask, and the session once what it read counts as read
abbrev pub DueIs : Todo → (read : ℕ) → Session → Due → Type 0
DueIs todos.Rest read session d = d ≡ due_as asks.Rests (session_view session)
DueIs (todos.Owe id) read session d =
    d ≡ due_as asks.GoesOn (in_phase (passed read session) (model.AwaitsBlock model.TakesThis id))
DueIs (todos.Say octets) read session d =
    (reply : Reply) × IsReply octets.items reply
    × (d ≡ due_as (asks.Says reply) (in_phase (passed read session) model.Ready))
DueIs (todos.Leave octets) read session d =
    (reply : Reply) × IsReply octets.items reply
    × (d ≡ due_as (asks.Leaves reply) (passed read session))
DueIs (todos.Check id room since) read session d =
    (is_full session.offers id ≡ false)
    × (d ≡ due_as (asks.Offers model.TakesThis id) (offering read session id since))
DueIs (todos.Ihave id copy room since) read session d =
    (is_full session.offers id ≡ false) × (copy ≡ id)
    × (d ≡ due_as (asks.Offers model.Has id) (offering read session id since))
DueIs (todos.Look part id room) read session d =
    d ≡ due_as (asks.Looks (part_view part) id) (passed read session)
DueIs (todos.Fetch reading) read session d =
    (reading.prepared ≡ true) × (reading.had ≡ 0) × (reading.gathered ≡ [])
    × (d ≡ due_as (asks.Reads reading.asked reading.token 0)
    (in_phase (passed read session) model.Ready))
DueIs todos.ReadOn read session d =
    (reading : Fetch) × (session.phase ≡ phases.Fetches reading) × (reading.prepared ≡ true)
    × (d ≡ due_as (asks.Reads reading.asked reading.token reading.had)
    (in_phase (session_view session) model.Ready))
DueIs (todos.Queue room) read session d =
    (feed : ℕ) × (d ≡ due_as (asks.TakesQueue feed room) (passed read session))
DueIs (todos.Refuse room) read session d =
    (transfer : Transfer) × (id : List ℕ) × (reason : Reason)
    × (session.phase ≡ phases.AwaitsBlock transfer (Some id))
    × (d ≡ due_as (asks.Refuses (transfer_view transfer) id reason) (block_passed read session id))
DueIs (todos.Take copy article room) read session d =
    (transfer : Transfer) × (session.phase ≡ phases.AwaitsBlock transfer (Some copy))
    × (d ≡ due_as (asks.Takes (transfer_view transfer) copy (article_view article))
    (block_passed read session copy))
DueIs (todos.TakeHeld copy) read session d =
    (article : Accepted) × (room : ℕ) × (session.phase ≡ phases.Holds copy article room)
    × (d ≡ due_as (asks.Takes model.TakesThis copy (article_view article))
    (in_phase (session_view session) model.Ready))
DueIs todos.Push read session d =
    (job : Job) × (session.hand ≡ Some job)
    × (d ≡ due_as (asks.Pushes (job_view job)) (session_view session))
DueIs todos.Slot read session d =
    (transfer : Transfer) × (id : List ℕ) × (room : ℕ)
    × (session.phase ≡ phases.Waits transfer id room)
    × (d ≡ due_as (asks.LooksInSlot (transfer_view transfer) id) (session_view session))
DueIs todos.Release read session d =
    (id : List ℕ) × (since : ℕ) × (later : List OpenOffer)
    × (session.offers ≡ record { id = id; since = since } ∷ later)
    × (d ≡ due_as (asks.Releases id) (with_offers (session_view session) later))
DueIs todos.End read session d = d ≡ due_as asks.Ends (session_view session)

-- nothing is due
abbrev pub rests : Todo → Bool
rests todos.Rest = true
rests (todos.Owe id) = false
rests (todos.Say octets) = false
rests (todos.Leave octets) = false
rests (todos.Check id room since) = false
rests (todos.Ihave id copy room since) = false
rests (todos.Look part id room) = false
rests (todos.Fetch reading) = false
rests todos.ReadOn = false
rests (todos.Queue room) = false
rests (todos.Refuse room) = false
rests (todos.Take copy article room) = false
rests (todos.TakeHeld copy) = false
rests todos.Push = false
rests todos.Slot = false
rests todos.Release = false
rests todos.End = false

-- what is planned is of the session's phase
abbrev pub FitsPhase : Todo → Phase → Type 0
FitsPhase todos.Rest phase = HasReadNone phase
FitsPhase (todos.Owe id) phase = Unit {0}
FitsPhase (todos.Say octets) phase = Unit {0}
FitsPhase (todos.Leave octets) phase = Unit {0}
FitsPhase (todos.Check id room since) phase = phase ≡ phases.Ready
FitsPhase (todos.Ihave id copy room since) phase = phase ≡ phases.Ready
FitsPhase (todos.Look part id room) phase = phase ≡ phases.Ready
FitsPhase (todos.Fetch reading) phase = phase ≡ phases.Ready
FitsPhase todos.ReadOn phase = Unit {0}
FitsPhase (todos.Queue room) phase = phase ≡ phases.Ready
FitsPhase (todos.Refuse room) phase = Unit {0}
FitsPhase (todos.Take copy article room) phase = Unit {0}
FitsPhase (todos.TakeHeld copy) phase = Unit {0}
FitsPhase todos.Push phase = HasReadNone phase
FitsPhase todos.Slot phase = Unit {0}
FitsPhase todos.Release phase = HasReadNone phase
FitsPhase todos.End phase = Unit {0}

-- The session stands for m, and has planned this.
pub record HasPlanned (w : Terms) (session : Session) (m : model.Session) (d : Due)
    (gathered : List ℕ) : Type 0 where
  pub stands : Stands w session m gathered
  pub due_is : DueIs session.planned.todo session.planned.read session d
  pub fits : FitsPhase session.planned.todo session.phase

-- The session had this job in its hand, has planned its push, and stands for m without it.
pub record HasHandedOver (w : Terms) (session : Session) (m : model.Session) (d : Due)
    (gathered : List ℕ) : Type 0 where
  pub job : model.Job
  pub held : m.hand ≡ Some job
  pub stands : Stands w session (record m { hand = None }) gathered
  pub pushes : session.planned.todo ≡ todos.Push
  pub begins : HasReadNone session.phase
  pub due_is : d ≡ due_as (asks.Pushes job) m

-- the session has planned this for m; `handed` tells whether the job of a push was handed over
abbrev pub Planned : Terms → Session → model.Session → Due → List ℕ → (handed : Bool) → Type 0
Planned w session m d gathered false = HasPlanned w session m d gathered
Planned w session m d gathered true = HasHandedOver w session m d gathered

-- What is due at this moment of what the session stands for: the step is what is asked, and the new
-- session has planned it.
pub record DuePlan (w : Terms) (m : model.Session) (gathered : List ℕ) (now : ℕ) (step : Step)
    (new : Session) : Type 0 where
  pub due : Due
  pub is_due : IsDue w m now due
  pub is_step : IsStepOf step due.ask
  pub planned : Planned w new m due gathered false
  pub asks_of : AsksOf w m gathered due.ask

abbrev pub DueGiven : Terms → Session → ℕ → Step → Session → Type 0
DueGiven w old now step new =
    (m : model.Session) (gathered : List ℕ) → Stands w old m gathered
    → DuePlan w m gathered now step new

-- The same before it is planned. No public contract cites it.
pub record PlanFor (w : Terms) (m : model.Session) (gathered : List ℕ) (now : ℕ) (one : CodeDue)
    (new : Session) : Type 0 where
  pub stands : Stands w new m gathered
  pub due : Due
  pub is_due : IsDue w m now due
  pub due_is : DueIs one.todo one.read new due
  pub fits : FitsPhase one.todo new.phase
  pub is_step : IsStepOf one.step due.ask
  pub asks_of : AsksOf w m gathered due.ask

abbrev pub Plans : Terms → Session → ℕ → CodeDue → Session → Type 0
Plans w old now one new =
    (m : model.Session) (gathered : List ℕ) → Stands w old m gathered
    → PlanFor w m gathered now one new

-- The job of the planned push was given, and the session stands for m without it.
pub record HandedOver (w : Terms) (m : model.Session) (d : Due) (gathered : List ℕ)
    (job : model.Job) (result : Option Job) (new : Session) : Type 0 where
  pub one : Job
  pub result_is : result ≡ Some one
  pub job_is : job_view one ≡ job
  pub planned : Planned w new m d gathered true

abbrev pub HandsOver : Session → Option Job → Session → Type 0
HandsOver old result new =
    (w : Terms) (m : model.Session) (d : Due) (gathered : List ℕ) (job : model.Job)
    → Planned w old m d gathered false → d.ask ≡ asks.Pushes job
    → HandedOver w m d gathered job result new
