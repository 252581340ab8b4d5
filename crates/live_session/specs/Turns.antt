-- What a turn of a session comes to. No public contract cites it.
use Rattle.std.specs.Prelude.{ℕ, ◌≡◌, ◌≢◌, ◌≤◌, ◌<◌, ◌^◌, ◌⊎◌, true, false, List, [], length, None}
use Rattle.std.specs.Prelude.{Some, is_some}
use Rattle.std.specs.Prelude.{◌++◌, Result, Ok, Err, IfOk, OnErr}
use Rattle.std.specs.Global.{Vec}
use Rattle.std.specs.IoError.{error_kind}
use Rattle.std.specs.declared.io.Error as io
use Rattle.std.specs.declared.io.ErrorKind.TheVariants.{Interrupted}
use Rattle.live_jobs.specs.Seats.{IsSeatOf, count_of, end_of}
use Rattle.live_jobs.specs.declared.channel.JobChannel.{JobChannel}
use Rattle.live_session.specs.Carried.{Carried, Lasts, LastsOrHeld, Refusal, ServesOn}
use Rattle.live_session.specs.Commands.{WasAsked, WasLetIn, newest_in}
use Rattle.live_session.specs.Counts.{most_turns, most_waiting, turns_in, untold_in}
use Rattle.live_session.specs.Going.{IsStepRead, group_in}
use Rattle.live_session.specs.Going.{HearsAnswer, KeepsButSession, KeepsPlace, LetsGo, SharesFor}
use Rattle.live_session.specs.Going.{StaysSame, WentOn, said_in}
use Rattle.live_session.specs.declared.commands.Command.{Command}
use Rattle.live_session.specs.declared.commands.Commands.{Commands}
use Rattle.live_session.specs.declared.counts.Counts.{Counts}
use Rattle.live_session.specs.declared.live.LiveSession.{LiveSession}
use Rattle.live_session.specs.declared.live.Turned.{Turned}
use Rattle.live_session.specs.declared.live.Turned.TheVariants as turns
use Rattle.live_session.specs.declared.wire.Finish.TheVariants as finishes
use Rattle.live_store.specs.declared.record.StorePremises.{Ghosts}
use Rattle.live_wire.specs.Tally.{after_octets}
use Rattle.peer_session.specs.Planning.{HandsOver}
use Rattle.peer_session.specs.Session.{StandsAsBefore, reads_command, session_view}
use Rattle.peer_session.specs.declared.session.Session.{Session}
use Rattle.peer_session.specs.declared.steps.Answer.{Answer}
use Rattle.peer_session.specs.declared.steps.Answer.TheVariants as answers
use Rattle.peer_session.specs.declared.steps.Step.{Step}
use Rattle.peer_session.specs.declared.steps.Step.TheVariants as steps
use Rattle.relay_model.specs.Run.{is_reading, is_running}
use Rattle.relay_model.specs.Terms.{Terms}

-- there is no outcome to look for where the end has handed nothing over, and only there
abbrev pub IsSlotAsked : {J : Type 0} {g : Ghosts J} → Answer → LiveSession J g → Type 0
IsSlotAsked (answers.Slot None) old = count_of old.seat ≡ 0
IsSlotAsked (answers.Slot (Some outcome)) old = Unit {0}
IsSlotAsked other old = Unit {0}

-- why no job is handed over to a group: there is no such group, the end has no number left for a
-- job, or the session plans to hand none over
abbrev pub IsUnpushed : {J : Type 0} {g : Ghosts J} → List JobChannel → (group : ℕ)
    → LiveSession J g → Type 0
IsUnpushed channels group old =
    (length channels ≤ group) ⊎ (2 ^ 63 ≤ count_of old.seat)
    ⊎ ((after : Session) × HandsOver old.session None after)

-- no job is handed over for one of these reasons alone
abbrev pub IsPushAsked : {J : Type 0} {g : Ghosts J} → List JobChannel → Step → Answer
    → LiveSession J g → Type 0
IsPushAsked channels step (answers.Pushed false) old =
    (group : ℕ) → group_in step ≡ Some group → ∥ IsUnpushed channels group old ∥₁
IsPushAsked channels step (answers.Pushed true) old = Unit {0}
IsPushAsked channels step other old = Unit {0}

-- the step was done on the same seat, and the session is of the same number; where memory was
-- refused nothing was done
pub record DidStep {J : Type 0} {g : Ghosts J} (channels : List JobChannel) (step : Step)
    (old : LiveSession J g) (answer : Answer) (new : LiveSession J g)
    : Type 0 where
  pub seat : IsSeatOf channels new.seat
  pub place : KeepsPlace old new
  pub shared : (w : Terms) → SharesFor w step old answer new
  pub reads : IsStepRead step answer old.reads.shown new.reads.shown
  pub slot : IsSlotAsked answer old
  pub push : IsPushAsked channels step answer old
  pub memory : answer ≡ answers.Memory → StaysSame old new

-- the outcome of the job that was handed over last was looked for, on the same seat; where memory
-- was refused nothing was done
pub record LookedInSlot {J : Type 0} {g : Ghosts J} (old : LiveSession J g) (answer : Answer)
    (new : LiveSession J g)
    : Type 0 where
  pub seat : new.seat ≡ old.seat
  pub place : KeepsPlace old new
  pub shared : (w : Terms) → SharesFor w steps.Slot old answer new
  pub reads : IsStepRead steps.Slot answer old.reads.shown new.reads.shown
  pub slot : IsSlotAsked answer old
  pub push : (channels : List JobChannel) (step : Step) → IsPushAsked channels step answer old
  pub memory : answer ≡ answers.Memory → StaysSame old new

-- the session heard the answer to what it planned; where that is want of memory it forgot what it
-- planned
pub record HasHeard {J : Type 0} {g : Ghosts J} (old : LiveSession J g) (answer : Answer)
    (turned : Turned) (new : LiveSession J g)
    : Type 0 where
  pub heard : HearsAnswer old answer (said_in turned) new
  pub memory : answer ≡ answers.Memory → LetsGo old (said_in turned) new
  pub rest : KeepsButSession old new
  pub seat : new.seat ≡ old.seat
  pub let_in : turned ≢ turns.Held

-- a turn was had or not: the session went on by what it said, on the same seat, and it is held only
-- where the gate said no; else the newest command was let in, and where it said something of a
-- command that is the next one
pub record HadTurn {J : Type 0} {g : Ghosts J} (w : Terms) (refuses admits : Command → Type 0)
    (channels : List JobChannel) (old new : LiveSession J g) (commands commands' : Commands)
    (turned : Turned)
    : Type 0 where
  pub seat : IsSeatOf channels new.seat
  pub end : end_of new.seat ≡ end_of old.seat
  pub went : WentOn w old (said_in turned) new
  pub held : turned ≡ turns.Held → Refusal refuses
  pub newest : turned ≢ turns.Held → WasLetIn admits (newest_in commands')
  pub asked : (said : Vec ℕ) → turned ≡ turns.Says said
      → WasAsked (reads_command old.session.phase) commands commands'

-- turns were had, each with its reply, or what waits was written and the session read: its
-- connection carries them on, on the same seat
pub record Conversed {J : Type 0} {g : Ghosts J} (w : Terms) (refuses : Command → Type 0)
    (channels : List JobChannel) (old new : LiveSession J g) (before after : Carried)
    : Type 0 where
  pub seat : IsSeatOf channels new.seat
  pub end : end_of new.seat ≡ end_of old.seat
  pub served : ServesOn w old new before after
  pub ends : LastsOrHeld refuses before.finish after.finish

-- the same of one turn, which isn't counted; the newest command was let in where the session goes
-- on, and few octets wait to be written
pub record HadRound {J : Type 0} {g : Ghosts J} (w : Terms) (refuses admits : Command → Type 0)
    (channels : List JobChannel) (old new : LiveSession J g) (before after : Carried)
    (counts counts' : Counts) (commands : Commands)
    : Type 0 where
  pub conversed : Conversed w refuses channels old new before after
  pub turns : turns_in counts' ≡ turns_in counts
  pub newest : after.finish ≡ None → WasLetIn admits (newest_in commands)
  pub waiting : length before.waiting < most_waiting → length after.waiting < most_waiting

-- the input is over: no octets came, or the read failed and no signal came first
abbrev pub IsOver : Result ℕ io.Error → Type 0
IsOver (Ok n) = n ≡ 0
IsOver (Err e) = error_kind e ≢ Interrupted

-- one read was made, of so many octets or none, and the connection is broken where the input is
-- over; what came is counted, whatever becomes of it
pub record WasRead (before after : Carried) (counts counts' : Counts) : Type 0 where
  pub answer : Result ℕ io.Error
  pub came : IfOk answer (λ n. (octets : List ℕ) × (length octets ≡ n)
      × (after.heard ≡ before.heard ++ octets))
  pub failed : OnErr answer (after.heard ≡ before.heard)
  pub over : IsOver answer → after.finish ≡ Some finishes.Broken
  pub counted : IfOk answer (λ n. n ≢ 0
      → untold_in counts' ≡ after_octets n (untold_in counts))
  pub nothing : IfOk answer (λ n. n ≡ 0) → untold_in counts' ≡ untold_in counts

-- a session read, where it reads: its connection carries that on, and no turn is counted; where the
-- connection is broken nothing of it came to the session
pub record HasRead {J : Type 0} {g : Ghosts J} (old new : LiveSession J g) (before after : Carried)
    (counts counts' : Counts)
    : Type 0 where
  pub seat : new.seat ≡ old.seat
  pub served : (w : Terms) → ServesOn w old new before after
  pub ends : Lasts before.finish after.finish
  pub turns : turns_in counts' ≡ turns_in counts
  pub waiting : after.waiting ≡ before.waiting
  pub broken : after.finish ≡ Some finishes.Broken
      → (before.finish ≡ Some finishes.Broken) ⊎ StandsAsBefore old.session new.session
  pub read : before.finish ≡ None → is_reading (session_view old.session).phase ≡ true
      → ∥ WasRead before after counts counts' ∥₁

-- a turn of a session that leaves: its connection carries on what it said, on the same seat, and no
-- turn is counted
pub record HadLastTurn {J : Type 0} {g : Ghosts J} (w : Terms) (channels : List JobChannel)
    (old new : LiveSession J g) (before after : Carried) (counts counts' : Counts)
    : Type 0 where
  pub seat : IsSeatOf channels new.seat
  pub end : end_of new.seat ≡ end_of old.seat
  pub served : ServesOn w old new before after
  pub ends : Lasts before.finish after.finish
  pub turns : turns_in counts' ≡ turns_in counts

-- a session has left, and is closed: its last turns were as one of them
pub record LeftClosed {J : Type 0} {g : Ghosts J} (w : Terms) (channels : List JobChannel)
    (old new : LiveSession J g) (before after : Carried) (counts counts' : Counts)
    : Type 0 where
  pub turned : HadLastTurn w channels old new before after counts counts'
  pub closed : is_running (session_view new.session).phase ≡ false

-- A session was served until it was closed, on the same seat, and nothing waits to be written: it
-- is over for its turns alone where it has had them all, and held only where the gate said no.
pub record ServedThrough {J : Type 0} {g : Ghosts J} (w : Terms) (refuses : Command → Type 0)
    (channels : List JobChannel) (old new : LiveSession J g) (before after : Carried)
    (counts : Counts)
    : Type 0 where
  pub seat : IsSeatOf channels new.seat
  pub end : end_of new.seat ≡ end_of old.seat
  pub served : ServesOn w old new before after
  pub closed : is_running (session_view new.session).phase ≡ false
  pub waiting : after.waiting ≡ []
  pub ended : is_some after.finish ≡ true
  pub spent : after.finish ≡ Some finishes.TurnsSpent → turns_in counts ≡ most_turns
  pub held : after.finish ≡ Some finishes.Held → Refusal refuses
