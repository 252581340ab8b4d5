-- What all plans of a session are shown by.
use Rattle.std.proofs.Common.{arith, ◌≡◌, ◌+◌, refl, sym, subst, ℕ, Result, Ok, Err, IfOk}
use Rattle.relay_model.specs.Asks.{Due, IsDue, IsDueIn}
use Rattle.relay_model.specs.Terms.{Terms}
use Rattle.stream_cut.specs.Stream.{Stream}
use Rattle.peer_session.specs.Planning.{DueGiven, DueIs, PlanFor, Plans}
use Rattle.peer_session.specs.Session.{HasAll, Stands, gathered_of, phase_view, session_view}
use Rattle.peer_session.specs.declared.phase.Due.{Due as CodeDue}
use Rattle.peer_session.specs.declared.phase.Phase.{Phase}
use Rattle.peer_session.specs.declared.phase.Planned.{Planned}
use Rattle.peer_session.specs.declared.phase.Todo.{Todo}
use Rattle.peer_session.specs.declared.phase.Todo.TheVariants as todos
use Rattle.peer_session.specs.declared.session.Session.{Session}

-- a plan is shown of the session that the code's is
pub plan_of : (w : Terms) (old : Session) (now : ℕ) (one : CodeDue) (new : Session)
    → (old.cutter.limit ≡ w.max_article → HasAll old.phase old.cutter.dropped
    → PlanFor w (session_view old) (gathered_of old.phase) now one new)
    → Plans w old now one new
plan_of w old now one new give m gathered stands =
    subst (λ m. PlanFor w m gathered now one new) (sym stands.is)
    (subst (λ gathered. PlanFor w (session_view old) gathered now one new) (sym stands.gathers)
    (give stands.limit stands.has_all))

-- the session stands for itself
pub stands_so : (w : Terms) (session : Session) → session.cutter.limit ≡ w.max_article
    → HasAll session.phase session.cutter.dropped
    → Stands w session (session_view session) (gathered_of session.phase)
stands_so w session limit has_all = record {
  is = refl;
  gathers = refl;
  limit = limit;
  has_all = has_all;
}

-- the session with this stream
abbrev pub with_stream : Session → Stream → Session
with_stream session stream = record session { cutter = stream }

-- of what holds of an answer follows what follows
pub if_ok : {X E : Type 0} (P Q : X → Type 0) (result : Result X E) → ((x : X) → P x → Q x)
    → IfOk result P → IfOk result Q
if_ok P Q (Ok x) then holds = then x holds
if_ok P Q (Err e) then holds = tt

-- where all unread octets are kept, as many count as read as are passed
pub all_kept : (stream : Stream) (count : ℕ) → stream.dropped ≡ 0 → count ≡ stream.dropped + count
all_kept stream count kept = omega (arith, kept)

-- what is due of a session in this phase
pub due_in : (w : Terms) (session : Session) (now : ℕ) (phase : Phase) (d : Due)
    → session.phase ≡ phase → IsDueIn w (session_view session) now (phase_view phase) d
    → IsDue w (session_view session) now d
due_in w session now phase d is due =
    subst (λ phase. IsDueIn w (session_view session) now (phase_view phase) d) (sym is) due

-- the session in this phase
abbrev pub in_code_phase : Session → Phase → Session
in_code_phase session phase = record session { phase = phase }

-- what is due doesn't look at what was planned before
abbrev pub with_plan : Session → Planned → Session
with_plan session planned = record session { planned = planned }

pub replanned : (todo : Todo) (read : ℕ) (session : Session) (planned : Planned) (d : Due)
    → DueIs todo read session d → DueIs todo read (with_plan session planned) d
replanned todos.Rest read session planned d is = is
replanned (todos.Owe id) read session planned d is = is
replanned (todos.Say octets) read session planned d is = is
replanned (todos.Leave octets) read session planned d is = is
replanned (todos.Check id room since) read session planned d is = is
replanned (todos.Ihave id copy room since) read session planned d is = is
replanned (todos.Look part id room) read session planned d is = is
replanned (todos.Fetch reading) read session planned d is = is
replanned todos.ReadOn read session planned d is = is
replanned (todos.Queue room) read session planned d is = is
replanned (todos.Refuse room) read session planned d is = is
replanned (todos.Take copy article room) read session planned d is = is
replanned (todos.TakeHeld copy) read session planned d is = is
replanned todos.Push read session planned d is = is
replanned todos.Slot read session planned d is = is
replanned todos.Release read session planned d is = is
replanned todos.End read session planned d is = is

-- what is due is planned
pub plan_given : (w : Terms) (old new : Session) (now : ℕ) (one : CodeDue)
    → Plans w old now one new
    → DueGiven w old now one.step
    (with_plan new (record { todo = one.todo; read = one.read }))
plan_given w old new now one plans m gathered stands =
    let so = plans m gathered stands in record {
      due = so.due;
      is_due = so.is_due;
      is_step = so.is_step;
      planned = record {
        stands = record {
          is = so.stands.is;
          gathers = so.stands.gathers;
          limit = so.stands.limit;
          has_all = so.stands.has_all;
        };
        due_is = replanned one.todo one.read new (record { todo = one.todo; read = one.read })
            so.due so.due_is;
        fits = so.fits;
      };
      asks_of = so.asks_of;
    }

-- a phase that is as it was
pub same_phase : (w : Terms) (old : Session) (now : ℕ) (one : CodeDue) (phase : Phase)
    → old.phase ≡ phase → Plans w old now one old
    → Plans w old now one (in_code_phase old phase)
same_phase w old now one phase is =
    subst (λ phase. Plans w old now one (in_code_phase old phase)) is
