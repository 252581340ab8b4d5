-- What is due of a session whose accepted article is held, pushed or awaited.
use Rattle.std.proofs.Common.{◌≡◌, ap, refl, sym, subst, ℕ, List, option_map, Option, None, Some}
use Rattle.buffer_group.specs.Jobs.{article_view, job_view}
use Rattle.buffer_group.specs.declared.job.Accepted.{Accepted}
use Rattle.buffer_group.specs.declared.job.Job.{Job}
use Rattle.relay_model.specs.Asks.{IsDue, due_as, or_push}
use Rattle.relay_model.specs.Asks as asks
use Rattle.relay_model.specs.State as model
use Rattle.relay_model.specs.State.{in_phase}
use Rattle.relay_model.specs.Terms.{Terms}
use Rattle.peer_session.specs.Asking.{IsHeldAsked, IsPushOf, IsWaitingAsked}
use Rattle.peer_session.specs.Planning.{PlanFor, Plans}
use Rattle.peer_session.specs.Session.{HasReadNone, gathered_of, session_view, transfer_view}
use Rattle.peer_session.specs.declared.phase.Due.{Due as CodeDue}
use Rattle.peer_session.specs.declared.phase.Phase.TheVariants as phases
use Rattle.peer_session.specs.declared.phase.Transfer.{Transfer}
use Rattle.peer_session.specs.declared.session.Session.{Session}
use Rattle.peer_session.proofs.PlanCommon.{due_in, plan_of, stands_so}

-- a held article is tried again
pub plans_held : (w : Terms) (session : Session) (now : ℕ) (id : List ℕ) (article : Accepted)
    (room : ℕ) (one : CodeDue) → session.phase ≡ phases.Holds id article room
    → IsHeldAsked id one → Plans w session now one session
plans_held w session now id article room one holds asked =
    plan_of w session now one session (λ limit has_all.
    subst (λ one. PlanFor w (session_view session) (gathered_of session.phase) now one session)
    (sym asked) (record {
      stands = stands_so w session limit has_all;
      due = due_as (asks.Takes model.TakesThis id (article_view article))
          (in_phase (session_view session) model.Ready);
      is_due = due_in w session now (phases.Holds id article room) _ holds refl;
      due_is = (article, room, holds, refl);
      fits = tt;
      is_step = (model.TakesThis, article_view article, refl);
      asks_of = tt;
    }))

-- the job in hand is pushed, where that is due
pub plans_push : (w : Terms) (session : Session) (now : ℕ) (job : Job) (one : CodeDue)
    → session.hand ≡ Some job → HasReadNone session.phase → IsPushOf job one
    → IsDue w (session_view session) now
    (due_as (asks.Pushes (job_view job)) (session_view session))
    → Plans w session now one session
plans_push w session now job one has none pushes due =
    plan_of w session now one session (λ limit has_all.
    subst (λ one. PlanFor w (session_view session) (gathered_of session.phase) now one session)
    (sym pushes) (record {
      stands = stands_so w session limit has_all;
      due = due_as (asks.Pushes (job_view job)) (session_view session);
      is_due = due;
      due_is = (job, has, refl);
      fits = none;
      is_step = (job_view job, refl, refl);
      asks_of = ap (option_map job_view) has;
    }))

-- the outcome of an article is awaited
pub plans_waiting : (w : Terms) (session : Session) (now : ℕ) (transfer : Transfer)
    (id : List ℕ) (room : ℕ) (hand : Option Job) (one : CodeDue)
    → session.phase ≡ phases.Waits transfer id room → session.hand ≡ hand
    → IsWaitingAsked hand one → Plans w session now one session
plans_waiting w session now transfer id room (Some job) one waits has asked =
    plans_push w session now job one has (subst HasReadNone (sym waits) tt) asked
    (due_in w session now (phases.Waits transfer id room) _ waits
    (ap (λ hand. due_as (or_push (option_map job_view hand)
    (asks.LooksInSlot (transfer_view transfer) id)) (session_view session)) (sym has)))
plans_waiting w session now transfer id room None one waits has asked =
    plan_of w session now one session (λ limit has_all.
    subst (λ one. PlanFor w (session_view session) (gathered_of session.phase) now one session)
    (sym asked) (record {
      stands = stands_so w session limit has_all;
      due = due_as (asks.LooksInSlot (transfer_view transfer) id) (session_view session);
      is_due = due_in w session now (phases.Waits transfer id room) _ waits
          (ap (λ hand. due_as (or_push (option_map job_view hand)
          (asks.LooksInSlot (transfer_view transfer) id)) (session_view session)) (sym has));
      due_is = (transfer, id, room, waits, refl);
      fits = tt;
      is_step = (transfer_view transfer, id, refl);
      asks_of = tt;
    }))
