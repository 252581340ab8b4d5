-- What is due of a session that leaves, or that is closed.
use Rattle.std.proofs.Common.{◌≡◌, ◌∙◌, ap, refl, sym, subst, ℕ, List, ◌∷◌, option_map, [], Option}
use Rattle.std.proofs.Common.{None, Some}
use Rattle.buffer_group.specs.Jobs.{job_view}
use Rattle.buffer_group.specs.declared.job.Job.{Job}
use Rattle.relay_model.specs.Asks.{IsDue, due_as, leaving_due}
use Rattle.relay_model.specs.Asks as asks
use Rattle.relay_model.specs.State.{OpenOffer, with_offers}
use Rattle.relay_model.specs.Terms.{Terms}
use Rattle.peer_session.specs.Asking.{IsLeavingAsked}
use Rattle.peer_session.specs.Planning.{PlanFor, Plans}
use Rattle.peer_session.specs.Session.{HasReadNone, gathered_of, session_view}
use Rattle.peer_session.specs.declared.phase.Due.{Due as CodeDue}
use Rattle.peer_session.specs.declared.phase.Phase.TheVariants as phases
use Rattle.peer_session.specs.declared.phase.Todo.TheVariants as todos
use Rattle.peer_session.specs.declared.session.Session.{Session}
use Rattle.peer_session.specs.declared.steps.Step.TheVariants as steps
use Rattle.peer_session.proofs.PlanCommon.{due_in, plan_of, stands_so}
use Rattle.peer_session.proofs.PlanWaiting.{plans_push}

-- what is due of a session that leaves
leaving_in : (w : Terms) (session : Session) (now : ℕ) (hand : Option Job)
    (offers : List OpenOffer) → session.phase ≡ phases.Leaving → session.hand ≡ hand
    → session.offers ≡ offers
    → IsDue w (session_view session) now
    (leaving_due (session_view session) (option_map job_view hand) offers)
leaving_in w session now hand offers leaves has listed =
    due_in w session now phases.Leaving _ leaves
    (ap (λ hand. leaving_due (session_view session) (option_map job_view hand) offers) (sym has)
    ∙ ap (leaving_due (session_view session) (option_map job_view session.hand)) (sym listed))

-- a session leaves
pub plans_leaving : (w : Terms) (session : Session) (now : ℕ) (hand : Option Job)
    (offers : List OpenOffer) (one : CodeDue) → session.phase ≡ phases.Leaving
    → session.hand ≡ hand → session.offers ≡ offers → IsLeavingAsked hand offers one
    → Plans w session now one session
plans_leaving w session now (Some job) offers one leaves has listed asked =
    plans_push w session now job one has (subst HasReadNone (sym leaves) tt) asked
    (leaving_in w session now (Some job) offers leaves has listed)
plans_leaving w session now None [] one leaves has listed asked =
    plan_of w session now one session (λ limit has_all.
    subst (λ one. PlanFor w (session_view session) (gathered_of session.phase) now one session)
    (sym asked) (record {
      stands = stands_so w session limit has_all;
      due = due_as asks.Ends (session_view session);
      is_due = leaving_in w session now None [] leaves has listed;
      due_is = refl;
      fits = tt;
      is_step = tt;
      asks_of = tt;
    }))
plans_leaving w session now None (offer ∷ offers) one leaves has listed asked =
    plan_of w session now one session (λ limit has_all.
    subst (λ one. PlanFor w (session_view session) (gathered_of session.phase) now one session)
    (sym asked) (record {
      stands = stands_so w session limit has_all;
      due = due_as (asks.Releases offer.id) (with_offers (session_view session) offers);
      is_due = leaving_in w session now None (offer ∷ offers) leaves has listed;
      due_is = (offer.id, offer.since, offers, listed, refl);
      fits = subst HasReadNone (sym leaves) tt;
      is_step = refl;
      asks_of = tt;
    }))

-- a closed session rests
pub rests_ended : (w : Terms) (session : Session) (now : ℕ) → session.phase ≡ phases.Ended
    → Plans w session now (record { todo = todos.Rest; read = 0; step = steps.Nothing }) session
rests_ended w session now ended =
    plan_of w session now _ session (λ limit has_all. record {
      stands = stands_so w session limit has_all;
      due = due_as asks.Rests (session_view session);
      is_due = due_in w session now phases.Ended _ ended refl;
      due_is = refl;
      fits = subst HasReadNone (sym ended) tt;
      is_step = tt;
      asks_of = tt;
    })
