-- What is due of a session that fetches an article.
use Rattle.std.proofs.Common.{◌≡◌, ◌∙◌, ap, refl, sym, subst, inl, ℕ}
use Rattle.article_fetch.specs.Fetch.{Fetch}
use Rattle.relay_model.specs.Asks.{due_as}
use Rattle.relay_model.specs.Asks as asks
use Rattle.relay_model.specs.State as model
use Rattle.relay_model.specs.State.{in_phase}
use Rattle.relay_model.specs.Terms.{Terms}
use Rattle.peer_session.specs.Asking.{IsReadingAsked}
use Rattle.peer_session.specs.Planning.{PlanFor, Plans}
use Rattle.peer_session.specs.Session.{HasAll, gathered_of, phase_view, session_view}
use Rattle.peer_session.specs.declared.phase.Due.{Due as CodeDue}
use Rattle.peer_session.specs.declared.phase.Phase.TheVariants as phases
use Rattle.peer_session.specs.declared.session.Session.{Session}
use Rattle.peer_session.proofs.PlanCommon.{due_in, in_code_phase, plan_of}

-- a fetch reads on
pub plans_reading : (w : Terms) (session : Session) (now : ℕ) (reading later : Fetch)
    (one : CodeDue) → session.phase ≡ phases.Fetches reading → IsReadingAsked reading later one
    → Plans w session now one (in_code_phase session (phases.Fetches later))
plans_reading w session now reading later one fetches asked =
    plan_of w session now one new (λ limit has_all.
    subst (λ one. PlanFor w (session_view session) (gathered_of session.phase) now one new)
    (sym asked.asked) (record {
      stands = record {
        is = ap (λ phase. in_phase (session_view session) phase) same;
        gathers = ap gathered_of fetches ∙ ap (λ fetch. fetch.gathered) (sym asked.prepared);
        limit = limit;
        has_all = subst (λ phase. HasAll phase session.cutter.dropped) fetches has_all;
      };
      due = due_as (asks.Reads reading.asked reading.token reading.had)
          (in_phase (session_view session) model.Ready);
      is_due = due_in w session now (phases.Fetches reading) _ fetches refl;
      due_is = (
        later,
        refl,
        ap (λ fetch. fetch.prepared) asked.prepared,
        ap (λ fetch. due_as (asks.Reads fetch.asked fetch.token fetch.had)
            (in_phase (session_view session) model.Ready)) (sym asked.prepared),
      );
      fits = tt;
      is_step = (
        reading.asked,
        ap (λ token. asks.Reads reading.asked token reading.had) (sym asked.token_is),
      );
      asks_of = inl (ap phase_view fetches);
    }))
  where
    new : Session
    new = in_code_phase session (phases.Fetches later)

    same : phase_view session.phase ≡ phase_view (phases.Fetches later)
    same = ap phase_view fetches
        ∙ ap (λ fetch. model.Fetches fetch.asked fetch.token fetch.had) (sym asked.prepared)
