-- What a session that leaves makes of an answer.
use Rattle.std.proofs.Common.{◌≡◌, ℕ, List, ◌∷◌, refl}
use Rattle.relay_model.specs.Asks as asks
use Rattle.relay_model.specs.Asks.{Due, due_as}
use Rattle.relay_model.specs.Hears.{silent}
use Rattle.relay_model.specs.State as model
use Rattle.relay_model.specs.State.{OpenOffer, in_phase, with_offers}
use Rattle.peer_session.specs.Hearing.{HeardIs, Heeds}
use Rattle.peer_session.specs.Session.{HasAll, HasReadNone, session_view}
use Rattle.peer_session.specs.declared.phase.Planned.{Planned as CodePlanned}
use Rattle.peer_session.specs.declared.phase.Todo.TheVariants as todos
use Rattle.peer_session.specs.declared.session.Session.{Session}
use Rattle.peer_session.specs.declared.steps.Answer.{Answer}
use Rattle.peer_session.specs.declared.steps.Answer.TheVariants as answers
use Rattle.peer_session.proofs.HearCommon.{by_due, has_other, heard_of, IsPlanned, with_planned}

-- the oldest open offer was released
pub releases : (s : ℕ) (old new : Session) (answer : Answer) (said : List ℕ)
    (planned : CodePlanned) (read : ℕ) → IsPlanned old todos.Release read
    → ((id : List ℕ) (since : ℕ) (later : List OpenOffer) → answer ≡ answers.Nothing
    → HasReadNone old.phase → HasAll old.phase old.cutter.dropped
    → old.offers ≡ record { id = id; since = since } ∷ later
    → HeardIs said (with_planned old planned) (silent (with_offers (session_view old) later)) new)
    → Heeds s old answer said new
releases s old new answer said planned read todo arm = λ w m d gathered told h.
    let had = has_other w old m d gathered answer todos.Release read todo (λ e. cc) h in
    let id : List ℕ = had.due_is.0 in
    let since : ℕ = had.due_is.1 in
    let later : List OpenOffer = had.due_is.2 in
    let due : Due = due_as (asks.Releases id) (with_offers (session_view old) later) in
    by_due w s d due gathered answer told said new had.due_is.4
    (λ is. heard_of w s due told said (with_planned old planned) new (silent due.after) refl
    (arm id since later is had.fits had.stands.has_all had.due_is.3) had.stands.limit)

-- nothing was left
pub ends : (s : ℕ) (old new : Session) (answer : Answer) (said : List ℕ)
    (planned : CodePlanned) (read : ℕ) → IsPlanned old todos.End read
    → (answer ≡ answers.Nothing → HeardIs said (with_planned old planned)
    (silent (in_phase (session_view old) model.Ended)) new)
    → Heeds s old answer said new
ends s old new answer said planned read todo arm = λ w m d gathered told h.
    let had = has_other w old m d gathered answer todos.End read todo (λ e. cc) h in
    let due : Due = due_as asks.Ends (session_view old) in
    by_due w s d due gathered answer told said new had.due_is
    (λ is. heard_of w s due told said (with_planned old planned) new
    (silent (in_phase (session_view old) model.Ended)) refl (arm is) had.stands.limit)
