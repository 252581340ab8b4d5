-- What a session makes of the answer to a block that was judged.
use Rattle.std.proofs.Common.{◌≡◌, ℕ, List, Some, refl}
use Rattle.buffer_group.specs.Jobs.{article_view}
use Rattle.buffer_group.specs.declared.job.Accepted.{Accepted}
use Rattle.id_history.specs.Answers.{take_view}
use Rattle.id_history.specs.declared.claims.Take.{Take}
use Rattle.relay_model.specs.Asks as asks
use Rattle.relay_model.specs.Asks.{Due, due_as}
use Rattle.relay_model.specs.Hears as hears
use Rattle.relay_model.specs.Hears.{Heard, says, take_heard}
use Rattle.relay_model.specs.Terms.{Reason}
use Rattle.peer_session.specs.Hearing.{HeardIs, Heeds}
use Rattle.peer_session.specs.Planning.{block_passed}
use Rattle.peer_session.specs.Session.{transfer_view}
use Rattle.peer_session.specs.declared.phase.Phase.TheVariants as phases
use Rattle.peer_session.specs.declared.phase.Planned.{Planned as CodePlanned}
use Rattle.peer_session.specs.declared.phase.Todo.TheVariants as todos
use Rattle.peer_session.specs.declared.phase.Transfer.{Transfer}
use Rattle.peer_session.specs.declared.session.Session.{Session}
use Rattle.peer_session.specs.declared.steps.Answer.{Answer}
use Rattle.peer_session.specs.declared.steps.Answer.TheVariants as answers
use Rattle.peer_session.proofs.HearCommon.{by_due, has_other, heard_of, IsPlanned, with_planned}

-- a refusal was heard
pub refuses : (s : ℕ) (old new : Session) (answer : Answer) (said : List ℕ)
    (planned : CodePlanned) (read : ℕ) (room : ℕ) → IsPlanned old (todos.Refuse room) read
    → ((transfer : Transfer) (id : List ℕ) → answer ≡ answers.Nothing
    → old.phase ≡ phases.AwaitsBlock transfer (Some id) → HeardIs said (with_planned old planned)
    (says (block_passed read old id) (hears.rejected (transfer_view transfer) id)) new)
    → Heeds s old answer said new
refuses s old new answer said planned read room todo arm = λ w m d gathered told h.
    let had = has_other w old m d gathered answer (todos.Refuse room) read todo (λ e. cc) h in
    let transfer : Transfer = had.due_is.0 in
    let id : List ℕ = had.due_is.1 in
    let reason : Reason = had.due_is.2 in
    let due : Due =
    due_as (asks.Refuses (transfer_view transfer) id reason) (block_passed read old id) in
    by_due w s d due gathered answer told said new had.due_is.4
    (λ is. let heard : Heard = says due.after (hears.rejected (transfer_view transfer) id) in
    heard_of w s due told said (with_planned old planned) new heard (refl {a = heard})
    (arm transfer id is had.due_is.3) had.stands.limit)

-- an accepted article was answered
pub takes : (s : ℕ) (old new : Session) (answer : Answer) (said : List ℕ)
    (planned : CodePlanned) (read : ℕ) (copy : List ℕ) (article : Accepted) (room : ℕ)
    → IsPlanned old (todos.Take copy article room) read
    → ((transfer : Transfer) (told : Take) → answer ≡ answers.Take told
    → old.phase ≡ phases.AwaitsBlock transfer (Some copy) → HeardIs said (with_planned old planned)
    (take_heard s (block_passed read old copy) (transfer_view transfer) copy
    (article_view article) (take_view told)) new)
    → Heeds s old answer said new
takes s old new answer said planned read copy article room todo arm = λ w m d gathered told h.
    let had =
    has_other w old m d gathered answer (todos.Take copy article room) read todo (λ e. cc) h in
    let transfer : Transfer = had.due_is.0 in
    let due : Due =
    due_as (asks.Takes (transfer_view transfer) copy (article_view article))
    (block_passed read old copy) in
    by_due w s d due gathered answer told said new had.due_is.2
    (λ is. heard_of w s due told said (with_planned old planned) new
    (take_heard s due.after (transfer_view transfer) copy (article_view article)
    (take_view is.0)) (take_view is.0, is.2, refl)
    (arm transfer is.0 is.1 had.due_is.1) had.stands.limit)
