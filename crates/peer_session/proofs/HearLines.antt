-- What a session makes of the answer to what a line asked.
use Rattle.std.proofs.Common.{◌≡◌, ◌≢◌, ℕ, false, List, Option, ap, refl, Vec}
use Rattle.std.specs.declared.alloc.Global.{Global}
use Rattle.id_history.specs.Answers.{offer_view}
use Rattle.id_history.specs.declared.claims.Offer.{Offer}
use Rattle.id_history.specs.declared.claims.Offer.TheVariants as offer_answers
use Rattle.news_terms.specs.Reply.{Reply}
use Rattle.relay_model.specs.Asks as asks
use Rattle.relay_model.specs.Asks.{Due, due_as, is_full, later}
use Rattle.relay_model.specs.Claims.{OfferAnswer, Wanted, Later, Seen}
use Rattle.relay_model.specs.Hears.{not_wanted, offer_heard, parts, says, silent}
use Rattle.relay_model.specs.State as model
use Rattle.relay_model.specs.State.{in_phase, with_offers}
use Rattle.peer_session.specs.Hearing.{HeardIs, Heeds}
use Rattle.peer_session.specs.Planning.{offering}
use Rattle.peer_session.specs.Said.{IsReply}
use Rattle.peer_session.specs.Session.{passed}
use Rattle.peer_session.specs.declared.phase.Phase.TheVariants as phases
use Rattle.peer_session.specs.declared.phase.Planned.{Planned as CodePlanned}
use Rattle.peer_session.specs.declared.phase.Todo.TheVariants as todos
use Rattle.peer_session.specs.declared.phase.Transfer.TheVariants as transfers
use Rattle.peer_session.specs.declared.session.Session.{Session}
use Rattle.peer_session.specs.declared.steps.Answer.{Answer}
use Rattle.peer_session.specs.declared.steps.Answer.TheVariants as answers
use Rattle.peer_session.proofs.OfferLemmas.{opened_ended}
use Rattle.peer_session.proofs.HearCommon.{by_due, has_other, heard_of, IsPlanned, with_planned}

-- a block follows
pub owes : (s : ℕ) (old new : Session) (answer : Answer) (said : List ℕ) (planned : CodePlanned)
    (read : ℕ) (id : Option (List ℕ)) → IsPlanned old (todos.Owe id) read
    → (answer ≡ answers.Nothing → HeardIs said (with_planned old planned)
    (silent (in_phase (passed read old) (model.AwaitsBlock model.TakesThis id))) new)
    → Heeds s old answer said new
owes s old new answer said planned read id todo arm = λ w m d gathered told h.
    let had = has_other w old m d gathered answer (todos.Owe id) read todo (λ e. cc) h in
    let due : Due =
    due_as asks.GoesOn (in_phase (passed read old) (model.AwaitsBlock model.TakesThis id)) in
    by_due w s d due gathered answer told said new had.due_is
    (λ is. heard_of w s due told said (with_planned old planned) new (silent due.after) refl
    (arm is) had.stands.limit)

-- a reply is said
pub replies : (s : ℕ) (old new : Session) (answer : Answer) (said : List ℕ)
    (planned : CodePlanned) (read : ℕ) (octets : Vec ℕ Global)
    → IsPlanned old (todos.Say octets) read
    → ((reply : Reply) → answer ≡ answers.Nothing → IsReply octets.items reply
    → HeardIs said (with_planned old planned)
    (says (in_phase (passed read old) model.Ready) reply) new)
    → Heeds s old answer said new
replies s old new answer said planned read octets todo arm = λ w m d gathered told h.
    let had = has_other w old m d gathered answer (todos.Say octets) read todo (λ e. cc) h in
    let reply : Reply = had.due_is.0 in
    let due : Due = due_as (asks.Says reply) (in_phase (passed read old) model.Ready) in
    by_due w s d due gathered answer told said new had.due_is.2
    (λ is. heard_of w s due told said (with_planned old planned) new (says due.after reply) refl
    (arm reply is had.due_is.1) had.stands.limit)

-- the last reply is said
pub leaves_with : (s : ℕ) (old new : Session) (answer : Answer) (said : List ℕ)
    (planned : CodePlanned) (read : ℕ) (octets : Vec ℕ Global)
    → IsPlanned old (todos.Leave octets) read
    → ((reply : Reply) → answer ≡ answers.Nothing → IsReply octets.items reply
    → HeardIs said (with_planned old planned) (parts (passed read old) reply) new)
    → Heeds s old answer said new
leaves_with s old new answer said planned read octets todo arm = λ w m d gathered told h.
    let had = has_other w old m d gathered answer (todos.Leave octets) read todo (λ e. cc) h in
    let reply : Reply = had.due_is.0 in
    let due : Due = due_as (asks.Leaves reply) (passed read old) in
    by_due w s d due gathered answer told said new had.due_is.2
    (λ is. heard_of w s due told said (with_planned old planned) new (parts due.after reply) refl
    (arm reply is had.due_is.1) had.stands.limit)

-- CHECK isn't IHAVE
pub not_ihave : {A : Type 0} → transfers.TakesThis ≡ transfers.Has → A
not_ihave e = cc

-- CHECK is answered
pub checks : (s : ℕ) (old new : Session) (answer : Answer) (said : List ℕ)
    (planned : CodePlanned) (read : ℕ) (id : List ℕ) (room since : ℕ)
    → IsPlanned old (todos.Check id room since) read
    → ((told : Offer) → answer ≡ answers.Offer told → is_full old.offers id ≡ false
    → old.phase ≡ phases.Ready → HeardIs said (with_planned old planned)
    (offer_heard (offering read old id since) model.TakesThis id (offer_view told)) new)
    → Heeds s old answer said new
checks s old new answer said planned read id room since todo arm = λ w m d gathered told h.
    let had =
    has_other w old m d gathered answer (todos.Check id room since) read todo (λ e. cc) h in
    let due : Due = due_as (asks.Offers model.TakesThis id) (offering read old id since) in
    by_due w s d due gathered answer told said new had.due_is.1
    (λ is. heard_of w s due told said (with_planned old planned) new
    (offer_heard due.after model.TakesThis id (offer_view is.0)) (offer_view is.0, is.2, refl)
    (arm is.0 is.1 had.due_is.0 had.fits) had.stands.limit)

-- IHAVE is answered
pub offers : (s : ℕ) (old new : Session) (answer : Answer) (said : List ℕ)
    (planned : CodePlanned) (read : ℕ) (id copy : List ℕ) (room since : ℕ)
    → IsPlanned old (todos.Ihave id copy room since) read
    → ((told : Offer) → answer ≡ answers.Offer told → copy ≡ id
    → is_full old.offers id ≡ false → old.phase ≡ phases.Ready
    → HeardIs said (with_planned old planned)
    (offer_heard (offering read old id since) model.Has id (offer_view told)) new)
    → Heeds s old answer said new
offers s old new answer said planned read id copy room since todo arm = λ w m d gathered told h.
    let had =
    has_other w old m d gathered answer (todos.Ihave id copy room since) read todo (λ e. cc) h in
    let due : Due = due_as (asks.Offers model.Has id) (offering read old id since) in
    by_due w s d due gathered answer told said new had.due_is.2
    (λ is. heard_of w s due told said (with_planned old planned) new
    (offer_heard due.after model.Has id (offer_view is.0)) (offer_view is.0, is.2, refl)
    (arm is.0 is.1 had.due_is.1 had.due_is.0 had.fits) had.stands.limit)

-- an offer that isn't wanted leaves the others as if it hadn't been opened
pub heard_without : (read : ℕ) (old : Session) (id : List ℕ) (since : ℕ)
    (transfer : model.Transfer) (told : OfferAnswer) → told ≢ Wanted
    → offer_heard (offering read old id since) transfer id told
    ≡ offer_heard (passed read old) transfer id told
heard_without read old id since transfer Wanted other = absurd (other refl)
heard_without read old id since transfer Later other =
    ap (λ offers. says (with_offers (passed read old) offers) (later transfer id))
    (opened_ended old.offers id since)
heard_without read old id since transfer Seen other =
    ap (λ offers. says (with_offers (passed read old) offers) (not_wanted transfer id))
    (opened_ended old.offers id since)

-- what is answered Wanted is so
pub is_wanted : (told : Offer) → offer_view told ≡ Wanted → told ≡ offer_answers.Wanted
is_wanted offer_answers.Wanted e = refl
is_wanted offer_answers.Later e = absurd cc
is_wanted offer_answers.Seen e = absurd cc
