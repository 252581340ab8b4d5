-- What a session makes of the answer to an article that is held, pushed or awaited.
use Rattle.std.proofs.Common.{◌≡◌, ◌≢◌, ℕ, Bool, true, false, List, [], Option, None, refl, sym, ap}
use Rattle.std.proofs.Common.{◌∙◌, option_map}
use Rattle.buffer_group.specs.Jobs.{article_view, job_view}
use Rattle.buffer_group.specs.declared.job.Accepted.{Accepted}
use Rattle.buffer_group.specs.declared.job.Job.{Job}
use Rattle.id_history.specs.Answers.{take_view}
use Rattle.id_history.specs.declared.claims.Take.{Take}
use Rattle.relay_model.specs.Asks as asks
use Rattle.relay_model.specs.Asks.{Ask, Due, due_as}
use Rattle.relay_model.specs.Hears.{Heard, push_heard, slot_heard, take_heard}
use Rattle.relay_model.specs.Shares as shares
use Rattle.relay_model.specs.State as model
use Rattle.relay_model.specs.State.{in_phase}
use Rattle.relay_model.specs.Terms.{Terms}
use Rattle.relay_model.specs.World as world
use Rattle.peer_session.specs.Answers.{IsAnswerTo, handed}
use Rattle.peer_session.specs.Hearing.{HeardBy, HeardIs, Heeds}
use Rattle.peer_session.specs.Planning.{DueIs, HandsOver, Planned}
use Rattle.peer_session.specs.Session.{outcome_view, session_view, transfer_view}
use Rattle.peer_session.specs.declared.phase.Phase.TheVariants as phases
use Rattle.peer_session.specs.declared.phase.Planned.{Planned as CodePlanned}
use Rattle.peer_session.specs.declared.phase.Todo.{Todo}
use Rattle.peer_session.specs.declared.phase.Todo.TheVariants as todos
use Rattle.peer_session.specs.declared.phase.Transfer.{Transfer}
use Rattle.peer_session.specs.declared.session.Session.{Session}
use Rattle.peer_session.specs.declared.steps.Answer.{Answer}
use Rattle.peer_session.specs.declared.steps.Answer.TheVariants as answers
use Rattle.peer_session.specs.declared.steps.Outcome.{Outcome}
use Rattle.peer_session.proofs.HearCommon.{by_due, has_other, has_todo, heard_of, IsPlanned}
use Rattle.peer_session.proofs.HearCommon.{kept_in, with_planned}

-- no push is asked where something else is due
no_push : (d : Due) (one : Ask) (m : model.Session) (job : model.Job) → d ≡ due_as one m
    → one ≢ asks.Pushes job → d.ask ≡ asks.Pushes job → ⊥
no_push d one m job is not ask = not (sym (ap (λ (due : Due). due.ask) is) ∙ ask)

-- only the plan of a push asks one
is_push : (todo : Todo) (read : ℕ) (old : Session) (d : Due) (job : model.Job)
    → DueIs todo read old d → d.ask ≡ asks.Pushes job → todo ≡ todos.Push
is_push todos.Rest read old d job due ask = absurd (no_push d _ _ job due (λ e. cc) ask)
is_push (todos.Owe id) read old d job due ask = absurd (no_push d _ _ job due (λ e. cc) ask)
is_push (todos.Say octets) read old d job due ask =
    absurd (no_push d _ _ job due.2 (λ e. cc) ask)
is_push (todos.Leave octets) read old d job due ask =
    absurd (no_push d _ _ job due.2 (λ e. cc) ask)
is_push (todos.Check id room since) read old d job due ask =
    absurd (no_push d _ _ job due.1 (λ e. cc) ask)
is_push (todos.Ihave id copy room since) read old d job due ask =
    absurd (no_push d _ _ job due.2 (λ e. cc) ask)
is_push (todos.Look part id room) read old d job due ask =
    absurd (no_push d _ _ job due (λ e. cc) ask)
is_push (todos.Fetch reading) read old d job due ask =
    absurd (no_push d _ _ job due.3 (λ e. cc) ask)
is_push todos.ReadOn read old d job due ask = absurd (no_push d _ _ job due.3 (λ e. cc) ask)
is_push (todos.Queue room) read old d job due ask =
    absurd (no_push d _ _ job due.1 (λ e. cc) ask)
is_push (todos.Refuse room) read old d job due ask =
    absurd (no_push d _ _ job due.4 (λ e. cc) ask)
is_push (todos.Take copy article room) read old d job due ask =
    absurd (no_push d _ _ job due.2 (λ e. cc) ask)
is_push (todos.TakeHeld copy) read old d job due ask =
    absurd (no_push d _ _ job due.3 (λ e. cc) ask)
is_push todos.Push read old d job due ask = refl
is_push todos.Slot read old d job due ask = absurd (no_push d _ _ job due.4 (λ e. cc) ask)
is_push todos.Release read old d job due ask = absurd (no_push d _ _ job due.4 (λ e. cc) ask)
is_push todos.End read old d job due ask = absurd (no_push d _ _ job due (λ e. cc) ask)

-- the job in hand is given
pub hands_over : (old : Session) (result hand : Option Job) → result ≡ old.hand → hand ≡ None
    → HandsOver old result (record old { hand = hand })
hands_over old result hand given none = λ w m d gathered job planned ask.
    let todo : old.planned.todo ≡ todos.Push =
    is_push old.planned.todo old.planned.read old d job planned.due_is ask in
    let had = has_todo w old m d gathered todos.Push old.planned.read (todo, refl) planned in
    let one : Job = had.due_is.0 in
    let asked : asks.Pushes (job_view one) ≡ asks.Pushes job =
    sym (ap (λ (due : Due). due.ask) had.due_is.2) ∙ ask in
    record {
      one = one;
      result_is = given ∙ had.due_is.1;
      job_is = cc;
      planned = record {
        job = job_view one;
        held = ap (λ (x : model.Session). x.hand) had.stands.is
            ∙ ap (λ (x : Option Job). option_map job_view x) had.due_is.1;
        stands = record {
          is = ap (λ (x : model.Session). record x { hand = None }) had.stands.is
              ∙ ap (λ (x : Option Job). session_view (record old { hand = x })) (sym none);
          gathers = had.stands.gathers;
          limit = had.stands.limit;
          has_all = had.stands.has_all;
        };
        begins = had.fits;
        pushes = todo;
        due_is = had.due_is.2 ∙ ap (λ x. due_as (asks.Pushes (job_view one)) x) (sym had.stands.is);
      };
    }

-- a held article was answered
pub takes_held : (s : ℕ) (old new : Session) (answer : Answer) (said : List ℕ)
    (planned : CodePlanned) (read : ℕ) (copy : List ℕ) → IsPlanned old (todos.TakeHeld copy) read
    → ((article : Accepted) (room : ℕ) (told : Take) → answer ≡ answers.Take told
    → old.phase ≡ phases.Holds copy article room → old.cutter.dropped ≡ 0
    → HeardIs said (with_planned old planned)
    (take_heard s (in_phase (session_view old) model.Ready) model.TakesThis copy
    (article_view article) (take_view told)) new)
    → Heeds s old answer said new
takes_held s old new answer said planned read copy todo arm = λ w m d gathered told h.
    let had = has_other w old m d gathered answer (todos.TakeHeld copy) read todo (λ e. cc) h in
    let article : Accepted = had.due_is.0 in
    let kept : old.cutter.dropped ≡ 0 =
    kept_in old (phases.Holds copy article had.due_is.1) had.due_is.2 had.stands.has_all in
    let due : Due =
    due_as (asks.Takes model.TakesThis copy (article_view article))
    (in_phase (session_view old) model.Ready) in
    by_due w s d due gathered answer told said new had.due_is.3
    (λ is. heard_of w s due told said (with_planned old planned) new
    (take_heard s due.after model.TakesThis copy (article_view article) (take_view is.0))
    (take_view is.0, is.2, refl)
    (arm article had.due_is.1 is.0 is.1 had.due_is.2 kept) had.stands.limit)

-- the push was answered: its job was handed over, or is in the hand still
pushed : (w : Terms) (s : ℕ) (m : model.Session) (d : Due) (gathered : List ℕ)
    (told : shares.Answer) (old : Session) (answer : Answer) (planned : CodePlanned) (read : ℕ)
    → IsPlanned old todos.Push read → (b : Bool) → handed answer ≡ b
    → Planned w old m d gathered b → IsAnswerTo d.ask gathered answer told
    → HeardBy w s d told [] (with_planned old planned)
pushed w s m d gathered told old answer planned read todo true given h =
    let new : Session = with_planned old planned in
    let due : Due = due_as (asks.Pushes h.job) m in
    by_due w s d due gathered answer told [] new h.due_is
    (λ is.
    let room : is.0 ≡ true = sym (ap handed is.1) ∙ given in
    heard_of w s due told [] new new (push_heard m true)
    (true, is.2 ∙ ap shares.ToPush room, refl) (record {
      said_is = refl;
      is = h.stands.is;
      limit = refl;
      has_all = h.stands.has_all;
      begins = h.begins;
    }) h.stands.limit)
pushed w s m d gathered told old answer planned read todo false left h =
    let new : Session = with_planned old planned in
    let had = has_todo w old m d gathered todos.Push read todo h in
    let due : Due = due_as (asks.Pushes (job_view had.due_is.0)) (session_view old) in
    by_due w s d due gathered answer told [] new had.due_is.2
    (λ is.
    let room : is.0 ≡ false = sym (ap handed is.1) ∙ left in
    heard_of w s due told [] new new (push_heard (session_view old) false)
    (false, is.2 ∙ ap shares.ToPush room, refl) (record {
      said_is = refl;
      is = refl;
      limit = refl;
      has_all = had.stands.has_all;
      begins = had.fits;
    }) had.stands.limit)

-- a push was answered
pub pushes : (s : ℕ) (old : Session) (answer : Answer) (planned : CodePlanned) (read : ℕ)
    → IsPlanned old todos.Push read → Heeds s old answer [] (with_planned old planned)
pushes s old answer planned read todo = λ w m d gathered told h is.
    pushed w s m d gathered told old answer planned read todo (handed answer) refl h is

-- the slot was looked into
pub looks_in_slot : (s : ℕ) (old new : Session) (answer : Answer) (said : List ℕ)
    (planned : CodePlanned) (read : ℕ) → IsPlanned old todos.Slot read
    → ((transfer : Transfer) (id : List ℕ) (room : ℕ) (told : Option Outcome)
    → answer ≡ answers.Slot told → old.phase ≡ phases.Waits transfer id room
    → old.cutter.dropped ≡ 0 → HeardIs said (with_planned old planned)
    (slot_heard (session_view old) (transfer_view transfer) id
    (option_map outcome_view told)) new)
    → Heeds s old answer said new
looks_in_slot s old new answer said planned read todo arm = λ w m d gathered told h.
    let had = has_other w old m d gathered answer todos.Slot read todo (λ e. cc) h in
    let transfer : Transfer = had.due_is.0 in
    let id : List ℕ = had.due_is.1 in
    let room : ℕ = had.due_is.2 in
    let waits : old.phase ≡ phases.Waits transfer id room = had.due_is.3 in
    let kept : old.cutter.dropped ≡ 0 =
    kept_in old (phases.Waits transfer id room) waits had.stands.has_all in
    let due : Due = due_as (asks.LooksInSlot (transfer_view transfer) id) (session_view old) in
    by_due w s d due gathered answer told said new had.due_is.4
    (λ is. let outcome : Option world.Outcome = option_map outcome_view is.0 in
    let heard : Heard = slot_heard due.after (transfer_view transfer) id outcome in
    heard_of w s due told said (with_planned old planned) new heard
    (outcome, is.2, refl {a = heard})
    (arm transfer id room is.0 is.1 waits kept) had.stands.limit)
