-- What a session makes of an answer: what holds whatever it has planned, and where nothing is due.
use Rattle.std.proofs.Common.{◌≡◌, ◌≢◌, ℕ, Bool, true, false, List, [], refl, sym, ap, subst, ◌∙◌}
use Rattle.std.proofs.Common.{inl}
use Rattle.relay_model.specs.Asks as asks
use Rattle.relay_model.specs.Asks.{Ask, Due, due_as}
use Rattle.relay_model.specs.Hears.{Heard, Hears, silent}
use Rattle.relay_model.specs.Shares as shares
use Rattle.relay_model.specs.State as model
use Rattle.relay_model.specs.Terms.{Terms}
use Rattle.peer_session.specs.Answers.{IsAnswerTo, handed}
use Rattle.peer_session.specs.Hearing.{Forgets, Gathers, HeardBy, HeardIs, Heeds}
use Rattle.peer_session.specs.Planning.{DueIs, FitsPhase, HasPlanned, Planned}
use Rattle.peer_session.specs.Session.{HasAll, HasReadNone, Stands, gathered_of, phase_view}
use Rattle.peer_session.specs.Session.{session_view}
use Rattle.peer_session.specs.declared.phase.Phase.{Phase}
use Rattle.peer_session.specs.declared.phase.Phase.TheVariants as phases
use Rattle.peer_session.specs.declared.phase.Planned.{Planned as CodePlanned}
use Rattle.peer_session.specs.declared.phase.Todo.{Todo}
use Rattle.peer_session.specs.declared.phase.Todo.TheVariants as todos
use Rattle.peer_session.specs.declared.session.Session.{Session}
use Rattle.peer_session.specs.declared.steps.Answer.{Answer}

-- a session that has only begun to fetch has gathered nothing
none_gathered : (phase : Phase) → HasReadNone phase → [] ≡ gathered_of phase
none_gathered phases.Ready h = refl
none_gathered (phases.AwaitsBlock transfer id) h = refl
none_gathered (phases.Holds id article room) h = refl
none_gathered (phases.Waits transfer id room) h = refl
none_gathered (phases.Fetches reading) h = sym h.0
none_gathered phases.Leaving h = refl
none_gathered phases.Ended h = refl

-- nothing gathered is what such a phase has
gathers_none : (ask : Ask) (told : shares.Answer) (phase : Phase) → HasReadNone phase
    → Gathers ask told (phase_view phase) []
gathers_none ask told phases.Ready h = refl
gathers_none ask told (phases.AwaitsBlock transfer id) h = refl
gathers_none ask told (phases.Holds id article room) h = refl
gathers_none ask told (phases.Waits transfer id room) h = refl
gathers_none ask told (phases.Fetches reading) h = inl (refl, h.1)
gathers_none ask told phases.Leaving h = refl
gathers_none ask told phases.Ended h = refl

-- what was heard is what the definitions say, where no fetch had begun
pub heard_of : (w : Terms) (s : ℕ) (d : Due) (told : shares.Answer) (said : List ℕ)
    (old new : Session) (heard : Heard) → Hears s d.after d.ask told heard
    → HeardIs said old heard new → old.cutter.limit ≡ w.max_article
    → HeardBy w s d told said new
heard_of w s d told said old new heard hears is limit =
    record {
      heard = heard;
      later = [];
      hears = hears;
      is_said = is.said_is;
      stands = record {
        is = is.is;
        gathers = none_gathered new.phase is.begins;
        limit = is.limit ∙ limit;
        has_all = is.has_all;
      };
      gathers = subst (λ (m : model.Session). Gathers d.ask told m.phase []) (sym is.is)
          (gathers_none d.ask told new.phase is.begins);
    }

-- the old session with something else planned
abbrev pub with_planned : Session → CodePlanned → Session
with_planned old planned = record old { planned = planned }

-- this is planned, and so many octets count as read
abbrev pub IsPlanned : Session → Todo → ℕ → Type 0
IsPlanned old todo read = (old.planned.todo ≡ todo) × (old.planned.read ≡ read)

-- what was taken out of the session was planned
pub was_planned : (old : Session) (taken : CodePlanned) (todo : Todo) → taken ≡ old.planned
    → taken.todo ≡ todo → IsPlanned old todo taken.read
was_planned old taken todo is one =
    (ap (λ (x : CodePlanned). x.todo) (sym is) ∙ one, ap (λ (x : CodePlanned). x.read) (sym is))

-- What a session has planned for m that stands for it.
pub record Has (w : Terms) (old : Session) (m : model.Session) (d : Due) (gathered : List ℕ)
    (todo : Todo) (read : ℕ) : Type 0 where
  pub stands : Stands w old m gathered
  pub due_is : DueIs todo read old d
  pub fits : FitsPhase todo old.phase

-- where no push is planned, none was handed over
has_planned : (w : Terms) (old : Session) (m : model.Session) (d : Due) (gathered : List ℕ)
    (b : Bool) → old.planned.todo ≢ todos.Push → Planned w old m d gathered b
    → HasPlanned w old m d gathered
has_planned w old m d gathered true not h = absurd (not h.pushes)
has_planned w old m d gathered false not h = h

-- what is planned, once it is known
pub has_todo : (w : Terms) (old : Session) (m : model.Session) (d : Due) (gathered : List ℕ)
    (todo : Todo) (read : ℕ) → IsPlanned old todo read → HasPlanned w old m d gathered
    → Has w old m d gathered todo read
has_todo w old m d gathered todo read is h =
    record {
      stands = h.stands;
      due_is = subst (λ k. DueIs todo k old d) is.1
          (subst (λ one. DueIs one old.planned.read old d) is.0 h.due_is);
      fits = subst (λ one. FitsPhase one old.phase) is.0 h.fits;
    }

-- the same, where it is no push
pub has_other : (w : Terms) (old : Session) (m : model.Session) (d : Due) (gathered : List ℕ)
    (answer : Answer) (todo : Todo) (read : ℕ) → IsPlanned old todo read → todo ≢ todos.Push
    → Planned w old m d gathered (handed answer) → Has w old m d gathered todo read
has_other w old m d gathered answer todo read is not h =
    has_todo w old m d gathered todo read is
    (has_planned w old m d gathered (handed answer) (λ push. not (sym is.0 ∙ push)) h)

-- no octet was dropped where the phase says so
pub kept_in : (old : Session) (phase : Phase) → old.phase ≡ phase
    → HasAll old.phase old.cutter.dropped → HasAll phase old.cutter.dropped
kept_in old phase is h = subst (λ p. HasAll p old.cutter.dropped) is h

-- the answer to what is due gives what was heard
pub by_due : (w : Terms) (s : ℕ) (d due : Due) (gathered : List ℕ) (answer : Answer)
    (told : shares.Answer) (said : List ℕ) (new : Session) → d ≡ due
    → (IsAnswerTo due.ask gathered answer told → HeardBy w s due told said new)
    → IsAnswerTo d.ask gathered answer told → HeardBy w s d told said new
by_due w s d due gathered answer told said new is arm =
    subst (λ (one : Due). IsAnswerTo one.ask gathered answer told → HeardBy w s one told said new)
    (sym is) arm

-- what stands is forgotten with what was planned
pub forgets : (old new : Session) (planned : CodePlanned) → new ≡ with_planned old planned
    → Forgets old new
forgets old new planned is = λ w m d gathered h.
    subst (λ one. Stands w one m gathered) (sym is) (record {
      is = h.stands.is;
      gathers = h.stands.gathers;
      limit = h.stands.limit;
      has_all = h.stands.has_all;
    })

-- nothing was due
pub rests : (s : ℕ) (old : Session) (answer : Answer) (planned : CodePlanned) (read : ℕ)
    → IsPlanned old todos.Rest read → Heeds s old answer [] (with_planned old planned)
rests s old answer planned read todo = λ w m d gathered told h.
    let new : Session = with_planned old planned in
    let had = has_other w old m d gathered answer todos.Rest read todo (λ e. cc) h in
    let due : Due = due_as asks.Rests (session_view old) in
    by_due w s d due gathered answer told [] new had.due_is
    (λ is. heard_of w s due told [] new new (silent due.after) refl (record {
      said_is = refl;
      is = refl;
      limit = refl;
      has_all = had.stands.has_all;
      begins = had.fits;
    }) had.stands.limit)
