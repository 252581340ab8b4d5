-- What a session makes of whatever a read gave.
use Rattle.std.proofs.Common.{◌≡◌, ℕ, ◌+◌, Bool, true, false, List, [], None, Some}
use Rattle.std.proofs.Common.{refl, sym, ap, subst, ◌∙◌, Vec}
use Rattle.std.specs.declared.alloc.Global.{Global}
use Rattle.article_fetch.specs.Fetch.{Fetch}
use Rattle.article_fetch.specs.Given.{HearsAny, given}
use Rattle.article_fetch.specs.declared.chunk.Chunk.{Chunk}
use Rattle.news_terms.specs.Reply.{Reply}
use Rattle.news_terms.specs.Token.{Token}
use Rattle.relay_model.specs.Asks as asks
use Rattle.relay_model.specs.Asks.{Ask, Due, due_as}
use Rattle.relay_model.specs.Fetches.{Fetched}
use Rattle.relay_model.specs.Hears.{Heard, says, silent}
use Rattle.relay_model.specs.State as model
use Rattle.relay_model.specs.State.{Asked, in_phase}
use Rattle.relay_model.specs.Terms.{Terms}
use Rattle.peer_session.specs.Given.{HeardOfRead, HeedsRead, ReadAny, ReadAnyIs, gathered_on}
use Rattle.peer_session.specs.Planning.{DueIs}
use Rattle.peer_session.specs.Session.{HasAll, gathered_of, leaves, passed, phase_view}
use Rattle.peer_session.specs.Session.{session_view}
use Rattle.peer_session.specs.declared.phase.Phase.TheVariants as phases
use Rattle.peer_session.specs.declared.phase.Planned.{Planned as CodePlanned}
use Rattle.peer_session.specs.declared.phase.Todo.{Todo}
use Rattle.peer_session.specs.declared.phase.Todo.TheVariants as todos
use Rattle.peer_session.specs.declared.session.Session.{Session}
use Rattle.peer_session.specs.declared.steps.Answer.{Answer}
use Rattle.peer_session.specs.declared.steps.Answer.TheVariants as answers
use Rattle.peer_session.proofs.HearCommon.{has_todo, IsPlanned, kept_in, with_planned}

-- what a fetch was given is said, and it has ended
pub any_said : (old : Session) (fetch : Fetch) (chunk : Chunk) (octets : Vec ℕ Global)
    (later : Fetch) → old.phase ≡ phases.Ready → old.cutter.dropped ≡ 0
    → HearsAny fetch chunk (Some octets) later
    → ReadAnyIs octets.items old (session_view old) fetch chunk old
any_said old fetch chunk octets later ready kept h =
    let reply : Reply = h.1.0 in
    let found : Fetched = given fetch.gathered chunk in
    let P : Bool → Type 0 =
    λ more. ReadAny (session_view old) fetch.asked fetch.token fetch.had found more
    (says (session_view old) reply) in
    record {
      heard = says (session_view old) reply;
      hears = subst P (sym h.0) (reply, h.1.1, refl);
      said_is = (
        record { text = h.1.2; some = h.1.3 },
        subst (λ p. leaves p ≡ false) (sym ready) refl,
      );
      is = refl;
      limit = refl;
      has_all = subst (λ p. HasAll p old.cutter.dropped) (sym ready) kept;
      gathers = ap gathered_of ready
          ∙ ap (λ more. gathered_on more fetch.gathered chunk) (sym h.0);
    }

-- a fetch goes on
pub any_read : (old : Session) (fetch : Fetch) (chunk : Chunk) (later : Fetch)
    → old.cutter.dropped ≡ 0 → HearsAny fetch chunk None later
    → ReadAnyIs [] old (session_view old) fetch chunk (record old { phase = phases.Fetches later })
any_read old fetch chunk later kept h =
    let found : Fetched = given fetch.gathered chunk in
    let heard : Heard =
    silent (in_phase (session_view old) (model.Fetches fetch.asked fetch.token (fetch.had + 1))) in
    let P : Bool → Type 0 =
    λ more. ReadAny (session_view old) fetch.asked fetch.token fetch.had found more heard in
    record {
      heard = heard;
      hears = subst P (sym h.0) refl;
      said_is = refl;
      is = ap (λ (one : Fetch). in_phase (session_view old)
          (model.Fetches one.asked one.token one.had)) (sym h.1);
      limit = refl;
      has_all = kept;
      gathers = ap (λ (one : Fetch). one.gathered) h.1
          ∙ ap (λ more. gathered_on more fetch.gathered chunk) (sym h.0);
    }

-- what was heard of a block of a fetch, whatever it was
any_of : (w : Terms) (session : model.Session) (fetch : Fetch) (chunk : Chunk)
    (gathered said : List ℕ) (old new : Session) → gathered ≡ fetch.gathered
    → ReadAnyIs said old session fetch chunk new → old.cutter.limit ≡ w.max_article
    → HeardOfRead w session fetch.asked fetch.token fetch.had gathered chunk said new
any_of w session fetch chunk gathered said old new front is limit =
    subst (λ g. HeardOfRead w session fetch.asked fetch.token fetch.had g chunk said new)
    (sym front)
    (record {
      heard = is.heard;
      later = gathered_of new.phase;
      hears = is.hears;
      is_said = is.said_is;
      stands = record {
        is = is.is;
        gathers = refl;
        limit = is.limit ∙ limit;
        has_all = is.has_all;
      };
      gathers = is.gathers;
    })

-- the fetch that is asked for is the one that is planned
by_read : (w : Terms) (d due : Due) (fetch : Fetch) (asked : Asked) (token : Token) (had : ℕ)
    (gathered said : List ℕ) (chunk : Chunk) (new : Session) → d ≡ due
    → due.ask ≡ asks.Reads fetch.asked fetch.token fetch.had → d.ask ≡ asks.Reads asked token had
    → HeardOfRead w due.after fetch.asked fetch.token fetch.had gathered chunk said new
    → HeardOfRead w d.after asked token had gathered chunk said new
by_read w d due fetch asked token had gathered said chunk new is plans asks_it heard =
    let same : asks.Reads fetch.asked fetch.token fetch.had ≡ asks.Reads asked token had =
    sym plans ∙ ap (λ (one : Due). one.ask) (sym is) ∙ asks_it in
    subst (λ (a : Ask). Heard_at a) same
    (subst (λ (one : Due). HeardOfRead w one.after fetch.asked fetch.token fetch.had gathered
    chunk said new) (sym is) heard)
  where
    Heard_at : Ask → Type 0
    Heard_at (asks.Reads one of k) = HeardOfRead w d.after one of k gathered chunk said new
    Heard_at other = Unit {0}

-- the first block of a token was read
pub given_first : (old new : Session) (answer : Answer) (said : List ℕ) (planned : CodePlanned)
    (read : ℕ) (reading : Fetch) → IsPlanned old (todos.Fetch reading) read
    → ((chunk : Chunk) → answer ≡ answers.Chunk chunk → reading.prepared ≡ true
    → old.phase ≡ phases.Ready
    → ReadAnyIs said (with_planned old planned) (passed read old) reading chunk new)
    → HeedsRead old answer said new
given_first old new answer said planned read reading todo arm w m d gathered asked token had chunk
    plans asks_it is =
    let it = has_todo w old m d gathered (todos.Fetch reading) read todo plans in
    let front : gathered ≡ reading.gathered =
    it.stands.gathers ∙ ap gathered_of it.fits ∙ sym it.due_is.2 in
    let ready : in_phase (passed read old) model.Ready ≡ passed read old =
    ap (λ p. in_phase (passed read old) (phase_view p)) (sym it.fits) in
    let due : Due =
    due_as (asks.Reads reading.asked reading.token reading.had) (passed read old) in
    let is_due : d ≡ due =
    it.due_is.3
    ∙ ap (λ k. due_as (asks.Reads reading.asked reading.token k)
    (in_phase (passed read old) model.Ready)) (sym it.due_is.1)
    ∙ ap (due_as (asks.Reads reading.asked reading.token reading.had)) ready in
    by_read w d due reading asked token had gathered said chunk new is_due refl asks_it
    (any_of w (passed read old) reading chunk gathered said (with_planned old planned) new front
    (arm chunk is it.due_is.0 it.fits) it.stands.limit)

-- the next block of a fetch was read
pub given_on : (old new : Session) (answer : Answer) (said : List ℕ) (planned : CodePlanned)
    (read : ℕ) → IsPlanned old todos.ReadOn read
    → ((reading : Fetch) (chunk : Chunk) → answer ≡ answers.Chunk chunk
    → old.phase ≡ phases.Fetches reading → reading.prepared ≡ true → old.cutter.dropped ≡ 0
    → ReadAnyIs said (with_planned old planned) (in_phase (session_view old) model.Ready)
    reading chunk new)
    → HeedsRead old answer said new
given_on old new answer said planned read todo arm w m d gathered asked token had chunk plans
    asks_it is =
    let it = has_todo w old m d gathered todos.ReadOn read todo plans in
    let reading : Fetch = it.due_is.0 in
    let fetches_it : old.phase ≡ phases.Fetches reading = it.due_is.1 in
    let front : gathered ≡ reading.gathered = it.stands.gathers ∙ ap gathered_of fetches_it in
    let kept : old.cutter.dropped ≡ 0 =
    kept_in old (phases.Fetches reading) fetches_it it.stands.has_all in
    let session : model.Session = in_phase (session_view old) model.Ready in
    by_read w d (due_as (asks.Reads reading.asked reading.token reading.had) session) reading asked
    token had gathered said chunk new it.due_is.3 refl asks_it
    (any_of w session reading chunk gathered said (with_planned old planned) new front
    (arm reading chunk is fetches_it it.due_is.2 kept) it.stands.limit)

-- a block is to be read
abbrev reads_block : Ask → Bool
reads_block asks.Rests = false
reads_block asks.GoesOn = false
reads_block (asks.Says reply) = false
reads_block (asks.Leaves reply) = false
reads_block (asks.Offers transfer id) = false
reads_block (asks.Looks part id) = false
reads_block (asks.Reads asked token had) = true
reads_block (asks.TakesQueue feed most) = false
reads_block (asks.Refuses transfer id reason) = false
reads_block (asks.Takes transfer id article) = false
reads_block (asks.Pushes job) = false
reads_block (asks.LooksInSlot transfer id) = false
reads_block (asks.Releases id) = false
reads_block asks.Ends = false

-- the plan of a block that is to be read
abbrev pub plans_block : Todo → Bool
plans_block todos.Rest = false
plans_block (todos.Owe id) = false
plans_block (todos.Say octets) = false
plans_block (todos.Leave octets) = false
plans_block (todos.Check id room since) = false
plans_block (todos.Ihave id copy room since) = false
plans_block (todos.Look part id room) = false
plans_block (todos.Fetch reading) = true
plans_block todos.ReadOn = true
plans_block (todos.Queue room) = false
plans_block (todos.Refuse room) = false
plans_block (todos.Take copy article room) = false
plans_block (todos.TakeHeld copy) = false
plans_block todos.Push = false
plans_block todos.Slot = false
plans_block todos.Release = false
plans_block todos.End = false

-- another plan asks for no block
no_block : (todo : Todo) (read : ℕ) (old : Session) (d : Due) → plans_block todo ≡ false
    → DueIs todo read old d → reads_block d.ask ≡ false
no_block todos.Rest read old d none is = ap (λ (one : Due). reads_block one.ask) is
no_block (todos.Owe id) read old d none is = ap (λ (one : Due). reads_block one.ask) is
no_block (todos.Say octets) read old d none is = ap (λ (one : Due). reads_block one.ask) is.2
no_block (todos.Leave octets) read old d none is = ap (λ (one : Due). reads_block one.ask) is.2
no_block (todos.Check id room since) read old d none is =
    ap (λ (one : Due). reads_block one.ask) is.1
no_block (todos.Ihave id copy room since) read old d none is =
    ap (λ (one : Due). reads_block one.ask) is.2
no_block (todos.Look part id room) read old d none is = ap (λ (one : Due). reads_block one.ask) is
no_block (todos.Fetch reading) read old d none is = cc
no_block todos.ReadOn read old d none is = cc
no_block (todos.Queue room) read old d none is = ap (λ (one : Due). reads_block one.ask) is.1
no_block (todos.Refuse room) read old d none is = ap (λ (one : Due). reads_block one.ask) is.4
no_block (todos.Take copy article room) read old d none is =
    ap (λ (one : Due). reads_block one.ask) is.2
no_block (todos.TakeHeld copy) read old d none is = ap (λ (one : Due). reads_block one.ask) is.3
no_block todos.Push read old d none is = ap (λ (one : Due). reads_block one.ask) is.2
no_block todos.Slot read old d none is = ap (λ (one : Due). reads_block one.ask) is.4
no_block todos.Release read old d none is = ap (λ (one : Due). reads_block one.ask) is.4
no_block todos.End read old d none is = ap (λ (one : Due). reads_block one.ask) is

-- of what was read, nothing is to be said to another plan
pub not_read : (old new : Session) (answer : Answer) (said : List ℕ) (todo : Todo) (read : ℕ)
    → plans_block todo ≡ false → IsPlanned old todo read → HeedsRead old answer said new
not_read old new answer said todo read none is w m d gathered asked token had chunk plans asks_it
    told =
    let it = has_todo w old m d gathered todo read is plans in
    absurd (cc (sym (ap reads_block asks_it) ∙ no_block todo read old d none it.due_is))
