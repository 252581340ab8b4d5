-- What a session makes of what was found by an id, of a token or in a queue.
use Rattle.std.proofs.Common.{◌≡◌, ◌≤◌, ℕ, ◌+◌, Bool, true, false, List, [], Option, None, Some}
use Rattle.std.proofs.Common.{refl, sym, ap, subst, ◌∙◌, inr, option_map, Vec}
use Rattle.std.specs.Prelude.{length, map}
use Rattle.std.specs.declared.alloc.Global.{Global}
use Rattle.article_fetch.specs.Fetch.{Fetch, FoundAs, HearsBlock, went_on}
use Rattle.cyc_token.specs.Token.{token_view}
use Rattle.cyc_token.specs.declared.Token.{Token}
use Rattle.feed_queue.specs.declared.desk.Taken.{Taken}
use Rattle.news_terms.specs.Reply.{Reply, QueueFollows}
use Rattle.nntp_text.specs.Command.{part_view}
use Rattle.nntp_text.specs.Reply.{item_view}
use Rattle.nntp_text.specs.declared.command.Part.{Part}
use Rattle.relay_model.specs.Asks as asks
use Rattle.relay_model.specs.Asks.{Ask, Due, due_as}
use Rattle.relay_model.specs.Fetches.{Fetched}
use Rattle.relay_model.specs.Hears.{Heard, ReadHeard, look_heard, says, silent}
use Rattle.relay_model.specs.Shares as shares
use Rattle.relay_model.specs.State as model
use Rattle.relay_model.specs.State.{in_phase}
use Rattle.relay_model.specs.Terms.{Terms}
use Rattle.peer_session.specs.Hearing.{Gathers, HeardBy, HeardIs, Heeds, ReadHeardIs}
use Rattle.peer_session.specs.Session.{HasAll, gathered_of, leaves, passed, phase_view}
use Rattle.peer_session.specs.Session.{session_view}
use Rattle.article_fetch.specs.declared.chunk.Chunk.{Chunk}
use Rattle.peer_session.specs.declared.phase.Phase.TheVariants as phases
use Rattle.peer_session.specs.declared.phase.Planned.{Planned as CodePlanned}
use Rattle.peer_session.specs.declared.phase.Todo.TheVariants as todos
use Rattle.peer_session.specs.declared.session.Session.{Session}
use Rattle.peer_session.specs.declared.steps.Answer.{Answer}
use Rattle.peer_session.specs.declared.steps.Answer.TheVariants as answers
use Rattle.peer_session.proofs.HearCommon.{by_due, has_other, heard_of, IsPlanned, kept_in}
use Rattle.peer_session.proofs.HearCommon.{with_planned}

-- what a fetch found is said, and it has ended
pub block_said : (old : Session) (fetch : Fetch) (found : Fetched) (octets : Vec ℕ Global)
    (later : Fetch) → old.phase ≡ phases.Ready → old.cutter.dropped ≡ 0
    → HearsBlock fetch found (Some octets) later
    → ReadHeardIs octets.items old (session_view old) fetch found old
block_said old fetch found octets later ready kept h =
    let reply : Reply = h.1.0 in
    let ask : Ask = asks.Reads fetch.asked fetch.token fetch.had in
    let P : Bool → Type 0 =
    λ more. ReadHeard (session_view old) fetch.asked fetch.token fetch.had found more
    (says (session_view old) reply) in
    record {
      heard = says (session_view old) reply;
      hears = subst P (sym h.0) (reply, h.1.1, refl);
      said_is = (
        record { text = h.1.2; some = h.1.3 },
        subst (λ p. leaves p ≡ false) (sym ready) refl,
      );
      is = refl;
      limit = refl;
      has_all = subst (λ p. HasAll p old.cutter.dropped) (sym ready) kept;
      gathers = subst (λ p. Gathers ask (shares.ToRead found) (phase_view p) (gathered_of p))
          (sym ready) refl;
    }

-- a fetch goes on, and has gathered the front of the text that it found
pub block_read : (old : Session) (fetch : Fetch) (found : Fetched) (later : Fetch)
    → old.cutter.dropped ≡ 0 → HearsBlock fetch found None later
    → ReadHeardIs [] old (session_view old) fetch found
    (record old { phase = phases.Fetches later })
block_read old fetch found later kept h =
    let text : List ℕ = h.1 in
    let is : later ≡ went_on fetch text = h.3 in
    let heard : Heard =
    silent (in_phase (session_view old) (model.Fetches fetch.asked fetch.token (fetch.had + 1))) in
    let P : Bool → Type 0 =
    λ more. ReadHeard (session_view old) fetch.asked fetch.token fetch.had found more heard in
    record {
      heard = heard;
      hears = subst P (sym h.0) refl;
      said_is = refl;
      is = ap (λ (one : Fetch). in_phase (session_view old)
          (model.Fetches one.asked one.token one.had)) (sym is);
      limit = refl;
      has_all = kept;
      gathers = inr (
        fetch.had,
        text,
        refl,
        ap shares.ToRead h.2,
        ap (λ (one : Fetch). one.gathered) is,
      );
    }

-- what was heard of a block that was read
read_of : (w : Terms) (s : ℕ) (session : model.Session) (fetch : Fetch) (found : Fetched)
    (told : shares.Answer) (said : List ℕ) (old new : Session) → told ≡ shares.ToRead found
    → ReadHeardIs said old session fetch found new → old.cutter.limit ≡ w.max_article
    → HeardBy w s (due_as (asks.Reads fetch.asked fetch.token fetch.had) session) told said new
read_of w s session fetch found told said old new told_is is limit =
    record {
      heard = is.heard;
      later = gathered_of new.phase;
      hears = (found, told_is, is.hears);
      is_said = is.said_is;
      stands = record {
        is = is.is;
        gathers = refl;
        limit = is.limit ∙ limit;
        has_all = is.has_all;
      };
      gathers = subst (λ one. Gathers (asks.Reads fetch.asked fetch.token fetch.had) one
          is.heard.session.phase (gathered_of new.phase)) (sym told_is) is.gathers;
    }

-- an id was looked up
pub looks : (s : ℕ) (old new : Session) (answer : Answer) (said : List ℕ)
    (planned : CodePlanned) (read : ℕ) (part : Part) (id : List ℕ) (room : ℕ)
    → IsPlanned old (todos.Look part id room) read
    → ((told : Option Token) → answer ≡ answers.Look told → old.phase ≡ phases.Ready
    → HeardIs said (with_planned old planned)
    (look_heard (passed read old) (part_view part) id (option_map token_view told)) new)
    → Heeds s old answer said new
looks s old new answer said planned read part id room todo arm = λ w m d gathered told h.
    let had =
    has_other w old m d gathered answer (todos.Look part id room) read todo (λ e. cc) h in
    let due : Due = due_as (asks.Looks (part_view part) id) (passed read old) in
    by_due w s d due gathered answer told said new had.due_is
    (λ is. let token : Option _ = option_map token_view is.0 in
    heard_of w s due told said (with_planned old planned) new
    (look_heard due.after (part_view part) id token) (token, is.2, refl)
    (arm is.0 is.1 had.fits) had.stands.limit)

-- the fetch that an answer speaks of is that of the session
same_found : (reading : Fetch) (gathered : List ℕ) (chunk : Chunk) (found : Fetched)
    → gathered ≡ reading.gathered → reading.prepared ≡ true
    → FoundAs (record reading { gathered = gathered; prepared = true }) chunk found
    → FoundAs reading chunk found
same_found reading gathered chunk found front prepared h =
    subst (λ (yes : Bool). FoundAs (record reading { prepared = yes }) chunk found) (sym prepared)
    (subst (λ (some : List ℕ). FoundAs (record reading { gathered = some; prepared = true }) chunk
    found) front h)

-- the first block of a token was read
pub reads_first : (s : ℕ) (old new : Session) (answer : Answer) (said : List ℕ)
    (planned : CodePlanned) (read : ℕ) (reading : Fetch)
    → IsPlanned old (todos.Fetch reading) read
    → ((chunk : Chunk) (found : Fetched) → answer ≡ answers.Chunk chunk
    → FoundAs reading chunk found → reading.prepared ≡ true → old.phase ≡ phases.Ready
    → ReadHeardIs said (with_planned old planned) (passed read old) reading found new)
    → Heeds s old answer said new
reads_first s old new answer said planned read reading todo arm = λ w m d gathered told h.
    let had = has_other w old m d gathered answer (todos.Fetch reading) read todo (λ e. cc) h in
    let front : gathered ≡ reading.gathered =
    had.stands.gathers ∙ ap gathered_of had.fits ∙ sym had.due_is.2 in
    let ready : in_phase (passed read old) model.Ready ≡ passed read old =
    ap (λ p. in_phase (passed read old) (phase_view p)) (sym had.fits) in
    let due : Due =
    due_as (asks.Reads reading.asked reading.token reading.had) (passed read old) in
    let is_due : d ≡ due =
    had.due_is.3
    ∙ ap (λ k. due_as (asks.Reads reading.asked reading.token k)
    (in_phase (passed read old) model.Ready)) (sym had.due_is.1)
    ∙ ap (due_as (asks.Reads reading.asked reading.token reading.had)) ready in
    by_due w s d due gathered answer told said new is_due
    (λ is.
    let found_as : FoundAs reading is.0 is.1 =
    same_found reading gathered is.0 is.1 front had.due_is.0 is.4 in
    read_of w s (passed read old) reading is.1 told said (with_planned old planned) new is.3
    (arm is.0 is.1 is.2 found_as had.due_is.0 had.fits) had.stands.limit)

-- the next block of a fetch was read
pub reads_on : (s : ℕ) (old new : Session) (answer : Answer) (said : List ℕ)
    (planned : CodePlanned) (read : ℕ) → IsPlanned old todos.ReadOn read
    → ((reading : Fetch) (chunk : Chunk) (found : Fetched) → answer ≡ answers.Chunk chunk
    → old.phase ≡ phases.Fetches reading → FoundAs reading chunk found
    → reading.prepared ≡ true → old.cutter.dropped ≡ 0
    → ReadHeardIs said (with_planned old planned) (in_phase (session_view old) model.Ready)
    reading found new)
    → Heeds s old answer said new
reads_on s old new answer said planned read todo arm = λ w m d gathered told h.
    let had = has_other w old m d gathered answer todos.ReadOn read todo (λ e. cc) h in
    let reading : Fetch = had.due_is.0 in
    let fetches_it : old.phase ≡ phases.Fetches reading = had.due_is.1 in
    let front : gathered ≡ reading.gathered =
    had.stands.gathers ∙ ap gathered_of fetches_it in
    let kept : old.cutter.dropped ≡ 0 =
    kept_in old (phases.Fetches reading) fetches_it had.stands.has_all in
    let session : model.Session = in_phase (session_view old) model.Ready in
    by_due w s d (due_as (asks.Reads reading.asked reading.token reading.had) session) gathered
    answer told said new had.due_is.3
    (λ is.
    let found_as : FoundAs reading is.0 is.1 =
    same_found reading gathered is.0 is.1 front had.due_is.2 is.4 in
    read_of w s session reading is.1 told said (with_planned old planned) new is.3
    (arm reading is.0 is.1 is.2 fetches_it found_as had.due_is.2 kept) had.stands.limit)

-- a queue was taken
pub takes_queue : (s : ℕ) (old new : Session) (answer : Answer) (said : List ℕ)
    (planned : CodePlanned) (read : ℕ) (room : ℕ) → IsPlanned old (todos.Queue room) read
    → ((taken : Taken) → answer ≡ answers.Queue taken
    → length taken.items.items ≤ room → old.phase ≡ phases.Ready
    → HeardIs said (with_planned old planned)
    (says (passed read old) (QueueFollows taken.missed (map item_view taken.items.items))) new)
    → Heeds s old answer said new
takes_queue s old new answer said planned read room todo arm = λ w m d gathered told h.
    let had = has_other w old m d gathered answer (todos.Queue room) read todo (λ e. cc) h in
    let due : Due = due_as (asks.TakesQueue had.due_is.0 room) (passed read old) in
    by_due w s d due gathered answer told said new had.due_is.1
    (λ is. let taken : Taken = is.0 in
    heard_of w s due told said (with_planned old planned) new
    (says due.after (QueueFollows taken.missed (map item_view taken.items.items)))
    (taken.missed, map item_view taken.items.items, is.3, refl)
    (arm taken is.1 is.2 had.fits) had.stands.limit)
