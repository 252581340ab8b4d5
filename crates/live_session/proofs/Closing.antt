-- A session that is closed has nothing left.
use Rattle.std.proofs.Common.{◌≡◌, ℕ, Bool, true, false, List, [], ◌∷◌, Option, None, Some, Result}
use Rattle.std.proofs.Common.{Ok, Err, ◌+◌, ◌++◌, refl, sym, ap, subst}
use Rattle.std.proofs.lemmas.Bool.{cond_both}
use Rattle.boxcar.specs.Table.{Shelves}
use Rattle.live_session.specs.Course.{Course, Begins, Breaks, Comes, Goes, HearsAny, HearsBy, Point}
use Rattle.news_terms.specs.Blocks.{NextBlock, Whole, Oversize, Unfinished, next_block}
use Rattle.news_terms.specs.Command.{Command, AskCapabilities, AskHelp, AskDate, Quit, ModeStream}
use Rattle.news_terms.specs.Command.{ModeReader, Check, Ihave, TakeThis, Fetch, NeedsGroup}
use Rattle.news_terms.specs.Command.{TakeQueue, FetchToken, CommandFault, Syntax, command_of}
use Rattle.news_terms.specs.Command as commands
use Rattle.news_terms.specs.Lines.{NextLine, Cut, TooLong, Incomplete, next_line}
use Rattle.news_terms.specs.Token.{Token}
use Rattle.peer_session.specs.Given.{ReadAny}
use Rattle.relay_model.specs.Asks.{Ask, Rests, GoesOn, Says, Leaves, Offers, Looks, Reads}
use Rattle.relay_model.specs.Asks.{IsDueAtCommand, run_out, with_offer}
use Rattle.relay_model.specs.Asks.{TakesQueue, Refuses, Takes, Pushes, LooksInSlot, Releases, Ends}
use Rattle.relay_model.specs.Asks.{Due, due_as, offer_asked, is_full, later, queue_asked, feed_of}
use Rattle.relay_model.specs.Asks.{TokenAsked, IsRead, IsNone, IsDueIn, IsDueOfCommand}
use Rattle.relay_model.specs.Asks.{IsDueOfLine, IsDueWhereReady, IsDueOfBlock, IsDueWhereOwing}
use Rattle.relay_model.specs.Asks.{judged_asked, or_push, leaving_due, without_offer}
use Rattle.relay_model.specs.Claims.{Accepted, OfferAnswer, Wanted, Later, Seen, TakeAnswer, Mine}
use Rattle.relay_model.specs.Claims.{Held, Had}
use Rattle.relay_model.specs.Fetches.{Fetched}
use Rattle.relay_model.specs.Hears.{Heard, Hears, ReadHeard, goes_on, look_heard, offer_heard}
use Rattle.relay_model.specs.Hears.{outcome_heard, push_heard, slot_heard, take_heard}
use Rattle.relay_model.specs.Run.{is_reading, is_running}
use Rattle.relay_model.specs.Shares.{Answer}
use Rattle.relay_model.specs.State.{Session, Phase, Ready, AwaitsBlock, Holds, Waits, Fetches}
use Rattle.relay_model.specs.State.{Leaving}
use Rattle.relay_model.specs.State.{Ended, Transfer, TakesThis, Has, Job, Asked, in_phase}
use Rattle.relay_model.specs.State.{OpenOffer, with_unread, with_offers}
use Rattle.relay_model.specs.Terms.{Terms, Reason}
use Rattle.relay_model.specs.World.{Outcome, IsKept, HasFailed}

-- a session with no job in its hand and no open offer
abbrev pub HasNothing : Session → Type 0
HasNothing m = (m.hand ≡ None) × (m.offers ≡ [])

-- if it is closed, it has nothing
abbrev pub EndsEmpty : Session → Type 0
EndsEmpty m = m.phase ≡ Ended → HasNothing m

-- what is due leaves the session as it was, or running; to end it has to have nothing
abbrev FitsDue : (before : Session) → Ask → (after : Session) → Type 0
FitsDue before Rests after = after ≡ before
FitsDue before GoesOn after = is_running after.phase ≡ true
FitsDue before (Says reply) after = is_running after.phase ≡ true
FitsDue before (Leaves reply) after = is_running after.phase ≡ true
FitsDue before (Offers transfer id) after = is_running after.phase ≡ true
FitsDue before (Looks part id) after = is_running after.phase ≡ true
FitsDue before (Reads asked token had) after = is_running after.phase ≡ true
FitsDue before (TakesQueue feed most) after = is_running after.phase ≡ true
FitsDue before (Refuses transfer id reason) after = is_running after.phase ≡ true
FitsDue before (Takes transfer id article) after = is_running after.phase ≡ true
FitsDue before (Pushes job) after = is_running after.phase ≡ true
FitsDue before (LooksInSlot transfer id) after = is_running after.phase ≡ true
FitsDue before (Releases id) after = is_running after.phase ≡ true
FitsDue before Ends after = HasNothing after

-- a test doesn't answer both
clash : (b : Bool) → b ≡ true → b ≡ false → ⊥
clash true is isnt = cc
clash false is isnt = cc

-- what runs isn't closed
runs_on : (m : Session) → is_running m.phase ≡ true → EndsEmpty m
runs_on m runs closed = absurd (clash (is_running m.phase) runs (ap is_running closed))

-- what is due, named
due_is : (before : Session) (ask : Ask) (after : Session) → FitsDue before ask after → (d : Due)
    → d ≡ due_as ask after → FitsDue before d.ask d.after
due_is before ask after fits d e =
    subst (λ one. FitsDue before one.ask one.after) (sym e) fits

module _ (before : Session) where
  -- CHECK and IHAVE
  offer_fits : (one : Session) (now : ℕ) (transfer : Transfer) (id : List ℕ)
      → is_running one.phase ≡ true
      → FitsDue before (offer_asked one now transfer id).ask
      (offer_asked one now transfer id).after
  offer_fits one now transfer id runs =
      cond_both (is_full one.offers id) (due_as (Says (later transfer id)) one)
      (due_as (Offers transfer id) (with_offers one (with_offer one.offers id now)))
      (λ due. FitsDue before due.ask due.after) (λ e. runs) (λ e. runs)

  -- XTAKE
  queue_fits : (one : Session) (most : ℕ) (feed : Option ℕ) → is_running one.phase ≡ true
      → FitsDue before (queue_asked most feed) one
  queue_fits one most None runs = runs
  queue_fits one most (Some feed) runs = runs

  -- XFETCH
  token_fits : (one : Session) (word : List ℕ) (ask : Ask) → TokenAsked word ask
      → is_running one.phase ≡ true → FitsDue before ask one
  token_fits one word ask (IsRead token is reads e) runs =
      subst (λ a. FitsDue before a one) (sym e) runs
  token_fits one word ask (IsNone none e) runs =
      subst (λ a. FitsDue before a one) (sym e) runs

  -- a command
  command_fits : (w : Terms) (one : Session) (now : ℕ) (command : Command) (d : Due)
      → is_running one.phase ≡ true → IsDueOfCommand w one now command d
      → FitsDue before d.ask d.after
  command_fits w one now (Check id) d runs e =
      subst (λ due. FitsDue before due.ask due.after) (sym e)
      (offer_fits one now TakesThis id runs)
  command_fits w one now (Ihave id) d runs e =
      subst (λ due. FitsDue before due.ask due.after) (sym e) (offer_fits one now Has id runs)
  command_fits w one now (TakeThis id) d runs e =
      due_is before GoesOn (in_phase one (AwaitsBlock TakesThis id)) refl d e
  command_fits w one now (Fetch part id) d runs e = due_is before (Looks part id) one runs d e
  command_fits w one now (FetchToken word) d runs e =
      due_is before e.0 one (token_fits one word e.0 e.1 runs) d e.2
  command_fits w one now (TakeQueue most) d runs e =
      due_is before (queue_asked most (feed_of w one.peer)) one
      (queue_fits one most (feed_of w one.peer) runs) d e
  command_fits w one now AskDate d runs e = due_is before _ one runs d e.2
  command_fits w one now NeedsGroup d runs e = due_is before _ one runs d e
  command_fits w one now Quit d runs e = due_is before _ one runs d e
  command_fits w one now AskCapabilities d runs e = due_is before _ one runs d e
  command_fits w one now AskHelp d runs e = due_is before _ one runs d e
  command_fits w one now ModeStream d runs e = due_is before _ one runs d e
  command_fits w one now ModeReader d runs e = due_is before _ one runs d e

  -- a line
  line_fits : (w : Terms) (one : Session) (now : ℕ) (line : Result Command CommandFault) (d : Due)
      → is_running one.phase ≡ true → IsDueOfLine w one now line d → FitsDue before d.ask d.after
  line_fits w one now (Ok command) d runs e = command_fits w one now command d runs e
  line_fits w one now (Err commands.Unknown) d runs e = due_is before _ one runs d e
  line_fits w one now (Err Syntax) d runs e = due_is before _ one runs d e

  -- an article that was judged
  judged_fits : (one : Session) (transfer : Transfer) (id : List ℕ)
      → is_running one.phase ≡ true → (verdict : Result Accepted Reason) (d : Due)
      → d ≡ judged_asked one transfer id verdict → FitsDue before d.ask d.after
  judged_fits one transfer id runs (Ok article) d e =
      due_is before (Takes transfer id article) one runs d e
  judged_fits one transfer id runs (Err reason) d e =
      due_is before (Refuses transfer id reason) one runs d e

  -- a block
  block_fits : (w : Terms) (one : Session) (transfer : Transfer) (id : Option (List ℕ)) (now : ℕ)
      (text : Option (List ℕ)) (d : Due) → IsDueOfBlock w one now transfer id text d
      → FitsDue before d.ask d.after
  block_fits w one transfer None now text d e = due_is before _ (in_phase one Ready) refl d e
  block_fits w one transfer (Some id) now text d e =
      judged_fits (with_offers (in_phase one Ready) (without_offer one.offers id)) transfer id refl
      e.0 d e.2

-- where a line is due
ready_fits : (w : Terms) (one : Session) (now : ℕ) (next : NextLine) (d : Due)
    → is_running one.phase ≡ true → IsDueWhereReady w one now next d → FitsDue one d.ask d.after
ready_fits w one now (Cut line rest) d runs e =
    line_fits one w (with_unread one rest) now (command_of line) d runs e
ready_fits w one now TooLong d runs e = due_is one _ one runs d e
ready_fits w one now Incomplete d runs e = due_is one Rests one refl d e

-- where a block is due
owing_fits : (w : Terms) (one : Session) (transfer : Transfer) (id : Option (List ℕ)) (now : ℕ)
    (next : NextBlock) (d : Due) → IsDueWhereOwing w one now transfer id next d
    → FitsDue one d.ask d.after
owing_fits w one transfer id now (Whole text rest) d e =
    block_fits one w (with_unread one rest) transfer id now (Some text) d e
owing_fits w one transfer id now (Oversize rest) d e =
    block_fits one w (with_unread one rest) transfer id now None d e
owing_fits w one transfer id now Unfinished d e = due_is one Rests one refl d e

-- where the session waits
waiting_fits : (one : Session) (transfer : Transfer) (id : List ℕ) (hand : Option Job)
    → is_running one.phase ≡ true → FitsDue one (or_push hand (LooksInSlot transfer id)) one
waiting_fits one transfer id None runs = runs
waiting_fits one transfer id (Some job) runs = runs

-- where it leaves
leaving_fits : (one : Session) (hand : Option Job) (offers : List OpenOffer) → one.hand ≡ hand
    → one.offers ≡ offers → is_running one.phase ≡ true → (d : Due)
    → d ≡ leaving_due one hand offers → FitsDue one d.ask d.after
leaving_fits one (Some job) offers holds is runs d e = due_is one (Pushes job) one runs d e
leaving_fits one None [] holds is runs d e = due_is one Ends one (holds, is) d e
leaving_fits one None (offer ∷ offers) holds is runs d e =
    due_is one (Releases offer.id) (with_offers one offers) runs d e

-- where a command is due
at_command_fits : (w : Terms) (one : Session) (now : ℕ)
    (ended : Option (OpenOffer × List OpenOffer)) (d : Due) → is_running one.phase ≡ true
    → IsDueAtCommand w one now ended d → FitsDue one d.ask d.after
at_command_fits w one now None d runs e =
    ready_fits w one now (next_line one.unread) d runs e
at_command_fits w one now (Some ended) d runs e =
    due_is one (Releases ended.0.id) (with_offers one ended.1) runs d e

-- by the phase
phase_fits : (w : Terms) (one : Session) (now : ℕ) (phase : Phase) (d : Due) → one.phase ≡ phase
    → IsDueIn w one now phase d → FitsDue one d.ask d.after
phase_fits w one now Ready d at e =
    at_command_fits w one now (run_out w.offers now one.offers) d (ap is_running at) e
phase_fits w one now (AwaitsBlock transfer id) d at e =
    owing_fits w one transfer id now (next_block w.max_article one.unread) d e
phase_fits w one now (Holds id article) d at e =
    due_is one (Takes TakesThis id article) (in_phase one Ready) refl d e
phase_fits w one now (Waits transfer id) d at e =
    due_is one (or_push one.hand (LooksInSlot transfer id)) one
    (waiting_fits one transfer id one.hand (ap is_running at)) d e
phase_fits w one now (Fetches asked token had) d at e =
    due_is one (Reads asked token had) (in_phase one Ready) refl d e
phase_fits w one now Leaving d at e =
    leaving_fits one one.hand one.offers refl refl (ap is_running at) d e
phase_fits w one now Ended d at e = due_is one Rests one refl d e

-- what was heard, named
heard_is : (heard other : Heard) → heard ≡ other → EndsEmpty other.session
    → EndsEmpty heard.session
heard_is heard other e ends = subst (λ (h : Heard). EndsEmpty h.session) (sym e) ends

-- a session that runs does so whatever it hears of what is shared
module _ (m : Session) (runs : is_running m.phase ≡ true) where
  offer_runs : (transfer : Transfer) (id : List ℕ) (told : OfferAnswer)
      → is_running (offer_heard m transfer id told).session.phase ≡ true
  offer_runs TakesThis id Wanted = runs
  offer_runs Has id Wanted = refl
  offer_runs transfer id Later = runs
  offer_runs transfer id Seen = runs

  take_runs : (s : ℕ) (transfer : Transfer) (id : List ℕ) (article : Accepted) (told : TakeAnswer)
      → is_running (take_heard s m transfer id article told).session.phase ≡ true
  take_runs s transfer id article Mine = refl
  take_runs s transfer id article Had = runs
  take_runs s TakesThis id article Held = refl
  take_runs s Has id article Held = runs

  push_runs : (has_room : Bool) → is_running (push_heard m has_room).session.phase ≡ true
  push_runs true = runs
  push_runs false = runs

  outcome_runs : (transfer : Transfer) (id : List ℕ) (outcome : Outcome)
      → is_running (outcome_heard m transfer id outcome).session.phase ≡ true
  outcome_runs TakesThis id IsKept = refl
  outcome_runs TakesThis id HasFailed = refl
  outcome_runs Has id IsKept = refl
  outcome_runs Has id HasFailed = refl

  slot_runs : (transfer : Transfer) (id : List ℕ) (outcome : Option Outcome)
      → is_running (slot_heard m transfer id outcome).session.phase ≡ true
  slot_runs transfer id None = runs
  slot_runs transfer id (Some outcome) = outcome_runs transfer id outcome

  look_ends : (heard : Heard) (part : commands.Part) (id : List ℕ) (token : Option Token)
      → heard ≡ look_heard m part id token → EndsEmpty heard.session
  look_ends heard part id None e = heard_is heard _ e (runs_on m runs)
  look_ends heard part id (Some token) e =
      heard_is heard (look_heard m part id (Some token)) e
      (runs_on (look_heard m part id (Some token)).session refl)

  read_ends : (heard : Heard) (asked : Asked) (token : Token) (had : ℕ) (found : Fetched)
      (goes : Bool) → ReadHeard m asked token had found goes heard → EndsEmpty heard.session
  read_ends heard asked token had found true e =
      heard_is heard _ e (runs_on (in_phase m (Fetches asked token (had + 1))) refl)
  read_ends heard asked token had found false e = heard_is heard _ e.2 (runs_on m runs)

-- a session that is closed by what it heard has nothing
heard_ends : (s : ℕ) (before after : Session) (ask : Ask) (told : Answer) (heard : Heard)
    → EndsEmpty before → FitsDue before ask after → Hears s after ask told heard
    → EndsEmpty heard.session
heard_ends s before after Rests told heard ends fits e =
    heard_is heard _ e (subst EndsEmpty (sym fits) ends)
heard_ends s before after GoesOn told heard ends fits e = heard_is heard _ e (runs_on after fits)
heard_ends s before after (Says reply) told heard ends fits e =
    heard_is heard _ e (runs_on after fits)
heard_ends s before after (Leaves reply) told heard ends fits e =
    heard_is heard _ e (runs_on (in_phase after Leaving) refl)
heard_ends s before after (Offers transfer id) told heard ends fits e =
    heard_is heard _ e.2
    (runs_on (offer_heard after transfer id e.0).session (offer_runs after fits transfer id e.0))
heard_ends s before after (Looks part id) told heard ends fits e =
    look_ends after fits heard part id e.0 e.2
heard_ends s before after (Reads asked token had) told heard ends fits e =
    read_ends after fits heard asked token had e.0 (goes_on asked token had e.0) e.2
heard_ends s before after (TakesQueue feed most) told heard ends fits e =
    heard_is heard _ e.3 (runs_on after fits)
heard_ends s before after (Refuses transfer id reason) told heard ends fits e =
    heard_is heard _ e (runs_on after fits)
heard_ends s before after (Takes transfer id article) told heard ends fits e =
    heard_is heard _ e.2
    (runs_on (take_heard s after transfer id article e.0).session
    (take_runs after fits s transfer id article e.0))
heard_ends s before after (Pushes job) told heard ends fits e =
    heard_is heard _ e.2 (runs_on (push_heard after e.0).session (push_runs after fits e.0))
heard_ends s before after (LooksInSlot transfer id) told heard ends fits e =
    heard_is heard _ e.2
    (runs_on (slot_heard after transfer id e.0).session (slot_runs after fits transfer id e.0))
heard_ends s before after (Releases id) told heard ends fits e =
    heard_is heard _ e (runs_on after fits)
heard_ends s before after Ends told heard ends fits e = heard_is heard _ e (λ closed. fits)

-- the same, whatever text was read
any_ends : (s : ℕ) (before after : Session) (ask : Ask) (told : Answer) (heard : Heard)
    → EndsEmpty before → FitsDue before ask after → HearsAny s after ask told heard
    → EndsEmpty heard.session
any_ends s before after (Reads asked token had) told heard ends fits e =
    by (goes_on asked token had e.0) e.2
  where
    by : (more : Bool) → ReadAny after asked token had e.0 more heard → EndsEmpty heard.session
    by true is = heard_is heard _ is (runs_on (in_phase after (Fetches asked token (had + 1))) refl)
    by false is = heard_is heard _ is.2 (runs_on after fits)
any_ends s before after Rests told heard ends fits e =
    heard_ends s before after Rests told heard ends fits e
any_ends s before after GoesOn told heard ends fits e =
    heard_ends s before after GoesOn told heard ends fits e
any_ends s before after (Says reply) told heard ends fits e =
    heard_ends s before after (Says reply) told heard ends fits e
any_ends s before after (Leaves reply) told heard ends fits e =
    heard_ends s before after (Leaves reply) told heard ends fits e
any_ends s before after (Offers transfer id) told heard ends fits e =
    heard_ends s before after (Offers transfer id) told heard ends fits e
any_ends s before after (Looks part id) told heard ends fits e =
    heard_ends s before after (Looks part id) told heard ends fits e
any_ends s before after (TakesQueue feed most) told heard ends fits e =
    heard_ends s before after (TakesQueue feed most) told heard ends fits e
any_ends s before after (Refuses transfer id reason) told heard ends fits e =
    heard_ends s before after (Refuses transfer id reason) told heard ends fits e
any_ends s before after (Takes transfer id article) told heard ends fits e =
    heard_ends s before after (Takes transfer id article) told heard ends fits e
any_ends s before after (Pushes job) told heard ends fits e =
    heard_ends s before after (Pushes job) told heard ends fits e
any_ends s before after (LooksInSlot transfer id) told heard ends fits e =
    heard_ends s before after (LooksInSlot transfer id) told heard ends fits e
any_ends s before after (Releases id) told heard ends fits e =
    heard_ends s before after (Releases id) told heard ends fits e
any_ends s before after Ends told heard ends fits e =
    heard_ends s before after Ends told heard ends fits e

-- over honest stores or any
by_ends : (honest : Bool) (s : ℕ) (before after : Session) (ask : Ask) (told : Answer)
    (heard : Heard) → EndsEmpty before → FitsDue before ask after
    → HearsBy honest s after ask told heard → EndsEmpty heard.session
by_ends true s before after ask told heard ends fits e =
    heard_ends s before after ask told heard ends fits e
by_ends false s before after ask told heard ends fits e =
    any_ends s before after ask told heard ends fits e

-- a session that still reads isn't closed
reads_on : (m : Session) → is_reading m.phase ≡ true → EndsEmpty m
reads_on m reads closed = absurd (clash (is_reading m.phase) reads (ap is_reading closed))

module _ (honest : Bool) (register : Shelves) (w : Terms) (s end : ℕ) (first : Point) where
  -- where a course comes to the end of its session, that has nothing
  pub course_ends : (p : Point) → EndsEmpty first.session → Course honest register w s end first p
      → EndsEmpty p.session
  course_ends p begins Begins = begins
  course_ends p begins (Comes from piece course reads) =
      reads_on (with_unread from.session (from.session.unread ++ piece)) reads
  course_ends p begins (Goes from turn hands course is handed) =
      by_ends honest s from.session turn.due.after turn.due.ask turn.told turn.heard
      (course_ends from begins course)
      (phase_fits w from.session turn.now from.session.phase turn.due refl is.due) is.hears
  course_ends p begins (Breaks from course reads) =
      runs_on (in_phase from.session Leaving) refl
