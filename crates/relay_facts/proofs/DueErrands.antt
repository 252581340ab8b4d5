-- What a session asks in a Turn fits what is on its way.
use Rattle.std.proofs.Common.{◌≡◌, ℕ, List, [], ◌∷◌, Option}
use Rattle.std.proofs.Common.{None, Some, Result, Ok, Err, sym, subst}
use Rattle.std.proofs.lemmas.Bool.{cond_both}
use Rattle.news_terms.specs.Blocks.{NextBlock, Whole, Oversize, Unfinished, next_block}
use Rattle.news_terms.specs.Command.{Command, AskCapabilities, AskHelp, AskDate, Quit, ModeStream}
use Rattle.news_terms.specs.Command.{ModeReader, Check, Ihave, TakeThis, Fetch, NeedsGroup}
use Rattle.news_terms.specs.Command.{TakeQueue, FetchToken, CommandFault, Syntax, command_of}
use Rattle.news_terms.specs.Command as commands
use Rattle.news_terms.specs.Lines.{NextLine, Cut, TooLong, Incomplete, next_line}
use Rattle.relay_model.specs.Asks.{Ask, Rests, GoesOn, Says, Leaves, Offers, Looks, Reads}
use Rattle.relay_model.specs.Asks.{TakesQueue, Refuses, Takes, Pushes, LooksInSlot, Releases, Ends}
use Rattle.relay_model.specs.Asks.{Due, due_as, offer_asked, is_full, later, queue_asked, feed_of}
use Rattle.relay_model.specs.Asks.{IsDueAtCommand, run_out, with_offer}
use Rattle.relay_model.specs.Asks.{TokenAsked, IsRead, IsNone, IsDueIn, IsDueOfCommand, IsDueOfLine}
use Rattle.relay_model.specs.Asks.{IsDueWhereReady, IsDueOfBlock, IsDueWhereOwing, judged_asked}
use Rattle.relay_model.specs.Asks.{or_push, leaving_due, without_offer}
use Rattle.relay_model.specs.Awaited.{IsFree, Errand}
use Rattle.relay_model.specs.Awaited.{WaitsFor, Awaits}
use Rattle.relay_model.specs.Claims.{Accepted}
use Rattle.relay_model.specs.State.{Session, Phase, Ready, AwaitsBlock, Holds, Waits, Fetches}
use Rattle.relay_model.specs.State.{Leaving}
use Rattle.relay_model.specs.State.{Ended, Transfer, TakesThis, Has, Job, in_phase}
use Rattle.relay_model.specs.State.{OpenOffer, with_unread, with_offers}
use Rattle.relay_model.specs.Terms.{Terms, Reason}
use Rattle.relay_model.specs.World.{World}

-- what an ask needs of what is on the way
abbrev pub AskAwaits : World → ℕ → Ask → Type 0
AskAwaits x s Rests = Unit {0}
AskAwaits x s GoesOn = Unit {0}
AskAwaits x s (Says reply) = Unit {0}
AskAwaits x s (Leaves reply) = IsFree x s
AskAwaits x s (Offers transfer id) = IsFree x s
AskAwaits x s (Looks part id) = IsFree x s
AskAwaits x s (Reads asked token had) = IsFree x s
AskAwaits x s (TakesQueue feed most) = Unit {0}
AskAwaits x s (Refuses transfer id reason) = Unit {0}
AskAwaits x s (Takes transfer id article) = IsFree x s
AskAwaits x s (Pushes job) = Unit {0}
AskAwaits x s (LooksInSlot transfer id) = WaitsFor x s id
AskAwaits x s (Releases id) = Unit {0}
AskAwaits x s Ends = Errand x s

-- what is asked fits what is on its way, and the session goes on so
pub record DueAwaits (x : World) (s : ℕ) (d : Due) : Type 0 where
  pub awaits : Awaits x s d.after.phase
  pub asks : AskAwaits x s d.ask

-- what is due, named
due_is : (x : World) (s : ℕ) (after : Session) (ask : Ask) → Awaits x s after.phase
    → AskAwaits x s ask
    → (d : Due) → d ≡ due_as ask after → DueAwaits x s d
due_is x s after ask awaits asks d e =
    subst (DueAwaits x s) (sym e) (record { awaits = awaits; asks = asks })

-- CHECK and IHAVE
offer_asks : (x : World) (s : ℕ) (one : Session) → Awaits x s one.phase → IsFree x s → (now : ℕ)
    (transfer : Transfer) (id : List ℕ) → DueAwaits x s (offer_asked one now transfer id)
offer_asks x s one a free now transfer id =
    cond_both (is_full one.offers id) (due_as (Says (later transfer id)) one)
    (due_as (Offers transfer id) (with_offers one (with_offer one.offers id now)))
    (DueAwaits x s)
    (λ e. record { awaits = a; asks = tt }) (λ e. record { awaits = a; asks = free })

-- XTAKE
queue_asks : (x : World) (s most : ℕ) (feed : Option ℕ) → AskAwaits x s (queue_asked most feed)
queue_asks x s most None = tt
queue_asks x s most (Some feed) = tt

-- XFETCH
token_asks : (x : World) (s : ℕ) (word : List ℕ) (ask : Ask) → IsFree x s → TokenAsked word ask
    → AskAwaits x s ask
token_asks x s word ask free (IsRead token is reads e) = subst (AskAwaits x s) (sym e) free
token_asks x s word ask free (IsNone none e) = subst (AskAwaits x s) (sym e) tt

-- a command
command_asks : (w : Terms) (x : World) (s : ℕ) (one : Session) → Awaits x s one.phase → IsFree x s
    → (now : ℕ) (command : Command) (d : Due)
    → IsDueOfCommand w one now command d → DueAwaits x s d
command_asks w x s one a free now (Check id) d e =
    subst (DueAwaits x s) (sym e) (offer_asks x s one a free now TakesThis id)
command_asks w x s one a free now (Ihave id) d e =
    subst (DueAwaits x s) (sym e) (offer_asks x s one a free now Has id)
command_asks w x s one a free now (TakeThis id) d e =
    due_is x s (in_phase one (AwaitsBlock TakesThis id)) GoesOn free tt d e
command_asks w x s one a free now (Fetch part id) d e = due_is x s one (Looks part id) a free d e
command_asks w x s one a free now (FetchToken word) d e =
    due_is x s one e.0 a (token_asks x s word e.0 free e.1) d e.2
command_asks w x s one a free now (TakeQueue most) d e =
    due_is x s one (queue_asked most (feed_of w one.peer)) a
    (queue_asks x s most (feed_of w one.peer)) d e
command_asks w x s one a free now AskDate d e = due_is x s one _ a tt d e.2
command_asks w x s one a free now NeedsGroup d e = due_is x s one _ a tt d e
command_asks w x s one a free now Quit d e = due_is x s one _ a free d e
command_asks w x s one a free now AskCapabilities d e = due_is x s one _ a tt d e
command_asks w x s one a free now AskHelp d e = due_is x s one _ a tt d e
command_asks w x s one a free now ModeStream d e = due_is x s one _ a tt d e
command_asks w x s one a free now ModeReader d e = due_is x s one _ a tt d e

-- a line
line_asks : (w : Terms) (x : World) (s : ℕ) (one : Session) → Awaits x s one.phase → IsFree x s
    → (now : ℕ)
    (line : Result Command CommandFault) (d : Due) → IsDueOfLine w one now line d → DueAwaits x s d
line_asks w x s one a free now (Ok command) d e = command_asks w x s one a free now command d e
line_asks w x s one a free now (Err commands.Unknown) d e = due_is x s one _ a tt d e
line_asks w x s one a free now (Err Syntax) d e = due_is x s one _ a tt d e

-- where a line is due
ready_asks : (w : Terms) (x : World) (s : ℕ) (one : Session) → Awaits x s one.phase → IsFree x s
    → (now : ℕ) (next : NextLine) (d : Due)
    → IsDueWhereReady w one now next d → DueAwaits x s d
ready_asks w x s one a free now (Cut line rest) d e =
    line_asks w x s (with_unread one rest) a free now (command_of line) d e
ready_asks w x s one a free now TooLong d e = due_is x s one _ a free d e
ready_asks w x s one a free now Incomplete d e = due_is x s one Rests a tt d e

-- an article that was judged
judged_asks : (x : World) (s : ℕ) (one : Session) → Awaits x s one.phase → IsFree x s
    → (transfer : Transfer) (id : List ℕ)
    (verdict : Result Accepted Reason) (d : Due) → d ≡ judged_asked one transfer id verdict
    → DueAwaits x s d
judged_asks x s one a free transfer id (Ok article) d e =
    due_is x s one (Takes transfer id article) a free d e
judged_asks x s one a free transfer id (Err reason) d e =
    due_is x s one (Refuses transfer id reason) a tt d e

-- a block
block_asks : (w : Terms) (x : World) (s : ℕ) (one : Session) → IsFree x s
    → (transfer : Transfer) (id : Option (List ℕ)) (now : ℕ)
    (text : Option (List ℕ)) (d : Due) → IsDueOfBlock w one now transfer id text d → DueAwaits x s d
block_asks w x s one free transfer None now text d e = due_is x s (in_phase one Ready) _ free tt d e
block_asks w x s one free transfer (Some id) now text d e =
    judged_asks x s (with_offers (in_phase one Ready) (without_offer one.offers id)) free free
    transfer id e.0 d e.2

-- where a block is due
owing_asks : (w : Terms) (x : World) (s : ℕ) (one : Session) → Awaits x s one.phase → IsFree x s
    → (transfer : Transfer)
    (id : Option (List ℕ)) (now : ℕ) (next : NextBlock) (d : Due)
    → IsDueWhereOwing w one now transfer id next d → DueAwaits x s d
owing_asks w x s one a free transfer id now (Whole text rest) d e =
    block_asks w x s (with_unread one rest) free transfer id now (Some text) d e
owing_asks w x s one a free transfer id now (Oversize rest) d e =
    block_asks w x s (with_unread one rest) free transfer id now None d e
owing_asks w x s one a free transfer id now Unfinished d e = due_is x s one Rests a tt d e

-- where the session waits
waiting_asks : (x : World) (s : ℕ) (transfer : Transfer) (id : List ℕ) (hand : Option Job)
    → WaitsFor x s id
    → AskAwaits x s (or_push hand (LooksInSlot transfer id))
waiting_asks x s transfer id None a = a
waiting_asks x s transfer id (Some job) a = tt

-- where it leaves
leaving_asks : (x : World) (s : ℕ) (one : Session) → Awaits x s one.phase → Errand x s
    → (hand : Option Job) (offers : List OpenOffer) (d : Due)
    → d ≡ leaving_due one hand offers → DueAwaits x s d
leaving_asks x s one a errand (Some job) offers d e = due_is x s one (Pushes job) a tt d e
leaving_asks x s one a errand None [] d e = due_is x s one Ends a errand d e
leaving_asks x s one a errand None (offer ∷ offers) d e =
    due_is x s (with_offers one offers) (Releases offer.id) a tt d e

-- where a command is due
command_due_asks : (w : Terms) (x : World) (s : ℕ) (one : Session) → Awaits x s one.phase
    → IsFree x s → (now : ℕ) (ended : Option (OpenOffer × List OpenOffer)) (d : Due)
    → IsDueAtCommand w one now ended d → DueAwaits x s d
command_due_asks w x s one a free now None d e =
    ready_asks w x s one a free now (next_line one.unread) d e
command_due_asks w x s one a free now (Some ended) d e =
    due_is x s (with_offers one ended.1) (Releases ended.0.id) a tt d e

-- by the phase
pub phase_asks : (w : Terms) (x : World) (s : ℕ) (old : Session) → Awaits x s old.phase
    → (now : ℕ) (phase : Phase) → old.phase ≡ phase
    → (d : Due) → IsDueIn w old now phase d → DueAwaits x s d
phase_asks w x s old a now Ready is d e =
    command_due_asks w x s old a (subst (Awaits x s) is a) now (run_out w.offers now old.offers) d e
phase_asks w x s old a now (AwaitsBlock transfer id) is d e =
    owing_asks w x s old a (subst (Awaits x s) is a) transfer id now
    (next_block w.max_article old.unread) d e
phase_asks w x s old a now (Holds id article) is d e =
    let free : IsFree x s = subst (Awaits x s) is a in
    due_is x s (in_phase old Ready) (Takes TakesThis id article) free free d e
phase_asks w x s old a now (Waits transfer id) is d e =
    due_is x s old (or_push old.hand (LooksInSlot transfer id)) a
    (waiting_asks x s transfer id old.hand (subst (Awaits x s) is a)) d e
phase_asks w x s old a now (Fetches asked token had) is d e =
    let free : IsFree x s = subst (Awaits x s) is a in
    due_is x s (in_phase old Ready) (Reads asked token had) free free d e
phase_asks w x s old a now Leaving is d e =
    leaving_asks x s old a (subst (Awaits x s) is a) old.hand old.offers d e
phase_asks w x s old a now Ended is d e = due_is x s old Rests a tt d e
