-- What is due leaves the session's open offers, but for that of the id that it asks about.
use Rattle.std.proofs.Common.{◌≡◌, ℕ, List, [], ◌∷◌, Option, None, Some, Result}
use Rattle.std.proofs.Common.{Ok, Err, ◌⊎◌, inl, inr, refl, sym, ap, subst, Bool, true, false}
use Rattle.std.proofs.Common.{if◌then◌else◌}
use Rattle.std.proofs.lemmas.Bool.{cond_both}
use Rattle.std.proofs.lemmas.Option.{same_Some, none-some}
use Rattle.news_terms.specs.Blocks.{NextBlock, Whole, Oversize, Unfinished, next_block}
use Rattle.news_terms.specs.Command.{Command, AskCapabilities, AskHelp, AskDate, Quit, ModeStream}
use Rattle.news_terms.specs.Command.{ModeReader, Check, Ihave, TakeThis, Fetch, NeedsGroup}
use Rattle.news_terms.specs.Command.{TakeQueue, FetchToken, CommandFault, Syntax, command_of}
use Rattle.news_terms.specs.Command as commands
use Rattle.news_terms.specs.Lines.{NextLine, Cut, TooLong, Incomplete, next_line}
use Rattle.relay_model.specs.Asks.{Ask, Rests, GoesOn, Says, Leaves, Offers, Looks, Reads}
use Rattle.relay_model.specs.Asks.{TakesQueue, Refuses, Takes, Pushes, LooksInSlot, Releases, Ends}
use Rattle.relay_model.specs.Asks.{Due, due_as, offer_asked, is_full, later, queue_asked, feed_of}
use Rattle.relay_model.specs.Asks.{TokenAsked, IsRead, IsNone, IsDue, IsDueIn, IsDueOfCommand}
use Rattle.relay_model.specs.Asks.{IsDueOfLine, IsDueWhereReady, IsDueOfBlock, IsDueWhereOwing}
use Rattle.relay_model.specs.Asks.{judged_asked, or_push, leaving_due, without_offer, with_offer}
use Rattle.relay_model.specs.Asks.{IsDueAtCommand, run_out}
use Rattle.relay_model.specs.Claims.{Accepted, has_run_out}
use Rattle.relay_model.specs.State.{Session, Phase, Ready, AwaitsBlock, Holds, Waits, Fetches}
use Rattle.relay_model.specs.State.{Leaving}
use Rattle.relay_model.specs.State.{Ended, Transfer, TakesThis, Has, Job, in_phase, with_unread}
use Rattle.relay_model.specs.State.{OpenOffer, with_offers}
use Rattle.relay_model.specs.Terms.{Terms, Reason}

-- the open offers once this is asked, by those before
abbrev pub DueOffers : (now : ℕ) → (before : List OpenOffer) → Ask
    → (after : List OpenOffer) → Type 0
DueOffers now before Rests after = after ≡ before
DueOffers now before GoesOn after = after ≡ before
DueOffers now before (Says reply) after = after ≡ before
DueOffers now before (Leaves reply) after = after ≡ before
DueOffers now before (Offers transfer id) after = after ≡ with_offer before id now
DueOffers now before (Looks part id) after = after ≡ before
DueOffers now before (Reads asked token had) after = after ≡ before
DueOffers now before (TakesQueue feed most) after = after ≡ before
DueOffers now before (Refuses transfer id reason) after = after ≡ without_offer before id
DueOffers now before (Takes transfer id article) after =
    (after ≡ without_offer before id) ⊎ (after ≡ before)
DueOffers now before (Pushes job) after = after ≡ before
DueOffers now before (LooksInSlot transfer id) after = after ≡ before
DueOffers now before (Releases id) after =
    (since : ℕ) × (before ≡ record { id = id; since = since } ∷ after)
DueOffers now before Ends after = after ≡ before

-- what is due, named
due_is : (now : ℕ) (before : List OpenOffer) (ask : Ask) (after : Session)
    → DueOffers now before ask after.offers → (d : Due) → d ≡ due_as ask after
    → DueOffers now before d.ask d.after.offers
due_is now before ask after offers d e =
    subst (λ one. DueOffers now before one.ask one.after.offers) (sym e) offers

-- CHECK and IHAVE
offer_offers : (one : Session) (now : ℕ) (transfer : Transfer) (id : List ℕ)
    → DueOffers now one.offers (offer_asked one now transfer id).ask
    (offer_asked one now transfer id).after.offers
offer_offers one now transfer id =
    cond_both (is_full one.offers id) (due_as (Says (later transfer id)) one)
    (due_as (Offers transfer id) (with_offers one (with_offer one.offers id now)))
    (λ d. DueOffers now one.offers d.ask d.after.offers) (λ e. refl) (λ e. refl)

-- XTAKE
queue_offers : (now : ℕ) (offers : List OpenOffer) (most : ℕ) (feed : Option ℕ)
    → DueOffers now offers (queue_asked most feed) offers
queue_offers now offers most None = refl
queue_offers now offers most (Some feed) = refl

-- XFETCH
token_offers : (now : ℕ) (offers : List OpenOffer) (word : List ℕ) (ask : Ask) → TokenAsked word ask
    → DueOffers now offers ask offers
token_offers now offers word ask (IsRead token is reads e) =
    subst (λ one. DueOffers now offers one offers) (sym e) refl
token_offers now offers word ask (IsNone none e) =
    subst (λ one. DueOffers now offers one offers) (sym e) refl

-- a command
command_offers : (w : Terms) (one : Session) (now : ℕ) (command : Command) (d : Due)
    → IsDueOfCommand w one now command d → DueOffers now one.offers d.ask d.after.offers
command_offers w one now (Check id) d e =
    subst (λ due. DueOffers now one.offers due.ask due.after.offers) (sym e)
    (offer_offers one now TakesThis id)
command_offers w one now (Ihave id) d e =
    subst (λ due. DueOffers now one.offers due.ask due.after.offers) (sym e)
    (offer_offers one now Has id)
command_offers w one now (TakeThis id) d e =
    due_is now one.offers GoesOn (in_phase one (AwaitsBlock TakesThis id)) refl d e
command_offers w one now (Fetch part id) d e = due_is now one.offers (Looks part id) one refl d e
command_offers w one now (FetchToken word) d e =
    due_is now one.offers e.0 one (token_offers now one.offers word e.0 e.1) d e.2
command_offers w one now (TakeQueue most) d e =
    due_is now one.offers (queue_asked most (feed_of w one.peer)) one
    (queue_offers now one.offers most (feed_of w one.peer)) d e
command_offers w one now AskDate d e = due_is now one.offers _ one refl d e.2
command_offers w one now NeedsGroup d e = due_is now one.offers _ one refl d e
command_offers w one now Quit d e = due_is now one.offers _ one refl d e
command_offers w one now AskCapabilities d e = due_is now one.offers _ one refl d e
command_offers w one now AskHelp d e = due_is now one.offers _ one refl d e
command_offers w one now ModeStream d e = due_is now one.offers _ one refl d e
command_offers w one now ModeReader d e = due_is now one.offers _ one refl d e

-- a line
line_offers : (w : Terms) (one : Session) (now : ℕ) (line : Result Command CommandFault) (d : Due)
    → IsDueOfLine w one now line d → DueOffers now one.offers d.ask d.after.offers
line_offers w one now (Ok command) d e = command_offers w one now command d e
line_offers w one now (Err commands.Unknown) d e = due_is now one.offers _ one refl d e
line_offers w one now (Err Syntax) d e = due_is now one.offers _ one refl d e

-- where a line is due
ready_offers : (w : Terms) (one : Session) (now : ℕ) (next : NextLine) (d : Due)
    → IsDueWhereReady w one now next d → DueOffers now one.offers d.ask d.after.offers
ready_offers w one now (Cut line rest) d e =
    line_offers w (with_unread one rest) now (command_of line) d e
ready_offers w one now TooLong d e = due_is now one.offers _ one refl d e
ready_offers w one now Incomplete d e = due_is now one.offers Rests one refl d e

-- an article that was judged
judged_offers : (now : ℕ) (before : List OpenOffer) (one : Session) (transfer : Transfer)
    (id : List ℕ)
    → one.offers ≡ without_offer before id → (verdict : Result Accepted Reason) (d : Due)
    → d ≡ judged_asked one transfer id verdict → DueOffers now before d.ask d.after.offers
judged_offers now before one transfer id ends (Ok article) d e =
    due_is now before (Takes transfer id article) one (inl ends) d e
judged_offers now before one transfer id ends (Err reason) d e =
    due_is now before (Refuses transfer id reason) one ends d e

-- a block
block_offers : (w : Terms) (one : Session) (transfer : Transfer) (id : Option (List ℕ)) (now : ℕ)
    (text : Option (List ℕ)) (d : Due) → IsDueOfBlock w one now transfer id text d
    → DueOffers now one.offers d.ask d.after.offers
block_offers w one transfer None now text d e =
    due_is now one.offers _ (in_phase one Ready) refl d e
block_offers w one transfer (Some id) now text d e =
    judged_offers now one.offers (with_offers (in_phase one Ready) (without_offer one.offers id))
    transfer id refl e.0 d e.2

-- where a block is due
owing_offers : (w : Terms) (one : Session) (transfer : Transfer) (id : Option (List ℕ)) (now : ℕ)
    (next : NextBlock) (d : Due) → IsDueWhereOwing w one now transfer id next d
    → DueOffers now one.offers d.ask d.after.offers
owing_offers w one transfer id now (Whole text rest) d e =
    block_offers w (with_unread one rest) transfer id now (Some text) d e
owing_offers w one transfer id now (Oversize rest) d e =
    block_offers w (with_unread one rest) transfer id now None d e
owing_offers w one transfer id now Unfinished d e = due_is now one.offers Rests one refl d e

-- where the session waits
waiting_offers : (now : ℕ) (offers : List OpenOffer) (transfer : Transfer) (id : List ℕ)
    (hand : Option Job)
    → DueOffers now offers (or_push hand (LooksInSlot transfer id)) offers
waiting_offers now offers transfer id None = refl
waiting_offers now offers transfer id (Some job) = refl

-- where it leaves
leaving_offers : (now : ℕ) (one : Session) (hand : Option Job) (offers : List OpenOffer)
    → one.offers ≡ offers → (d : Due) → d ≡ leaving_due one hand offers
    → DueOffers now one.offers d.ask d.after.offers
leaving_offers now one (Some job) offers is d e = due_is now one.offers (Pushes job) one refl d e
leaving_offers now one None [] is d e = due_is now one.offers Ends one refl d e
leaving_offers now one None (offer ∷ offers) is d e =
    due_is now one.offers (Releases offer.id) (with_offers one offers) (offer.since, is) d e

-- the oldest one that has run out stands first
ended_first : (lasting : Option ℕ) (now : ℕ) (offers : List OpenOffer)
    (ended : OpenOffer × List OpenOffer) → run_out lasting now offers ≡ Some ended
    → offers ≡ ended.0 ∷ ended.1
ended_first lasting now [] ended e = absurd (none-some ended e)
ended_first lasting now (offer ∷ behind) ended e =
    by (has_run_out lasting offer.since now) e
  where
    by : (test : Bool) → (if test then Some (offer, behind) else None) ≡ Some ended
        → offer ∷ behind ≡ ended.0 ∷ ended.1
    by true is =
        ap (λ (one : OpenOffer × List OpenOffer). one.0 ∷ one.1)
        (same_Some (offer, behind) ended is)
    by false is = absurd (none-some ended is)

-- where a command is due
at_command_offers : (w : Terms) (one : Session) (now : ℕ)
    (ended : Option (OpenOffer × List OpenOffer)) → run_out w.offers now one.offers ≡ ended
    → (d : Due) → IsDueAtCommand w one now ended d → DueOffers now one.offers d.ask d.after.offers
at_command_offers w one now None is d e = ready_offers w one now (next_line one.unread) d e
at_command_offers w one now (Some ended) is d e =
    due_is now one.offers (Releases ended.0.id) (with_offers one ended.1)
    (ended.0.since, ended_first w.offers now one.offers ended is) d e

-- by the phase
phase_offers : (w : Terms) (one : Session) (now : ℕ) (phase : Phase) (d : Due)
    → IsDueIn w one now phase d → DueOffers now one.offers d.ask d.after.offers
phase_offers w one now Ready d e =
    at_command_offers w one now (run_out w.offers now one.offers) refl d e
phase_offers w one now (AwaitsBlock transfer id) d e =
    owing_offers w one transfer id now (next_block w.max_article one.unread) d e
phase_offers w one now (Holds id article) d e =
    due_is now one.offers (Takes TakesThis id article) (in_phase one Ready) (inr refl) d e
phase_offers w one now (Waits transfer id) d e =
    due_is now one.offers (or_push one.hand (LooksInSlot transfer id)) one
    (waiting_offers now one.offers transfer id one.hand) d e
phase_offers w one now (Fetches asked token had) d e =
    due_is now one.offers (Reads asked token had) (in_phase one Ready) refl d e
phase_offers w one now Leaving d e = leaving_offers now one one.hand one.offers refl d e
phase_offers w one now Ended d e = due_is now one.offers Rests one refl d e

-- what is due
pub due_offers : (w : Terms) (one : Session) (now : ℕ) (d : Due) → IsDue w one now d
    → DueOffers now one.offers d.ask d.after.offers
due_offers w one now d e = phase_offers w one now one.phase d e
