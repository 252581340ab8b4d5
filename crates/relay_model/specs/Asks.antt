-- What a session asks in a Turn: it reads at most one line or one block, and asks for at most one
-- step of what is shared (docs/PROTOCOL.md, A Turn).
use Rattle.std.specs.Prelude.{◌≡◌, ◌≢◌, ℕ, ◌==◌, ◌&&◌, not, nat_le, Bool, List, [], ◌∷◌, ◌++◌}
use Rattle.std.specs.Prelude.{length, filter, bytes_eq, position, Option, None, Some, Result, Ok}
use Rattle.std.specs.Prelude.{Err, if◌then◌else◌}
use Rattle.std.specs.List.{list_any}
use Rattle.news_terms.specs.Blocks.{NextBlock, Whole, Oversize, Unfinished, next_block}
use Rattle.news_terms.specs.Command.{Command, AskCapabilities, AskHelp, AskDate, Quit, ModeStream}
use Rattle.news_terms.specs.Command.{ModeReader, Check, Ihave, TakeThis, Fetch, NeedsGroup}
use Rattle.news_terms.specs.Command.{TakeQueue, FetchToken, Part, CommandFault, Syntax, command_of}
use Rattle.news_terms.specs.Command as commands
use Rattle.news_terms.specs.Lines.{NextLine, Cut, TooLong, Incomplete, next_line}
use Rattle.news_terms.specs.Reply.{Reply, Bye, CapabilityList, HelpText, DateIs, StreamingPermitted}
use Rattle.news_terms.specs.Reply.{PostingProhibited, AskLater, IhaveLater, NoGroup, NoFeed}
use Rattle.news_terms.specs.Reply.{UnknownCommand, SyntaxError, LineTooLong}
use Rattle.news_terms.specs.Stamps.{IsStamp}
use Rattle.news_terms.specs.Token.{Token, IsToken, token_text}
use Rattle.relay_model.specs.Claims.{Accepted, has_run_out}
use Rattle.relay_model.specs.Judging.{Judges}
use Rattle.relay_model.specs.State.{Session, Phase, Ready, AwaitsBlock, Holds, Waits, Fetches}
use Rattle.relay_model.specs.State.{Leaving, OpenOffer}
use Rattle.relay_model.specs.State.{Ended, Transfer, TakesThis, Has, Job, Asked, OfToken, in_phase}
use Rattle.relay_model.specs.State.{with_unread, with_offers}
use Rattle.relay_model.specs.Terms.{Terms, FeedTerms, Reason, offer_limit}

-- what is asked: nothing (the first four, and the last), or one step of what is shared
pub data Ask : Type 0 where
  -- nothing is due
  Rests : Ask
  -- something was read, and there is nothing to say
  GoesOn : Ask
  -- this is said
  Says : (reply : Reply) → Ask
  -- this is said, and the session leaves
  Leaves : (reply : Reply) → Ask
  -- CHECK or IHAVE: the id is offered
  Offers : (transfer : Transfer) (id : List ℕ) → Ask
  -- the token of an id is looked up
  Looks : (part : Part) (id : List ℕ) → Ask
  -- the next of the Turns that reading this token takes, after so many
  Reads : (asked : Asked) (token : Token) (had : ℕ) → Ask
  -- at most so many tokens are taken of this feed's queue
  TakesQueue : (feed most : ℕ) → Ask
  -- the article of an id was refused, for this reason
  Refuses : (transfer : Transfer) (id : List ℕ) (reason : Reason) → Ask
  -- the article of an id was accepted
  Takes : (transfer : Transfer) (id : List ℕ) (article : Accepted) → Ask
  -- the job in hand is pushed
  Pushes : (job : Job) → Ask
  -- the outcome is looked for in the slot
  LooksInSlot : (transfer : Transfer) (id : List ℕ) → Ask
  -- the oldest open offer ends
  Releases : (id : List ℕ) → Ask
  -- nothing is left to give up: the session is closed
  Ends : Ask

-- why an article is refused, where that is asked
abbrev pub reason_of : Ask → Option Reason
reason_of (Refuses transfer id reason) = Some reason
reason_of other = None

-- what a session asks, and the session once what it read counts as read
pub record Due : Type 0 where
  pub ask : Ask
  pub after : Session

-- this is asked, and the session goes on so
abbrev pub due_as : Ask → Session → Due
due_as ask session = record { ask = ask; after = session }

-- the id is among the open offers (docs/PROTOCOL.md, Open offers)
abbrev pub is_open : List OpenOffer → List ℕ → Bool
is_open offers id = list_any (λ (offer : OpenOffer). bytes_eq id offer.id) offers

-- the open offers with this one, which stands last where it is opened now; one that is open stays
-- as old as it is
abbrev pub with_offer : List OpenOffer → List ℕ → (now : ℕ) → List OpenOffer
with_offer offers id now =
    if is_open offers id then offers else offers ++ record { id = id; since = now } ∷ []

-- the open offers without this one
abbrev pub without_offer : List OpenOffer → List ℕ → List OpenOffer
without_offer offers id = filter (λ (offer : OpenOffer). not (bytes_eq id offer.id)) offers

-- no further offer may be opened, and this id is none of the open ones
abbrev pub is_full : List OpenOffer → List ℕ → Bool
is_full offers id = nat_le offer_limit (length offers) && not (is_open offers id)

-- what is said to an offer that is to come later
abbrev pub later : Transfer → List ℕ → Reply
later TakesThis id = AskLater id
later Has id = IhaveLater

-- CHECK, IHAVE (RFC 4644 section 2.4, RFC 3977 section 6.3.2): the id is open while it is asked
-- whether its article is wanted
abbrev pub offer_asked : Session → (now : ℕ) → Transfer → List ℕ → Due
offer_asked session now transfer id =
    if is_full session.offers id then due_as (Says (later transfer id)) session
    else due_as (Offers transfer id) (with_offers session (with_offer session.offers id now))

-- XTAKE: by the feed of the session's peer (docs/PROTOCOL.md, XFETCH and XTAKE)
abbrev pub queue_asked : ℕ → Option ℕ → Ask
queue_asked most None = Says NoFeed
queue_asked most (Some feed) = TakesQueue feed most

-- the number of a peer's feed
abbrev pub feed_of : Terms → ℕ → Option ℕ
feed_of w peer = position (λ (feed : FeedTerms). feed.peer == peer) w.feeds

-- XFETCH: its word is a token, which is read from this Turn on, or none
-- (docs/PROTOCOL.md, XFETCH and XTAKE)
pub data TokenAsked (word : List ℕ) (ask : Ask) : Type 0 where
  IsRead : (token : Token) → IsToken token → token_text token ≡ word
      → ask ≡ Reads OfToken token 0 → TokenAsked word ask
  IsNone : ((token : Token) → IsToken token → token_text token ≢ word) → ask ≡ Says SyntaxError
      → TokenAsked word ask

-- by the command (RFC 3977, RFC 4644; docs/PROTOCOL.md, Sessions)
abbrev pub IsDueOfCommand : Terms → Session → ℕ → Command → Due → Type 0
IsDueOfCommand w session now (Check id) d = d ≡ offer_asked session now TakesThis id
IsDueOfCommand w session now (Ihave id) d = d ≡ offer_asked session now Has id
IsDueOfCommand w session now (TakeThis id) d =
    d ≡ due_as GoesOn (in_phase session (AwaitsBlock TakesThis id))
IsDueOfCommand w session now (Fetch part id) d = d ≡ due_as (Looks part id) session
IsDueOfCommand w session now (FetchToken word) d =
    (ask : Ask) × TokenAsked word ask × (d ≡ due_as ask session)
IsDueOfCommand w session now (TakeQueue most) d =
    d ≡ due_as (queue_asked most (feed_of w session.peer)) session
IsDueOfCommand w session now AskDate d =
    (digits : List ℕ) × IsStamp now digits × (d ≡ due_as (Says (DateIs digits)) session)
IsDueOfCommand w session now NeedsGroup d = d ≡ due_as (Says NoGroup) session
IsDueOfCommand w session now Quit d = d ≡ due_as (Leaves Bye) session
IsDueOfCommand w session now AskCapabilities d = d ≡ due_as (Says CapabilityList) session
IsDueOfCommand w session now AskHelp d = d ≡ due_as (Says HelpText) session
IsDueOfCommand w session now ModeStream d = d ≡ due_as (Says StreamingPermitted) session
IsDueOfCommand w session now ModeReader d = d ≡ due_as (Says PostingProhibited) session

-- by what a line asks, or why it is no command (RFC 3977 section 3.2.1)
abbrev pub IsDueOfLine : Terms → Session → ℕ → Result Command CommandFault → Due → Type 0
IsDueOfLine w session now (Ok command) d = IsDueOfCommand w session now command d
IsDueOfLine w session now (Err commands.Unknown) d = d ≡ due_as (Says UnknownCommand) session
IsDueOfLine w session now (Err Syntax) d = d ≡ due_as (Says SyntaxError) session

-- where a line is due: nothing is, until one is whole
abbrev pub IsDueWhereReady : Terms → Session → ℕ → NextLine → Due → Type 0
IsDueWhereReady w session now (Cut line rest) d =
    IsDueOfLine w (with_unread session rest) now (command_of line) d
IsDueWhereReady w session now TooLong d = d ≡ due_as (Leaves LineTooLong) session
IsDueWhereReady w session now Incomplete d = d ≡ due_as Rests session

-- the oldest open offer and those behind it, where it has run out (docs/PROTOCOL.md, Open offers)
abbrev pub run_out : Option ℕ → (now : ℕ) → List OpenOffer → Option (OpenOffer × List OpenOffer)
run_out lasting now [] = None
run_out lasting now (offer ∷ behind) =
    if has_run_out lasting offer.since now then Some (offer, behind) else None

-- where a command is due: an offer that has run out ends first, one a Turn
abbrev pub IsDueAtCommand : Terms → Session → ℕ → Option (OpenOffer × List OpenOffer) → Due → Type 0
IsDueAtCommand w session now None d =
    IsDueWhereReady w session now (next_line session.unread) d
IsDueAtCommand w session now (Some ended) d =
    d ≡ due_as (Releases ended.0.id) (with_offers session ended.1)

-- by the judgement of an article
abbrev pub judged_asked : Session → Transfer → List ℕ → Result Accepted Reason → Due
judged_asked session transfer id (Ok article) = due_as (Takes transfer id article) session
judged_asked session transfer id (Err reason) = due_as (Refuses transfer id reason) session

-- by a block's text, None where it was oversize: the open offer of its id ends, and it is judged at
-- this moment; where the command named no message-id, that is the fault (RFC 4644 section 2.5)
abbrev pub IsDueOfBlock : Terms → Session → ℕ → Transfer → Option (List ℕ) → Option (List ℕ) → Due
    → Type 0
IsDueOfBlock w session now transfer None text d =
    d ≡ due_as (Says SyntaxError) (in_phase session Ready)
IsDueOfBlock w session now transfer (Some id) text d =
    let after = with_offers (in_phase session Ready) (without_offer session.offers id) in
    (verdict : Result Accepted Reason) × Judges w session.peer id now text verdict
    × (d ≡ judged_asked after transfer id verdict)

-- where a block is due: nothing is, until one is whole
abbrev pub IsDueWhereOwing : Terms → Session → ℕ → Transfer → Option (List ℕ) → NextBlock → Due
    → Type 0
IsDueWhereOwing w session now transfer id (Whole text rest) d =
    IsDueOfBlock w (with_unread session rest) now transfer id (Some text) d
IsDueWhereOwing w session now transfer id (Oversize rest) d =
    IsDueOfBlock w (with_unread session rest) now transfer id None d
IsDueWhereOwing w session now transfer id Unfinished d = d ≡ due_as Rests session

-- a job in hand is pushed before anything else
abbrev pub or_push : Option Job → Ask → Ask
or_push None ask = ask
or_push (Some job) ask = Pushes job

-- where the session leaves, with this in its hand and these offers open: the job is pushed, then
-- the oldest offer ends, then the session (docs/PROTOCOL.md, Leaving)
abbrev pub leaving_due : Session → Option Job → List OpenOffer → Due
leaving_due session (Some job) offers = due_as (Pushes job) session
leaving_due session None [] = due_as Ends session
leaving_due session None (offer ∷ offers) = due_as (Releases offer.id) (with_offers session offers)

-- what is due in a Turn of a session at this moment, by its phase
abbrev pub IsDueIn : Terms → Session → ℕ → Phase → Due → Type 0
IsDueIn w session now Ready d = IsDueAtCommand w session now (run_out w.offers now session.offers) d
IsDueIn w session now (AwaitsBlock transfer id) d =
    IsDueWhereOwing w session now transfer id (next_block w.max_article session.unread) d
IsDueIn w session now (Holds id article) d =
    d ≡ due_as (Takes TakesThis id article) (in_phase session Ready)
IsDueIn w session now (Waits transfer id) d =
    d ≡ due_as (or_push session.hand (LooksInSlot transfer id)) session
IsDueIn w session now (Fetches asked token had) d =
    d ≡ due_as (Reads asked token had) (in_phase session Ready)
IsDueIn w session now Leaving d =
    d ≡ leaving_due session session.hand session.offers
IsDueIn w session now Ended d = d ≡ due_as Rests session

-- what is due in a Turn of a session at this moment
abbrev pub IsDue : Terms → Session → ℕ → Due → Type 0
IsDue w session now d = IsDueIn w session now session.phase d
