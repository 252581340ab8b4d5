-- Which token a fetch by message-id is of: it was looked up, or the fetch goes on.
use Rattle.std.proofs.Common.{◌≡◌, ◌∙◌, ℕ, Bool, true, false, List, [], ◌∷◌, Option, None, Some}
use Rattle.std.proofs.Common.{Result, Ok, Err, refl, sym, ap, subst}
use Rattle.std.proofs.lemmas.Bool.{cond_both}
use Rattle.std.proofs.lemmas.Option.{none-some}
use Rattle.news_terms.specs.Blocks.{NextBlock, Whole, Oversize, Unfinished, next_block}
use Rattle.news_terms.specs.Command.{Command, AskCapabilities, AskHelp, AskDate, Quit, ModeStream}
use Rattle.news_terms.specs.Command.{ModeReader, Check, Ihave, TakeThis, Fetch, NeedsGroup, Part}
use Rattle.news_terms.specs.Command.{TakeQueue, FetchToken, CommandFault, Syntax, command_of}
use Rattle.news_terms.specs.Command as commands
use Rattle.news_terms.specs.Lines.{NextLine, Cut, TooLong, Incomplete, next_line}
use Rattle.news_terms.specs.Token.{Token}
use Rattle.relay_model.specs.Asks.{Ask, Rests, GoesOn, Says, Leaves, Offers, Looks, Reads}
use Rattle.relay_model.specs.Asks.{TakesQueue, Refuses, Takes, Pushes, LooksInSlot, Releases, Ends}
use Rattle.relay_model.specs.Asks.{Due, due_as, offer_asked, is_full, later, queue_asked, feed_of}
use Rattle.relay_model.specs.Asks.{IsDueAtCommand, run_out, with_offer}
use Rattle.relay_model.specs.Asks.{TokenAsked, IsRead, IsNone, IsDue, IsDueIn, IsDueOfCommand}
use Rattle.relay_model.specs.Asks.{IsDueOfLine, IsDueWhereReady, IsDueOfBlock, IsDueWhereOwing}
use Rattle.relay_model.specs.Asks.{judged_asked, or_push, leaving_due, without_offer}
use Rattle.relay_model.specs.Claims.{Accepted, OfferAnswer, Wanted, Later, Seen, TakeAnswer, Mine}
use Rattle.relay_model.specs.Claims.{Held, Had}
use Rattle.relay_model.specs.Fetches.{Fetched}
use Rattle.relay_model.specs.Hears.{Heard, Hears, ReadHeard, goes_on, offer_heard, look_heard}
use Rattle.relay_model.specs.Hears.{take_heard, outcome_heard, slot_heard, push_heard}
use Rattle.relay_model.specs.Shares.{Answer, ToLook}
use Rattle.relay_model.specs.State.{Session, Phase, Ready, AwaitsBlock, Holds, Waits, Fetches}
use Rattle.relay_model.specs.State.{Leaving}
use Rattle.relay_model.specs.State.{Ended, Transfer, TakesThis, Has, Job, Asked, OfId, OfToken}
use Rattle.relay_model.specs.State.{OpenOffer, in_phase, with_unread, with_offers}
use Rattle.relay_model.specs.Terms.{Terms, Reason}
use Rattle.relay_model.specs.World.{Outcome, IsKept, HasFailed}
use Rattle.relay_facts.proofs.Turning.{session_of}

-- the token, where it is one of a message-id
abbrev pub by_id : Asked → Token → Option Token
by_id (OfId part id) token = Some token
by_id OfToken token = None

-- the token that a session in this phase fetches by message-id
abbrev pub fetching : Phase → Option Token
fetching Ready = None
fetching (AwaitsBlock transfer id) = None
fetching (Holds id article) = None
fetching (Waits transfer id) = None
fetching (Fetches asked token had) = by_id asked token
fetching Leaving = None
fetching Ended = None

-- the token that is to be read for a message-id
abbrev pub reading : Ask → Option Token
reading Rests = None
reading GoesOn = None
reading (Says reply) = None
reading (Leaves reply) = None
reading (Offers transfer id) = None
reading (Looks part id) = None
reading (Reads asked token had) = by_id asked token
reading (TakesQueue feed most) = None
reading (Refuses transfer id reason) = None
reading (Takes transfer id article) = None
reading (Pushes job) = None
reading (LooksInSlot transfer id) = None
reading (Releases id) = None
reading Ends = None

-- what is due: the session is in no fetch then, and what is read was being fetched
pub record Due_reads (phase : Phase) (d : Due) : Type 0 where
  pub after : fetching d.after.phase ≡ None
  pub reads : (token : Token) → reading d.ask ≡ Some token → fetching phase ≡ Some token

-- where nothing is read
due_none : (phase : Phase) (ask : Ask) (after : Session) (d : Due) → fetching after.phase ≡ None
    → reading ask ≡ None → d ≡ due_as ask after → Due_reads phase d
due_none phase ask after d none asks e = record {
  after = ap (λ (one : Due). fetching one.after.phase) e ∙ none;
  reads = λ token is.
      absurd (none-some token
      (sym (ap (λ (one : Due). reading one.ask) e ∙ asks) ∙ is));
}

-- CHECK, IHAVE
offer_reads : (p : Phase) (session : Session) → fetching session.phase ≡ None → (now : ℕ)
    (transfer : Transfer) (id : List ℕ) → Due_reads p (offer_asked session now transfer id)
offer_reads p session none now transfer id =
    cond_both (is_full session.offers id) (due_as (Says (later transfer id)) session)
    (due_as (Offers transfer id) (with_offers session (with_offer session.offers id now)))
    (Due_reads p)
    (λ e. due_none p (Says (later transfer id)) session _ none refl refl)
    (λ e. due_none p (Offers transfer id)
    (with_offers session (with_offer session.offers id now)) _ none refl refl)

-- XTAKE
queue_none : (most : ℕ) (feed : Option ℕ) → reading (queue_asked most feed) ≡ None
queue_none most None = refl
queue_none most (Some feed) = refl

-- XFETCH
token_none : (word : List ℕ) (ask : Ask) → TokenAsked word ask → reading ask ≡ None
token_none word ask (IsRead token is reads e) = ap reading e
token_none word ask (IsNone none e) = ap reading e

-- a command
command_reads : (w : Terms) (p : Phase) (s : Session) → fetching s.phase ≡ None → (now : ℕ)
    (command : Command) (d : Due) → IsDueOfCommand w s now command d → Due_reads p d
command_reads w p s none now (Check id) d e =
    subst (Due_reads p) (sym e) (offer_reads p s none now TakesThis id)
command_reads w p s none now (Ihave id) d e =
    subst (Due_reads p) (sym e) (offer_reads p s none now Has id)
command_reads w p s none now (TakeThis id) d e =
    due_none p GoesOn (in_phase s (AwaitsBlock TakesThis id)) d refl refl e
command_reads w p s none now (Fetch part id) d e = due_none p (Looks part id) s d none refl e
command_reads w p s none now (FetchToken word) d e =
    due_none p e.0 s d none (token_none word e.0 e.1) e.2
command_reads w p s none now (TakeQueue most) d e =
    due_none p _ s d none (queue_none most (feed_of w s.peer)) e
command_reads w p s none now AskDate d e = due_none p _ s d none refl e.2
command_reads w p s none now NeedsGroup d e = due_none p _ s d none refl e
command_reads w p s none now Quit d e = due_none p _ s d none refl e
command_reads w p s none now AskCapabilities d e = due_none p _ s d none refl e
command_reads w p s none now AskHelp d e = due_none p _ s d none refl e
command_reads w p s none now ModeStream d e = due_none p _ s d none refl e
command_reads w p s none now ModeReader d e = due_none p _ s d none refl e

-- a line
line_reads : (w : Terms) (p : Phase) (s : Session) → fetching s.phase ≡ None → (now : ℕ)
    (line : Result Command CommandFault) (d : Due) → IsDueOfLine w s now line d → Due_reads p d
line_reads w p s none now (Ok command) d e = command_reads w p s none now command d e
line_reads w p s none now (Err commands.Unknown) d e = due_none p _ s d none refl e
line_reads w p s none now (Err Syntax) d e = due_none p _ s d none refl e

-- where a line is due
ready_reads : (w : Terms) (p : Phase) (s : Session) → fetching s.phase ≡ None → (now : ℕ)
    (next : NextLine) (d : Due) → IsDueWhereReady w s now next d → Due_reads p d
ready_reads w p s none now (Cut line rest) d e =
    line_reads w p (with_unread s rest) none now (command_of line) d e
ready_reads w p s none now TooLong d e = due_none p _ s d none refl e
ready_reads w p s none now Incomplete d e = due_none p _ s d none refl e

-- a judgement
judged_reads : (p : Phase) (s : Session) → fetching s.phase ≡ None → (transfer : Transfer)
    (id : List ℕ) (verdict : Result Accepted Reason) (d : Due)
    → d ≡ judged_asked s transfer id verdict → Due_reads p d
judged_reads p s none transfer id (Ok article) d e = due_none p _ s d none refl e
judged_reads p s none transfer id (Err reason) d e = due_none p _ s d none refl e

-- a block
block_reads : (w : Terms) (p : Phase) (s : Session) (now : ℕ) (transfer : Transfer)
    (id : Option (List ℕ)) (text : Option (List ℕ)) (d : Due)
    → IsDueOfBlock w s now transfer id text d → Due_reads p d
block_reads w p s now transfer None text d e = due_none p _ (in_phase s Ready) d refl refl e
block_reads w p s now transfer (Some id) text d e =
    judged_reads p (with_offers (in_phase s Ready) (without_offer s.offers id)) refl transfer id
    e.0 d e.2

-- where a block is due
owing_reads : (w : Terms) (p : Phase) (s : Session) → fetching s.phase ≡ None → (now : ℕ)
    (transfer : Transfer) (id : Option (List ℕ)) (next : NextBlock) (d : Due)
    → IsDueWhereOwing w s now transfer id next d → Due_reads p d
owing_reads w p s none now transfer id (Whole text rest) d e =
    block_reads w p (with_unread s rest) now transfer id (Some text) d e
owing_reads w p s none now transfer id (Oversize rest) d e =
    block_reads w p (with_unread s rest) now transfer id None d e
owing_reads w p s none now transfer id Unfinished d e = due_none p _ s d none refl e

-- a job in hand, or the slot
waiting_none : (hand : Option Job) (transfer : Transfer) (id : List ℕ)
    → reading (or_push hand (LooksInSlot transfer id)) ≡ None
waiting_none None transfer id = refl
waiting_none (Some job) transfer id = refl

-- where the session leaves
leaving_reads : (p : Phase) (s : Session) → fetching s.phase ≡ None → (hand : Option Job)
    (offers : List OpenOffer) (d : Due) → d ≡ leaving_due s hand offers → Due_reads p d
leaving_reads p s none (Some job) offers d e = due_none p _ s d none refl e
leaving_reads p s none None [] d e = due_none p _ s d none refl e
leaving_reads p s none None (offer ∷ offers) d e =
    due_none p _ (with_offers s offers) d none refl e

-- where a command is due
at_command_reads : (w : Terms) (p : Phase) (s : Session) → fetching s.phase ≡ None → (now : ℕ)
    (ended : Option (OpenOffer × List OpenOffer)) (d : Due) → IsDueAtCommand w s now ended d
    → Due_reads p d
at_command_reads w p s none now None d e = ready_reads w p s none now (next_line s.unread) d e
at_command_reads w p s none now (Some ended) d e =
    due_none p _ (with_offers s ended.1) d none refl e

-- each phase
phase_reads : (w : Terms) (s : Session) (now : ℕ) (p : Phase) → s.phase ≡ p → (d : Due)
    → IsDueIn w s now p d → Due_reads p d
phase_reads w s now Ready is d e =
    at_command_reads w Ready s (ap fetching is) now (run_out w.offers now s.offers) d e
phase_reads w s now (AwaitsBlock transfer id) is d e =
    owing_reads w (AwaitsBlock transfer id) s (ap fetching is) now transfer id
    (next_block w.max_article s.unread) d e
phase_reads w s now (Holds id article) is d e =
    due_none (Holds id article) _ (in_phase s Ready) d refl refl e
phase_reads w s now (Waits transfer id) is d e =
    due_none (Waits transfer id) _ s d (ap fetching is) (waiting_none s.hand transfer id) e
phase_reads w s now (Fetches asked token had) is d e = record {
  after = ap (λ (one : Due). fetching one.after.phase) e;
  reads = λ other reads. sym (ap (λ (one : Due). reading one.ask) e) ∙ reads;
}
phase_reads w s now Leaving is d e =
    leaving_reads Leaving s (ap fetching is) s.hand s.offers d e
phase_reads w s now Ended is d e = due_none Ended Rests s d (ap fetching is) refl e

-- what is due reads what the session fetches
pub due_reads : (w : Terms) (s : Session) (now : ℕ) (d : Due) → IsDue w s now d
    → Due_reads s.phase d
due_reads w s now d e = phase_reads w s now s.phase refl d e

-- where a token that is fetched comes from: it was looked up now, or was being read
pub data Comes_from (ask : Ask) (answer : Answer) (token : Token) : Type 0 where
  IsLooked : (part : Part) (id : List ℕ) → ask ≡ Looks part id → answer ≡ ToLook (Some token)
      → Comes_from ask answer token
  WasRead : reading ask ≡ Some token → Comes_from ask answer token

-- a session that fetches nothing then
never : {ask : Ask} {answer : Answer} {token : Token} (heard : Heard) (next : Session)
    → heard.session ≡ next → fetching next.phase ≡ None
    → fetching heard.session.phase ≡ Some token → Comes_from ask answer token
never {token = token} heard next e none is =
    absurd (none-some token
    (sym (ap (λ (one : Session). fetching one.phase) e ∙ none) ∙ is))

-- an offer's answer
offer_phase : (after : Session) → fetching after.phase ≡ None → (transfer : Transfer) (id : List ℕ)
    (told : OfferAnswer) → fetching (offer_heard after transfer id told).session.phase ≡ None
offer_phase after none TakesThis id Wanted = none
offer_phase after none Has id Wanted = refl
offer_phase after none transfer id Later = none
offer_phase after none transfer id Seen = none

-- an accepted article's answer
take_phase : (s : ℕ) (after : Session) → fetching after.phase ≡ None → (transfer : Transfer)
    (id : List ℕ) (article : Accepted) (told : TakeAnswer)
    → fetching (take_heard s after transfer id article told).session.phase ≡ None
take_phase s after none transfer id article Mine = refl
take_phase s after none transfer id article Had = none
take_phase s after none TakesThis id article Held = refl
take_phase s after none Has id article Held = none

-- an outcome
outcome_phase : (after : Session) → fetching after.phase ≡ None → (transfer : Transfer)
    (id : List ℕ) (outcome : Outcome)
    → fetching (outcome_heard after transfer id outcome).session.phase ≡ None
outcome_phase after none TakesThis id IsKept = refl
outcome_phase after none TakesThis id HasFailed = refl
outcome_phase after none Has id IsKept = refl
outcome_phase after none Has id HasFailed = refl

-- the slot
slot_phase : (after : Session) → fetching after.phase ≡ None → (transfer : Transfer)
    (id : List ℕ) (outcome : Option Outcome)
    → fetching (slot_heard after transfer id outcome).session.phase ≡ None
slot_phase after none transfer id None = none
slot_phase after none transfer id (Some outcome) = outcome_phase after none transfer id outcome

-- a push
push_phase : (after : Session) → fetching after.phase ≡ None → (room : Bool)
    → fetching (push_heard after room).session.phase ≡ None
push_phase after none true = none
push_phase after none false = none

-- a look
look_comes : (after : Session) → fetching after.phase ≡ None → (part : Part) (id : List ℕ)
    (found : Option Token) (token : Token)
    → fetching (look_heard after part id found).session.phase ≡ Some token → found ≡ Some token
look_comes after none part id None token is = absurd (none-some token (sym none ∙ is))
look_comes after none part id (Some had) token is = is

-- a read
read_comes : (after : Session) → fetching after.phase ≡ None → (asked : Asked) (token : Token)
    (had : ℕ) (found : Fetched) (more : Bool) (heard : Heard)
    → ReadHeard after asked token had found more heard → (other : Token)
    → fetching heard.session.phase ≡ Some other → by_id asked token ≡ Some other
read_comes after none asked token had found true heard h other is =
    sym (ap (λ (one : Heard). fetching one.session.phase) h) ∙ is
read_comes after none asked token had found false heard h other is =
    absurd (none-some other
    (sym (ap (λ (one : Heard). fetching one.session.phase) h.2 ∙ none) ∙ is))

-- what the session hears: a token that it fetches then comes from one of the two
pub heard_comes : (s : ℕ) (after : Session) (ask : Ask) (answer : Answer) (heard : Heard)
    → fetching after.phase ≡ None → Hears s after ask answer heard → (token : Token)
    → fetching heard.session.phase ≡ Some token → Comes_from ask answer token
heard_comes s after Rests answer heard none h token is = never heard _ (session_of h) none is
heard_comes s after GoesOn answer heard none h token is = never heard _ (session_of h) none is
heard_comes s after (Says reply) answer heard none h token is =
    never heard _ (session_of h) none is
heard_comes s after (Leaves reply) answer heard none h token is =
    never heard _ (session_of h) refl is
heard_comes s after (Offers transfer id) answer heard none h token is =
    never heard _ (session_of h.2) (offer_phase after none transfer id h.0) is
heard_comes s after (Looks part id) answer heard none h token is =
    IsLooked part id refl
    (h.1 ∙ ap ToLook (look_comes after none part id h.0 token
    (sym (ap (λ (one : Heard). fetching one.session.phase) h.2) ∙ is)))
heard_comes s after (Reads asked token had) answer heard none h other is =
    WasRead (read_comes after none asked token had h.0 (goes_on asked token had h.0) heard h.2 other
    is)
heard_comes s after (TakesQueue feed most) answer heard none h token is =
    never heard _ (session_of h.3) none is
heard_comes s after (Refuses transfer id reason) answer heard none h token is =
    never heard _ (session_of h) none is
heard_comes s after (Takes transfer id article) answer heard none h token is =
    never heard _ (session_of h.2) (take_phase s after none transfer id article h.0) is
heard_comes s after (Pushes job) answer heard none h token is =
    never heard _ (session_of h.2) (push_phase after none h.0) is
heard_comes s after (LooksInSlot transfer id) answer heard none h token is =
    never heard _ (session_of h.2) (slot_phase after none transfer id h.0) is
heard_comes s after (Releases id) answer heard none h token is =
    never heard _ (session_of h) none is
heard_comes s after Ends answer heard none h token is = never heard _ (session_of h) refl is
