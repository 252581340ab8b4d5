-- What is due in a Turn, computed: of a block it has to be known which article it is, and of a word
-- of XFETCH which token.
use Rattle.std.proofs.Common.{◌≡◌, ℕ, List, Option, Some, None, Result, Ok, Err, refl}
use Rattle.news_terms.specs.Article.{Article, IsArticleText}
use Rattle.news_terms.specs.Blocks.{NextBlock, Whole, Oversize, Unfinished, next_block}
use Rattle.news_terms.specs.Command.{Command, AskCapabilities, AskHelp, AskDate, Quit, ModeStream}
use Rattle.news_terms.specs.Command.{ModeReader, Check, Ihave, TakeThis, Fetch, NeedsGroup}
use Rattle.news_terms.specs.Command.{TakeQueue, FetchToken, CommandFault, Syntax, command_of}
use Rattle.news_terms.specs.Command as commands
use Rattle.news_terms.specs.Lines.{NextLine, Cut, TooLong, Incomplete, next_line}
use Rattle.news_terms.specs.Stamps.{IsStamp}
use Rattle.news_terms.specs.Reply.{DateIs, Bye, CapabilityList, HelpText, StreamingPermitted}
use Rattle.news_terms.specs.Reply.{PostingProhibited, NoGroup, UnknownCommand, SyntaxError}
use Rattle.news_terms.specs.Reply.{LineTooLong}
use Rattle.news_terms.specs.Token.{Token, IsToken, token_text}
use Rattle.relay_model.specs.Asks.{Due, due_as, offer_asked, queue_asked, feed_of, judged_asked}
use Rattle.relay_model.specs.Asks.{IsDueIn, IsDueOfCommand, IsDueOfLine, IsDueWhereReady}
use Rattle.relay_model.specs.Asks.{IsDueOfBlock, IsDueWhereOwing, without_offer, or_push}
use Rattle.relay_model.specs.Asks.{leaving_due, Rests, GoesOn, Says, Leaves, Looks, Reads, Takes}
use Rattle.relay_model.specs.Asks.{IsDueAtCommand, Releases, run_out}
use Rattle.relay_model.specs.Asks.{LooksInSlot}
use Rattle.relay_model.specs.Asks as asks
use Rattle.relay_model.specs.Claims.{Accepted}
use Rattle.relay_model.specs.Judging.{Judges, IsOversize, IsNone, IsRead, judged}
use Rattle.relay_model.specs.State.{Session, Phase, Ready, AwaitsBlock, Holds, Waits, Fetches}
use Rattle.relay_model.specs.State.{Leaving}
use Rattle.relay_model.specs.State.{Ended, Transfer, TakesThis, Has, OfToken, in_phase}
use Rattle.relay_model.specs.State.{OpenOffer, with_unread, with_offers}
use Rattle.relay_model.specs.Terms.{Terms, Reason, Size, Grammar}
use Rattle.relay_laws.proofs.Premises.{Premise, Free, Needs, IsMet}

-- what is known of an event beforehand: nothing, the article of its block or of the text that is
-- shown, the token of its word, or the digits of its moment
pub data Hint : Type 0 where
  NoHint : Hint
  ReadsAs : Article → Hint
  NamesToken : Token → Hint
  HasDigits : List ℕ → Hint

-- XFETCH, by the hint
abbrev due_of_word : Session → Hint → Due
due_of_word session NoHint = due_as (Says SyntaxError) session
due_of_word session (ReadsAs a) = due_as (Says SyntaxError) session
due_of_word session (HasDigits digits) = due_as (Says SyntaxError) session
due_of_word session (NamesToken token) = due_as (Reads OfToken token 0) session

-- what has to be known of the word
abbrev word_premise : List ℕ → Hint → Premise
word_premise word NoHint = Needs (((token : Token) → IsToken token → token_text token ≡ word → ⊥))
word_premise word (ReadsAs a) = Needs ⊥
word_premise word (HasDigits digits) = Needs ⊥
word_premise word (NamesToken token) = Needs (IsToken token × (token_text token ≡ word))

-- DATE, by the hint
abbrev due_of_date : Session → Hint → Due
due_of_date session NoHint = due_as Rests session
due_of_date session (ReadsAs a) = due_as Rests session
due_of_date session (NamesToken token) = due_as Rests session
due_of_date session (HasDigits digits) = due_as (Says (DateIs digits)) session

-- what has to be known of the moment
abbrev date_premise : ℕ → Hint → Premise
date_premise now NoHint = Needs ⊥
date_premise now (ReadsAs a) = Needs ⊥
date_premise now (NamesToken token) = Needs ⊥
date_premise now (HasDigits digits) = Needs (IsStamp now digits)

-- DATE
date_due : (w : Terms) (session : Session) (now : ℕ) (hint : Hint) → IsMet (date_premise now hint)
    → IsDueOfCommand w session now AskDate (due_of_date session hint)
date_due w session now NoHint none = absurd none
date_due w session now (ReadsAs a) none = absurd none
date_due w session now (NamesToken token) none = absurd none
date_due w session now (HasDigits digits) is = (digits, is, refl)

-- by the command
abbrev due_of_command : Terms → Session → (now : ℕ) → Hint → Command → Due
due_of_command w session now hint (Check id) = offer_asked session now TakesThis id
due_of_command w session now hint (Ihave id) = offer_asked session now Has id
due_of_command w session now hint (TakeThis id) =
    due_as GoesOn (in_phase session (AwaitsBlock TakesThis id))
due_of_command w session now hint (Fetch part id) = due_as (Looks part id) session
due_of_command w session now hint (FetchToken word) = due_of_word session hint
due_of_command w session now hint (TakeQueue most) =
    due_as (queue_asked most (feed_of w session.peer)) session
due_of_command w session now hint AskDate = due_of_date session hint
due_of_command w session now hint NeedsGroup = due_as (Says NoGroup) session
due_of_command w session now hint Quit = due_as (Leaves Bye) session
due_of_command w session now hint AskCapabilities = due_as (Says CapabilityList) session
due_of_command w session now hint AskHelp = due_as (Says HelpText) session
due_of_command w session now hint ModeStream = due_as (Says StreamingPermitted) session
due_of_command w session now hint ModeReader = due_as (Says PostingProhibited) session

-- what has to be known of the command
abbrev command_premise : ℕ → Hint → Command → Premise
command_premise now hint (Check id) = Free
command_premise now hint (Ihave id) = Free
command_premise now hint (TakeThis id) = Free
command_premise now hint (Fetch part id) = Free
command_premise now hint (FetchToken word) = word_premise word hint
command_premise now hint (TakeQueue most) = Free
command_premise now hint AskDate = date_premise now hint
command_premise now hint NeedsGroup = Free
command_premise now hint Quit = Free
command_premise now hint AskCapabilities = Free
command_premise now hint AskHelp = Free
command_premise now hint ModeStream = Free
command_premise now hint ModeReader = Free

-- XFETCH
word_due : (w : Terms) (session : Session) (now : ℕ) (word : List ℕ) (hint : Hint)
    → IsMet (word_premise word hint)
    → IsDueOfCommand w session now (FetchToken word) (due_of_word session hint)
word_due w session now word NoHint none = (Says SyntaxError, asks.IsNone none refl, refl)
word_due w session now word (ReadsAs a) none = absurd none
word_due w session now word (HasDigits digits) none = absurd none
word_due w session now word (NamesToken token) is =
    (Reads OfToken token 0, asks.IsRead token is.0 is.1 refl, refl)

-- that is due
command_due : (w : Terms) (session : Session) (now : ℕ) (hint : Hint) (command : Command)
    → IsMet (command_premise now hint command)
    → IsDueOfCommand w session now command (due_of_command w session now hint command)
command_due w session now hint (Check id) knows = refl
command_due w session now hint (Ihave id) knows = refl
command_due w session now hint (TakeThis id) knows = refl
command_due w session now hint (Fetch part id) knows = refl
command_due w session now hint (FetchToken word) knows = word_due w session now word hint knows
command_due w session now hint (TakeQueue most) knows = refl
command_due w session now hint AskDate knows = date_due w session now hint knows
command_due w session now hint NeedsGroup knows = refl
command_due w session now hint Quit knows = refl
command_due w session now hint AskCapabilities knows = refl
command_due w session now hint AskHelp knows = refl
command_due w session now hint ModeStream knows = refl
command_due w session now hint ModeReader knows = refl

-- by what a line asks
abbrev due_of_line : Terms → Session → (now : ℕ) → Hint → Result Command CommandFault → Due
due_of_line w session now hint (Ok command) = due_of_command w session now hint command
due_of_line w session now hint (Err commands.Unknown) = due_as (Says UnknownCommand) session
due_of_line w session now hint (Err Syntax) = due_as (Says SyntaxError) session

-- what has to be known of the line
abbrev line_premise : ℕ → Hint → Result Command CommandFault → Premise
line_premise now hint (Ok command) = command_premise now hint command
line_premise now hint (Err commands.Unknown) = Free
line_premise now hint (Err Syntax) = Free

-- that is due
line_due : (w : Terms) (session : Session) (now : ℕ) (hint : Hint)
    (read : Result Command CommandFault) → IsMet (line_premise now hint read)
    → IsDueOfLine w session now read (due_of_line w session now hint read)
line_due w session now hint (Ok command) knows = command_due w session now hint command knows
line_due w session now hint (Err commands.Unknown) knows = refl
line_due w session now hint (Err Syntax) knows = refl

-- where a line is due
abbrev due_where_ready : Terms → Session → (now : ℕ) → Hint → NextLine → Due
due_where_ready w session now hint (Cut line rest) =
    due_of_line w (with_unread session rest) now hint (command_of line)
due_where_ready w session now hint TooLong = due_as (Leaves LineTooLong) session
due_where_ready w session now hint Incomplete = due_as Rests session

-- what has to be known where a line is due
abbrev ready_premise : ℕ → Hint → NextLine → Premise
ready_premise now hint (Cut line rest) = line_premise now hint (command_of line)
ready_premise now hint TooLong = Free
ready_premise now hint Incomplete = Free

-- that is due
ready_due : (w : Terms) (session : Session) (now : ℕ) (hint : Hint) (next : NextLine)
    → IsMet (ready_premise now hint next)
    → IsDueWhereReady w session now next (due_where_ready w session now hint next)
ready_due w session now hint (Cut line rest) knows =
    line_due w (with_unread session rest) now hint (command_of line) knows
ready_due w session now hint TooLong knows = refl
ready_due w session now hint Incomplete knows = refl

-- where a command is due
abbrev due_at_command : Terms → Session → (now : ℕ) → Hint → Option (OpenOffer × List OpenOffer)
    → Due
due_at_command w session now hint None = due_where_ready w session now hint
    (next_line session.unread)
due_at_command w session now hint (Some ended) =
    due_as (Releases ended.0.id) (with_offers session ended.1)

-- what has to be known where a command is due
abbrev at_command_premise : Session → ℕ → Hint → Option (OpenOffer × List OpenOffer) → Premise
at_command_premise session now hint None = ready_premise now hint (next_line session.unread)
at_command_premise session now hint (Some ended) = Free

-- that is due
at_command_due : (w : Terms) (session : Session) (now : ℕ) (hint : Hint)
    (ended : Option (OpenOffer × List OpenOffer))
    → IsMet (at_command_premise session now hint ended)
    → IsDueAtCommand w session now ended (due_at_command w session now hint ended)
at_command_due w session now hint None knows =
    ready_due w session now hint (next_line session.unread) knows
at_command_due w session now hint (Some ended) knows = refl

-- what becomes of a block, by the hint
abbrev verdict_of : Terms → (from : ℕ) (id : List ℕ) (now : ℕ) → Option (List ℕ) → Hint
    → Result Accepted Reason
verdict_of w from id now None hint = Err Size
verdict_of w from id now (Some octets) NoHint = Err Grammar
verdict_of w from id now (Some octets) (ReadsAs a) = judged w from id now a
verdict_of w from id now (Some octets) (NamesToken token) = Err Grammar
verdict_of w from id now (Some octets) (HasDigits digits) = Err Grammar

-- what has to be known of a text
abbrev text_premise : Option (List ℕ) → Hint → Premise
text_premise None hint = Free
text_premise (Some octets) NoHint = Needs ((a : Article) → ¬ IsArticleText octets a)
text_premise (Some octets) (ReadsAs a) = Needs (IsArticleText octets a)
text_premise (Some octets) (NamesToken token) = Needs ⊥
text_premise (Some octets) (HasDigits digits) = Needs ⊥

-- that is the judgement
is_verdict : (w : Terms) (from : ℕ) (id : List ℕ) (now : ℕ) (text : Option (List ℕ)) (hint : Hint)
    → IsMet (text_premise text hint) → Judges w from id now text
    (verdict_of w from id now text hint)
is_verdict w from id now None hint knows = IsOversize refl refl
is_verdict w from id now (Some octets) NoHint knows = IsNone octets refl knows refl
is_verdict w from id now (Some octets) (ReadsAs a) knows = IsRead octets a refl knows refl
is_verdict w from id now (Some octets) (NamesToken token) knows = absurd knows
is_verdict w from id now (Some octets) (HasDigits digits) knows = absurd knows

-- by the block
abbrev due_of_block : Terms → Session → (now : ℕ) → Transfer → Option (List ℕ)
    → Option (List ℕ) → Hint → Due
due_of_block w session now transfer None text hint =
    due_as (Says SyntaxError) (in_phase session Ready)
due_of_block w session now transfer (Some id) text hint =
    judged_asked (with_offers (in_phase session Ready) (without_offer session.offers id)) transfer
    id (verdict_of w session.peer id now text hint)

-- what has to be known of the block
abbrev block_premise : Option (List ℕ) → Option (List ℕ) → Hint → Premise
block_premise None text hint = Free
block_premise (Some id) text hint = text_premise text hint

-- that is due
block_due : (w : Terms) (session : Session) (now : ℕ) (transfer : Transfer)
    (id : Option (List ℕ)) (text : Option (List ℕ)) (hint : Hint) → IsMet
    (block_premise id text hint)
    → IsDueOfBlock w session now transfer id text (due_of_block w session now transfer id text hint)
block_due w session now transfer None text hint knows = refl
block_due w session now transfer (Some id) text hint knows = (
  verdict_of w session.peer id now text hint,
  is_verdict w session.peer id now text hint knows,
  refl,
)

-- where a block is due
abbrev due_where_owing : Terms → Session → (now : ℕ) → Transfer → Option (List ℕ) → Hint
    → NextBlock → Due
due_where_owing w session now transfer id hint (Whole text rest) =
    due_of_block w (with_unread session rest) now transfer id (Some text) hint
due_where_owing w session now transfer id hint (Oversize rest) =
    due_of_block w (with_unread session rest) now transfer id None hint
due_where_owing w session now transfer id hint Unfinished = due_as Rests session

-- what has to be known where a block is due
abbrev owing_premise : Option (List ℕ) → Hint → NextBlock → Premise
owing_premise id hint (Whole text rest) = block_premise id (Some text) hint
owing_premise id hint (Oversize rest) = block_premise id None hint
owing_premise id hint Unfinished = Free

-- that is due
owing_due : (w : Terms) (session : Session) (now : ℕ) (transfer : Transfer)
    (id : Option (List ℕ)) (hint : Hint) (next : NextBlock) → IsMet (owing_premise id hint next)
    → IsDueWhereOwing w session now transfer id next
    (due_where_owing w session now transfer id hint next)
owing_due w session now transfer id hint (Whole text rest) knows =
    block_due w (with_unread session rest) now transfer id (Some text) hint knows
owing_due w session now transfer id hint (Oversize rest) knows =
    block_due w (with_unread session rest) now transfer id None hint knows
owing_due w session now transfer id hint Unfinished knows = refl

-- what is due in each phase
abbrev pub due_in : Terms → Session → (now : ℕ) → Hint → Phase → Due
due_in w session now hint Ready =
    due_at_command w session now hint (run_out w.offers now session.offers)
due_in w session now hint (AwaitsBlock transfer id) =
    due_where_owing w session now transfer id hint (next_block w.max_article session.unread)
due_in w session now hint (Holds id article) =
    due_as (Takes TakesThis id article) (in_phase session Ready)
due_in w session now hint (Waits transfer id) =
    due_as (or_push session.hand (LooksInSlot transfer id)) session
due_in w session now hint (Fetches asked token had) =
    due_as (Reads asked token had) (in_phase session Ready)
due_in w session now hint Leaving = leaving_due session session.hand session.offers
due_in w session now hint Ended = due_as Rests session

-- what has to be known in each phase
abbrev pub phase_premise : Terms → Session → ℕ → Hint → Phase → Premise
phase_premise w session now hint Ready =
    at_command_premise session now hint (run_out w.offers now session.offers)
phase_premise w session now hint (AwaitsBlock transfer id) =
    owing_premise id hint (next_block w.max_article session.unread)
phase_premise w session now hint (Holds id article) = Free
phase_premise w session now hint (Waits transfer id) = Free
phase_premise w session now hint (Fetches asked token had) = Free
phase_premise w session now hint Leaving = Free
phase_premise w session now hint Ended = Free

-- that is due
pub phase_due : (w : Terms) (session : Session) (now : ℕ) (hint : Hint) (phase : Phase)
    → IsMet (phase_premise w session now hint phase)
    → IsDueIn w session now phase (due_in w session now hint phase)
phase_due w session now hint Ready knows =
    at_command_due w session now hint (run_out w.offers now session.offers) knows
phase_due w session now hint (AwaitsBlock transfer id) knows =
    owing_due w session now transfer id hint (next_block w.max_article session.unread) knows
phase_due w session now hint (Holds id article) knows = refl
phase_due w session now hint (Waits transfer id) knows = refl
phase_due w session now hint (Fetches asked token had) knows = refl
phase_due w session now hint Leaving knows = refl
phase_due w session now hint Ended knows = refl
