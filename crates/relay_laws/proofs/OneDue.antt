-- One thing is due in a Turn.
use Rattle.std.proofs.Common.{◌≡◌, ◌∙◌, ℕ, List, Option, Some, None, Result, Ok, Err, sym, ap}
use Rattle.news_terms.specs.Blocks.{NextBlock, Whole, Oversize, Unfinished, next_block}
use Rattle.news_terms.specs.Command.{Command, AskCapabilities, AskHelp, AskDate, Quit, ModeStream}
use Rattle.news_terms.specs.Command.{ModeReader, Check, Ihave, TakeThis, Fetch, NeedsGroup}
use Rattle.news_terms.specs.Command.{TakeQueue, FetchToken, CommandFault, Syntax, command_of}
use Rattle.news_terms.specs.Command as commands
use Rattle.news_terms.specs.Lines.{NextLine, Cut, TooLong, Incomplete, next_line}
use Rattle.news_terms.specs.Reply.{DateIs}
use Rattle.news_terms.proofs.CivilTimes.{same_digits}
use Rattle.news_terms.proofs.TokenTexts.{one_text}
use Rattle.relay_model.specs.Asks.{Ask, Says, Reads, Due, due_as, TokenAsked, IsRead, IsNone}
use Rattle.relay_model.specs.Asks.{IsDue, IsDueIn, IsDueOfCommand, IsDueOfLine, IsDueWhereReady}
use Rattle.relay_model.specs.Asks.{IsDueOfBlock, IsDueWhereOwing, judged_asked, without_offer}
use Rattle.relay_model.specs.Asks.{IsDueAtCommand, run_out}
use Rattle.relay_model.specs.State.{Session, Phase, Ready, AwaitsBlock, Holds, Waits, Fetches}
use Rattle.relay_model.specs.State.{Leaving}
use Rattle.relay_model.specs.State.{Ended, Transfer, OfToken, in_phase, with_unread, with_offers}
use Rattle.relay_model.specs.State.{OpenOffer}
use Rattle.relay_model.specs.Terms.{Terms}
use Rattle.relay_laws.proofs.OneJudgement.{one_judgement}

-- one token has a word's text
one_token_asked : (word : List ℕ) (a b : Ask) → TokenAsked word a → TokenAsked word b → a ≡ b
one_token_asked word a b (IsRead token is text e) (IsRead token' is' text' e') =
    e ∙ ap (λ one. Reads OfToken one 0) (one_text token token' is is' (text ∙ sym text'))
    ∙ sym e'
one_token_asked word a b (IsRead token is text e) (IsNone none e') = absurd (none token is text)
one_token_asked word a b (IsNone none e) (IsRead token is text e') = absurd (none token is text)
one_token_asked word a b (IsNone none e) (IsNone none' e') = e ∙ sym e'

-- by the command
of_command : (w : Terms) (session : Session) (now : ℕ) (command : Command) (a b : Due)
    → IsDueOfCommand w session now command a → IsDueOfCommand w session now command b → a ≡ b
of_command w session now (Check id) a b one other = one ∙ sym other
of_command w session now (Ihave id) a b one other = one ∙ sym other
of_command w session now (TakeThis id) a b one other = one ∙ sym other
of_command w session now (Fetch part id) a b one other = one ∙ sym other
of_command w session now (FetchToken word) a b one other =
    one.2 ∙ ap (λ ask. due_as ask session) (one_token_asked word one.0 other.0 one.1 other.1)
    ∙ sym other.2
of_command w session now (TakeQueue most) a b one other = one ∙ sym other
of_command w session now AskDate a b one other =
    let digits : one.0 ≡ other.0 =
    one.1.written ∙ same_digits now one.1.time other.1.time one.1.shown other.1.shown
    ∙ sym other.1.written in
    one.2 ∙ ap (λ stamp. due_as (Says (DateIs stamp)) session) digits ∙ sym other.2
of_command w session now NeedsGroup a b one other = one ∙ sym other
of_command w session now Quit a b one other = one ∙ sym other
of_command w session now AskCapabilities a b one other = one ∙ sym other
of_command w session now AskHelp a b one other = one ∙ sym other
of_command w session now ModeStream a b one other = one ∙ sym other
of_command w session now ModeReader a b one other = one ∙ sym other

-- by the line
of_line : (w : Terms) (session : Session) (now : ℕ) (read : Result Command CommandFault)
    (a b : Due) → IsDueOfLine w session now read a → IsDueOfLine w session now read b → a ≡ b
of_line w session now (Ok command) a b one other = of_command w session now command a b one other
of_line w session now (Err commands.Unknown) a b one other = one ∙ sym other
of_line w session now (Err Syntax) a b one other = one ∙ sym other

-- where a line is due
where_ready : (w : Terms) (session : Session) (now : ℕ) (next : NextLine) (a b : Due)
    → IsDueWhereReady w session now next a → IsDueWhereReady w session now next b → a ≡ b
where_ready w session now (Cut line rest) a b one other =
    of_line w (with_unread session rest) now (command_of line) a b one other
where_ready w session now TooLong a b one other = one ∙ sym other
where_ready w session now Incomplete a b one other = one ∙ sym other

-- where a command is due
at_command : (w : Terms) (session : Session) (now : ℕ) (ended : Option (OpenOffer × List OpenOffer))
    (a b : Due) → IsDueAtCommand w session now ended a → IsDueAtCommand w session now ended b
    → a ≡ b
at_command w session now None a b one other =
    where_ready w session now (next_line session.unread) a b one other
at_command w session now (Some ended) a b one other = one ∙ sym other

-- by the block
of_block : (w : Terms) (session : Session) (now : ℕ) (transfer : Transfer)
    (id : Option (List ℕ)) (text : Option (List ℕ)) (a b : Due)
    → IsDueOfBlock w session now transfer id text a
    → IsDueOfBlock w session now transfer id text b → a ≡ b
of_block w session now transfer None text a b one other = one ∙ sym other
of_block w session now transfer (Some id) text a b one other =
    let after = with_offers (in_phase session Ready) (without_offer session.offers id) in
    one.2 ∙ ap (judged_asked after transfer id)
    (one_judgement w session.peer id now text one.0 other.0 one.1 other.1) ∙ sym other.2

-- where a block is due
where_owing : (w : Terms) (session : Session) (now : ℕ) (transfer : Transfer)
    (id : Option (List ℕ)) (next : NextBlock) (a b : Due)
    → IsDueWhereOwing w session now transfer id next a
    → IsDueWhereOwing w session now transfer id next b → a ≡ b
where_owing w session now transfer id (Whole text rest) a b one other =
    of_block w (with_unread session rest) now transfer id (Some text) a b one other
where_owing w session now transfer id (Oversize rest) a b one other =
    of_block w (with_unread session rest) now transfer id None a b one other
where_owing w session now transfer id Unfinished a b one other = one ∙ sym other

-- in each phase
in_each_phase : (w : Terms) (session : Session) (now : ℕ) (phase : Phase) (a b : Due)
    → IsDueIn w session now phase a → IsDueIn w session now phase b → a ≡ b
in_each_phase w session now Ready a b one other =
    at_command w session now (run_out w.offers now session.offers) a b one other
in_each_phase w session now (AwaitsBlock transfer id) a b one other =
    where_owing w session now transfer id (next_block w.max_article session.unread) a b one other
in_each_phase w session now (Holds id article) a b one other = one ∙ sym other
in_each_phase w session now (Waits transfer id) a b one other = one ∙ sym other
in_each_phase w session now (Fetches asked token had) a b one other = one ∙ sym other
in_each_phase w session now Leaving a b one other = one ∙ sym other
in_each_phase w session now Ended a b one other = one ∙ sym other

-- what is due is one
pub one_due : (w : Terms) (session : Session) (now : ℕ) (a b : Due) → IsDue w session now a
    → IsDue w session now b → a ≡ b
one_due w session now a b one other = in_each_phase w session now session.phase a b one other
