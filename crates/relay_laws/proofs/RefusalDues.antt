-- What is due refuses an article for the reason of its judgement alone.
use Rattle.std.proofs.Common.{◌≡◌, ℕ, List, [], ◌∷◌, Option, None, Some, Result}
use Rattle.std.proofs.Common.{Ok, Err, refl, sym, ap, subst, ◌∙◌}
use Rattle.std.proofs.lemmas.Bool.{cond_both}
use Rattle.std.proofs.lemmas.Option.{same_Some, none-some}
use Rattle.news_terms.specs.Blocks.{NextBlock, Whole, Oversize, Unfinished, next_block}
use Rattle.news_terms.specs.Command.{Command, AskCapabilities, AskHelp, AskDate, Quit, ModeStream}
use Rattle.news_terms.specs.Command.{ModeReader, Check, Ihave, TakeThis, Fetch, NeedsGroup}
use Rattle.news_terms.specs.Command.{TakeQueue, FetchToken, CommandFault, Syntax, command_of}
use Rattle.news_terms.specs.Command as commands
use Rattle.news_terms.specs.Lines.{NextLine, Cut, TooLong, Incomplete, next_line}
use Rattle.relay_model.specs.Asks.{Ask, Rests, GoesOn, Says, Offers, Looks, Reads}
use Rattle.relay_model.specs.Asks.{TakesQueue, Refuses, Takes, Pushes, LooksInSlot, Releases, Ends}
use Rattle.relay_model.specs.Asks.{Due, due_as, offer_asked, is_full, later, queue_asked, feed_of}
use Rattle.relay_model.specs.Asks.{TokenAsked, IsRead, IsNone, IsDue, IsDueIn, IsDueOfCommand}
use Rattle.relay_model.specs.Asks.{IsDueOfLine, IsDueWhereReady, IsDueOfBlock, IsDueWhereOwing}
use Rattle.relay_model.specs.Asks.{judged_asked, or_push, leaving_due, with_offer}
use Rattle.relay_model.specs.Asks.{IsDueAtCommand, reason_of, run_out}
use Rattle.relay_model.specs.Claims.{Accepted}
use Rattle.relay_model.specs.Judging.{Judges}
use Rattle.relay_model.specs.State.{Session, Phase, Ready, AwaitsBlock, Holds, Waits, Fetches}
use Rattle.relay_model.specs.State.{Leaving, Ended, Transfer, TakesThis, Has, Job, with_unread}
use Rattle.relay_model.specs.State.{OpenOffer, with_offers}
use Rattle.relay_model.specs.Terms.{Terms, Reason}

-- where this refuses an article, one from this peer was judged so at this moment
abbrev pub IsJudgedSo : Terms → (peer now : ℕ) → Ask → Type 0
IsJudgedSo w peer now ask =
    (reason : Reason) → reason_of ask ≡ Some reason
    → (id : List ℕ) × (text : Option (List ℕ)) × Judges w peer id now text (Err reason)

-- what refuses nothing
refuses_none : (w : Terms) (peer now : ℕ) (ask : Ask) → reason_of ask ≡ None
    → IsJudgedSo w peer now ask
refuses_none w peer now ask none = λ reason e. absurd (none-some reason (sym none ∙ e))

-- what is due, named
due_is : (w : Terms) (peer now : ℕ) (ask : Ask) (after : Session) → IsJudgedSo w peer now ask
    → (d : Due) → d ≡ due_as ask after → IsJudgedSo w peer now d.ask
due_is w peer now ask after judged d e = subst (λ one. IsJudgedSo w peer now one.ask) (sym e) judged

-- the same of what refuses nothing
due_none : (w : Terms) (peer now : ℕ) (ask : Ask) (after : Session) → reason_of ask ≡ None
    → (d : Due) → d ≡ due_as ask after → IsJudgedSo w peer now d.ask
due_none w peer now ask after none d e =
    due_is w peer now ask after (refuses_none w peer now ask none) d e

-- CHECK and IHAVE
offer_none : (one : Session) (now : ℕ) (transfer : Transfer) (id : List ℕ)
    → reason_of (offer_asked one now transfer id).ask ≡ None
offer_none one now transfer id =
    cond_both (is_full one.offers id) (due_as (Says (later transfer id)) one)
    (due_as (Offers transfer id) (with_offers one (with_offer one.offers id now)))
    (λ d. reason_of d.ask ≡ None) (λ e. refl) (λ e. refl)

-- XTAKE
queue_none : (most : ℕ) (feed : Option ℕ) → reason_of (queue_asked most feed) ≡ None
queue_none most None = refl
queue_none most (Some feed) = refl

-- XFETCH
token_none : (word : List ℕ) (ask : Ask) → TokenAsked word ask → reason_of ask ≡ None
token_none word ask (IsRead token is reads e) = ap reason_of e
token_none word ask (IsNone none e) = ap reason_of e

-- where the session waits
waiting_none : (transfer : Transfer) (id : List ℕ) (hand : Option Job)
    → reason_of (or_push hand (LooksInSlot transfer id)) ≡ None
waiting_none transfer id None = refl
waiting_none transfer id (Some job) = refl

-- where it leaves
leaving_none : (one : Session) (hand : Option Job) (offers : List OpenOffer)
    → reason_of (leaving_due one hand offers).ask ≡ None
leaving_none one (Some job) offers = refl
leaving_none one None [] = refl
leaving_none one None (offer ∷ offers) = refl

module _ (w : Terms) (now : ℕ) where
  -- a command
  by_command : (one : Session) (command : Command) (d : Due)
      → IsDueOfCommand w one now command d → IsJudgedSo w one.peer now d.ask
  by_command one (Check id) d e =
      refuses_none w one.peer now d.ask
      (ap (λ due. reason_of due.ask) e ∙ offer_none one now TakesThis id)
  by_command one (Ihave id) d e =
      refuses_none w one.peer now d.ask
      (ap (λ due. reason_of due.ask) e ∙ offer_none one now Has id)
  by_command one (TakeThis id) d e = due_none w one.peer now GoesOn _ refl d e
  by_command one (Fetch part id) d e = due_none w one.peer now (Looks part id) one refl d e
  by_command one (FetchToken word) d e =
      due_none w one.peer now e.0 one (token_none word e.0 e.1) d e.2
  by_command one (TakeQueue most) d e =
      due_none w one.peer now (queue_asked most (feed_of w one.peer)) one
      (queue_none most (feed_of w one.peer)) d e
  by_command one AskDate d e = due_none w one.peer now _ one refl d e.2
  by_command one NeedsGroup d e = due_none w one.peer now _ one refl d e
  by_command one Quit d e = due_none w one.peer now _ one refl d e
  by_command one AskCapabilities d e = due_none w one.peer now _ one refl d e
  by_command one AskHelp d e = due_none w one.peer now _ one refl d e
  by_command one ModeStream d e = due_none w one.peer now _ one refl d e
  by_command one ModeReader d e = due_none w one.peer now _ one refl d e

  -- a line
  by_line : (one : Session) (line : Result Command CommandFault) (d : Due)
      → IsDueOfLine w one now line d → IsJudgedSo w one.peer now d.ask
  by_line one (Ok command) d e = by_command one command d e
  by_line one (Err commands.Unknown) d e = due_none w one.peer now _ one refl d e
  by_line one (Err Syntax) d e = due_none w one.peer now _ one refl d e

  -- where a line is due
  by_next : (one : Session) (next : NextLine) (d : Due) → IsDueWhereReady w one now next d
      → IsJudgedSo w one.peer now d.ask
  by_next one (Cut line rest) d e = by_line (with_unread one rest) (command_of line) d e
  by_next one TooLong d e = due_none w one.peer now _ one refl d e
  by_next one Incomplete d e = due_none w one.peer now Rests one refl d e

  -- where a command is due
  by_command_due : (one : Session) (ended : Option (OpenOffer × List OpenOffer)) (d : Due)
      → IsDueAtCommand w one now ended d → IsJudgedSo w one.peer now d.ask
  by_command_due one None d e = by_next one (next_line one.unread) d e
  by_command_due one (Some ended) d e = due_none w one.peer now (Releases ended.0.id) _ refl d e

  -- an article that was judged
  by_verdict : (one : Session) (peer : ℕ) (transfer : Transfer) (id : List ℕ)
      (text : Option (List ℕ)) (verdict : Result Accepted Reason)
      → Judges w peer id now text verdict → (d : Due) → d ≡ judged_asked one transfer id verdict
      → IsJudgedSo w peer now d.ask
  by_verdict one peer transfer id text (Ok article) judges d e =
      due_none w peer now (Takes transfer id article) one refl d e
  by_verdict one peer transfer id text (Err reason) judges d e =
      due_is w peer now (Refuses transfer id reason) one
      (λ other is. (
        id,
        text,
        subst (λ why. Judges w peer id now text (Err why)) (same_Some reason other is)
            judges,
      )) d e

  -- a block
  by_block : (one : Session) (transfer : Transfer) (id : Option (List ℕ))
      (text : Option (List ℕ)) (d : Due) → IsDueOfBlock w one now transfer id text d
      → IsJudgedSo w one.peer now d.ask
  by_block one transfer None text d e = due_none w one.peer now _ _ refl d e
  by_block one transfer (Some id) text d e =
      by_verdict _ one.peer transfer id text e.0 e.1 d e.2

  -- where a block is due
  by_next_block : (one : Session) (transfer : Transfer) (id : Option (List ℕ)) (next : NextBlock)
      (d : Due) → IsDueWhereOwing w one now transfer id next d → IsJudgedSo w one.peer now d.ask
  by_next_block one transfer id (Whole text rest) d e =
      by_block (with_unread one rest) transfer id (Some text) d e
  by_next_block one transfer id (Oversize rest) d e =
      by_block (with_unread one rest) transfer id None d e
  by_next_block one transfer id Unfinished d e = due_none w one.peer now Rests one refl d e

  -- by the phase
  by_phase : (one : Session) (phase : Phase) (d : Due) → IsDueIn w one now phase d
      → IsJudgedSo w one.peer now d.ask
  by_phase one Ready d e = by_command_due one (run_out w.offers now one.offers) d e
  by_phase one (AwaitsBlock transfer id) d e =
      by_next_block one transfer id (next_block w.max_article one.unread) d e
  by_phase one (Holds id article) d e =
      due_none w one.peer now (Takes TakesThis id article) _ refl d e
  by_phase one (Waits transfer id) d e =
      due_none w one.peer now (or_push one.hand (LooksInSlot transfer id)) one
      (waiting_none transfer id one.hand) d e
  by_phase one (Fetches asked token had) d e =
      due_none w one.peer now (Reads asked token had) _ refl d e
  by_phase one Leaving d e =
      refuses_none w one.peer now d.ask
      (ap (λ due. reason_of due.ask) e ∙ leaving_none one one.hand one.offers)
  by_phase one Ended d e = due_none w one.peer now Rests one refl d e

  -- what is due
  pub due_judged : (one : Session) (d : Due) → IsDue w one now d → IsJudgedSo w one.peer now d.ask
  due_judged one d e = by_phase one one.phase d e
